-- The number of names that are left falls. Assumes nothing.
use Rattle.reading.proofs.names.+read_names.Given as goal

abbrev pub decreases-read_names : goal.decreases-read_names
decreases-read_names l = l.many
