-- What is left of the text falls, by a line at least. Assumes nothing.
use Rattle.std.proofs.Common.{◌-◌, length}
use Rattle.reading.proofs.offers.+read_offers.Given as goal

abbrev pub decreases-read_offers : goal.decreases-read_offers
decreases-read_offers l = length l.text.now - l.state.cursor.at
