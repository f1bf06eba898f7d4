-- `put_text`: what is left to be put are the characters from the one whose turn it is. Assumes nothing.
use lib.ListN.{drop}
use Rattle.putting.proofs.Putting.{Left}
use Rattle.putting.proofs.put_text.Given as goal

abbrev pub invariant-loop-character : goal.invariant-loop-character
invariant-loop-character l = Left l.initial.buffer l.at l.characters l.buffer l.next (drop l.character-index l.characters)
