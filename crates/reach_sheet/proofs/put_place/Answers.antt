-- `put_place`: a line where the handle is among the level's, and otherwise nothing. Assumes nothing.
use mathlib.Core.Path.{sym, subst, ◌∙◌}
use Rattle.putting.specs.Put.{Room}
use Rattle.putting.proofs.Putting.{put_none, put_same}
use Rattle.reach_sheet.proofs.Reached.{line_there, line_none}
use Rattle.reach_sheet.proofs.put_place.Goals as goal

pub returns-then-not-has : goal.returns-then-not-has
returns-then-not-has c = put_same (line_none _ _ _ (sym c.has.ensures ∙ c.if-not-has.true)) (put_none _ _)

pub put_line-requires : goal.put_line-requires
put_line-requires c = subst (Room _ _) (line_there _ _ _ (sym c.has.ensures ∙ c.if-not-has.false)) c.requires.room

pub returns : goal.returns
returns c = put_same (line_there _ _ _ (sym c.has.ensures ∙ c.if-not-has.false)) c.put_line.ensures
