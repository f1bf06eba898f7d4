-- `line_end`: a line ends at the first line feed from its start on, or at the text's end. Assumes nothing.
use Rattle.std.proofs.Common.{rules, sym}
use Rattle.std.proofs.lemmas.Iterator.{YieldsList-from_slice}
use Rattle.std.proofs.lemmas.Iterator.Search.{position_from_yields_List}
use borrow.Author.Tests.{tests}
use Rattle.text.proofs.Lines.{is_feed, end_found, end_out}
use Rattle.text.proofs.line_end.Goals as goal

pub returns-in_default : goal.returns-in_default
returns-in_default c = sym (end_out _ _ (search rules))

pub returns : goal.returns
returns c =
    let found = position_from_yields_List is_feed _ _ c.position.result c.position.ensures.ran (YieldsList-from_slice _ c.iter.ensures.rest) (λ x b q k. search (rules, tests)) in
    rw (c.unwrap_or.ensures, found) (end_found c.args.text.now c.args.at c.in-Some.rest.now (search rules))
