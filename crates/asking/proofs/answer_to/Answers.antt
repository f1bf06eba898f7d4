-- `answer_to`: the front that was read decides the sheet, its bytes are all that is written, and the rest of the input is read. Assumes nothing.
use Rattle.asking.proofs.Printing.{prints, to_end, on_ok}
use Rattle.asking.proofs.answer_to.Goals as goal

pub returns : goal.returns
returns g c =
    let read = c.in_ok-size.ensures in
    let made = c.of_input-answer.ensures in
    let written = c.write_all.ensures.bytes in
    let ended = to_end _ _ _ _ read.bytes c.in_ok-drop_rest.ensures in
    record {
      to_end = on_ok _ (λ w. ended) written;
      prints = on_ok _ (prints c.args.asked _ _ _ _ c.read_full.new.buffer c.in_ok-size.size _ read.bound.0 read.bytes read.end made c.characters.ensures) written;
    }
