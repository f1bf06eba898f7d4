-- `read_full`: what one more read gives stands behind what is filled, in the buffer as in the input. Assumes nothing.
use Rattle.std.proofs.Common.{◌≡◌, ℕ, ◌+◌, ◌≤◌, List, ◌++◌, rules, arith, length, take, subst}
use Rattle.std.specs.Io.KnownBytes.{Consumes}
use Rattle.std.proofs.KnownBytes.{Consumes-trans}
use Rattle.std.proofs.lemmas.Grind.{common_steps}
use borrow.Rule.Slice.PartMut.{put_mid}
use lib.Seq.{take-append-add}
use Rattle.streams.proofs.read_full.Goals as goal

filled_more : (done room more : ℕ) (before read : List ℕ) → done ≤ length before → more ≤ length read
    → take done before ++ take more read ≡ take (done + more) (put_mid done room before read)
filled_more done room more before read within fits = grind (arith, common_steps, take-append-add)

pub loop-done-preserved : goal.loop-done-preserved
loop-done-preserved g c =
    let read = c.in_ok-more.ensures in
    let within = c.loop-done.invariant.1 in
    let more = filled_more c.loop-done.done _ c.in_ok-more.more c.loop-done.buffer c.read.new.buf within read.bound.0 in
    (search rules, search rules, subst (Consumes _ _) more (Consumes-trans _ _ _ _ _ c.loop-done.invariant.2 read.bytes.0))
