-- `label_of`: the label's bytes are stored in the first places of a blank array. Assumes nothing.
use Prim.Native.Nat.{ℕ}
use mathlib.Core.Path.{sym}
use native.Mathlib.Omega.{arith}
use lib.ListN.{replicate}
use lib.Seq.{length-take-le}
use Rattle.limits.specs.Limits.{longest_label}
use Rattle.text.specs.Positions.{bytes_at}
use Rattle.lines.specs.Labels.{label_of}
use Rattle.lines.proofs.Padded.{same_label, label_laid}
use Rattle.lines.proofs.labels.label_of.Goals as goal

pub slice_bounds-bytes_in-end : goal.slice_bounds-bytes_in-end
slice_bounds-bytes_in-end c = sym (length-take-le c.args.size (replicate longest_label 0) c.requires.0)

pub bytes_in-requires : goal.bytes_in-requires
bytes_in-requires c =
    omega (arith, length-take-le {A = ℕ} c.args.size (replicate longest_label 0) c.requires.0)

pub returns : goal.returns
returns c =
    let bytes = label_laid (bytes_at c.args.text.now c.args.at) c.args.size _ c.requires.0 c.requires.1 c.bytes_in.ensures in
    same_label _ (label_of (bytes_at c.args.text.now c.args.at)) c.byte_in.ensures c.byte_in-2.ensures bytes.0 bytes.1
