-- Laws of lists alone: two beginnings of one list, and what follows them. Assumes nothing.
use Prim.Native.Nat.{ℕ, ◌≤◌}
use mathlib.Core.Path.{◌≡◌, sym, ap, ◌∙◌}
use mathlib.Core.List.{List, ◌++◌, append_assoc}
use native.Mathlib.Omega.{arith}
use lib.ListN.{length, take, drop, length-append, take-append-drop}
use lib.Seq.{take-append_seam, drop-append_seam, take-append-le}
use Rattle.label_bytes.specs.Label.{Begins}

-- fronts of one length
pub same_front : (xs ys us vs : List ℕ) → length xs ≡ length ys → xs ++ us ≡ ys ++ vs → (xs ≡ ys) × (us ≡ vs)
same_front xs ys us vs n p =
    (cc (take-append_seam xs us, take-append_seam ys vs), cc (drop-append_seam xs us, drop-append_seam ys vs))

-- a beginning is no longer than the whole
pub begins_length : (beginning bytes : List ℕ) → Begins beginning bytes → length beginning ≤ length bytes
begins_length beginning bytes b = omega (arith, simp length-append at (ap length b.is))

pub begins_take : (beginning bytes : List ℕ) → Begins beginning bytes → take (length beginning) bytes ≡ beginning
begins_take beginning bytes b = rw (← b.is) (take-append_seam beginning b.rest)

abbrev pub begins_trans : (xs ys zs : List ℕ) → Begins xs ys → Begins ys zs → Begins xs zs
begins_trans xs ys zs b d = record { rest = b.rest ++ d.rest; is = rw (← append_assoc, b.is) d.is }

-- a beginning no longer than a part in front is a beginning of it
pub begins_front : (beginning xs ys : List ℕ) → length beginning ≤ length xs → Begins beginning (xs ++ ys) → Begins beginning xs
begins_front beginning xs ys h b =
    let same : take (length beginning) xs ≡ beginning = sym (take-append-le (length beginning) xs ys h) ∙ begins_take beginning (xs ++ ys) b in
    record { rest = drop (length beginning) xs; is = rw same at (take-append-drop (length beginning) xs) }
