-- Laws of lists alone: a list stored in another part behind part, which the library lacks, and what is left of a list of one value.
-- Assumes nothing.
use Prim.Native.Nat.{ℕ, suc, ◌+◌, ◌-◌}
use mathlib.Core.Path.{◌≡◌, ap, ◌∙◌}
use mathlib.Core.List.{List, [], ◌∷◌, ◌++◌}
use native.Mathlib.Omega.{arith}
use Rattle.std.proofs.lemmas.List.{drop-replicate}
use lib.ListN.{length, drop, replicate, set}
use lib.Seq.{sets}

-- a part behind a part
pub sets_append : {A : Type 0} (l : List A) (i : ℕ) (xs ys : List A) → sets l i (xs ++ ys) ≡ sets (sets l i xs) (i + length xs) ys
sets_append l i [] ys = ap (λ (k : ℕ). sets l k ys) (omega arith)
sets_append l i (x ∷ xs) ys =
    sets_append (set l i x) (suc i) xs ys ∙ ap (λ (k : ℕ). sets (sets (set l i x) (suc i) xs) k ys) (omega arith)

-- the library's law, for the crates above
pub drop_replicate : {A : Type 0} (k n : ℕ) (d : A) → drop k (replicate n d) ≡ replicate (n - k) d
drop_replicate = drop-replicate
