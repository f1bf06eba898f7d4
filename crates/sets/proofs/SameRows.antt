-- Rows of empty sets hold nothing, and rows whose sets are the same are one: the library's laws of lists, in the words of rows. Assumes nothing.
use Prim.Native.Nat.{ℕ, ◌<◌}
use mathlib.Core.Path.{◌≡◌, subst}
use native.Mathlib.Decide.{dec_lt}
use native.Mathlib.Omega.{arith}
use lib.ListN.{length, get_or-replicate, length-replicate, get_or-eq_default}
use lib.Seq.{ext_get_or}
use Rattle.sets.specs.Set.{none, Has}
use Rattle.sets.specs.Rows.{SetRow, empty_row, set_at, HasAt}
use Rattle.sets.proofs.Members.{has_none}

pub empty_length : (n : ℕ) → length (empty_row n) ≡ n
empty_length n = length-replicate n none

empty_at : (n i : ℕ) → set_at (empty_row n) i ≡ none
empty_at n i = go (dec_lt i n)
  where
    go : Dec (i < n) → set_at (empty_row n) i ≡ none
    go (yes h) = get_or-replicate n i none none h
    go (no h) = get_or-eq_default (empty_row n) none (omega (arith, empty_length n))

pub none_at : (n i o : ℕ) → HasAt (empty_row n) i o → ⊥
none_at n i o h = has_none o (subst (λ s. Has s o) (empty_at n i) h)

pub same_row : (a b : SetRow) → length a ≡ length b → ((i : ℕ) → i < length a → set_at a i ≡ set_at b i) → a ≡ b
same_row a b = ext_get_or none a b
