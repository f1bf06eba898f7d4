-- Rows that sets are joined into: nothing joined, one set joined at one place, and places copied.
-- Assumes nothing.
use mathlib.Core.Path.{◌≡◌, refl, ◌∙◌}
use mathlib.Core.List.{List}
use mathlib.Core.Logic.{◌↔◌, ◌⊎◌, inl, inr, ⊎_elim}
use Prim.Native.Nat.{ℕ, ◌+◌, ◌-◌, ◌<◌}
use native.Mathlib.Decide.{ℕ_discrete}
use native.Mathlib.Omega.{arith}
use lib.ListN.{length, set, get_or}
use lib.Seq.{get_or-set_same, get_or-set_other}
use Rattle.sets.specs.Set.{Has, Members}
use Rattle.sets.specs.Rows.{set_at, HasAt, Joins, Only, Over}

pub joins_none : (row : List ℕ) {W : ℕ → ℕ → Type 0} → ((i o : ℕ) → W i o → ⊥) → Joins row row W
joins_none row h = record { joins = λ i o. (inl, ⊎_elim (λ x. x) (λ w. absurd (h i o w))) }

-- `both` is the union of v and what stands at a place, and is stored there
pub joins_one : (row : List ℕ) (at v both : ℕ) → at < length row → Members both (λ o. Has (set_at row at) o ⊎ Has v o) → Joins row (set row at both) (Only at v)
joins_one row at v both fits m = record { joins = λ i o. go i o (ℕ_discrete i at) }
  where
    go : (i o : ℕ) → Dec (i ≡ at) → HasAt (set row at both) i o ↔ (HasAt row i o ⊎ Only at v i o)
    go i o (yes e) = rw (e, get_or-set_same row at both 0 fits) (
      (λ h. ⊎_elim inl (λ x. inr (refl, x)) ((m.has o).0 h)),
      ⊎_elim (λ h. (m.has o).1 (inl h)) (λ w. (m.has o).1 (inr w.1)),
    )
    go i o (no n) = rw (get_or-set_other row at i both 0 n) (inl, ⊎_elim (λ h. h) (λ w. absurd (n w.0)))

-- nothing joined at no channel
pub over_none : {P : ℕ → Type 0} (Q : ℕ → ℕ → Type 0) (row : List ℕ) (base : ℕ) → ((c : ℕ) → P c → ⊥) → Joins row row (Over base P Q)
over_none Q row base n = joins_none row (λ i o w. n (i - base) w.1)

-- places copied one after the other
pub copied_more : (row t : List ℕ) (start i : ℕ) → i < length row → ((k : ℕ) → k < i → get_or row k 0 ≡ get_or t (start + k) 0)
    → (k : ℕ) → k < i + 1 → get_or (set row i (get_or t (start + i) 0)) k 0 ≡ get_or t (start + k) 0
copied_more row t start i fits h k l = go (ℕ_discrete k i)
  where
    v : ℕ
    v = get_or t (start + i) 0

    go : Dec (k ≡ i) → get_or (set row i v) k 0 ≡ get_or t (start + k) 0
    go (yes q) = rw (q, get_or-set_same row i v 0 fits)
    go (no q) = get_or-set_other row i k v 0 q ∙ h k (omega arith)
