-- What the checker computes of sets is what the definitions say. Assumes nothing.
use Prim.Native.Nat.{ℕ, ◌^◌, ◌<◌}
use mathlib.Core.Bool.{false}
use mathlib.Core.Path.{◌≡◌}
use mathlib.Core.Logic.{◌↔◌, ◌⊎◌, inl, inr, ⊎_elim}
use native.Mathlib.Omega.{arith}
use borrow.Author.Tests.{eqb-false}
use lib.ListN.{length}
use Rattle.sets.specs.Set.{Has, Members, is_none, LeastMember}
use Rattle.sets.specs.Rows.{SetRow, HasAt}
use Rattle.sets.specs.inner.Compute.{with_member, shared, lowest}
use Rattle.sets.proofs.Members.{has_single, has_and, has_or}
use Rattle.sets.proofs.Minimum.{within_least}
use Rattle.sets.proofs.Joins.{joins_one}

pub with_member_lem : (row : SetRow) (i o : ℕ) → i < length row → (j u : ℕ) → HasAt (with_member row i o) j u ↔ (((j ≡ i) × (u ≡ o)) ⊎ HasAt row j u)
with_member_lem row i o l j u =
    let w = (joins_one row i (2 ^ o) _ l (record { has = has_or _ _ })).joins j u in (
      (λ h. ⊎_elim inr (λ v. inl (v.0, (has_single o u).0 v.1)) (w.0 h)),
      ⊎_elim (λ v. w.1 (inr (v.0, (has_single o u).1 v.1))) (λ h. w.1 (inl h)),
    )

pub shared_members : (a b : ℕ) → Members (shared a b) (λ o. Has a o × Has b o)
shared_members a b = record { has = has_and a b }

pub lowest_least : (s : ℕ) → is_none s ≡ false → LeastMember s (lowest s)
lowest_least s t = within_least s s (omega arith) (eqb-false s 0 t)
