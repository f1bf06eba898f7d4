-- The contracts of this crate fix the outcome: any two outcomes that one of them admits are equal.
-- Assumes nothing.
use mathlib.Core.Path.{◌≡◌}
use mathlib.Core.List.{List}
use mathlib.Core.Logic.{◌↔◌}
use Prim.Native.Nat.{ℕ, ◌<◌}
use native.Mathlib.Omega.{arith}
use lib.ListN.{length, get_or}
use lib.Seq.{ext_get_or}
use Rattle.sets.specs.Set.{Members, LeastMember, Without}
use Rattle.sets.specs.Rows.{Joins}
use Rattle.sets.proofs.Members.{same_members}

-- two that say the same as a third
through : {A B P : Type 0} → A ↔ P → B ↔ P → A ↔ B
through p q = ((λ a. q.1 (p.0 a)), λ b. p.1 (q.0 b))

pub members_once : {a b : ℕ} {P : ℕ → Type 0} → Members a P → Members b P → a ≡ b
members_once {a} {b} p q = same_members a b (λ c. through (p.has c) (q.has c))

pub least_once : {s c d : ℕ} → LeastMember s c → LeastMember s d → c ≡ d
least_once {s} {c} {d} p q =
    let above : c < d → ⊥ = λ l. q.least c l p.has in
    let under : d < c → ⊥ = λ l. p.least d l q.has in
    omega arith

pub without_once : {s c a b : ℕ} → Without s c a → Without s c b → a ≡ b
without_once {s} {c} {a} {b} p q = same_members a b (λ k. through (p.has k) (q.has k))

-- rows of one length
pub joins_once : {row a b : List ℕ} {W : ℕ → ℕ → Type 0} → Joins row a W → Joins row b W → length a ≡ length b → a ≡ b
joins_once {row} {a} {b} p q e =
    ext_get_or 0 a b e (λ i l. same_members (get_or a i 0) (get_or b i 0) (λ o. through (p.joins i o) (q.joins i o)))
