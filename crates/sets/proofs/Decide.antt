-- Answers that decide.
-- Assumes nothing.
use mathlib.Core.Path.{◌≡◌, refl, sym, subst}
use mathlib.Core.Logic.{◌↔◌, ◌≢◌}
use mathlib.Core.Bool.{Bool, true, false, not}
use Prim.Native.Nat.{ℕ}
use borrow.Author.Tests.{eqb-true, eqb-false, not-true, not-false}
use lib.Dec.{T, eqb}
use Rattle.sets.specs.Set.{Decides}

pub says_yes : {P : Type 0} → P → Decides true P
says_yes p = record { yes = λ e. p; no = λ e n. subst T e tt }

pub says_no : {P : Type 0} → (P → ⊥) → Decides false P
says_no n = record { yes = λ e. absurd (subst T (sym e) tt); no = λ e. n }

-- the test m == n, where P is m ≡ n; and the test m != n, where P is its opposite
pub says_equal : (m n : ℕ) {P : Type 0} → P ↔ (m ≡ n) → Decides (eqb m n) P
says_equal m n h = record { yes = λ e. h.1 (eqb-true m n e); no = λ e p. eqb-false m n e (h.0 p) }

pub says_not : {b : Bool} {P Q : Type 0} → Decides b P → (Q → P → ⊥) → ((P → ⊥) → Q) → Decides (not b) Q
says_not {b} d apart else = record { yes = λ e. else (d.no (not-true b e)); no = λ e q. apart q (d.yes (not-false b e)) }

pub says_unequal : (m n : ℕ) {P : Type 0} → P ↔ (m ≢ n) → Decides (not (eqb m n)) P
says_unequal m n h = record {
  yes = λ e. h.1 (eqb-false m n (not-true (eqb m n) e));
  no = λ e p. h.0 p (eqb-true m n (not-false (eqb m n) e));
}

-- any two answers that decide the same are equal
pub decides_once : (a b : Bool) {P : Type 0} → Decides a P → Decides b P → a ≡ b
decides_once true true p q = refl
decides_once true false p q = absurd (q.no refl (p.yes refl))
decides_once false true p q = absurd (p.no refl (q.yes refl))
decides_once false false p q = refl
