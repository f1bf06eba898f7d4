-- The order of breaches: two that stand before one another are the same, so that there is one first breach. Assumes nothing.
use Prim.Native.Nat.{ℕ, ◌<◌}
use mathlib.Core.Path.{◌≡◌, subst⁻¹}
use mathlib.Core.Logic.{inl, inr}
use native.Mathlib.Decide.{dec_lt}
use native.Mathlib.Omega.{arith}
use Rattle.solving.specs.Solutions.{Sets}
use Rattle.judging.specs.declared.Breach.{Breach}
use Rattle.judging.specs.Verdict.{InTurn, NotAfter, FirstBreach}

pub same_breach : {b d : Breach} → b.higher ≡ d.higher → b.lower ≡ d.lower → b.channel ≡ d.channel → b.handle ≡ d.handle → b ≡ d
same_breach p q r s = λ i. record { higher = p i; lower = q i; channel = r i; handle = s i }

in_turn_both : {m n : ℕ} {A B : Type 0} → InTurn m n A → InTurn n m B → (m ≡ n) × A × B
in_turn_both (inl a) (inl b) = absurd (omega arith)
in_turn_both (inl a) (inr b) = absurd (omega (arith, b.0))
in_turn_both (inr a) (inl b) = absurd (omega (arith, a.0))
in_turn_both (inr a) (inr b) = (a.0, a.1, b.1)

not_after_both : {b d : Breach} → NotAfter b d → NotAfter d b → b ≡ d
not_after_both x y =
    let higher = in_turn_both x y in
    let lower = in_turn_both higher.1 higher.2 in
    let channel = in_turn_both lower.1 lower.2 in
    same_breach higher.0 lower.0 channel.0 (omega (arith, channel.1, channel.2))

pub first_once : {lower : ℕ → ℕ → Type 0} {s : Sets} {b d : Breach} → FirstBreach lower s b → FirstBreach lower s d → b ≡ d
first_once {lower} {s} {b} {d} x y = not_after_both (x.first d y.breach) (y.first b x.breach)

-- where m is known to be no later than n, what holds at n holds at m if they are the same
pub in_turn : {m n : ℕ} {A : Type 0} (P : ℕ → Type 0) → P n → (n < m → ⊥) → (P m → A) → InTurn m n A
in_turn {m} {n} {A} P p before rest = go (dec_lt m n)
  where
    go : Dec (m < n) → InTurn m n A
    go (yes x) = inl x
    go (no x) = let e : m ≡ n = omega arith in inr (e, rest (subst⁻¹ P e p))
