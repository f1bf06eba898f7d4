-- How many memberships in range a solution has, where a test tells them: at most B·C + 2·(k+2)·C·C, and one more where one is added.
-- Assumes nothing.
use Prim.Native.Nat.{ℕ, ◌+◌, ◌*◌, ◌<◌, ◌≤◌}
use mathlib.Core.Bool.{Bool, true, false}
use mathlib.Core.Path.{◌≡◌, refl, sym, subst}
use mathlib.Core.Logic.{inl, inr}
use native.Mathlib.Omega.{arith}
use native.Mathlib.Nat.{mul_assoc}
use lib.Dec.{T, leb}
use borrow.Author.Tests.{le-leb, lt-leb}
use Rattle.limits.specs.Limits.{outermost}
use Rattle.lines.specs.declared.Head.{Head}
use Rattle.solving.specs.Solutions.{Fact, binder_set, in_set, out_set, Level, InRange}
use Rattle.solving.proofs.Sums.{sum, sum_le, sum_mono, sum_less}

-- a solution, by a test
abbrev pub Test : Type 0
Test = Fact → Bool

abbrev one : Bool → ℕ
one true = 1
one false = 0

one_le : (b : Bool) → one b ≤ 1
one_le true = omega arith
one_le false = omega arith

one_mono : (a b : Bool) → (T a → T b) → one a ≤ one b
one_mono true true h = omega arith
one_mono true false h = absurd (h tt)
one_mono false b h = omega arith

one_less : (a b : Bool) → a ≡ false → T b → one a < one b
one_less a true e h = rw e (omega arith)
one_less a false e h = absurd h

-- the levels 0 to k and the outermost, by number
abbrev pick : Bool → ℕ → ℕ → ℕ
pick true a b = a
pick false a b = b

level : ℕ → ℕ → ℕ
level k i = pick (leb i k) i outermost

level_at : (h : Head) (l : ℕ) → Level h l → (i : ℕ) × (i < h.top + 2) × (level h.top i ≡ l)
unfolding level
level_at h l (inl g) = (l, omega arith, rw (le-leb l h.top g) refl)
level_at h l (inr e) = (h.top + 1, omega arith, rw (lt-leb (h.top + 1) h.top (omega arith)) (sym e))

-- how many of a row of facts are there, of a row for each channel, and of such rows for each level
abbrev Row₁ : Type 0
Row₁ = ℕ → Fact

abbrev Row₂ : Type 0
Row₂ = ℕ → ℕ → Fact

abbrev Row₃ : Type 0
Row₃ = ℕ → ℕ → ℕ → Fact

sum₁ : Test → ℕ → Row₁ → ℕ
sum₁ s n g = sum n (λ o. one (s (g o)))

sum₂ : Test → ℕ → ℕ → Row₂ → ℕ
sum₂ s C n g = sum n (λ c. sum₁ s C (g c))

sum₃ : Test → ℕ → ℕ → Row₃ → ℕ
sum₃ s C n g = sum n (λ i. sum₂ s C C (g i))

abbrev ins : Head → Row₃
ins h i = in_set (level h.top i)

abbrev outs : Head → Row₃
outs h i = out_set (level h.top i)

pub size : Head → Test → ℕ
size h s =
    sum₂ s h.channels h.binders binder_set
    + (sum₃ s h.channels (h.top + 2) (ins h) + sum₃ s h.channels (h.top + 2) (outs h))

module _ (s : Test) (C : ℕ) where
  le₁ : (n : ℕ) (g : Row₁) → sum₁ s n g ≤ n
  unfolding sum₁
  le₁ n g = let h = sum_le 1 (λ o. one (s (g o))) n (λ o l. one_le (s (g o))) in omega arith

  le₂ : (n : ℕ) (g : Row₂) → sum₂ s C n g ≤ n * C
  unfolding sum₂
  le₂ n g = sum_le C (λ c. sum₁ s C (g c)) n (λ c l. le₁ C (g c))

  le₃ : (n : ℕ) (g : Row₃) → sum₃ s C n g ≤ n * (C * C)
  unfolding sum₃
  le₃ n g = sum_le (C * C) (λ i. sum₂ s C C (g i)) n (λ i l. le₂ C (g i))

pub size_le : (h : Head) (s : Test) → size h s ≤ h.binders * h.channels + 2 * (h.top + 2) * h.channels * h.channels
unfolding size
size_le h s =
    let C = h.channels in
    let n = h.top + 2 in
    let a = le₂ s C h.binders binder_set in
    let b = le₃ s C n (ins h) in
    let d = le₃ s C n (outs h) in
    rw (mul_assoc (2 * n) C C, mul_assoc 2 n (C * C)) (omega arith)

module _ (s t : Test) (C : ℕ) (h : (f : Fact) → T (s f) → T (t f)) where
  mono₁ : (n : ℕ) (g : Row₁) → sum₁ s n g ≤ sum₁ t n g
  unfolding sum₁
  mono₁ n g = sum_mono _ _ n (λ o l. one_mono (s (g o)) (t (g o)) (h (g o)))

  mono₂ : (n : ℕ) (g : Row₂) → sum₂ s C n g ≤ sum₂ t C n g
  unfolding sum₂
  mono₂ n g = sum_mono _ _ n (λ c l. mono₁ C (g c))

  mono₃ : (n : ℕ) (g : Row₃) → sum₃ s C n g ≤ sum₃ t C n g
  unfolding sum₃
  mono₃ n g = sum_mono _ _ n (λ i l. mono₂ C (g i))

  less₁ : (n : ℕ) (g : Row₁) (o : ℕ) → o < n → s (g o) ≡ false → T (t (g o)) → sum₁ s n g < sum₁ t n g
  unfolding sum₁
  less₁ n g o l e w = sum_less _ _ n (λ j q. one_mono (s (g j)) (t (g j)) (h (g j))) o l (one_less (s (g o)) (t (g o)) e w)

  less₂ : (n : ℕ) (g : Row₂) (c o : ℕ) → c < n → o < C → s (g c o) ≡ false → T (t (g c o)) → sum₂ s C n g < sum₂ t C n g
  unfolding sum₂
  less₂ n g c o lc lo e w = sum_less _ _ n (λ j q. mono₁ C (g j)) c lc (less₁ C (g c) o lo e w)

  less₃ : (n : ℕ) (g : Row₃) (i c o : ℕ) → i < n → c < C → o < C → s (g i c o) ≡ false → T (t (g i c o)) → sum₃ s C n g < sum₃ t C n g
  unfolding sum₃
  less₃ n g i c o li lc lo e w = sum_less _ _ n (λ j q. mono₂ C (g j)) i li (less₂ C (g i) c o lc lo e w)

-- one membership more, and the size is more
pub size_less : (h : Head) (s t : Test) → ((f : Fact) → T (s f) → T (t f)) → (f : Fact) → InRange h f → s f ≡ false → T (t f)
    → size h s < size h t
unfolding size
size_less h s t k (binder_set b o) r e w =
    let x = less₂ s t h.channels k h.binders binder_set b o r.0 r.1 e w in
    let y = mono₃ s t h.channels k (h.top + 2) (ins h) in
    let z = mono₃ s t h.channels k (h.top + 2) (outs h) in
    omega arith
size_less h s t k (in_set l c o) r e w =
    let i = level_at h l r.0 in
    let there = subst (λ j. T (t (in_set j c o))) (sym i.2) w in
    let new = subst (λ j. s (in_set j c o) ≡ false) (sym i.2) e in
    let x = mono₂ s t h.channels k h.binders binder_set in
    let y = less₃ s t h.channels k (h.top + 2) (ins h) i.0 c o i.1 r.1 r.2 new there in
    let z = mono₃ s t h.channels k (h.top + 2) (outs h) in
    omega arith
size_less h s t k (out_set l c o) r e w =
    let i = level_at h l r.0 in
    let there = subst (λ j. T (t (out_set j c o))) (sym i.2) w in
    let new = subst (λ j. s (out_set j c o) ≡ false) (sym i.2) e in
    let x = mono₂ s t h.channels k h.binders binder_set in
    let y = mono₃ s t h.channels k (h.top + 2) (ins h) in
    let z = less₃ s t h.channels k (h.top + 2) (outs h) i.0 c o i.1 r.1 r.2 new there in
    omega arith
