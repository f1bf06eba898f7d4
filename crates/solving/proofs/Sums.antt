-- Sums over the numbers below a bound: how large they are, and that they grow where a part grows. The library's sums go over lists: here the terms are a
-- function's, and no list is made of them.
-- Assumes nothing.
use Prim.Native.Nat.{ℕ, zero, suc, ◌+◌, ◌*◌, ◌<◌, ◌≤◌}
use mathlib.Core.Path.{◌≡◌, subst}
use native.Mathlib.Omega.{arith}
use native.Mathlib.Nat.{suc-mul}
use native.Mathlib.Decide.{ℕ_discrete}

-- the sum of a function over the numbers below a bound
unfoldable pub sum : ℕ → (ℕ → ℕ) → ℕ
sum zero f = zero
sum (suc n) f = f n + sum n f

pub sum_le : (m : ℕ) (g : ℕ → ℕ) (n : ℕ) → ((i : ℕ) → i < n → g i ≤ m) → sum n g ≤ n * m
unfolding sum
sum_le m g zero h = omega arith
sum_le m g (suc n) h =
    let a = sum_le m g n (λ i l. h i (omega arith)) in
    let b = h n (omega arith) in
    rw suc-mul (omega arith)

pub sum_mono : (g h : ℕ → ℕ) (n : ℕ) → ((i : ℕ) → i < n → g i ≤ h i) → sum n g ≤ sum n h
unfolding sum
sum_mono g h zero e = omega arith
sum_mono g h (suc n) e =
    let a = sum_mono g h n (λ i l. e i (omega arith)) in
    let b = e n (omega arith) in
    omega arith

pub sum_less : (g h : ℕ → ℕ) (n : ℕ) → ((i : ℕ) → i < n → g i ≤ h i) → (i : ℕ) → i < n → g i < h i → sum n g < sum n h
unfolding sum
sum_less g h zero e i l m = omega arith
sum_less g h (suc n) e i l m = go (ℕ_discrete i n) (λ k. sum_less g h n (λ j q. e j (omega arith)) i k m)
  where
    mono : sum n g ≤ sum n h
    mono = sum_mono g h n (λ j k. e j (omega arith))

    go : Dec (i ≡ n) → (i < n → sum n g < sum n h) → sum (suc n) g < sum (suc n) h
    go (yes q) r = let a = subst (λ j. g j < h j) q m in let b = mono in omega arith
    go (no q) r =
        let a = r (omega arith) in
        let b = e n (omega arith) in
        omega arith
