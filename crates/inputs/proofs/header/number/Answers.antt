-- `number`: one more digit is the next of the whole, and eight digits make a number that fits. Assumes nothing.
use Rattle.std.proofs.Common.{◌≡◌, ℕ, ◌+◌, ◌*◌, ◌<◌, ◌≤◌, ◌^◌, List, length, get_or, drop, Some, sym, ap, ◌∙◌, arith, add-one}
use Rattle.std.specs.Prelude.{option_and_then}
use Rattle.std.proofs.Math.Nat.{pow-suc, pow-le-pow_right}
use Rattle.std.proofs.lemmas.List.{at_drop_more}
use Rattle.inputs.specs.Header.{digit_value, number_from}
use Rattle.inputs.proofs.header.number.Goals as goal

-- one more digit
number_more : (digits : List ℕ) (i n v : ℕ) → i < length digits → Some v ≡ digit_value (get_or digits i 0)
    → number_from n (drop i digits) ≡ number_from (n * 16 + v) (drop (i + 1) digits)
number_more digits i n v h e =
    at_drop_more (number_from n) digits i 0 h ∙ ap (option_and_then (λ m. number_from (n * 16 + m) (drop (i + 1) digits))) (sym e)

-- i digits make less than 16 to the i: one digit more, and fewer than eight
below_more : (n v i : ℕ) → n < 16 ^ i → v < 16 → n * 16 + v < 16 ^ (i + 1)
below_more n v i h l = rw (add-one, pow-suc 16 i) (omega arith)

below_most : (n i : ℕ) → n < 16 ^ i → i < 8 → n < 2 ^ 28
below_most n i h l =
    let most : 16 ^ i ≤ 16 ^ 7 = pow-le-pow_right {n = 16} (omega arith) {j = 7} (omega arith) in
    omega arith

pub overflow_mul-n : goal.overflow_mul-n
overflow_mul-n c =
    let small = below_most c.loop-c.n c.loop-c.c-index c.loop-c.invariant.below (omega arith) in
    omega (arith, small)

pub overflow_add-n : goal.overflow_add-n
overflow_add-n c =
    let small = below_most c.loop-c.n c.loop-c.c-index c.loop-c.invariant.below (omega arith) in
    omega (arith, small, c.in_ok-n.ensures.below)

pub loop-c-preserved : goal.loop-c-preserved
loop-c-preserved c =
    let digit = c.in_ok-n.ensures in
    record {
      whole = c.loop-c.invariant.whole ∙ number_more _ _ _ _ c.loop-c-test.true digit.value;
      below = below_more _ _ _ c.loop-c.invariant.below digit.below;
    }
