-- What is promised of a place: a refusal that speaks of a byte has the place of one, and any other has none.
-- Assumes nothing.
use Rattle.std.specs.Prelude.{ℕ, ◌≤◌, Bool, true, false, ◌||◌, ◌≡◌, ◌≢◌, eqb}

-- 3, 5, 6, 7 and 9 speak of a byte; 2 does where a character is bad
abbrev pub speaks : ℕ → Bool
speaks number = eqb number 3 || (eqb number 5 || (eqb number 6 || (eqb number 7 || eqb number 9)))

pub record Placed (number place : ℕ) : Type 0 where
  pub some : speaks number ≡ true → 1 ≤ place
  pub none : speaks number ≡ false → number ≢ 2 → place ≡ 0
