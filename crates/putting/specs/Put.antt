-- Characters put into a buffer: that there is room for them, and what the buffer then holds.
-- Assumes nothing.
use Rattle.std.specs.Prelude.{ℕ, ◌+◌, ◌≤◌, ◌≡◌, List, length}
use Rattle.std.proofs.lemmas.List.Edits.{sets}

-- there is room for xs from a position on
pub record Room (buffer : List ℕ) (at : ℕ) (xs : List ℕ) : Type 0 where
  pub fits : at + length xs ≤ length buffer

-- xs stands in the buffer from a position on, and nothing else is changed; `next` is the position behind it
pub record Put (before : List ℕ) (at : ℕ) (xs : List ℕ) (after : List ℕ) (next : ℕ) : Type 0 where
  pub stands : after ≡ sets before at xs
  pub behind : next ≡ at + length xs
  pub size : length after ≡ length before
