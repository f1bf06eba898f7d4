-- Sets of channels. A set is a number: channel c is a member of s where the binary digit c of s is 1, and everything else is said by that.
-- Nothing here names a width.
-- Assumes nothing.
use Rattle.std.specs.Prelude.{◌≡◌, Bool, true, false, ◌↔◌, ◌≢◌, List, [], ◌∷◌, eqb, ltb, ℕ, ◌+◌, ◌*◌, ◌/◌, ◌%◌, ◌^◌, ◌<◌}

abbrev pub Set : Type 0
Set = ℕ

-- the set without a member
abbrev pub none : Set
none = 0

-- the binary digit c of s
abbrev pub bit : Set → ℕ → ℕ
bit s c = s / 2 ^ c % 2

-- c is a member of s
abbrev pub Has : Set → ℕ → Type 0
Has s c = bit s c ≡ 1

-- the test of it
abbrev pub is_member : Set → ℕ → Bool
is_member s c = eqb (bit s c) 1

-- s has just the members that P names
pub record Members (s : Set) (P : ℕ → Type 0) : Type 0 where
  pub has : (c : ℕ) → Has s c ↔ P c

-- each member of a is a member of b
abbrev pub Subset : Set → Set → Type 0
Subset a b = (c : ℕ) → Has a c → Has b c

-- every member of s is below the width w
abbrev pub Narrow : ℕ → Set → Type 0
Narrow w s = (c : ℕ) → Has s c → c < w

-- the test of it: a set of channels below w counts less than channel w
abbrev pub is_narrow : ℕ → Set → Bool
is_narrow w s = ltb s (2 ^ w)

-- s has no member
abbrev pub Empty : Set → Type 0
Empty s = (c : ℕ) → Has s c → ⊥

-- the test of it
abbrev pub is_none : Set → Bool
is_none s = eqb s none

-- a and b share a member
abbrev pub Meet : Set → Set → Type 0
Meet a b = (c : ℕ) × Has a c × Has b c

-- c is the least member of s
pub record LeastMember (s : Set) (c : ℕ) : Type 0 where
  pub has : Has s c
  pub least : (k : ℕ) → k < c → Has s k → ⊥

-- r is s without its member c, and the smaller number
pub record Without (s : Set) (c : ℕ) (r : Set) : Type 0 where
  pub has : (k : ℕ) → Has r k ↔ (Has s k × (k ≢ c))
  pub less : r < s

-- a set is four bytes, high byte first; channel c counts 2 to the c
abbrev pub set_bytes : Set → List ℕ
set_bytes s = s / 0x1000000 % 0x100 ∷ s / 0x10000 % 0x100 ∷ s / 0x100 % 0x100 ∷ s % 0x100 ∷ []

-- the set of four bytes, high byte first
abbrev pub set_of_bytes : ℕ → ℕ → ℕ → ℕ → Set
set_of_bytes first second third fourth = first * 0x1000000 + second * 0x10000 + third * 0x100 + fourth

-- the answer b is true where P holds, and false where it does not
pub record Decides (b : Bool) (P : Type 0) : Type 0 where
  pub yes : b ≡ true → P
  pub no : b ≡ false → P → ⊥
