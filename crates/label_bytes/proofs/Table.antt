-- A table of rows whose first ranges are apart: the first byte decides the row, and so how many bytes follow. What is asked of a table is computed,
-- so that `refl` shows it of one that is written out.
-- Assumes nothing.
use Prim.Native.Nat.{ℕ, suc, ◌≤◌, ◌<◌}
use mathlib.Core.Path.{◌≡◌, refl, sym, ap, ◌∙◌}
use mathlib.Core.Logic.{◌⊎◌, inl, inr, ⊎_elim}
use mathlib.Core.Bool.{Bool, true, false, ◌&&◌, ◌||◌, false≢true, and-false, or-false}
use mathlib.Core.List.{List, [], ◌∷◌, ◌++◌}
use native.Mathlib.Omega.{arith}
use lib.ListN.{length}
use lib.Dec.{leb, ltb}
use borrow.Author.Tests.{leb-true, ltb-true, lt-leb}
use Rattle.label_bytes.specs.Characters.{Range, is_in, fits, fits_one}
use Rattle.std.proofs.lemmas.Bool.{and_parts, or_cases}
use Rattle.label_bytes.proofs.Lists.{same_front}

-- ---- a range

pub in_range : (r : Range) (b : ℕ) → is_in r b ≡ true → (r.lowest ≤ b) × (b ≤ r.highest)
in_range r b e =
    let limits = and_parts _ _ e in
    (leb-true _ _ limits.0, leb-true _ _ limits.1)

below_range : (r : Range) (b : ℕ) → b < r.lowest → is_in r b ≡ false
below_range r b h = rw (lt-leb r.lowest b h)

above_range : (r : Range) (b : ℕ) → r.highest < b → is_in r b ≡ false
above_range r b h = rw (lt-leb b r.highest h) (and-false (leb r.lowest b))

-- ---- a row

pub fits_length : (row : List Range) (bytes : List ℕ) → fits row bytes ≡ true → length bytes ≡ length row
unfolding fits
fits_length [] [] e = refl
fits_length [] (b ∷ bytes) e = cc
fits_length (r ∷ row) [] e = cc
fits_length (r ∷ row) (b ∷ bytes) e = ap suc (fits_length row bytes (and_parts (is_in r b) (fits row bytes) e).1)

-- ---- what holds of all that fits

-- a fact of bytes, for each byte within its range
abbrev pub Holds : List Range → (List ℕ → Type 0) → Type 0
Holds [] P = P []
Holds (r ∷ row) P = (b : ℕ) → r.lowest ≤ b → b ≤ r.highest → Holds row (λ bytes. P (b ∷ bytes))

abbrev pub HoldsEach : List (List Range) → (List ℕ → Type 0) → Type 0
HoldsEach [] P = Unit {0}
HoldsEach (row ∷ rows) P = Holds row P × HoldsEach rows P

holds : (row : List Range) (P : List ℕ → Type 0) → Holds row P → (bytes : List ℕ) → fits row bytes ≡ true → P bytes
unfolding fits
holds [] P h [] e = h
holds [] P h (b ∷ bytes) e = absurd (false≢true e)
holds (r ∷ row) P h [] e = absurd (false≢true e)
holds (r ∷ row) P h (b ∷ bytes) e =
    let parts = and_parts (is_in r b) (fits row bytes) e in
    let limits = in_range r b parts.0 in
    holds row (λ rest. P (b ∷ rest)) (h b limits.0 limits.1) bytes parts.1

pub holds_one : (rows : List (List Range)) (P : List ℕ → Type 0) → HoldsEach rows P → (bytes : List ℕ) → fits_one rows bytes ≡ true → P bytes
unfolding fits_one
holds_one [] P h bytes e = absurd (false≢true e)
holds_one (row ∷ rows) P h bytes e =
    ⊎_elim (holds row P h.0 bytes) (holds_one rows P h.1 bytes) (or_cases (fits row bytes) (fits_one rows bytes) e)

-- ---- rows apart

abbrev pub is_apart : Range → Range → Bool
is_apart r s = ltb r.highest s.lowest || ltb s.highest r.lowest

-- no row begins with a byte of the range
unfoldable pub outside : Range → List (List Range) → Bool
outside r [] = true
outside r ([] ∷ rows) = outside r rows
outside r ((s ∷ row) ∷ rows) = is_apart r s && outside r rows

-- no two rows begin with the same byte
unfoldable pub all_apart : List (List Range) → Bool
all_apart [] = true
all_apart ([] ∷ rows) = all_apart rows
all_apart ((r ∷ row) ∷ rows) = outside r rows && all_apart rows

not_in_both : (r s : Range) (b : ℕ) → is_apart r s ≡ true → is_in r b ≡ true → is_in s b ≡ false
not_in_both r s b e i =
    let limits = in_range r b i in
    ⊎_elim
    (λ low. let h : r.highest < s.lowest = ltb-true _ _ low in below_range s b (omega arith))
    (λ high. let h : s.highest < r.lowest = ltb-true _ _ high in above_range s b (omega arith))
    (or_cases _ _ e)

pub fits_none : (r : Range) (rows : List (List Range)) (b : ℕ) (rest : List ℕ) → outside r rows ≡ true → is_in r b ≡ true
    → fits_one rows (b ∷ rest) ≡ false
unfolding fits fits_one outside
fits_none r [] b rest e i = refl
fits_none r ([] ∷ rows) b rest e i = fits_none r rows b rest e i
fits_none r ((s ∷ row) ∷ rows) b rest e i =
    let parts = and_parts (is_apart r s) (outside r rows) e in
    rw (not_in_both r s b parts.0 i) (fits_none r rows b rest parts.1 i)

-- the row is the one that begins with the byte
pub fits_chosen : (above below : List (List Range)) (r : Range) (row : List Range) (b : ℕ) (rest : List ℕ)
    → outside r above ≡ true → outside r below ≡ true → is_in r b ≡ true
    → fits_one (above ++ ((r ∷ row) ∷ below)) (b ∷ rest) ≡ fits row rest
unfolding fits fits_one outside
fits_chosen [] below r row b rest e f i = rw (i, fits_none r below b rest f i) (or-false (fits row rest))
fits_chosen ([] ∷ above) below r row b rest e f i = fits_chosen above below r row b rest e f i
fits_chosen ((s ∷ other) ∷ above) below r row b rest e f i =
    let parts = and_parts (is_apart r s) (outside r above) e in
    rw (not_in_both r s b parts.0 i) (fits_chosen above below r row b rest parts.1 f i)

-- in the first row or behind it
in_one : (r : Range) (row : List Range) (rows : List (List Range)) (b : ℕ) (rest : List ℕ) → fits_one ((r ∷ row) ∷ rows) (b ∷ rest) ≡ true
    → ((is_in r b ≡ true) × (fits row rest ≡ true)) ⊎ (fits_one rows (b ∷ rest) ≡ true)
unfolding fits fits_one
in_one r row rows b rest e =
    ⊎_elim (λ x. inl (and_parts (is_in r b) (fits row rest) x)) inr (or_cases (is_in r b && fits row rest) (fits_one rows (b ∷ rest)) e)

-- the first byte decides how many follow
pub same_length : (rows : List (List Range)) (b : ℕ) (xs ys : List ℕ) → all_apart rows ≡ true
    → fits_one rows (b ∷ xs) ≡ true → fits_one rows (b ∷ ys) ≡ true → length xs ≡ length ys
unfolding fits fits_one all_apart
same_length [] b xs ys e f g = cc
same_length ([] ∷ rows) b xs ys e f g = same_length rows b xs ys e f g
same_length ((r ∷ row) ∷ rows) b xs ys e f g =
    let parts = and_parts (outside r rows) (all_apart rows) e in
    go parts.0 (same_length rows b xs ys parts.1) (in_one r row rows b xs f) (in_one r row rows b ys g)
  where
    go : outside r rows ≡ true → (fits_one rows (b ∷ xs) ≡ true → fits_one rows (b ∷ ys) ≡ true → length xs ≡ length ys)
        → ((is_in r b ≡ true) × (fits row xs ≡ true)) ⊎ (fits_one rows (b ∷ xs) ≡ true)
        → ((is_in r b ≡ true) × (fits row ys ≡ true)) ⊎ (fits_one rows (b ∷ ys) ≡ true)
        → length xs ≡ length ys
    go apart others (inl x) (inl y) = fits_length row xs x.1 ∙ sym (fits_length row ys y.1)
    go apart others (inl x) (inr y) = let none = fits_none r rows b ys apart x.0 in cc
    go apart others (inr x) (inl y) = let none = fits_none r rows b xs apart y.0 in cc
    go apart others (inr x) (inr y) = others x y

-- of bytes that fit, none begin others
pub fits_once : (rows : List (List Range)) → all_apart rows ≡ true → fits_one rows [] ≡ false → (c d xs ys : List ℕ)
    → fits_one rows c ≡ true → fits_one rows d ≡ true → c ++ xs ≡ d ++ ys → (c ≡ d) × (xs ≡ ys)
fits_once rows apart some [] d xs ys e f p = absurd (false≢true (sym some ∙ e))
fits_once rows apart some (a ∷ c) [] xs ys e f p = absurd (false≢true (sym some ∙ f))
fits_once rows apart some (a ∷ c) (b ∷ d) xs ys e f p =
    let first : a ≡ b = cc in
    let also = ap (λ (x : ℕ). fits_one rows (x ∷ d)) first ∙ f in
    same_front (a ∷ c) (b ∷ d) xs ys (ap suc (same_length rows a c d apart e also)) p
