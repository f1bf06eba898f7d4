-- Putting a sequence into a buffer part by part. `Left` says what is still to be put so that in the end the whole stands there; a store or a
-- part that was put takes it one step on, and where nothing is left the whole was put. Assumes nothing.
use Prim.Native.Nat.{ℕ, suc, ◌+◌}
use mathlib.Core.Path.{◌≡◌, refl, sym, ap, subst⁻¹, ◌∙◌}
use mathlib.Core.List.{List, [], ◌∷◌, ◌++◌}
use native.Mathlib.Omega.{arith}
use lib.ListN.{length, set, length-append, length-set}
use lib.Seq.{sets}
use Rattle.text.proofs.Lists.{sets_append}
use Rattle.putting.specs.Put.{Room, Put}

pub record Left (before : List ℕ) (at : ℕ) (xs : List ℕ) (buffer : List ℕ) (next : ℕ) (rest : List ℕ) : Type 0 where
  pub same : sets buffer next rest ≡ sets before at xs
  pub reach : next + length rest ≡ at + length xs
  pub size : length buffer ≡ length before

pub left_all : (before : List ℕ) (at : ℕ) (xs : List ℕ) → Left before at xs before at xs
left_all before at xs = record { same = refl; reach = refl; size = refl }

module _ {before : List ℕ} {at : ℕ} {xs buffer : List ℕ} {next : ℕ} where
  pub left_none : Left before at xs buffer next [] → Put before at xs buffer next
  left_none l = record { stands = l.same; behind = omega arith; size = l.size }

  -- a store
  pub left_store : (behind : ℕ) {c : ℕ} {rest : List ℕ} → behind ≡ suc next → Left before at xs buffer next (c ∷ rest)
      → Left before at xs (set buffer next c) behind rest
  left_store behind {c} {rest} e l = record {
    same = ap (λ n. sets (set buffer next c) n rest) e ∙ l.same;
    reach = omega (arith, l.reach);
    size = length-set buffer next c ∙ l.size;
  }

  -- a part that was put
  pub left_put : {after : List ℕ} {behind : ℕ} (ys rest : List ℕ) → Left before at xs buffer next (ys ++ rest) → Put buffer next ys after behind
      → Left before at xs after behind rest
  left_put {after} {behind} ys rest l p = record {
    same = rw (p.stands, p.behind) (sym (sets_append buffer next ys rest) ∙ l.same);
    reach = omega (arith, l.reach, p.behind, length-append ys rest);
    size = p.size ∙ l.size;
  }

  -- there is room for the first part of what is left
  pub left_room_first : (ys rest : List ℕ) → Room before at xs → Left before at xs buffer next (ys ++ rest) → Room buffer next ys
  left_room_first ys rest r l = record { fits = omega (arith, r.fits, l.reach, l.size, length-append ys rest) }

-- ---- parts in a row

-- there is room for the first part of a whole, and behind it for the rest
pub room_first : {before : List ℕ} {at : ℕ} {xs : List ℕ} (ys : List ℕ) → Room before at (xs ++ ys) → Room before at xs
room_first {xs} ys r = record { fits = omega (arith, r.fits, length-append xs ys) }

pub room_then : {before mid : List ℕ} {at next : ℕ} {xs ys : List ℕ} → Room before at (xs ++ ys) → Put before at xs mid next → Room mid next ys
room_then {xs} {ys} r p = record { fits = omega (arith, r.fits, p.behind, p.size, length-append xs ys) }

pub put_then : {before mid after : List ℕ} {at next end : ℕ} {xs ys : List ℕ} → Put before at xs mid next → Put mid next ys after end
    → Put before at (xs ++ ys) after end
put_then {before} {at} {xs} {ys} p q = record {
  stands = q.stands ∙ rw (p.stands, p.behind) (sym (sets_append before at xs ys));
  behind = omega (arith, p.behind, q.behind, length-append xs ys);
  size = q.size ∙ p.size;
}

-- what the search lacks where two parts are to be put, one behind the other
pub ruleset rooms = (room_first, room_then)

-- nothing was put
pub put_none : (buffer : List ℕ) (at : ℕ) → Put buffer at [] buffer at
put_none buffer at = record { stands = refl; behind = omega arith; size = refl }

pub put_same : {before after xs ys : List ℕ} {at next : ℕ} → xs ≡ ys → Put before at ys after next → Put before at xs after next
put_same {before} {after} {xs} {ys} {at} {next} e p = subst⁻¹ (λ s. Put before at s after next) e p
