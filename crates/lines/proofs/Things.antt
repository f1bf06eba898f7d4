-- The things that may have a label: what the rule tests is what a thing is; and the places of a plan's things, of which there are 72, are in the order of
-- the document, by kind, then number.
-- Assumes nothing.
use Prim.Native.Nat.{ℕ, ◌+◌, ◌*◌, ◌≤◌, ◌<◌}
use mathlib.Core.Path.{◌≡◌, refl}
use mathlib.Core.Bool.{Bool, true, false, cond, ◌||◌}
use mathlib.Core.Logic.{◌⊎◌, inl, inr, ◌↔◌}
use native.Mathlib.Decide.{dec_lt}
use native.Mathlib.Omega.{arith}
use lib.Dec.{leb, ltb, eqb}
use borrow.Author.Tests.{eqb-true, leb-true, ltb-true, eq-eqb, ne_eqb}
use Rattle.limits.specs.Limits.{most_channels, most_labels, outermost}
use Rattle.lines.specs.declared.Head.{Head}
use Rattle.lines.specs.Labels.{channel_kind, binder_kind, level_kind, is_thing, place_among}
use Rattle.lines.specs.Promise.{HeadWithin, IsThing}

-- ---- the test

pub thing_told : (h : Head) (kind number : ℕ) → is_thing h kind number ≡ true → IsThing h kind number
thing_told h kind number e = go (eqb kind channel_kind) (eqb kind binder_kind) (eqb kind level_kind) refl refl refl e
  where
    level : (low last : Bool) → leb number h.top ≡ low → eqb number outermost ≡ last → (low || last) ≡ true → (number ≤ h.top) ⊎ (number ≡ outermost)
    level true last el eo q = inl (leb-true number h.top el)
    level false true el eo q = inr (eqb-true number outermost eo)
    level false false el eo q = let z : ◌≡◌ {A = ℕ} 0 1 = cc in absurd (omega arith)

    go : (c b l : Bool) → eqb kind channel_kind ≡ c → eqb kind binder_kind ≡ b → eqb kind level_kind ≡ l
        → cond c (ltb number h.channels) (cond b (ltb number h.binders) (cond l (leb number h.top || eqb number outermost) false)) ≡ true
        → IsThing h kind number
    go true b l ec eb el q = inl (eqb-true kind channel_kind ec, ltb-true number h.channels q)
    go false true l ec eb el q = inr (inl (eqb-true kind binder_kind eb, ltb-true number h.binders q))
    go false false true ec eb el q = inr (inr (eqb-true kind level_kind el, level (leb number h.top) (eqb number outermost) refl refl q))
    go false false false ec eb el q = let z : ◌≡◌ {A = ℕ} 0 1 = cc in absurd (omega arith)

-- ---- the places

module _ (h : Head) (within : HeadWithin h) where
  -- as many places are kept for each kind as there may be channels
  placed : (kind number : ℕ) → IsThing h kind number
      → (place_among kind number ≡ kind * most_channels + number) × (number < most_channels) × (kind * most_channels + number < most_labels)
  placed kind number (inl (e, l)) = (rw (eq-eqb kind channel_kind e) (omega arith), omega arith, omega arith)
  placed kind number (inr (inl (e, l))) =
      let channel : kind ≡ channel_kind → ⊥ = λ q. omega arith in
      (rw (ne_eqb kind channel_kind channel, eq-eqb kind binder_kind e) (omega arith), omega arith, omega arith)
  placed kind number (inr (inr (e, l))) =
      let channel : kind ≡ channel_kind → ⊥ = λ q. omega arith in
      let binder : kind ≡ binder_kind → ⊥ = λ q. omega arith in
      let low : number ≤ outermost = below l in
      (rw (ne_eqb kind channel_kind channel, ne_eqb kind binder_kind binder) (omega arith), omega arith, omega arith)
    where
      below : (number ≤ h.top) ⊎ (number ≡ outermost) → number ≤ outermost
      below (inl l) = omega arith
      below (inr e) = omega arith

  pub place_below : (kind number : ℕ) → IsThing h kind number → place_among kind number < most_labels
  place_below kind number thing = let p = placed kind number thing in omega arith

  pub place_ascends : (kind number kind' number' : ℕ) → IsThing h kind number → IsThing h kind' number'
      → (place_among kind number < place_among kind' number') ↔ ((kind < kind') ⊎ ((kind ≡ kind') × (number < number')))
  place_ascends kind number kind' number' thing thing' = (λ l. order l (dec_lt kind kind'), place)
    where
      order : place_among kind number < place_among kind' number' → Dec (kind < kind') → (kind < kind') ⊎ ((kind ≡ kind') × (number < number'))
      order l (yes k) = inl k
      order l (no n) = inr (omega (arith, placed kind number thing, placed kind' number' thing'))

      place : (kind < kind') ⊎ ((kind ≡ kind') × (number < number')) → place_among kind number < place_among kind' number'
      place (inl k) = omega (arith, placed kind number thing, placed kind' number' thing')
      place (inr (e, l)) = omega (arith, placed kind number thing, placed kind' number' thing')
