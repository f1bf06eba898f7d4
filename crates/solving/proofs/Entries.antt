-- Memberships entered into arrays: the arrays hold just those, where each has its place. And arrays that hold the same are one.
-- Assumes nothing.
use Prim.Native.Nat.{ℕ, ◌+◌, ◌*◌, ◌<◌, ◌/◌, ◌%◌}
use mathlib.Core.Path.{◌≡◌, refl, sym, ap, subst, ◌∙◌}
use mathlib.Core.List.{List, [], ◌∷◌}
use mathlib.Core.Logic.Iff
use mathlib.Core.Logic.{◌↔◌, ◌⊎◌, inl, inr, ⊎_elim}
use native.Mathlib.Omega.{arith}
use lib.ListN.{length, length-set}
use Rattle.limits.specs.Limits.{most_channels, most_binders, levels, place_of, level_sets}
use Rattle.limits.proofs.Places.{same_level, same_channel, place_below, level_of, channel_of, place_back}
use Rattle.sets.specs.Rows.{SetRow, set_at, HasAt}
use Rattle.sets.specs.inner.Compute.{with_member}
use Rattle.sets.proofs.Members.{same_members}
use Rattle.sets.proofs.SameRows.{empty_length, none_at, same_row}
use Rattle.sets.proofs.Computed.{with_member_lem}
use Rattle.sets.proofs.Listed.{Mem}
use Rattle.solving.specs.declared.Solution.{Solution}
use Rattle.solving.specs.Solutions.{Fact, binder_set, in_set, out_set, members_in, Sized}
use Rattle.solving.specs.inner.Compute.{enter, solution_of}

-- a fact that has a place in the arrays
abbrev pub Placed : Fact → Type 0
Placed (binder_set b o) = b < most_binders
Placed (in_set l c o) = (l < levels) × (c < most_channels)
Placed (out_set l c o) = (l < levels) × (c < most_channels)

-- a level's set, by level and channel, w sets to each of n levels
row_put : (w n : ℕ) (row : SetRow) (l c o : ℕ) → length row ≡ n * w → l < n → c < w → (m d u : ℕ)
    → ((m < n) × (d < w) × HasAt (with_member row (l * w + c) o) (m * w + d) u)
    ↔ (((m ≡ l) × (d ≡ c) × (u ≡ o)) ⊎ ((m < n) × (d < w) × HasAt row (m * w + d) u))
row_put w n row l c o long level channel m d u =
    let v = with_member_lem row (l * w + c) o (omega (arith, place_below w n l c level channel)) (m * w + d) u in (
      (λ h. ⊎_elim (λ z. inl (same_level w m l d c h.1 channel z.0, same_channel w m l d c h.1 channel z.0, z.1)) (λ z. inr (h.0, h.1, z)) (v.0 h.2)),
      ⊎_elim
          (λ z. let p = z.0 in let q = z.1 in (omega arith, omega arith, v.1 (inl (omega (arith, ap (λ k. k * w) p), z.2))))
          (λ h. (h.0, h.1, v.1 (inr h.2))),
    )

-- another kind of fact is not the one entered
apart : {A B : Type 0} → (B → ◌≡◌ {A = ℕ} 0 1) → A ↔ (B ⊎ A)
apart g = (inr, ⊎_elim (λ b. absurd (let z = g b in omega arith)) (λ a. a))

pub enter_is : (g : Fact) (s : Solution) → Sized s → Placed g → (f : Fact) → members_in (enter g s) f ↔ ((f ≡ g) ⊎ members_in s f)
enter_is (binder_set b o) s z b32 (binder_set d u) =
    let n = z.binders in
    let w = with_member_lem s.binders b o (omega arith) d u in (
      (λ h. ⊎_elim (λ v. let p = v.0 in let q = v.1 in inl (cc)) (λ v. inr (h.0, v)) (w.0 h.1)),
      ⊎_elim
          (λ (e : binder_set d u ≡ binder_set b o). let p : d ≡ b = cc in let q : u ≡ o = cc in (omega arith, w.1 (inl (p, q))))
          (λ h. (h.0, w.1 (inr h.1))),
    )
enter_is (binder_set b o) s z b32 (in_set m d u) = apart (λ (e : in_set m d u ≡ binder_set b o). cc)
enter_is (binder_set b o) s z b32 (out_set m d u) = apart (λ (e : out_set m d u ≡ binder_set b o). cc)
enter_is (in_set l c o) s z w (binder_set d u) = apart (λ (e : binder_set d u ≡ in_set l c o). cc)
enter_is (in_set l c o) s z w (in_set m d u) = Iff.trans (row_put most_channels levels s.ins l c o z.ins w.0 w.1 m d u) (
  ⊎_elim (λ v. let p = v.0 in let q = v.1 in let r = v.2 in inl (cc)) inr,
  ⊎_elim (λ (e : in_set m d u ≡ in_set l c o). let p : m ≡ l = cc in let q : d ≡ c = cc in let r : u ≡ o = cc in inl (p, q, r)) inr,
)
enter_is (in_set l c o) s z w (out_set m d u) = apart (λ (e : out_set m d u ≡ in_set l c o). cc)
enter_is (out_set l c o) s z w (binder_set d u) = apart (λ (e : binder_set d u ≡ out_set l c o). cc)
enter_is (out_set l c o) s z w (in_set m d u) = apart (λ (e : in_set m d u ≡ out_set l c o). cc)
enter_is (out_set l c o) s z w (out_set m d u) = Iff.trans (row_put most_channels levels s.outs l c o z.outs w.0 w.1 m d u) (
  ⊎_elim (λ v. let p = v.0 in let q = v.1 in let r = v.2 in inl (cc)) inr,
  ⊎_elim (λ (e : out_set m d u ≡ out_set l c o). let p : m ≡ l = cc in let q : d ≡ c = cc in let r : u ≡ o = cc in inl (p, q, r)) inr,
)

enter_sized : (f : Fact) (s : Solution) → Sized s → Sized (enter f s)
enter_sized (binder_set b o) s z = record { binders = length-set s.binders _ _ ∙ z.binders; ins = z.ins; outs = z.outs }
enter_sized (in_set l c o) s z = record { binders = z.binders; ins = length-set s.ins _ _ ∙ z.ins; outs = z.outs }
enter_sized (out_set l c o) s z = record { binders = z.binders; ins = z.ins; outs = length-set s.outs _ _ ∙ z.outs }

pub solution_sized : (s : List Fact) → Sized (solution_of s)
unfolding solution_of
solution_sized [] = record {
  binders = empty_length most_binders;
  ins = empty_length level_sets;
  outs = empty_length level_sets;
}
solution_sized (f ∷ s) = enter_sized f (solution_of s) (solution_sized s)

nothing_in : (f : Fact) → members_in (solution_of []) f → ⊥
unfolding solution_of
nothing_in (binder_set b o) h = none_at most_binders b o h.1
nothing_in (in_set l c o) h = none_at level_sets (place_of l c) o h.2
nothing_in (out_set l c o) h = none_at level_sets (place_of l c) o h.2

pub solution_is : (s : List Fact) → ((f : Fact) → Mem f s → Placed f) → (f : Fact) → members_in (solution_of s) f ↔ Mem f s
unfolding solution_of
solution_is [] p f = (nothing_in f, absurd)
solution_is (g ∷ s) p f =
    let h = solution_is s (λ e m. p e (inr m)) f in
    Iff.trans (enter_is g (solution_of s) (solution_sized s) (p g (inl refl)) f) (
      ⊎_elim inl (λ m. inr (h.0 m)),
      ⊎_elim inl (λ m. inr (h.1 m)),
    )

-- ---- arrays that hold the same

-- w sets to each of n levels
row_same : (w n : ℕ) (r t : SetRow) → length r ≡ n * w → length t ≡ n * w
    → ((l c o : ℕ) → l < n → c < w → HasAt r (l * w + c) o ↔ HasAt t (l * w + c) o) → r ≡ t
row_same w n r t p q h = same_row r t (p ∙ sym q) (λ i l.
    let at : i < n * w = omega arith in
    let same = same_members _ _ (λ o. h (i / w) (i % w) o (level_of w n i at) (channel_of w n i at)) in
    subst (λ k. set_at r k ≡ set_at t k) (place_back w n i at) same)

module _ (a b : Solution) (x : Sized a) (y : Sized b) (e : (f : Fact) → members_in a f ↔ members_in b f) where
  binders_same : a.binders ≡ b.binders
  binders_same = same_row a.binders b.binders (x.binders ∙ sym y.binders) (λ i l.
      let n = x.binders in
      same_members (set_at a.binders i) (set_at b.binders i) (λ o. (
        (λ h. ((e (binder_set i o)).0 (omega arith, h)).1),
        (λ h. ((e (binder_set i o)).1 (omega arith, h)).1),
      )))

  ins_same : a.ins ≡ b.ins
  ins_same = row_same most_channels levels a.ins b.ins x.ins y.ins (λ l c o p q. (
    (λ h. ((e (in_set l c o)).0 (p, q, h)).2),
    (λ h. ((e (in_set l c o)).1 (p, q, h)).2),
  ))

  outs_same : a.outs ≡ b.outs
  outs_same = row_same most_channels levels a.outs b.outs x.outs y.outs (λ l c o p q. (
    (λ h. ((e (out_set l c o)).0 (p, q, h)).2),
    (λ h. ((e (out_set l c o)).1 (p, q, h)).2),
  ))

  pub solution_same : a ≡ b
  solution_same = λ i. record { binders = binders_same i; ins = ins_same i; outs = outs_same i }
