-- Membership in the lists that the computed rounds build, by their own words `each`, `when` and `if_some`: the library's laws would need these unfolded
-- first. Assumes nothing.
use Prim.Native.Nat.{ℕ}
use mathlib.Core.Bool.{Bool, true, false}
use mathlib.Core.Path.{◌≡◌, refl, subst, subst⁻¹}
use mathlib.Core.List.{List, [], ◌∷◌, ◌++◌}
use mathlib.Core.Logic.{◌↔◌, ◌⊎◌, inl, inr, ⊎_elim}
use lib.Dec.{T, eqb, eqb→eq, eqb_refl}
use Rattle.sets.proofs.Listed.{Mem}
use Rattle.solving.specs.inner.Compute.{each, when, if_some}

pub mem_append : {A : Type 0} (a : A) (xs ys : List A) → Mem a (xs ++ ys) ↔ (Mem a xs ⊎ Mem a ys)
mem_append a [] ys = (inr, ⊎_elim absurd (λ z. z))
mem_append a (x ∷ xs) ys =
    let h = mem_append a xs ys in (
      ⊎_elim (λ e. inl (inl e)) (λ m. ⊎_elim (λ z. inl (inr z)) inr (h.0 m)),
      ⊎_elim (⊎_elim inl (λ m. inr (h.1 (inl m)))) (λ m. inr (h.1 (inr m))),
    )

pub mem_each : {A B : Type 0} (b : B) (xs : List A) (g : A → List B) → Mem b (each xs g) ↔ ((x : A) × Mem x xs × Mem b (g x))
mem_each b [] g = (absurd, λ w. absurd w.1)
mem_each b (x ∷ xs) g =
    let h = mem_each b xs g in
    let k = mem_append b (g x) (each xs g) in (
      (λ m. ⊎_elim (λ z. (x, inl refl, z)) (λ z. let w = h.0 z in (w.0, inr w.1, w.2)) (k.0 m)),
      (λ w. k.1 (⊎_elim (λ e. inl (subst (λ y. Mem b (g y)) e w.2)) (λ m. inr (h.1 (w.0, m, w.2))) w.1)),
    )

pub mem_when : {A : Type 0} (a : A) (i j : ℕ) (xs : List A) → Mem a (when (eqb i j) xs) ↔ ((i ≡ j) × Mem a xs)
mem_when {A} a i j xs = (λ m. go (eqb i j) refl m, λ w. subst⁻¹ (λ k. Mem a (when (eqb k j) xs)) w.0 (same (eqb j j) (eqb_refl j) w.1))
  where
    go : (b : Bool) → eqb i j ≡ b → Mem a (when b xs) → (i ≡ j) × Mem a xs
    go true e m = (eqb→eq i j (subst⁻¹ T e tt), m)
    go false e m = absurd m

    same : (b : Bool) → T b → Mem a xs → Mem a (when b xs)
    same true t m = m
    same false t m = absurd t

pub mem_if : {A B : Type 0} (b : B) (xs : List A) (r : List B) → Mem b (if_some xs r) ↔ (((x : A) × Mem x xs) × Mem b r)
mem_if b [] r = (absurd, λ w. absurd w.0.1)
mem_if b (x ∷ xs) r = (λ m. ((x, inl refl), m), λ w. w.1)

pub mem_one : {A : Type 0} (a b : A) → Mem a (b ∷ []) ↔ (a ≡ b)
mem_one a b = (⊎_elim (λ e. e) absurd, inl)

-- what is made of each pair of a choice from xs and one from g of it
pub mem_pairs : {A : Type 0} (xs : List ℕ) (g : ℕ → List ℕ) (h : ℕ → ℕ → A) (a : A)
    → Mem a (each xs (λ c. each (g c) (λ o. h c o ∷ []))) ↔ ((c : ℕ) × Mem c xs × ((o : ℕ) × Mem o (g c) × (a ≡ h c o)))
mem_pairs xs g h a = (
  (λ m. let v = (mem_each a xs (λ c. each (g c) (λ o. h c o ∷ []))).0 m in
      let u = (mem_each a (g v.0) (λ o. h v.0 o ∷ [])).0 v.2 in
      (v.0, v.1, (u.0, u.1, (mem_one a (h v.0 u.0)).0 u.2))),
  (λ w. (mem_each a xs (λ c. each (g c) (λ o. h c o ∷ []))).1 (
    w.0,
    w.1,
    (mem_each a (g w.0) (λ o. h w.0 o ∷ [])).1 (w.2.0, w.2.1, inl w.2.2),
  )),
)
