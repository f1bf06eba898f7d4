-- Rows of known sheets, and the claim over them: each sheet is that of its text, since the checker computes it so. Which sheet is meant is a parameter.
-- Assumes nothing.
use Prim.Native.Nat.{ℕ}
use mathlib.Core.Path.{◌≡◌, subst}
use mathlib.Core.List.{List, [], ◌∷◌, map}
use Rattle.solving.specs.Rounds.{round_ceiling}

-- a plan's text, an allowance of rounds, and the sheet
pub record KnownPlan : Type 0 where
  pub plan : List ℕ
  pub allowance : ℕ
  pub sheet : List ℕ

abbrev pub row : List ℕ → ℕ → List ℕ → KnownPlan
row plan allowance sheet = record { plan = plan; allowance = allowance; sheet = sheet }

-- what the programs allow
abbrev pub allowed : ℕ
allowed = round_ceiling

-- the sheets as they stand in the rows, and as they are computed
abbrev pub sheets : List KnownPlan → List (List ℕ)
sheets rs = map (λ (r : KnownPlan). r.sheet) rs

abbrev pub computed : (List ℕ → ℕ → List ℕ) → List KnownPlan → List (List ℕ)
computed compute rs = map (λ (r : KnownPlan). compute r.plan r.allowance) rs

module _ (IsSheet : List ℕ → ℕ → List ℕ → Type 0) where
  -- each row's sheet is that of its text within its allowance
  abbrev pub Claimed : List KnownPlan → Type 0
  Claimed [] = Unit {0}
  Claimed (r ∷ rs) = IsSheet r.plan r.allowance r.sheet × Claimed rs

  pub claimed : (compute : List ℕ → ℕ → List ℕ) → ((plan : List ℕ) (allowance : ℕ) → IsSheet plan allowance (compute plan allowance))
      → (rs : List KnownPlan) → computed compute rs ≡ sheets rs → Claimed rs
  claimed compute is [] e = tt
  claimed compute is (r ∷ rs) e =
      let first : compute r.plan r.allowance ≡ r.sheet = cc in
      (subst (IsSheet r.plan r.allowance) first (is r.plan r.allowance), claimed compute is rs cc)
