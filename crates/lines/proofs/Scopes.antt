-- The scope as an array is the scope as a function, name by name. Assumes nothing.
use Prim.Native.Nat.{ℕ, zero, suc, ◌<◌}
use mathlib.Core.Path.{◌≡◌, refl, ap, ◌∙◌, sym, fun_ext}
use mathlib.Core.List.{List}
use native.Mathlib.Decide.{ℕ_discrete}
use lib.ListN.{length, set, replicate}
use lib.Seq.{get_or-set_same, get_or-set_other}
use borrow.Author.Tests.{eq-eqb, ne_eqb}
use Rattle.std.specs.Prelude.{Option, Some, None}
use Rattle.lines.specs.declared.Marker.{Marker}
use Rattle.lines.specs.Scope.{no_names, giving}
use Rattle.lines.specs.Values.{meaning_in}

-- no name means anything
pub blank : (n : ℕ) → meaning_in (replicate n None) ≡ no_names
blank n = fun_ext λ name. go n name
  where
    go : (n name : ℕ) → meaning_in (replicate n None) name ≡ None
    go zero name = refl
    go (suc n) zero = refl
    go (suc n) (suc name) = go n name

-- one name is given a marker, and the others keep what they meant
pub given_at : (markers : List (Option Marker)) (name : ℕ) (marker : Marker) → name < length markers
    → meaning_in (set markers name (Some marker)) ≡ giving name marker (meaning_in markers)
given_at markers name marker h = fun_ext λ other. go other (ℕ_discrete other name)
  where
    go : (other : ℕ) → Dec (other ≡ name) → meaning_in (set markers name (Some marker)) other ≡ giving name marker (meaning_in markers) other
    go other (yes e) =
        ap (meaning_in (set markers name (Some marker))) e ∙ get_or-set_same markers name (Some marker) None h ∙ sym (rw (eq-eqb other name e))
    go other (no n) = get_or-set_other markers name other (Some marker) None n ∙ sym (rw (ne_eqb other name n))
