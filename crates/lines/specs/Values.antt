-- What the values of the public operations stand for: an array with a place for each name for a scope, and an array with zeros behind what it holds.
-- Assumes nothing.
use Rattle.std.specs.Prelude.{ℕ, ◌-◌, ◌≤◌, List, ◌++◌, Option, None, length, get_or, replicate}
use native.Mathlib.Omega.{arith}
use lib.ListN.{length-append}
use Rattle.limits.specs.Limits.{longest_label}
use Rattle.lines.specs.declared.label.Label.{Label}
use Rattle.lines.specs.declared.Marker.{Marker}
use Rattle.lines.specs.Scope.{Scope}

-- ---- an array

-- unused places hold zero, or nil for a node
unfoldable pub padded : {A : Type 0} → ℕ → A → List A → List A
padded n d xs = xs ++ replicate (n - length xs) d

-- they stand behind what it holds
pub padded_holds : {A : Type 0} (n : ℕ) (d : A) (xs : List A) → length xs ≤ length (padded n d xs)
unfolding padded
padded_holds n d xs = omega (arith, length-append xs (replicate (n - length xs) d))

abbrev pub no_label : Label
no_label = record { kind = 0; number = 0; size = 0; bytes = replicate longest_label 0; sized = omega arith }

-- ---- a scope

abbrev pub meaning_in : List (Option Marker) → Scope
meaning_in markers name = get_or markers name None
