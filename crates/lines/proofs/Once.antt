-- The contracts of the public operations fix the outcome. Those of `first_head`, `next_name`, `next_offer`, `next_label`, `next_node`, `place_among` and
-- `no_label` are equations; those of `no_names`, `give` and `enter` say what each name means in an array of 256 places, and two such arrays that mean the
-- same are equal.
-- Assumes nothing.
use mathlib.Core.Path.{◌≡◌, ap}
use mathlib.Core.List.{List}
use lib.ListN.{length}
use lib.Seq.{ext_get_or}
use Rattle.std.specs.Prelude.{Option, None}
use Rattle.lines.specs.declared.Marker.{Marker}
use Rattle.lines.specs.Scope.{Scope}
use Rattle.lines.specs.Values.{meaning_in}

pub scope_once : (a b : List (Option Marker)) → length a ≡ length b → meaning_in a ≡ meaning_in b → a ≡ b
scope_once a b long same = ext_get_or None a b long (λ i l. ap (λ (scope : Scope). scope i) same)
