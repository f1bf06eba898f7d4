-- Document 01, 'Acceptable solutions', document 000's Table 2 and document 02's order 1: when a node holds, one clause for each kind of node;
-- what the outside offers; and when a solution is acceptable.
-- Assumes nothing.
use Rattle.std.specs.Prelude.{ℕ, ◌≡◌, ◌⊎◌, List, [], ◌∷◌}
use Rattle.limits.specs.Limits.{outermost}
use Rattle.sets.specs.Set.{Has}
use Rattle.lines.specs.declared.Marker.{Marker}
use Rattle.lines.specs.declared.Offer.{Offer}
use Rattle.reading.specs.Plan.{Plan}
use Rattle.reading.specs.Tree.{Tree, nil, silent, send, receive, sum, parallel, restriction, match, replication, bracket}
use Rattle.solving.specs.Solutions.{binder_set, in_set, out_set, Sets, SetOf}

-- S(x) is non-empty
abbrev pub Some : Sets → Marker → Type 0
Some s x = (o : ℕ) × SetOf s x o

-- some channel c in S(x) has a non-empty out set at some level
abbrev pub Heard : Sets → Marker → Type 0
Heard s x = (c : ℕ) × SetOf s x c × ((m : ℕ) × (o : ℕ) × s (out_set m c o))

-- S(x) and S(y) meet, or the two markers are the same
abbrev pub Meets : Sets → Marker → Marker → Type 0
Meets s x y = ((o : ℕ) × SetOf s x o × SetOf s y o) ⊎ (x ≡ y)

-- the tree's node holds, where l is the innermost enclosing bracket's level
abbrev pub Holds : Tree → ℕ → Sets → Type 0
Holds nil l s = Unit
Holds (silent p) l s = Holds p l s
Holds (restriction x c p) l s = Holds p l s
Holds (replication p) l s = Holds p l s
Holds (sum p q) l s = Holds p l s × Holds q l s
Holds (parallel p q) l s = Holds p l s × Holds q l s
Holds (send x y p) l s =
    Some s x × Some s y →
    Holds p l s × ((c o : ℕ) → SetOf s x c → SetOf s y o → s (out_set l c o))
Holds (receive x y b p) l s =
    Heard s x →
    Holds p l s
    × ((c : ℕ) → SetOf s x c → (m o : ℕ) → s (out_set m c o) → s (in_set l c o))
    × ((c : ℕ) → SetOf s x c → (o : ℕ) → s (in_set l c o) → s (binder_set b o))
Holds (match x y p) l s = Meets s x y → Holds p l s
Holds (bracket m p) l s =
    Holds p m s
    × ((c o : ℕ) → s (in_set m c o) → s (in_set l c o))
    × ((c o : ℕ) → s (out_set m c o) → s (out_set l c o))

-- o is offered on channel c
abbrev pub IsOffered : List Offer → ℕ → ℕ → Type 0
IsOffered [] c o = ⊥
IsOffered (offer ∷ offers) c o = ((c ≡ offer.channel) × Has offer.set o) ⊎ IsOffered offers c o

-- a solution is acceptable if the root holds, with # at the outside, and each offer is within out(#, channel)
pub record Acceptable (plan : Plan) (s : Sets) : Type 0 where
  pub root : Holds plan.tree outermost s
  pub offers : (c o : ℕ) → IsOffered plan.offers c o → s (out_set outermost c o)
