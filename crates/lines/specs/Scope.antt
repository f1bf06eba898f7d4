-- Document 01, 'Plan text': what a name means at a place of the tree.
-- Assumes nothing.
use Rattle.std.specs.Prelude.{ℕ, cond, List, [], ◌∷◌, Option, Some, None, eqb}
use Rattle.lines.specs.declared.Marker.{Marker}
use Rattle.lines.specs.declared.Marker.TheVariants.{Channel, Binder}
use Rattle.lines.specs.declared.FreeName.{FreeName}
use Rattle.lines.specs.declared.Node.{Node}
use Rattle.lines.specs.declared.Node.TheVariants.{Nil, Silent, Send, Receive, Sum, Parallel, Restriction, Match, Replication, Bracket}

-- what each name means: nothing, or its marker
abbrev pub Scope : Type 0
Scope = ℕ → Option Marker

abbrev pub no_names : Scope
no_names name = None

-- a name is given a marker inside: the innermost giver wins
abbrev pub giving : ℕ → Marker → Scope → Scope
giving name marker scope other = cond (eqb other name) (Some marker) (scope other)

-- the free names give their channels
abbrev pub naming : Scope → List FreeName → Scope
naming scope [] = scope
naming scope (f ∷ fs) = naming (giving f.name (Channel f.channel) scope) fs

-- what a node gives in its branches: a receive its binder to y, a restriction its channel to x
abbrev pub inside : Node → Scope → Scope
inside Nil scope = scope
inside Silent scope = scope
inside (Send x y) scope = scope
inside (Receive x y b) scope = giving y (Binder b) scope
inside Sum scope = scope
inside Parallel scope = scope
inside (Restriction x c) scope = giving x (Channel c) scope
inside (Match x y) scope = scope
inside Replication scope = scope
inside (Bracket l) scope = scope
