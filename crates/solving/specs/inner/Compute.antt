-- Rounds that the checker computes with: a solution as the list of its memberships. That they are the rounds of Rounds.antt, and
-- `solved_of` what Solve.antt asks for, is proved in proofs/Computed.antt.
-- Assumes nothing.
use Rattle.std.specs.Prelude.{ℕ, zero, suc, Bool, true, false, ◌&&◌, List, [], ◌∷◌, ◌++◌, Option, Some, None, Ok, Err, eqb}
use Rattle.limits.specs.Limits.{outermost, place_of}
use Rattle.sets.specs.inner.Compute.{with_member, list_of}
use Rattle.lines.specs.declared.Head.{Head}
use Rattle.lines.specs.declared.Marker.{Marker}
use Rattle.lines.specs.declared.Marker.TheVariants.{Channel, Binder}
use Rattle.lines.specs.declared.Offer.{Offer}
use Rattle.reading.specs.Plan.{Outcome, Plan, no_refusal}
use Rattle.reading.specs.Tree.{Tree, nil, silent, send, receive, sum, parallel, restriction, match, replication, bracket}
use Rattle.solving.specs.declared.Solution.{Solution}
use Rattle.solving.specs.declared.Solved.{Solved}
use Rattle.solving.specs.Solutions.{Fact, binder_set, in_set, out_set}
use Rattle.solving.specs.Solve.{empty_solution, refused_by, over_allowance}

-- ---- lists

abbrev pub each : {A B : Type 0} → List A → (A → List B) → List B
each [] g = []
each (x ∷ xs) g = g x ++ each xs g

abbrev pub when : {A : Type 0} → Bool → List A → List A
when true xs = xs
when false xs = []

abbrev pub if_some : {A B : Type 0} → List A → List B → List B
if_some [] r = []
if_some (x ∷ xs) r = r

-- ---- the sets of a list of facts

abbrev pub of_binder : ℕ → Fact → List ℕ
of_binder b (binder_set d o) = when (eqb d b) (o ∷ [])
of_binder b (in_set l c o) = []
of_binder b (out_set l c o) = []

abbrev pub of_in : ℕ → ℕ → Fact → List ℕ
of_in l c (binder_set b o) = []
of_in l c (in_set m d o) = when (eqb m l) (when (eqb d c) (o ∷ []))
of_in l c (out_set m d o) = []

-- at any level
abbrev pub of_out : ℕ → Fact → List ℕ
of_out c (binder_set b o) = []
of_out c (in_set l d o) = []
of_out c (out_set l d o) = when (eqb d c) (o ∷ [])

abbrev pub set_in : List Fact → Marker → List ℕ
set_in s (Channel c) = c ∷ []
set_in s (Binder b) = each s (of_binder b)

abbrev pub ins_in : List Fact → ℕ → ℕ → List ℕ
ins_in s l c = each s (of_in l c)

abbrev pub outs_in : List Fact → ℕ → List ℕ
outs_in s c = each s (of_out c)

-- not empty just where the markers are the same
abbrev pub alike : Marker → Marker → List ℕ
alike (Channel c) (Channel d) = when (eqb c d) (0 ∷ [])
alike (Channel c) (Binder d) = []
alike (Binder c) (Channel d) = []
alike (Binder c) (Binder d) = when (eqb c d) (0 ∷ [])

-- not empty just where S(x) and S(y) meet or the markers are the same
abbrev pub meets_in : List Fact → Marker → Marker → List ℕ
meets_in s x y = each (set_in s x) (λ o. each (set_in s y) (λ u. when (eqb u o) (o ∷ []))) ++ alike x y

-- the in and out sets of the level m, at the level l
abbrev pub raised : ℕ → ℕ → Fact → List Fact
raised m l (binder_set b o) = []
raised m l (in_set j c o) = when (eqb j m) (in_set l c o ∷ [])
raised m l (out_set j c o) = when (eqb j m) (out_set l c o ∷ [])

-- ---- what a round wants

abbrev pub send_wanted : Marker → Marker → ℕ → List Fact → List Fact
send_wanted x y l s = each (set_in s x) (λ c. each (set_in s y) (λ o. out_set l c o ∷ []))

abbrev pub receive_wanted : Marker → ℕ → ℕ → List Fact → List Fact
receive_wanted x b l s =
    each (set_in s x) (λ c. each (outs_in s c) (λ o. in_set l c o ∷ [])) ++ each (set_in s x) (λ c. each (ins_in s l c) (λ o. binder_set b o ∷ []))

unfoldable pub wanted : Tree → ℕ → List Fact → List Fact
wanted nil l s = []
wanted (silent p) l s = wanted p l s
wanted (restriction x c p) l s = wanted p l s
wanted (replication p) l s = wanted p l s
wanted (sum p q) l s = wanted p l s ++ wanted q l s
wanted (parallel p q) l s = wanted p l s ++ wanted q l s
wanted (send x y p) l s = if_some (set_in s x) (if_some (set_in s y) (wanted p l s ++ send_wanted x y l s))
wanted (receive x y b p) l s = if_some (each (set_in s x) (outs_in s)) (wanted p l s ++ receive_wanted x b l s)
wanted (match x y p) l s = if_some (meets_in s x y) (wanted p l s)
wanted (bracket m p) l s = wanted p m s ++ each s (raised m l)

abbrev pub offer_wanted : List Offer → List Fact
offer_wanted offers = each offers (λ offer. each (list_of offer.set) (λ o. out_set outermost offer.channel o ∷ []))

-- what a round wants, from the root and of the offers
abbrev pub round_wanted : Plan → List Fact → List Fact
round_wanted p s = wanted p.tree outermost s ++ offer_wanted p.offers

-- ---- rounds

abbrev pub same_fact : Fact → Fact → Bool
same_fact (binder_set b o) (binder_set d u) = eqb b d && eqb o u
same_fact (binder_set b o) (in_set m d u) = false
same_fact (binder_set b o) (out_set m d u) = false
same_fact (in_set l c o) (binder_set d u) = false
same_fact (in_set l c o) (in_set m d u) = eqb l m && (eqb c d && eqb o u)
same_fact (in_set l c o) (out_set m d u) = false
same_fact (out_set l c o) (binder_set d u) = false
same_fact (out_set l c o) (in_set m d u) = false
same_fact (out_set l c o) (out_set m d u) = eqb l m && (eqb c d && eqb o u)

abbrev pub has_fact : Fact → List Fact → Bool
has_fact f [] = false
has_fact f (g ∷ s) = elim (same_fact f g) [ true ↦ true | false ↦ has_fact f s ]

-- s, and what is new of ws
abbrev pub add_all : List Fact → List Fact → List Fact
add_all s [] = s
add_all s (w ∷ ws) = elim (has_fact w s) [ true ↦ add_all s ws | false ↦ add_all (w ∷ s) ws ]

abbrev pub all_in : List Fact → List Fact → Bool
all_in [] s = true
all_in (w ∷ ws) s = elim (has_fact w s) [ true ↦ all_in ws s | false ↦ false ]

-- what rounds within an allowance come to: more are needed, or the count and the memberships
abbrev pub Run : Type 0
Run = Option (ℕ × List Fact)

-- `left` rounds are allowed still, and n have led to s
unfoldable pub run : Plan → ℕ → ℕ → List Fact → Run
run p zero n s = None
run p (suc left) n s =
    let w = round_wanted p s in elim (all_in w s) [ true ↦ Some (suc n, s) | false ↦ run p left (suc n) (add_all s w) ]

-- ---- the answer

abbrev pub enter : Fact → Solution → Solution
enter (binder_set b o) s = record { binders = with_member s.binders b o; ins = s.ins; outs = s.outs }
enter (in_set l c o) s = record { binders = s.binders; ins = with_member s.ins (place_of l c) o; outs = s.outs }
enter (out_set l c o) s = record { binders = s.binders; ins = s.ins; outs = with_member s.outs (place_of l c) o }

unfoldable pub solution_of : List Fact → Solution
solution_of [] = empty_solution
solution_of (f ∷ s) = enter f (solution_of s)

abbrev pub solved_by : Head → Run → Solved
solved_by h None = refused_by over_allowance
solved_by h (Some (n, s)) = record { refusal = no_refusal; head = h; count = n; solution = solution_of s }

-- what solving answers, by what the text reads as
abbrev pub solved_of : Outcome Plan → ℕ → Solved
solved_of (Err f) allowance = refused_by f
solved_of (Ok plan) allowance = solved_by plan.head (run plan allowance 0 [])
