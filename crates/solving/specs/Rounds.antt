-- Document 01, 'Rounds', and document 02's order 1: what a round adds, the sets after some rounds, and the count.
-- Assumes nothing.
use Rattle.std.specs.Prelude.{ℕ, zero, suc, ◌+◌, ◌*◌, ◌<◌, ◌≡◌, ◌⊎◌, List}
use Rattle.limits.specs.Limits.{outermost, most_channels, most_binders, highest_level}
use Rattle.lines.specs.declared.Head.{Head}
use Rattle.lines.specs.declared.Marker.{Marker}
use Rattle.lines.specs.declared.Offer.{Offer}
use Rattle.reading.specs.Plan.{Plan}
use Rattle.reading.specs.Tree.{Tree, nil, silent, send, receive, sum, parallel, restriction, match, replication, bracket}
use Rattle.solving.specs.Solutions.{Fact, binder_set, in_set, out_set, Sets, SetOf}
use Rattle.solving.specs.Clauses.{Some, Heard, Meets, IsOffered}

-- what a send's clause wants included, where its condition holds
abbrev pub SendWants : Sets → Marker → Marker → ℕ → Sets
SendWants s x y l (binder_set b o) = ⊥
SendWants s x y l (in_set m c o) = ⊥
SendWants s x y l (out_set m c o) = (m ≡ l) × SetOf s x c × SetOf s y o

-- a receive's
abbrev pub ReceiveWants : Sets → Marker → ℕ → ℕ → Sets
ReceiveWants s x b l (binder_set d o) = (d ≡ b) × ((c : ℕ) × SetOf s x c × s (in_set l c o))
ReceiveWants s x b l (in_set m c o) = (m ≡ l) × SetOf s x c × ((j : ℕ) × s (out_set j c o))
ReceiveWants s x b l (out_set m c o) = ⊥

-- a bracket's
abbrev pub BracketWants : Sets → ℕ → ℕ → Sets
BracketWants s m l (binder_set b o) = ⊥
BracketWants s m l (in_set j c o) = (j ≡ l) × s (in_set m c o)
BracketWants s m l (out_set j c o) = (j ≡ l) × s (out_set m c o)

-- what the walk from this node wants included. It goes into a branch exactly where the clause asks it to hold
abbrev pub Wants : Tree → ℕ → Sets → Sets
Wants nil l s f = ⊥
Wants (silent p) l s f = Wants p l s f
Wants (restriction x c p) l s f = Wants p l s f
Wants (replication p) l s f = Wants p l s f
Wants (sum p q) l s f = Wants p l s f ⊎ Wants q l s f
Wants (parallel p q) l s f = Wants p l s f ⊎ Wants q l s f
Wants (send x y p) l s f = (Some s x × Some s y) × (Wants p l s f ⊎ SendWants s x y l f)
Wants (receive x y b p) l s f = Heard s x × (Wants p l s f ⊎ ReceiveWants s x b l f)
Wants (match x y p) l s f = Meets s x y × Wants p l s f
Wants (bracket m p) l s f = Wants p m s f ⊎ BracketWants s m l f

-- what the offers want included, whatever the sets are
abbrev pub OfferWants : List Offer → Sets
OfferWants offers (binder_set b o) = ⊥
OfferWants offers (in_set m c o) = ⊥
OfferWants offers (out_set m c o) = (m ≡ outermost) × IsOffered offers c o

-- what a round wants: what the walk from the root does, and the offers too
abbrev pub Wanted : Plan → Sets → Sets
Wanted p s f = Wants p.tree outermost s f ⊎ OfferWants p.offers f

-- everything that a round wants is there: it adds nothing
abbrev pub Settled : Plan → Sets → Type 0
Settled p s = (f : Fact) → Wanted p s f → s f

-- a round reads every set as it was when the round began, and adds what is wanted all at once
abbrev pub round : Plan → Sets → Sets
round p s f = s f ⊎ Wanted p s f

-- the sets after n rounds: all start empty
abbrev pub after : Plan → ℕ → Sets
after p zero f = ⊥
after p (suc n) f = round p (after p n) f

-- the number of rounds up to and including the first that adds nothing
pub record Count (p : Plan) (n : ℕ) : Type 0 where
  pub earlier : ℕ
  pub is : n ≡ suc earlier
  pub settled : Settled p (after p earlier)
  pub first : (j : ℕ) → j < earlier → Settled p (after p j) → ⊥

-- the most rounds that a plan with this head can take: B·C + 2·(k+2)·C·C + 1
abbrev pub most_rounds : Head → ℕ
most_rounds h = h.binders * h.channels + 2 * (h.top + 2) * h.channels * h.channels + 1

-- no plan takes more rounds than this, which is that of the most channels, binders and levels: 17,409
abbrev pub round_ceiling : ℕ
round_ceiling = most_rounds (record { channels = most_channels; binders = most_binders; top = highest_level; names = 0 })

-- the count exceeds the allowance
abbrev pub Exceeds : Plan → ℕ → Type 0
Exceeds p allowance = (n : ℕ) → Count p n → allowance < n
