-- The readers keep the limits: free names, offers and trees end in a refusal that is in order, or in something within the limits,
-- with room for it, in whose scope every marker is given.
-- Assumes nothing.
use Prim.Native.Nat.{ℕ, zero, suc, ◌+◌, ◌≤◌, ◌<◌, max}
use mathlib.Core.Path.{◌≡◌, refl, ap}
use mathlib.Core.List.{List, [], ◌∷◌, ◌++◌}
use native.Mathlib.Omega.{arith}
use Rattle.std.specs.Prelude.{Option, Some, None, Ok, Err}
use lib.ListN.{length, length-append}
use Rattle.lines.specs.declared.FreeName.{FreeName}
use Rattle.lines.specs.declared.Head.{Head}
use Rattle.lines.specs.declared.Marker.{Marker}
use Rattle.lines.specs.declared.Marker.TheVariants.{Channel, Binder}
use Rattle.lines.specs.declared.Node.{Node}
use Rattle.lines.specs.declared.Offer.{Offer}
use Rattle.lines.specs.declared.Node.TheVariants.{Nil, Silent, Send, Receive, Sum, Parallel, Restriction, Match, Replication, Bracket}
use Rattle.limits.specs.Limits.{most_nodes}
use Rattle.text.specs.Text.{Line, rest}
use Rattle.lines.specs.Frames.{Judged}
use Rattle.lines.specs.Scope.{Scope, giving, naming, inside}
use Rattle.lines.specs.Line.{next_name, next_offer, next_node}
use Rattle.lines.specs.Promise.{OfReading, Gives, OnLine, NameWithin, OfferWithin, NextWithin, NodeWithin, enclosed, ScopeWithin, NodeGood, NodeNext}
use Rattle.lines.proofs.Promise.{name_given, offer_given, node_given, giving_within, inside_within}
use Rattle.reading.specs.declared.Refusal.{Refusal}
use Rattle.reading.specs.Tree.{Tree, silent, send, receive, sum, parallel, restriction, match, replication, bracket, listing, depth}
use Rattle.reading.specs.Plan.{Outcome, Place, onward, judged, and_then, read_names, Offered, offers_from, read_offers, Grown, Reader, one, two, grow, read_tree}
use Rattle.reading.specs.Promise.{NamesWithin, OffersWithin, EachWithin, Scoped, given_by}

-- ---- what reading ends in, where lines are numbered up to m

pub record InOrder (m : ℕ) (f : Refusal) : Type 0 where
  pub number : OfReading f.number
  pub line : f.line ≤ m

-- the lines that are left have numbers up to m
abbrev pub Numbered : ℕ → Place → Type 0
Numbered m place = place.line + length place.left ≤ m

abbrev pub Ends : {A : Type 0} → ℕ → (A → Type 0) → Outcome A → Type 0
Ends m P (Err f) = InOrder m f
Ends m P (Ok a) = P a

pub ends_then : {A B : Type 0} (m : ℕ) (P : A → Type 0) (Q : B → Type 0) (o : Outcome A) (go_on : A → Outcome B)
    → Ends m P o → ((a : A) → P a → Ends m Q (go_on a)) → Ends m Q (and_then o go_on)
ends_then m P Q (Err f) go_on h k = h
ends_then m P Q (Ok a) go_on h k = k a h

pub ends_judged : {A B : Type 0} (m : ℕ) (P : A → Type 0) (Q : B → Type 0) (place : Place) (j : Judged A) (go_on : A → Outcome B)
    → Numbered m place → Gives P j → ((a : A) → P a → Ends m Q (go_on a)) → Ends m Q (judged place j go_on)
ends_judged m P Q place (Err reason) go_on numbered h k = record { number = h; line = omega arith }
ends_judged m P Q place (Ok a) go_on numbered h k = k a h

pub numbered_on : (m : ℕ) (place : Place) → 0 < length place.left → Numbered m place → Numbered m (onward place)
numbered_on m place some numbered = go place.left some numbered
  where
    go : (ls : List Line) → 0 < length ls → place.line + length ls ≤ m → place.line + 1 + length (rest ls) ≤ m
    go [] some n = absurd (omega arith)
    go (l ∷ ls) some n = omega arith

-- ---- the free names

pub names_within : (m : ℕ) (h : Head) (many least : ℕ) (place : Place) → Numbered m place
    → Ends m (λ n. (length n.names ≡ many) × NamesWithin h least n.names × Numbered m n.after) (read_names many h least place)
unfolding read_names
names_within m h zero least place numbered = (refl, tt, numbered)
names_within m h (suc many) least place numbered =
    ends_judged m (OnLine place.left (NameWithin h least)) _ place (next_name h least place.left) _ numbered (name_given place.left h least)
    (λ f w. ends_then m (λ n. (length n.names ≡ many) × NamesWithin h (f.name + 1) n.names × Numbered m n.after) _
    (read_names many h (f.name + 1) (onward place)) _
    (names_within m h many (f.name + 1) (onward place) (numbered_on m place w.1 numbered))
    (λ n g. (ap suc g.0, (w.0, g.1), g.2)))

-- ---- the offers

module _ (m : ℕ) (h : Head) where
  abbrev pub OffersGood : ℕ → Offered → Type 0
  OffersGood least o = OffersWithin h least o.offers × Numbered m o.after

  from_within : (least : ℕ) (place : Place) (behind : Offer → Outcome Offered) → Numbered m place
      → ((offer : Offer) → OfferWithin h least offer → Ends m (OffersGood (offer.channel + 1)) (behind offer))
      → (next : Option Offer) → NextWithin (OfferWithin h least) next → Ends m (OffersGood least) (offers_from place behind next)
  from_within least place behind numbered good (Some offer) w =
      ends_then m (OffersGood (offer.channel + 1)) (OffersGood least) (behind offer) _ (good offer w) (λ o g. ((w, g.0), g.1))
  from_within least place behind numbered good None w = (tt, numbered)

  pub offers_within : (least line : ℕ) (left : List Line) → line + length left ≤ m → Ends m (OffersGood least) (read_offers h least line left)
  unfolding read_offers
  offers_within least line [] numbered = record { number = omega arith; line = omega arith }
  offers_within least line (l ∷ ls) numbered =
      let place : Place = record { line = line; left = l ∷ ls } in
      ends_judged m (OnLine (l ∷ ls) (NextWithin (OfferWithin h least))) (OffersGood least) place (next_offer h least (l ∷ ls)) _ numbered (offer_given (l ∷ ls) h least)
      (λ next w. from_within least place _ numbered
      (λ offer good. offers_within (offer.channel + 1) (line + 1) ls (omega arith)) next w.0)

-- ---- the scope

pub naming_within : (h : Head) (given : List Marker) (scope : Scope) (least : ℕ) (fs : List FreeName)
    → ScopeWithin h given scope → NamesWithin h least fs → ScopeWithin h (given_by fs given) (naming scope fs)
naming_within h given scope least [] within w = within
naming_within h given scope least (f ∷ fs) within w =
    naming_within h (Channel f.channel ∷ given) (giving f.name (Channel f.channel) scope) (f.name + 1) fs
    (giving_within h given scope f.name (Channel f.channel) within w.0.2) w.1

-- ---- the tree

each_append : (h : Head) (xs ys : List Node) → EachWithin h xs → EachWithin h ys → EachWithin h (xs ++ ys)
each_append h [] ys a b = b
each_append h (x ∷ xs) ys a b = (a.0, each_append h xs ys a.1 b)

pub record TreeGood (m : ℕ) (h : Head) (given : List Marker) (d count : ℕ) (g : Grown) : Type 0 where
  pub nodes : EachWithin h (listing g.tree)
  pub few : count + length (listing g.tree) ≤ most_nodes
  pub shallow : depth g.tree ≤ d
  pub scoped : Scoped given g.tree
  pub numbered : Numbered m g.after

module _ (m : ℕ) (h : Head) (given inner : List Marker) (d count : ℕ) (node : Node) (branch : Reader)
    (w : NodeWithin h node)
    (good : (n : ℕ) (place : Place) → Numbered m place → Ends m (TreeGood m h inner d n) (branch n place)) where
  one_good : (f : Tree → Tree) → ((p : Tree) → listing (f p) ≡ node ∷ listing p) → ((p : Tree) → depth (f p) ≡ suc (depth p))
      → ((p : Tree) → Scoped inner p → Scoped given (f p)) → (place : Place) → Numbered m place
      → Ends m (TreeGood m h given (suc d) count) (one f branch (count + 1) place)
  one_good f listed deep scoped place numbered =
      ends_then m (TreeGood m h inner d (count + 1)) (TreeGood m h given (suc d) count) (branch (count + 1) place) _ (good (count + 1) place numbered)
      (λ g t. record {
        nodes = rw listed (w, t.nodes);
        few = rw listed (let room = t.few in omega arith);
        shallow = rw deep (let room = t.shallow in omega arith);
        scoped = scoped g.tree t.scoped;
        numbered = t.numbered;
      })

  two_good : (f : Tree → Tree → Tree) → ((p q : Tree) → listing (f p q) ≡ node ∷ (listing p ++ listing q)) → ((p q : Tree) → depth (f p q) ≡ suc (max (depth p) (depth q)))
      → ((p q : Tree) → Scoped inner p → Scoped inner q → Scoped given (f p q)) → (place : Place) → Numbered m place
      → Ends m (TreeGood m h given (suc d) count) (two f branch (count + 1) place)
  two_good f listed deep scoped place numbered =
      ends_then m (TreeGood m h inner d (count + 1)) (TreeGood m h given (suc d) count) (branch (count + 1) place) _ (good (count + 1) place numbered)
      (λ g t. ends_then m (TreeGood m h inner d ((count + 1) + length (listing g.tree))) (TreeGood m h given (suc d) count)
      (branch ((count + 1) + length (listing g.tree)) g.after) _ (good _ g.after t.numbered)
      (λ k u. record {
        nodes = rw listed (w, each_append h (listing g.tree) (listing k.tree) t.nodes u.nodes);
        few = rw (listed, length-append (listing g.tree) (listing k.tree)) (let room = u.few in omega arith);
        shallow = rw deep (let a = t.shallow in let b = u.shallow in omega arith);
        scoped = scoped g.tree k.tree t.scoped u.scoped;
        numbered = u.numbered;
      }))

grow_within : (m : ℕ) (h : Head) (given : List Marker) (d count : ℕ) (node : Node) (branch : Reader) (place : Place)
    → NodeGood h given node → count < most_nodes → Numbered m place
    → ((n : ℕ) (place : Place) → Numbered m place → Ends m (TreeGood m h (enclosed node given) d n) (branch n place))
    → Ends m (TreeGood m h given (suc d) count) (grow node branch (count + 1) place)
unfolding grow listing depth
grow_within m h given d count Nil branch place w room numbered good =
    record { nodes = (tt, tt); few = omega arith; shallow = omega arith; scoped = tt; numbered = numbered }
grow_within m h given d count Silent branch place w room numbered good =
    one_good m h given given d count Silent branch w.0 good silent (λ p. refl) (λ p. refl) (λ p s. s) place numbered
grow_within m h given d count (Send x y) branch place w room numbered good =
    one_good m h given given d count (Send x y) branch w.0 good (send x y) (λ p. refl) (λ p. refl) (λ p s. (w.1.0, w.1.1, s)) place numbered
grow_within m h given d count (Receive x y b) branch place w room numbered good =
    one_good m h given (Binder b ∷ given) d count (Receive x y b) branch w.0 good (receive x y b) (λ p. refl) (λ p. refl) (λ p s. (w.1, s)) place numbered
grow_within m h given d count Sum branch place w room numbered good =
    two_good m h given given d count Sum branch w.0 good sum (λ p q. refl) (λ p q. refl) (λ p q s t. (s, t)) place numbered
grow_within m h given d count Parallel branch place w room numbered good =
    two_good m h given given d count Parallel branch w.0 good parallel (λ p q. refl) (λ p q. refl) (λ p q s t. (s, t)) place numbered
grow_within m h given d count (Restriction x c) branch place w room numbered good =
    one_good m h given (Channel c ∷ given) d count (Restriction x c) branch w.0 good (restriction x c) (λ p. refl) (λ p. refl) (λ p s. s) place numbered
grow_within m h given d count (Match x y) branch place w room numbered good =
    one_good m h given given d count (Match x y) branch w.0 good (match x y) (λ p. refl) (λ p. refl) (λ p s. (w.1.0, w.1.1, s)) place numbered
grow_within m h given d count Replication branch place w room numbered good =
    one_good m h given given d count Replication branch w.0 good replication (λ p. refl) (λ p. refl) (λ p s. s) place numbered
grow_within m h given d count (Bracket l) branch place w room numbered good =
    one_good m h given given d count (Bracket l) branch w.0 good (bracket l) (λ p. refl) (λ p. refl) (λ p s. s) place numbered

pub tree_within : (m : ℕ) (h : Head) (given : List Marker) (d : ℕ) (scope : Scope) (count : ℕ) (place : Place)
    → ScopeWithin h given scope → Numbered m place → Ends m (TreeGood m h given d count) (read_tree d h scope count place)
unfolding read_tree
tree_within m h given zero scope count place within numbered =
    ends_judged m (OnLine place.left (NodeNext h given count)) (TreeGood m h given zero count) place (next_node zero h scope count place.left) _ numbered
    (node_given place.left h given scope zero count within)
    (λ n w. record { number = omega arith; line = omega arith })
tree_within m h given (suc d) scope count place within numbered =
    ends_judged m (OnLine place.left (NodeNext h given count)) (TreeGood m h given (suc d) count) place (next_node (suc d) h scope count place.left) _ numbered
    (node_given place.left h given scope (suc d) count within)
    (λ n w. grow_within m h given d count n (read_tree d h (inside n scope)) (onward place) w.0.0 w.0.1 (numbered_on m place w.1 numbered)
    (λ k p q. tree_within m h (enclosed n given) d (inside n scope) k p (inside_within h given scope n within w.0.0.0) q))
