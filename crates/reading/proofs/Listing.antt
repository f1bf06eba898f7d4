-- Nodes in prefix order spell one tree: read from the end, each node takes its branches off a stack of trees. Assumes nothing.
use mathlib.Core.Path.{◌≡◌, refl, sym, ap, ◌∙◌}
use mathlib.Core.List.{List, [], ◌∷◌, ◌++◌, append_assoc}
use Rattle.lines.specs.declared.Node.{Node}
use Rattle.lines.specs.declared.Node.TheVariants.{Nil, Silent, Send, Receive, Sum, Parallel, Restriction, Match, Replication, Bracket}
use Rattle.reading.specs.Tree.{Tree, nil, silent, send, receive, sum, parallel, restriction, match, replication, bracket, listing}

-- the top tree becomes a branch, or the top two do
abbrev on_one : (Tree → Tree) → List Tree → List Tree
on_one f [] = []
on_one f (p ∷ ps) = f p ∷ ps

abbrev on_two : (Tree → Tree → Tree) → List Tree → List Tree
on_two f [] = []
on_two f (p ∷ []) = []
on_two f (p ∷ q ∷ ps) = f p q ∷ ps

abbrev push : Node → List Tree → List Tree
push Nil ps = nil ∷ ps
push Silent ps = on_one silent ps
push (Send x y) ps = on_one (send x y) ps
push (Receive x y b) ps = on_one (receive x y b) ps
push Sum ps = on_two sum ps
push Parallel ps = on_two parallel ps
push (Restriction x c) ps = on_one (restriction x c) ps
push (Match x y) ps = on_one (match x y) ps
push Replication ps = on_one replication ps
push (Bracket l) ps = on_one (bracket l) ps

abbrev stack : List Node → List Tree
stack [] = []
stack (n ∷ ns) = push n (stack ns)

stacked : (p : Tree) (ns : List Node) → stack (listing p ++ ns) ≡ p ∷ stack ns
unfolding listing
stacked nil ns = refl
stacked (silent p) ns = ap (on_one silent) (stacked p ns)
stacked (send x y p) ns = ap (on_one (send x y)) (stacked p ns)
stacked (receive x y b p) ns = ap (on_one (receive x y b)) (stacked p ns)
stacked (sum p q) ns =
    ap (λ l. on_two sum (stack l)) (append_assoc (listing p) (listing q) ns)
    ∙ ap (on_two sum) (stacked p (listing q ++ ns) ∙ ap (λ ps. p ∷ ps) (stacked q ns))
stacked (parallel p q) ns =
    ap (λ l. on_two parallel (stack l)) (append_assoc (listing p) (listing q) ns)
    ∙ ap (on_two parallel) (stacked p (listing q ++ ns) ∙ ap (λ ps. p ∷ ps) (stacked q ns))
stacked (restriction x c p) ns = ap (on_one (restriction x c)) (stacked p ns)
stacked (match x y p) ns = ap (on_one (match x y)) (stacked p ns)
stacked (replication p) ns = ap (on_one replication) (stacked p ns)
stacked (bracket l p) ns = ap (on_one (bracket l)) (stacked p ns)

-- the nodes are the prefix listing of exactly one tree, whatever stands behind them
pub one_tree : (p q : Tree) (ns ms : List Node) → listing p ++ ns ≡ listing q ++ ms → p ≡ q
one_tree p q ns ms e =
    let same : p ∷ stack ns ≡ q ∷ stack ms = sym (stacked p ns) ∙ ap stack e ∙ stacked q ms in
    cc
