-- The levels and channels are gone through in the order of h, then g, then c. What is known on the way is that nothing goes down at those passed: behind
-- the last the sets are discreet, and at the first where something does, its least handle makes the first breach. Assumes nothing.
use Prim.Native.Nat.{ℕ, ◌+◌, ◌<◌}
use native.Mathlib.Omega.{arith}
use borrow.Author.Count.{below_more}
use Rattle.limits.specs.Limits.{most_channels, levels, place_of}
use Rattle.sets.specs.Set.{Set, Members, Empty, LeastMember}
use Rattle.sets.specs.Rows.{HasAt}
use Rattle.solving.specs.declared.Solution.{Solution}
use Rattle.solving.specs.Solutions.{members_in}
use Rattle.judging.specs.declared.Breach.{Breach}
use Rattle.judging.specs.Verdict.{ShareNothing, Discreet, IsBreach, NotAfter, FirstBreach}
use Rattle.judging.proofs.Order.{in_turn}

module _ (lower : ℕ → ℕ → Type 0) (s : Solution) where
  -- nothing goes down from the levels below h; from h to those of them that are below g; on the channels below c
  abbrev pub QuietFrom : ℕ → Type 0
  QuietFrom h = (j : ℕ) → j < h → (g : ℕ) → lower g j → (c : ℕ) → ShareNothing (members_in s) j g c

  abbrev pub QuietTo : ℕ → ℕ → Type 0
  QuietTo h g = (j : ℕ) → j < g → lower j h → (c : ℕ) → ShareNothing (members_in s) h j c

  abbrev pub QuietOn : ℕ → ℕ → ℕ → Type 0
  QuietOn h g c = (j : ℕ) → j < c → ShareNothing (members_in s) h g j

  -- what level h may send on channel c and level g may receive on it
  abbrev pub Shared : ℕ → ℕ → ℕ → Set → Type 0
  Shared h g c handles = Members handles (λ o. HasAt s.outs (place_of h c) o × HasAt s.ins (place_of g c) o)

  -- ---- one more is passed

  pub on_more : (h g c : ℕ) {handles : Set} → Shared h g c handles → Empty handles → QuietOn h g c → QuietOn h g (c + 1)
  on_more h g c m none quiet = below_more (ShareNothing (members_in s) h g) c quiet (λ o x y. none o ((m.has o).1 (x.2, y.2)))

  pub to_more : (h g : ℕ) → QuietOn h g most_channels → QuietTo h g → QuietTo h (g + 1)
  to_more h g on quiet = below_more _ g quiet (λ l c o x. on c x.1 o x)

  pub to_skip : (h g : ℕ) → (lower g h → ⊥) → QuietTo h g → QuietTo h (g + 1)
  to_skip h g n quiet = below_more _ g quiet (λ l. absurd (n l))

  pub from_more : (h : ℕ) → QuietTo h levels → QuietFrom h → QuietFrom (h + 1)
  from_more h to quiet = below_more _ h quiet (λ g l c o x y. to g y.0 l c o x y)

  -- ---- the end, and the first place where something goes down

  pub all_quiet : QuietFrom levels → Discreet lower (members_in s)
  all_quiet quiet h g l c o x = quiet h x.0 g l c o x

  pub first_breach : (h g c o : ℕ) {handles : Set} → h < levels → g < levels → c < most_channels → Shared h g c handles → lower g h
      → LeastMember handles o → QuietFrom h → QuietTo h g → QuietOn h g c
      → FirstBreach lower (members_in s) (record { higher = h; lower = g; channel = c; handle = o })
  first_breach h g c o h_fits g_fits c_fits m l least from to on = record {
    breach =
        let has = (m.has o).0 least.has in
        record { below = l; sent = (h_fits, c_fits, has.0); received = (g_fits, c_fits, has.1) };
    first = first;
  }
    where
      Is : ℕ → ℕ → ℕ → ℕ → Type 0
      Is h g c o = IsBreach lower (members_in s) (record { higher = h; lower = g; channel = c; handle = o })

      first : (d : Breach) → IsBreach lower (members_in s) d → NotAfter (record { higher = h; lower = g; channel = c; handle = o }) d
      first d w =
          in_turn (λ n. Is n d.lower d.channel d.handle) w (λ j. from d.higher j d.lower w.below d.channel d.handle w.sent w.received) λ x.
          in_turn (λ n. Is h n d.channel d.handle) x (λ j. to d.lower j x.below d.channel d.handle x.sent x.received) λ y.
          in_turn (λ n. Is h g n d.handle) y (λ j. on d.channel j d.handle y.sent y.received) λ z.
          let smaller : d.handle < o → ⊥ = λ j. least.least d.handle j ((m.has d.handle).1 (z.sent.2, z.received.2)) in
          omega arith
