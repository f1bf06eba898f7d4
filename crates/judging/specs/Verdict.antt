-- Document 01, 'Verdict': lower, discreet, breach and the first breach. All but the first are over any relation on levels, so that
-- another order of levels can take the place of the numbers'.
-- Assumes nothing.
use Rattle.std.specs.Prelude.{ℕ, ◌<◌, ◌≤◌, ◌≡◌, ◌⊎◌, ◌≢◌}
use Rattle.limits.specs.Limits.{outermost}
use Rattle.solving.specs.Solutions.{Sets, in_set, out_set}
use Rattle.judging.specs.declared.Breach.{Breach}

-- level g is lower than level h: as numbers, among the levels 0 to k. # is comparable to none
pub record Lower (k g h : ℕ) : Type 0 where
  pub top : h ≤ k
  pub below : g < h
  pub low : g ≢ outermost
  pub high : h ≢ outermost

-- out(h, c) and in(g, c) share nothing
abbrev pub ShareNothing : Sets → ℕ → ℕ → ℕ → Type 0
ShareNothing s h g c = (o : ℕ) → s (out_set h c o) → s (in_set g c o) → ⊥

-- a solution is discreet if for all levels h, g with g lower than h, and every channel c, out(h, c) and in(g, c) share nothing
abbrev pub Discreet : (ℕ → ℕ → Type 0) → Sets → Type 0
Discreet lower s = (h g : ℕ) → lower g h → (c : ℕ) → ShareNothing s h g c

-- what a no carries, (h, g, c, o): g is lower than h, and o is in both sets
pub record IsBreach (lower : ℕ → ℕ → Type 0) (s : Sets) (b : Breach) : Type 0 where
  pub below : lower b.lower b.higher
  pub sent : s (out_set b.higher b.channel b.handle)
  pub received : s (in_set b.lower b.channel b.handle)

-- m is smaller than n, or they are the same and the rest decides
abbrev pub InTurn : ℕ → ℕ → Type 0 → Type 0
InTurn m n rest = (m < n) ⊎ ((m ≡ n) × rest)

-- b is d or stands before it: by h, then by g, c and o in turn
abbrev pub NotAfter : Breach → Breach → Type 0
NotAfter b d =
    InTurn b.higher d.higher
    (InTurn b.lower d.lower (InTurn b.channel d.channel (b.handle ≤ d.handle)))

-- the breach that a no carries: the smallest h, then the smallest g, c and o in turn
pub record FirstBreach (lower : ℕ → ℕ → Type 0) (s : Sets) (b : Breach) : Type 0 where
  pub breach : IsBreach lower s b
  pub first : (d : Breach) → IsBreach lower s d → NotAfter b d
