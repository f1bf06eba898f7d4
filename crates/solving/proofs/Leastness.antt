-- The first round that adds nothing gives the least acceptable solution: every round stays within every acceptable one,
-- and where nothing is added the sets are acceptable. The least is unique, and so is the count. Assumes nothing.
use Prim.Native.Nat.{ℕ, zero, suc, ◌<◌}
use mathlib.Core.Path.{◌≡◌}
use mathlib.Core.Logic.{◌↔◌, ⊎_elim}
use native.Mathlib.Omega.{arith}
use native.Mathlib.Decide.{dec_lt}
use Rattle.reading.specs.Plan.{Plan}
use Rattle.solving.specs.Solutions.{Fact, Sets, Contained}
use Rattle.solving.specs.Clauses.{Acceptable}
use Rattle.solving.specs.Rounds.{after, Settled, Count, Exceeds}
use Rattle.solving.specs.Least.{Least}
use Rattle.solving.proofs.Acceptance.{acceptable_iff, wanted_grows}

pub after_contained : (p : Plan) (t : Sets) → Acceptable p t → (n : ℕ) → Contained (after p n) t
after_contained p t a zero f h = absurd h
after_contained p t a (suc n) f h =
    ⊎_elim (after_contained p t a n f)
    (λ w. (acceptable_iff p t).0 a f (wanted_grows (after p n) t (after_contained p t a n) p f w)) h

pub first_quiet_round_least : (p : Plan) (n : ℕ) → Settled p (after p n) → Least p (after p n)
first_quiet_round_least p n i = record {
  acceptable = (acceptable_iff p (after p n)).1 i;
  least = λ t a. after_contained p t a n;
}

pub count_least : (p : Plan) (n : ℕ) (c : Count p n) → Least p (after p c.earlier)
count_least p n c = first_quiet_round_least p c.earlier c.settled

pub least_unique : (p : Plan) (s t : Sets) → Least p s → Least p t → (f : Fact) → s f ↔ t f
least_unique p s t a b f = (a.least t b.acceptable f, b.least s a.acceptable f)

-- a solution with just the same members is as acceptable, and as least
pub acceptable_same : (p : Plan) (s t : Sets) → ((f : Fact) → s f ↔ t f) → Acceptable p s → Acceptable p t
acceptable_same p s t e a = (acceptable_iff p t).1
    (λ f w. (e f).0 ((acceptable_iff p s).0 a f (wanted_grows t s (λ g. (e g).1) p f w)))

pub least_same : (p : Plan) (s t : Sets) → ((f : Fact) → s f ↔ t f) → Least p s → Least p t
least_same p s t e a = record {
  acceptable = acceptable_same p s t e a.acceptable;
  least = λ u b f h. a.least u b f ((e f).1 h);
}

pub count_unique : (p : Plan) (m n : ℕ) → Count p m → Count p n → m ≡ n
count_unique p m n a b = go (dec_lt a.earlier b.earlier) (dec_lt b.earlier a.earlier)
  where
    go : Dec (a.earlier < b.earlier) → Dec (b.earlier < a.earlier) → m ≡ n
    go (yes h) e = absurd (b.first a.earlier h a.settled)
    go (no h) (yes k) = absurd (a.first b.earlier k b.settled)
    go (no h) (no k) = let x = a.is in let y = b.is in omega arith

-- the count is above a number of rounds of which none was the last
pub busy_exceeds : (p : Plan) (allowance : ℕ) → ((j : ℕ) → j < allowance → Settled p (after p j) → ⊥) → Exceeds p allowance
busy_exceeds p allowance busy n c = go (dec_lt c.earlier allowance)
  where
    go : Dec (c.earlier < allowance) → allowance < n
    go (yes q) = absurd (busy c.earlier q c.settled)
    go (no q) = let e = c.is in omega arith
