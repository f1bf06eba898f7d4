-- A verdict's bytes tell which verdict it is. So discreet sets are judged yes, sets with a first breach are judged no with it, and all sets
-- in one way only. Assumes nothing.
use Prim.Native.Nat.{ℕ}
use mathlib.Core.Path.{◌≡◌, refl, sym, ap, subst}
use Rattle.solving.specs.Solutions.{Sets}
use Rattle.judging.specs.declared.Breach.{Breach}
use Rattle.judging.specs.declared.Verdict.{Verdict}
use Rattle.judging.specs.declared.Verdict.TheVariants.{Unjudged, Yes, No}
use Rattle.judging.specs.Verdict.{Discreet, IsBreach, FirstBreach}
use Rattle.judging.specs.Judge.{yes_bytes, no_bytes, verdict_bytes, VerdictOn}
use Rattle.judging.proofs.Order.{same_breach, first_once}

pub yes_not_no : (b : Breach) → yes_bytes ≡ no_bytes b → ⊥
yes_not_no b e = cc

no_bytes_once : (b d : Breach) → no_bytes b ≡ no_bytes d → b ≡ d
no_bytes_once b d e = same_breach (cc) (cc) (cc) (cc)

-- a verdict is known by its bytes
pub verdict_once : (v w : Verdict) → verdict_bytes v ≡ verdict_bytes w → v ≡ w
verdict_once Unjudged Unjudged e = refl
verdict_once Unjudged Yes e = cc
verdict_once Unjudged (No d) e = cc
verdict_once Yes Unjudged e = cc
verdict_once Yes Yes e = refl
verdict_once Yes (No d) e = cc
verdict_once (No b) Unjudged e = cc
verdict_once (No b) Yes e = cc
verdict_once (No b) (No d) e = ap No (no_bytes_once b d e)

module _ {lower : ℕ → ℕ → Type 0} {s : Sets} where
  breach_not_discreet : (b : Breach) → IsBreach lower s b → Discreet lower s → ⊥
  breach_not_discreet b w d = d b.higher b.lower w.below b.channel b.handle w.sent w.received

  pub discreet_yes : Discreet lower s → VerdictOn lower s Yes
  discreet_yes d = record {
    given = λ e. cc;
    clear = (λ e. d, λ w. refl);
    breach = λ b. (λ e. cc, λ f. absurd (breach_not_discreet b f.breach d));
  }

  pub breach_no : (b : Breach) → FirstBreach lower s b → VerdictOn lower s (No b)
  breach_no b f = record {
    given = λ e. cc;
    clear = (λ e. cc, λ d. absurd (breach_not_discreet b f.breach d));
    breach = λ d. (λ e. subst (FirstBreach lower s) (no_bytes_once b d e) f, λ g. ap no_bytes (first_once f g));
  }

  pub verdict_on_once : (v w : Verdict) → VerdictOn lower s v → VerdictOn lower s w → v ≡ w
  verdict_on_once Unjudged w x y = absurd (x.given refl)
  verdict_on_once Yes w x y = verdict_once Yes w (sym (y.clear.1 (x.clear.0 refl)))
  verdict_on_once (No b) w x y = verdict_once (No b) w (sym ((y.breach b).1 ((x.breach b).0 refl)))
