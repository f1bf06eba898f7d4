-- Free names read from a place, as the code holds them: what the next line says, then the rest, stored behind it and given inside it.
-- Assumes nothing.
use Prim.Native.Nat.{ℕ, zero, suc, ◌+◌, ◌-◌}
use mathlib.Core.Path.{◌≡◌, refl, sym, ap, ◌∙◌}
use mathlib.Core.List.{List}
use native.Mathlib.Numerals.{add-one, sub-one}
use lib.ListN.{set}
use Rattle.std.specs.Prelude.{Result, Ok, Err}
use Rattle.text.specs.Positions.{rest_at}
use Rattle.lines.specs.declared.FreeName.{FreeName}
use Rattle.lines.specs.declared.Head.{Head}
use Rattle.lines.specs.declared.Marker.TheVariants.{Channel}
use Rattle.lines.specs.declared.reasons.Reason.{Reason}
use Rattle.reading.specs.declared.Refusal.{Refusal}
use Rattle.reading.specs.declared.names.Names.{Names}
use Rattle.lines.specs.Frames.{number_of}
use Rattle.lines.specs.Scope.{giving}
use Rattle.lines.specs.Line.{next_name}
use Rattle.lines.specs.Values.{meaning_in}
use Rattle.lines.specs.Promise.{LineWhole}
use Rattle.reading.specs.Plan.{Outcome, Place, onward, refuse, and_then, Named, before, read_names}
use Rattle.reading.specs.inner.Working.{StandsIn, place_at, Past, Gathered, Gathers}
use Rattle.lines.proofs.Promise.{name_whole}
use Rattle.reading.proofs.Growing.{ok_more, onward_past}

-- ---- the names, by what the next line says

module _ (h : Head) (least : ℕ) (place : Place) where
  names_faulty : (many : ℕ) (reason : Reason) → (many ≡ 0 → ⊥) → next_name h least place.left ≡ Err reason → read_names many h least place ≡ refuse place reason
  unfolding read_names
  names_faulty zero reason n e = absurd (n refl)
  names_faulty (suc many) reason n e = rw e

  names_fine : (many : ℕ) (name : FreeName) → (many ≡ 0 → ⊥) → next_name h least place.left ≡ Ok name
      → read_names many h least place ≡ and_then (read_names (many - 1) h (name.name + 1) (onward place)) λ named. Ok (before name named)
  unfolding read_names
  names_fine zero name n e = absurd (n refl)
  names_fine (suc many) name n e = rw (e, sub-one)

-- ---- what `read_names` returns, by what its calls gave

module _ (s : List ℕ) (h : Head) (many least : ℕ) (st : Names) where
  pub names_none : many ≡ 0 → StandsIn s st.cursor → Gathers s st (read_names many h least (place_at s st.cursor)) (Ok st)
  unfolding read_names
  names_none e stands = rw e (record { stands = stands; place = refl; names = refl; scope = refl })

  module _ (more : many ≡ 0 → ⊥) where
    pub names_refused : (reason : Reason) (f : Refusal) → Err reason ≡ next_name h least (rest_at s st.cursor.at)
        → f ≡ record { number = number_of reason; line = st.cursor.line } → Gathers s st (read_names many h least (place_at s st.cursor)) (Err f)
    names_refused reason f bad made = rw (names_faulty h least (place_at s st.cursor) many reason more (sym bad)) (ap Err made)

    module _ (name : FreeName) (good : Ok name ≡ next_name h least (rest_at s st.cursor.at)) where
      pub name_there : LineWhole s st.cursor.at
      name_there = name_whole s st.cursor.at h least name (sym good)

      pub names_on : (next : Names) (r : Result Names Refusal) → Past s st.cursor next.cursor → next.count ≡ st.count + 1
          → next.names ≡ set st.names st.count name
          → meaning_in next.scope ≡ giving name.name (Channel name.channel) (meaning_in st.scope)
          → Gathers s next (read_names (many - 1) h (name.name + 1) (place_at s next.cursor)) r
          → Gathers s st (read_names many h least (place_at s st.cursor)) r
      names_on next r past counted stored given g =
          rw (names_fine h least (place_at s st.cursor) many name more (sym good), onward_past s st.cursor next.cursor name_there.here past)
          (go (read_names (many - 1) h (name.name + 1) (place_at s next.cursor)) g)
        where
          go : (o : Outcome Named) → Gathers s next o r → Gathers s st (and_then o λ named. Ok (before name named)) r
          go (Err f) w = w
          go (Ok n) w = ok_more (Gathered s next n) (Gathered s st (before name n)) (λ x v. record {
            stands = v.stands;
            place = v.place;
            names = v.names ∙ rw (stored, counted, add-one);
            scope = v.scope ∙ rw given;
          }) r w
