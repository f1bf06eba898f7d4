-- What a clause and the offers want, from what the parts of the code promise: what is joined to the table is just that. Sends, matches and brackets are
-- found by search. Assumes nothing.
use Prim.Native.Nat.{ℕ, ◌+◌, ◌-◌, ◌<◌}
use mathlib.Core.Path.{◌≡◌}
use mathlib.Core.List.{List}
use mathlib.Core.Logic.{◌↔◌, ◌⊎◌, inl, inr, ⊎_elim}
use native.Mathlib.Omega.{arith}
use borrow.Author.Rules.{rules}
use Rattle.limits.specs.Limits.{most_channels, most_binders, outermost, levels}
use Rattle.sets.specs.Set.{Has, Members, Narrow}
use Rattle.sets.specs.Rows.{SetRow, Joins, Only, Over, From, Together}
use Rattle.lines.specs.declared.Head.{Head}
use Rattle.lines.specs.declared.Marker.{Marker}
use Rattle.lines.specs.declared.Offer.{Offer}
use Rattle.lines.specs.Promise.{HeadWithin}
use Rattle.solving.specs.Solutions.{Fact, binder_set, in_set, out_set, Sets, SetOf, Level}
use Rattle.solving.specs.Clauses.{Heard}
use Rattle.solving.specs.Rounds.{ReceiveWants, OfferWants}
use Rattle.solving.specs.inner.Table.{ins_at, outs_at, in_table, SentOn, Sounding, Adds}
use Rattle.solving.proofs.OfferRows.{RowOf}
use Rattle.solving.proofs.Tables.{adds_both}

-- ---- levels

pub level_fits : (h : Head) (l : ℕ) → HeadWithin h → Level h l → l < levels
level_fits h l f (inl a) = let k = f.top in omega arith
level_fits h l f (inr e) = omega arith

-- ---- receive

pub sounding_heard : (old : SetRow) (x : Marker) (a : ℕ) → Narrow most_channels a → Members a (SetOf (in_table old) x)
    → Sounding old (Has a) ↔ Heard (in_table old) x
sounding_heard old x a narrow ma = (
  (λ w. let c = w.1.2 in (c.0, (ma.has c.0).0 c.1, (w.1.0, w.0, (w.1.1, narrow c.0 c.1, c.2)))),
  (λ w. let h = w.2.2 in (w.2.1, (w.2.0, h.0, (w.0, (ma.has w.0).1 w.1, h.2)))),
)

-- what is joined to in sets of a level, of channels of a, where Q names the members
abbrev InsOf : ℕ → ℕ → (ℕ → ℕ → Type 0) → Sets
InsOf l a Q (binder_set d o) = ⊥
InsOf l a Q (in_set m c o) = (m ≡ l) × Has a c × Q c o
InsOf l a Q (out_set m c o) = ⊥

ins_joined : (t i : SetRow) (l a : ℕ) (Q : ℕ → ℕ → Type 0) → l < levels → Narrow most_channels a
    → Joins t i (Over (ins_at l) (Has a) Q) → Adds t i (InsOf l a Q)
ins_joined t i l a Q level narrow js = record { adds = go }
  where
    go : (f : Fact) → in_table i f ↔ (in_table t f ⊎ InsOf l a Q f)
    go (binder_set d o) = search rules
    go (in_set m c o) =
        let e = js.joins (ins_at m + c) o in
        let there : m ≡ l → ins_at m + c - ins_at l ≡ c = λ q. omega arith in (
          (λ h. ⊎_elim (λ z. inl (h.0, h.1, z)) (λ w. inr (
              let near = narrow _ w.1 in
              let same : m ≡ l = omega (arith, h.1) in
              (same, rw (← there same) w.1, rw (← there same) w.2))) (e.0 h.2)),
          ⊎_elim (λ h. (h.0, h.1, e.1 (inl h.2))) (λ w.
              let same = w.0 in
              (omega arith, narrow c w.1, e.1 (inr (omega arith, rw (there same) w.1, rw (there same) w.2)))),
        )
    go (out_set m c o) = search rules

-- what a receive's clause wants included in its binder's set
abbrev ReceiveBinder : Sets → Marker → ℕ → ℕ → Sets
ReceiveBinder s x b l (binder_set d o) = (d ≡ b) × ((c : ℕ) × SetOf s x c × s (in_set l c o))
ReceiveBinder s x b l (in_set m c o) = ⊥
ReceiveBinder s x b l (out_set m c o) = ⊥

binder_joined : (old i r : SetRow) (x : Marker) (b l a what start : ℕ) → l < levels → b < most_binders → Narrow most_channels a
    → Members a (SetOf (in_table old) x)
    → start ≡ ins_at l → Members what (Together old start (Has a)) → Joins i r (Only b what)
    → Adds i r (ReceiveBinder (in_table old) x b l)
binder_joined old i r x b l a what start level binder narrow ma from united bound = record { adds = go }
  where
    go : (f : Fact) → in_table r f ↔ (in_table i f ⊎ ReceiveBinder (in_table old) x b l f)
    go (binder_set d o) =
        let e = bound.joins d o in
        let k = united.has o in (
          (λ h. ⊎_elim (λ z. inl (h.0, z)) (λ w. inr (w.0, let u = k.0 w.1 in (u.0, (ma.has u.0).0 u.1, (level, narrow u.0 u.1, rw from at u.2)))) (e.0 h.1)),
          ⊎_elim (λ h. (h.0, e.1 (inl h.1))) (λ w.
              let u = w.1 in (rw w.0 binder, e.1 (inr (w.0, k.1 (u.0, (ma.has u.0).1 u.1, rw from u.2.2))))),
        )
    go (in_set m c o) = search rules
    go (out_set m c o) = search rules

pub receive_adds : (old t i r : SetRow) (x : Marker) (b l a what start : ℕ) → l < levels → b < most_binders → Narrow most_channels a
    → Members a (SetOf (in_table old) x) → Joins t i (Over (ins_at l) (Has a) (SentOn old levels))
    → start ≡ ins_at l → Members what (Together old start (Has a)) → Joins i r (Only b what)
    → Adds t r (ReceiveWants (in_table old) x b l)
receive_adds old t i r x b l a what start level binder narrow ma js from united bound =
    adds_both (ins_joined t i l a (SentOn old levels) level narrow js) (binder_joined old i r x b l a what start level binder narrow ma from united bound) split
  where
    split : (f : Fact) → ReceiveWants (in_table old) x b l f ↔ (InsOf l a (SentOn old levels) f ⊎ ReceiveBinder (in_table old) x b l f)
    split (binder_set d o) = (inr, ⊎_elim absurd (λ w. w))
    split (in_set m c o) = (
      (λ w. let n = (ma.has c).1 w.1 in let s = w.2 in inl (w.0, n, (s.0, s.1.0, s.1.2))),
      ⊎_elim (λ w. let s = w.2 in (w.0, (ma.has c).0 w.1, (s.0, (s.1, narrow c w.1, s.2)))) absurd,
    )
    split (out_set m c o) = (absurd, ⊎_elim absurd absurd)

-- ---- the offers

pub offers_add : (every : ℕ) → Members every (λ c. c < most_channels) → (row t r : SetRow) (offers : List Offer) (base : ℕ) → RowOf offers row
    → base ≡ outs_at outermost → Joins t r (Over base (Has every) (From row 0)) → Adds t r (OfferWants offers)
offers_add every all row t r offers base is at joined = record { adds = go }
  where
    go : (f : Fact) → in_table r f ↔ (in_table t f ⊎ OfferWants offers f)
    go (binder_set d o) = search rules
    go (in_set m c o) = search rules
    go (out_set m c o) = search (rules, is.holds, is.short)
