-- `put_set`: an empty set has no line; any other has the line that its row's name makes. Assumes nothing.
use mathlib.Core.Path.{◌≡◌, refl, ap₂, sym, subst, ◌∙◌}
use mathlib.Core.Bool.{Bool, false}
use mathlib.Core.List.{List, [], ◌∷◌, ◌++◌}
use mathlib.Core.Logic.{◌⊎◌, inl, inr}
use Prim.Native.Nat.{ℕ, ◌+◌, ◌/◌, ◌%◌}
use denote.Enum.Declared.{tag_of}
use lib.ListN.{get_or}
use Rattle.limits.specs.Limits.{most_channels}
use Rattle.sheet.specs.contracts.rows.Part.{the_type}
use Rattle.sheet.specs.declared.rows.Part.{Part}
use Rattle.sheet.specs.declared.rows.Part.TheVariants.{Binders, Ins, Outs}
use Rattle.sets.specs.Set.{Set, Empty, Decides, set_bytes}
use Rattle.sets.proofs.Minimum.{none_told}
use Rattle.putting.specs.Characters.{hex_line}
use Rattle.putting.specs.Put.{Room}
use Rattle.sheet.specs.inner.Working.{part_name, set_text}
use Rattle.putting.proofs.Putting.{put_none, put_same}
use Rattle.sheet.proofs.Filling.{set_line_lem, set_none}
use Rattle.sheet.proofs.rows.put_set.Goals as goal

-- the line of a set that is not empty, by its row's name and the bytes that stand for the set
module _ (part : Part) (place : ℕ) (set : Set) {empty : Bool} {name bytes : List ℕ}
    (decides : Decides empty (Empty set)) (n : empty ≡ false) (named : part_name part place ≡ name) (stand : bytes ≡ set_bytes set) where
  text_is : set_text part place set ≡ hex_line (name ++ (get_or bytes 0 0 ∷ get_or bytes 1 0 ∷ get_or bytes 2 0 ∷ get_or bytes 3 0 ∷ []))
  text_is =
      set_line_lem (part_name part place) set (none_told _ set decides ∙ n)
      ∙ ap₂ (λ l b. hex_line (l ++ (get_or b 0 0 ∷ get_or b 1 0 ∷ get_or b 2 0 ∷ get_or b 3 0 ∷ []))) named (sym stand)

-- a name begins with its part's number
binder_is : (part : Part) (place : ℕ) → part ≡ Binders → part_name part place ≡ (tag_of the_type part + 0x20) ∷ place ∷ []
binder_is Binders place e = refl
binder_is Ins place e = cc
binder_is Outs place e = cc

level_is : (part : Part) (place : ℕ) → (part ≡ Ins) ⊎ (part ≡ Outs)
    → part_name part place ≡ (tag_of the_type part + 0x20) ∷ place / most_channels ∷ place % most_channels ∷ []
level_is Binders place (inl e) = cc
level_is Binders place (inr e) = cc
level_is Ins place e = refl
level_is Outs place e = refl

pub returns-then-is_empty : goal.returns-then-is_empty
returns-then-is_empty c =
    let a = c.args in
    let none = none_told _ a.set c.is_empty.ensures ∙ c.if-is_empty.true in
    put_same (set_none (part_name a.part a.place) a.set none) (put_none _ _)

pub put_line-requires : goal.put_line-requires
put_line-requires c =
    let name = binder_is _ c.args.place c.in-Binders.is in
    subst (Room _ _) (text_is _ _ _ c.is_empty.ensures c.if-is_empty.false name c.bytes.ensures) c.requires.room

pub put_line-requires-in-Ins : goal.put_line-requires-in-Ins
put_line-requires-in-Ins c =
    let name = level_is _ c.args.place c.in-Ins.is in
    subst (Room _ _) (text_is _ _ _ c.is_empty.ensures c.if-is_empty.false name c.bytes.ensures) c.requires.room

pub returns-in-Binders : goal.returns-in-Binders
returns-in-Binders c =
    let name = binder_is _ c.args.place c.in-Binders.is in
    put_same (text_is _ _ _ c.is_empty.ensures c.if-is_empty.false name c.bytes.ensures) c.put_line.ensures

pub returns-in-Ins : goal.returns-in-Ins
returns-in-Ins c =
    let name = level_is _ c.args.place c.in-Ins.is in
    put_same (text_is _ _ _ c.is_empty.ensures c.if-is_empty.false name c.bytes.ensures) c.put_line-in-Ins.ensures
