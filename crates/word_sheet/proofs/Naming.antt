-- What a thing is called: its number in decimal, its label, which is looked for among others, and the name that is put behind other characters. A name
-- has at most 24 bytes, so that there is room for the whole line. Assumes nothing.
use Prim.Native.Nat.{ℕ, zero, suc, ◌+◌, ◌/◌, ◌%◌, ◌<◌, ◌≤◌}
use mathlib.Core.Bool.{true, false, cond}
use mathlib.Core.Path.{◌≡◌, refl, sym, ap}
use mathlib.Core.List.{List, [], ◌∷◌, ◌++◌, append_assoc}
use native.Mathlib.Decide.{dec_lt}
use native.Mathlib.Omega.{arith}
use borrow.Author.Tests.{lt-ltb, le-ltb}
use lib.ListN.{length, length-append}
use lib.Seq.{length-take-le}
use Rattle.std.specs.List.{find}
use Rattle.std.specs.Option.{option_map, unwrap_or}
use Rattle.std.proofs.Common.{Option, Some, None}
use Rattle.limits.specs.Limits.{longest_short}
use Rattle.label_bytes.specs.Label.{IsShortened}
use Rattle.label_bytes.proofs.Labels.{shortened_same, shortened_short}
use Rattle.lines.specs.declared.label.Label.{Label}
use Rattle.lines.specs.Labels.{bytes_of_label}
use Rattle.putting.specs.Put.{Put}
use Rattle.putting.proofs.Putting.{put_then, put_same}
use Rattle.word_sheet.specs.WordSheet.{digits_of, decimal, is_of, label_for, name_by}
use Rattle.word_sheet.specs.inner.Working.{HasBytes, TwoDigits, longest_word, PutName}

-- ---- decimals

pub one_digit : (n : ℕ) → n < 10 → decimal n ≡ (48 + n) ∷ []
unfolding digits_of
one_digit zero h = refl
one_digit (suc n) h = simp (lt-ltb (suc n) 10 h)

pub two_digits : (n : ℕ) → 10 ≤ n → TwoDigits n → decimal n ≡ (48 + n / 10) ∷ (48 + n % 10) ∷ []
unfolding digits_of
two_digits zero h l = absurd (omega arith)
two_digits (suc zero) h l = absurd (omega arith)
two_digits (suc (suc n)) h l = simp (le-ltb (suc (suc n)) 10 h, lt-ltb (suc (suc n) / 10) 10 (omega arith))

decimal_most : (n : ℕ) → TwoDigits n → length (decimal n) ≤ 2
decimal_most n l = go (dec_lt n 10)
  where
    go : Dec (n < 10) → length (decimal n) ≤ 2
    go (yes h) = omega (arith, ap length (one_digit n h))
    go (no h) = omega (arith, ap length (two_digits n (omega arith) l))

-- ---- a label among others

-- its bytes are those of the first that is of the thing
by_found : (kind number : ℕ) (labels : List Label)
    → label_for kind number labels ≡ unwrap_or (option_map bytes_of_label (find (is_of kind number) labels)) []
unfolding label_for
by_found kind number [] = refl
by_found kind number (label ∷ labels) =
    let bytes = λ (found : Option Label). unwrap_or (option_map bytes_of_label found) [] in
    elim (is_of kind number label)
    as (λ b. cond b (bytes_of_label label) (label_for kind number labels) ≡ bytes (cond b (Some label) (find (is_of kind number) labels)))
    [ true ↦ refl | false ↦ by_found kind number labels ]

-- ---- a name

module _ (word : List ℕ) (number : ℕ) where
  with_label : (bytes short : List ℕ) → 0 < length bytes → IsShortened bytes short → name_by word number bytes ≡ short
  with_label [] short some s = absurd (omega arith)
  with_label (b ∷ bytes) short some s = sym (shortened_same (b ∷ bytes) short s)

  pub name_most : (bytes : List ℕ) → TwoDigits number → length word ≤ longest_word → length (name_by word number bytes) ≤ longest_short
  name_most [] l w = omega (arith, length-append word (decimal number), decimal_most number l)
  name_most (b ∷ bytes) l w = shortened_short (b ∷ bytes)

-- put behind other characters, by the label that is found
module _ {before mid after front : List ℕ} {at next end : ℕ} (word : List ℕ) (kind number : ℕ) (labels : List Label) (l : TwoDigits number)
    (w : length word ≤ longest_word) (p : Put before at front mid next) where
  named : {name : List ℕ} → name_by word number (label_for kind number labels) ≡ name → Put mid next name after end
      → PutName before at front (name_by word number (label_for kind number labels)) after end
  named e q = record {
    put = put_same (ap (λ name. front ++ name) e) (put_then p q);
    most = name_most word number (label_for kind number labels) l w;
  }

  pub named_by_number : {later : List ℕ} {said : ℕ} → None ≡ find (is_of kind number) labels → Put mid next word later said
      → Put later said (decimal number) after end → PutName before at front (name_by word number (label_for kind number labels)) after end
  named_by_number e q r = named (rw (by_found kind number labels, ← e)) (put_then q r)

  pub named_by_label : {label : Label} {short : List ℕ} → HasBytes label → Some label ≡ find (is_of kind number) labels
      → IsShortened (bytes_of_label label) short → Put mid next short after end → PutName before at front (name_by word number (label_for kind number labels)) after end
  named_by_label {label} {short} has e s q =
      let some = length-take-le label.size label.bytes label.sized in
      named (rw (by_found kind number labels, ← e) (with_label word number (bytes_of_label label) short (omega arith) s)) q

-- and something behind it
pub name_then : {before front name mid rest after : List ℕ} {at next end : ℕ} → PutName before at front name mid next → Put mid next rest after end
    → Put before at (front ++ (name ++ rest)) after end
name_then {front} {name} {rest} p q = put_same (sym (append_assoc front name rest)) (put_then p.put q)
