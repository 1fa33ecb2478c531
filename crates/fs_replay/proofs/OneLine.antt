-- What is printed for a line has no newline in it but its last.
use Rattle.std.proofs.Common.{◌≡◌, ℕ, ◌<◌, ◌/◌, ◌%◌, Bool, true, false, cond, List, [], ◌∷◌, ◌++◌, refl, ◌∙◌, arith, zero, suc, pos, negsuc}
use Rattle.std.specs.Prelude.{◌==◌, decimal}
use Rattle.std.specs.List.{list_any}
use Rattle.std.specs.Fmt.{digits, digits_onto, digit_glyph}
use Rattle.std.proofs.lemmas.List.Folds.{list_any-append}
use Rattle.std.proofs.lemmas.Bool.Decides.{nat_tests}
use Rattle.json.specs.Print.{quoted, escape, escape_byte}
use Rattle.serde_json.specs.Data.{Num, unsigned, negative, float, Data, null, boolean, number, string, array, object, Items, no_items, item, Members, no_members, member}
use Rattle.serde_json.specs.Written.{compact_text, items_text, members_text, number_text, comma_if}
use Rattle.fs_replay.specs.Lines.{IsOneLine}
use Rattle.fs_replay.specs.Reply.{json_line}

abbrev is_newline : ℕ → Bool
is_newline b = b == 10

abbrev has_newline : List ℕ → Bool
has_newline text = list_any is_newline text

joined : (xs ys : List ℕ) → has_newline xs ≡ false → has_newline ys ≡ false → has_newline (xs ++ ys) ≡ false
joined xs ys p q = list_any-append is_newline xs ys ∙ rw (p, q) refl

escaped_byte : (x : ℕ) → has_newline (escape_byte x) ≡ false
unfolding escape_byte
escaped_byte x = grind (arith, nat_tests)

escaped : (s : List ℕ) → has_newline (escape s) ≡ false
escaped [] = refl
escaped (x ∷ xs) = joined (escape_byte x) (escape xs) (escaped_byte x) (escaped xs)

quoted_text : (s : List ℕ) → has_newline (quoted s) ≡ false
quoted_text s = joined (escape s) (34 ∷ []) (escaped s) refl

glyph : (d : ℕ) → d < 10 → is_newline (digit_glyph false d) ≡ false
glyph d small = grind (arith, nat_tests)

one_of_both : (b : Bool) (xs ys : List ℕ) → has_newline xs ≡ false → has_newline ys ≡ false → has_newline (cond b xs ys) ≡ false
one_of_both true xs ys p q = p
one_of_both false xs ys p q = q

digits_from : (k n : ℕ) (acc : List ℕ) → has_newline acc ≡ false → has_newline (digits_onto k 10 false n acc) ≡ false
digits_from zero n acc h = h
digits_from (suc k) n acc h =
    let more : has_newline (digit_glyph false (n % 10) ∷ acc) ≡ false = rw (glyph (n % 10) (omega arith), h) refl in
    one_of_both (n / 10 == 0) (digit_glyph false (n % 10) ∷ acc) (digits_onto k 10 false (n / 10) (digit_glyph false (n % 10) ∷ acc)) more (digits_from k (n / 10) (digit_glyph false (n % 10) ∷ acc) more)

decimal_text : (n : ℕ) → has_newline (decimal n) ≡ false
unfolding digits
decimal_text n = digits_from 64 n [] refl

numbered : (n : Num) → has_newline (number_text n) ≡ false
numbered (unsigned n) = decimal_text n
numbered (negative (pos n)) = decimal_text n
numbered (negative (negsuc n)) = joined (45 ∷ []) (decimal (suc n)) refl (decimal_text (suc n))
numbered (float x) = refl

comma : (later : Bool) → has_newline (comma_if later) ≡ false
comma true = refl
comma false = refl

mutual
  pub no_newline : (d : Data) → has_newline (compact_text d) ≡ false
  no_newline null = refl
  no_newline (boolean true) = refl
  no_newline (boolean false) = refl
  no_newline (number n) = numbered n
  no_newline (string s) = quoted_text s
  no_newline (array ds) = items_no_newline false ds
  no_newline (object ms) = members_no_newline false ms

  items_no_newline : (later : Bool) (ds : Items) → has_newline (items_text later ds) ≡ false
  items_no_newline later no_items = refl
  items_no_newline later (item d ds) =
      joined (comma_if later) (compact_text d ++ items_text true ds) (comma later)
      (joined (compact_text d) (items_text true ds) (no_newline d) (items_no_newline true ds))

  members_no_newline : (later : Bool) (ms : Members) → has_newline (members_text later ms) ≡ false
  members_no_newline later no_members = refl
  members_no_newline later (member k d ms) =
      joined (comma_if later) (quoted k ++ 58 ∷ (compact_text d ++ members_text true ms)) (comma later)
      (joined (quoted k) (58 ∷ (compact_text d ++ members_text true ms)) (quoted_text k)
      (joined (compact_text d) (members_text true ms) (no_newline d) (members_no_newline true ms)))

pub json_one_line : (d : Data) → IsOneLine (json_line d)
json_one_line d = (compact_text d, refl, no_newline d)
