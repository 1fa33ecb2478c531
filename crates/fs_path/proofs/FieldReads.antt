-- What the reader of field paths reads is what they are, and so what holds of it holds of them.
use Rattle.std.proofs.Common.{◌≡◌, ℕ, ◌+◌, ◌<◌, Bool, true, false, cond, ◌||◌, eqb, Some, None, Result, Ok, Err, List, [], ◌∷◌, ◌++◌, length, refl, ◌∙◌}
use Rattle.std.specs.Option.{option_map}
use Rattle.fs_path.specs.declared.error.PathError.{PathError}
use Rattle.fs_path.specs.declared.error.PathError.TheVariants.{BadQuote}
use Rattle.fs_path.specs.declared.stage.Stage.{Stage}
use Rattle.fs_path.specs.declared.stage.Stage.TheVariants.{Opening, Simple, Quoted, Escaped, Closed}
use Rattle.fs_path.specs.FieldName.{is_name_start, is_name_byte}
use Rattle.fs_path.specs.Field.{at_name, in_simple, in_quotes, behind_backslash, behind_quotes, field_of, field_text, IsFieldText}
use Rattle.fs_path.specs.FieldReader.{Reading, moved, goes_on, field_from, read_of}
use Rattle.fs_path.proofs.Fields.{read_only, read_again}

abbrev reading : Stage → List (List ℕ) → List ℕ → Reading
reading stage names name = record { stage = stage; names = names; name = name }

-- where one of two bytes goes on, or where one does
two : (r : Reading) (b at : ℕ) (bs : List ℕ) (p q : Stage) (t s : Bool) (x y : Result (List (List ℕ)) PathError) → x ≡ field_from (moved r b p) (at + 1) bs → y ≡ field_from (moved r b q) (at + 1) bs
    → cond t x (cond s y (Err (BadQuote at))) ≡ goes_on (option_map (moved r b) (cond t (Some p) (cond s (Some q) None))) at (λ next. field_from next (at + 1) bs)
two r b at bs p q true s x y h k = h
two r b at bs p q false true x y h k = k
two r b at bs p q false false x y h k = refl

one : (r : Reading) (b at : ℕ) (bs : List ℕ) (p : Stage) (t : Bool) (x : Result (List (List ℕ)) PathError) → x ≡ field_from (moved r b p) (at + 1) bs → cond t x (Err (BadQuote at)) ≡ goes_on (option_map (moved r b) (cond t (Some p) None)) at (λ next. field_from next (at + 1) bs)
one r b at bs p true x h = h
one r b at bs p false x h = refl

three : (r : Reading) (b at : ℕ) (bs : List ℕ) (p q u : Stage) (t s : Bool) (x y z : Result (List (List ℕ)) PathError) → x ≡ field_from (moved r b p) (at + 1) bs → y ≡ field_from (moved r b q) (at + 1) bs → z ≡ field_from (moved r b u) (at + 1) bs
    → cond t x (cond s y z) ≡ goes_on (option_map (moved r b) (cond t (Some p) (cond s (Some q) (Some u)))) at (λ next. field_from next (at + 1) bs)
three r b at bs p q u true s x y z h k l = h
three r b at bs p q u false true x y z h k l = k
three r b at bs p q u false false x y z h k l = l

mutual
  at_name_is : (names : List (List ℕ)) (at : ℕ) (text : List ℕ) → at_name names at text ≡ field_from (reading Opening names []) at text
  at_name_is names at [] = refl
  at_name_is names at (b ∷ bs) =
      two (reading Opening names []) b at bs Quoted Simple (eqb b 96) (is_name_start b) (in_quotes names [] (at + 1) bs) (in_simple names (b ∷ []) (at + 1) bs)
      (in_quotes_is names [] (at + 1) bs) (in_simple_is names (b ∷ []) (at + 1) bs)

  in_simple_is : (names : List (List ℕ)) (name : List ℕ) (at : ℕ) (text : List ℕ) → in_simple names name at text ≡ field_from (reading Simple names name) at text
  in_simple_is names name at [] = refl
  in_simple_is names name at (b ∷ bs) =
      two (reading Simple names name) b at bs Opening Simple (eqb b 46) (is_name_byte b) (at_name (names ++ name ∷ []) (at + 1) bs) (in_simple names (name ++ b ∷ []) (at + 1) bs)
      (at_name_is (names ++ name ∷ []) (at + 1) bs) (in_simple_is names (name ++ b ∷ []) (at + 1) bs)

  in_quotes_is : (names : List (List ℕ)) (name : List ℕ) (at : ℕ) (text : List ℕ) → in_quotes names name at text ≡ field_from (reading Quoted names name) at text
  in_quotes_is names name at [] = refl
  in_quotes_is names name at (b ∷ bs) =
      three (reading Quoted names name) b at bs Closed Escaped Quoted (eqb b 96) (eqb b 92) (behind_quotes names name (at + 1) bs) (behind_backslash names name (at + 1) bs) (in_quotes names (name ++ b ∷ []) (at + 1) bs)
      (behind_quotes_is names name (at + 1) bs) (behind_backslash_is names name (at + 1) bs) (in_quotes_is names (name ++ b ∷ []) (at + 1) bs)

  behind_backslash_is : (names : List (List ℕ)) (name : List ℕ) (at : ℕ) (text : List ℕ) → behind_backslash names name at text ≡ field_from (reading Escaped names name) at text
  behind_backslash_is names name at [] = refl
  behind_backslash_is names name at (b ∷ bs) =
      one (reading Escaped names name) b at bs Quoted (eqb b 96 || eqb b 92) (in_quotes names (name ++ b ∷ []) (at + 1) bs) (in_quotes_is names (name ++ b ∷ []) (at + 1) bs)

  behind_quotes_is : (names : List (List ℕ)) (name : List ℕ) (at : ℕ) (text : List ℕ) → behind_quotes names name at text ≡ field_from (reading Closed names name) at text
  behind_quotes_is names name at [] = refl
  behind_quotes_is names name at (b ∷ bs) =
      one (reading Closed names name) b at bs Opening (eqb b 46) (at_name (names ++ name ∷ []) (at + 1) bs) (at_name_is (names ++ name ∷ []) (at + 1) bs)

pub field_is : (text : List ℕ) → field_of text ≡ read_of text
field_is text = at_name_is [] 0 text

-- ---- what holds of the reader

pub field_only : (text : List ℕ) (names : List (List ℕ)) → IsFieldText names text → field_of text ≡ Ok names
field_only text names h = field_is text ∙ read_only text names h

pub field_again : (names : List (List ℕ)) → 0 < length names → field_of (field_text names) ≡ Ok names
field_again names h = field_is (field_text names) ∙ read_again names h
