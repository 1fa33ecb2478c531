-- A reader of a field path, a byte further on.
use Rattle.std.proofs.Common.{◌≡◌, ℕ, ◌+◌, ◌-◌, ◌<◌, ◌≤◌, true, false, eqb, inl, inr, Some, None, List, [], ◌∷◌, ◌++◌, length, take, drop, get_or, refl, ap, sym, ◌∙◌, subst, arith}
use Rattle.std.proofs.lemmas.List.{drop_more, take_more, append_assoc, get_or-drop, length-drop, append-nil}
use Rattle.std.proofs.lemmas.Bool.{cases_lt}
use Rattle.std.proofs.lemmas.Bool.Decides.{nat_tests}
use Rattle.std.specs.Option.{option_map}
use Rattle.fs_path.specs.FieldName.{is_name_start, is_name_byte}
use Rattle.fs_path.specs.declared.stage.Stage.{Stage}
use Rattle.fs_path.specs.declared.stage.Stage.TheVariants.{Opening, Simple, Quoted, Escaped, Closed}
use Rattle.fs_path.specs.FieldReader.{Reading, stage_after, takes, is_opening, gathered, moved, goes_on, field_from}

-- one byte is read
read_on : (r : Reading) (next : Stage) (text : List ℕ) (at b : ℕ) → at < length text → b ≡ get_or text at 0 → Some next ≡ stage_after r.stage b → field_from r at (drop at text) ≡ field_from (moved r b next) (at + 1) (drop (at + 1) text)
read_on r next text at b within e h =
    let here : drop at text ≡ b ∷ drop (at + 1) text = drop_more text at 0 within ∙ ap (λ x. x ∷ drop (at + 1) text) (sym e) in
    let rest = drop (at + 1) text in
    ap (field_from r at) here ∙ ap (λ o. goes_on (option_map (moved r b) o) at (λ q. field_from q (at + 1) rest)) (sym h)

-- the part of the name that is still in the text, one byte longer
pub longer : (text : List ℕ) (from at b : ℕ) → from ≤ at → at < length text → b ≡ get_or text at 0 → take (at + 1 - from) (drop from text) ≡ take (at - from) (drop from text) ++ b ∷ []
longer text from at b order within e =
    let rest = length-drop from text in
    let place : at ≡ from + (at - from) = omega arith in
    let count : at + 1 - from ≡ at - from + 1 = omega arith in
    let here : b ≡ get_or (drop from text) (at - from) 0 = e ∙ (ap (λ n. get_or text n 0) place ∙ sym (get_or-drop from text (at - from) 0)) in
    let more = take_more (drop from text) (at - from) 0 (omega arith) in
    ap (λ n. take n (drop from text)) count ∙ (more ∙ ap (λ x. take (at - from) (drop from text) ++ x ∷ []) (sym here))

none_left : (text : List ℕ) (at : ℕ) → take (at + 1 - (at + 1)) (drop (at + 1) text) ≡ []
none_left text at = let none : at + 1 - (at + 1) ≡ 0 = omega arith in ap (λ n. take n (drop (at + 1) text)) none

gathered_on : (next : Stage) (names : List (List ℕ)) (name : List ℕ) → is_opening next ≡ false → gathered next names name ≡ record { stage = next; names = names; name = name }
gathered_on Opening names name h = cc
gathered_on Simple names name h = refl
gathered_on Quoted names name h = refl
gathered_on Escaped names name h = refl
gathered_on Closed names name h = refl

-- a dot isn't part of a name
no_dot : (stage next : Stage) → takes stage next ≡ true → is_opening next ≡ false
no_dot Opening Opening h = cc
no_dot Simple Opening h = cc
no_dot Quoted Opening h = cc
no_dot Escaped Opening h = cc
no_dot Closed Opening h = cc
no_dot stage Simple h = refl
no_dot stage Quoted h = refl
no_dot stage Escaped h = refl
no_dot stage Closed h = refl

-- what only marks a name is ASCII
not_wide : (stage next : Stage) (b : ℕ) → 128 ≤ b → takes stage next ≡ false → Some next ≡ stage_after stage b → ⊥
not_wide Opening next b wide h k =
    let tick : eqb b 96 ≡ false = grind (arith, nat_tests) in
    let start : is_name_start b ≡ false = grind (arith, nat_tests) in
    let none : Some next ≡ None = rw (tick, start) at k in
    cc
not_wide Simple next b wide h k =
    let dot : eqb b 46 ≡ false = grind (arith, nat_tests) in
    let more : is_name_byte b ≡ false = grind (arith, nat_tests) in
    let none : Some next ≡ None = rw (dot, more) at k in
    cc
not_wide Quoted next b wide h k =
    let tick : eqb b 96 ≡ false = grind (arith, nat_tests) in
    let slash : eqb b 92 ≡ false = grind (arith, nat_tests) in
    let same : Some next ≡ Some Quoted = rw (tick, slash) at k in
    let is : next ≡ Quoted = cc in
    let no : takes Quoted Quoted ≡ false = subst (λ s. takes Quoted s ≡ false) is h in
    cc
not_wide Escaped next b wide h k =
    let tick : eqb b 96 ≡ false = grind (arith, nat_tests) in
    let slash : eqb b 92 ≡ false = grind (arith, nat_tests) in
    let none : Some next ≡ None = rw (tick, slash) at k in
    cc
not_wide Closed next b wide h k =
    let dot : eqb b 46 ≡ false = grind (arith, nat_tests) in
    let none : Some next ≡ None = rw dot at k in
    cc

pub marks_ascii : (stage next : Stage) (b : ℕ) → takes stage next ≡ false → Some next ≡ stage_after stage b → b < 128
marks_ascii stage next b h k = elim (cases_lt b 128) [ inl narrow ↦ narrow | inr wide ↦ absurd (not_wide stage next b wide h k) ]

-- ---- a reader goes on: the name is front, and the text from a place on

-- the byte belongs to the name
pub taken : (stage next : Stage) (names : List (List ℕ)) (front text : List ℕ) (from at b : ℕ) → from ≤ at → at < length text → b ≡ get_or text at 0 → Some next ≡ stage_after stage b → takes stage next ≡ true
    → field_from (record { stage = next; names = names; name = front ++ take (at + 1 - from) (drop from text) }) (at + 1) (drop (at + 1) text)
    ≡ field_from (record { stage = stage; names = names; name = front ++ take (at - from) (drop from text) }) at (drop at text)
taken stage next names front text from at b order within e h k =
    let read : Reading = record { stage = stage; names = names; name = front ++ take (at - from) (drop from text) } in
    let name : (front ++ take (at - from) (drop from text)) ++ b ∷ [] ≡ front ++ take (at + 1 - from) (drop from text) = append_assoc front (take (at - from) (drop from text)) (b ∷ []) ∙ ap (λ x. front ++ x) (sym (longer text from at b order within e)) in
    let is : moved read b next ≡ record { stage = next; names = names; name = front ++ take (at + 1 - from) (drop from text) } = rw k (ap (gathered next names) name ∙ gathered_on next names _ (no_dot stage next k)) in
    sym (read_on read next text at b within e h ∙ ap (λ q. field_from q (at + 1) (drop (at + 1) text)) is)

-- it marks the name
pub marked : (stage next : Stage) (names all : List (List ℕ)) (front text name : List ℕ) (from at b : ℕ) → at < length text → b ≡ get_or text at 0 → Some next ≡ stage_after stage b → takes stage next ≡ false
    → gathered next names (front ++ take (at - from) (drop from text)) ≡ record { stage = next; names = all; name = name }
    → field_from (record { stage = next; names = all; name = name ++ take (at + 1 - (at + 1)) (drop (at + 1) text) }) (at + 1) (drop (at + 1) text)
    ≡ field_from (record { stage = stage; names = names; name = front ++ take (at - from) (drop from text) }) at (drop at text)
marked stage next names all front text name from at b within e h k gather =
    let read : Reading = record { stage = stage; names = names; name = front ++ take (at - from) (drop from text) } in
    let same : name ++ take (at + 1 - (at + 1)) (drop (at + 1) text) ≡ name = ap (λ x. name ++ x) (none_left text at) ∙ append-nil name in
    let is : moved read b next ≡ record { stage = next; names = all; name = name ++ take (at + 1 - (at + 1)) (drop (at + 1) text) } = rw k (gather ∙ λ i. record { stage = next; names = all; name = sym same i }) in
    sym (read_on read next text at b within e h ∙ ap (λ q. field_from q (at + 1) (drop (at + 1) text)) is)
