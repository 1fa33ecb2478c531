-- Names between backquotes, and paths joined by dots, one step further on.
use Rattle.std.proofs.Common.{◌≡◌, ℕ, ◌+◌, ◌-◌, ◌<◌, ◌≤◌, true, false, ◌||◌, eqb, inl, inr, List, [], ◌∷◌, ◌++◌, length, take, drop, get_or, map, refl, ap, sym, ◌∙◌, arith, zero, suc}
use Rattle.std.proofs.lemmas.Bool.{or_parts, or_from, false≢true}
use Rattle.std.proofs.lemmas.Bool.Decides.{eqb_tells}
use Rattle.std.proofs.lemmas.List.{take_more, append_assoc, map-append, length-take-le}
use Rattle.std.specs.List.{flat_map, join_with_byte}
use Rattle.fs_path.specs.Field.{escaped, name_text, field_text}
use Rattle.fs_path.proofs.Fields.{escaped_more, plain, marked}
use Rattle.fs_path.proofs.Readings.{longer}

-- the escapes of a name, one byte longer
escapes : (name : List ℕ) (at b : ℕ) (mark : List ℕ) → at < length name → b ≡ get_or name at 0 → escaped b ≡ mark → flat_map escaped (take (at + 1) name) ≡ flat_map escaped (take at name) ++ mark
escapes name at b mark within e m =
    ap (flat_map escaped) (take_more name at 0 within ∙ ap (λ x. take at name ++ x ∷ []) (sym e)) ∙ (escaped_more (take at name) b ∙ ap (λ x. flat_map escaped (take at name) ++ x) m)

-- a byte that stands for itself
pub itself : (text old name : List ℕ) (from at b : ℕ) → from ≤ at → at < length name → b ≡ get_or name at 0 → (eqb b 96 || eqb b 92) ≡ false → text ++ take (at - from) (drop from name) ≡ old ++ flat_map escaped (take at name)
    → text ++ take (at + 1 - from) (drop from name) ≡ old ++ flat_map escaped (take (at + 1) name)
itself text old name from at b order within e no_mark h =
    let parts = or_parts (eqb b 96) (eqb b 92) no_mark in
    let slice = take (at - from) (drop from name) in
    let flat = flat_map escaped (take at name) in
    ap (λ x. text ++ x) (longer name from at b order within e)
    ∙ (sym (append_assoc text slice (b ∷ []))
    ∙ (ap (λ x. x ++ b ∷ []) h
    ∙ (append_assoc old flat (b ∷ [])
    ∙ ap (λ x. old ++ x) (sym (escapes name at b (b ∷ []) within e (plain b parts.0 parts.1))))))

-- a byte behind a backslash
pub behind_slash : (text old name : List ℕ) (from at b : ℕ) → at < length name → b ≡ get_or name at 0 → (eqb b 96 || eqb b 92) ≡ true → text ++ take (at - from) (drop from name) ≡ old ++ flat_map escaped (take at name)
    → ((text ++ take (at - from) (drop from name)) ++ 92 ∷ []) ++ take (at + 1 - at) (drop at name) ≡ old ++ flat_map escaped (take (at + 1) name)
behind_slash text old name from at b within e mark h =
    let flat = flat_map escaped (take at name) in
    let none : at - at ≡ 0 = omega arith in
    let one : take (at + 1 - at) (drop at name) ≡ b ∷ [] = longer name at at b (omega arith) within e ∙ ap (λ n. take n (drop at name) ++ b ∷ []) none in
    ap (λ x. (x ++ 92 ∷ []) ++ take (at + 1 - at) (drop at name)) h
    ∙ (ap (λ x. ((old ++ flat) ++ 92 ∷ []) ++ x) one
    ∙ (append_assoc (old ++ flat) (92 ∷ []) (b ∷ [])
    ∙ (append_assoc old flat (92 ∷ b ∷ [])
    ∙ ap (λ x. old ++ x) (sym (escapes name at b (92 ∷ b ∷ []) within e (marked b mark))))))

-- ---- a path, one name longer

join_push : (c : ℕ) (x : List ℕ) (xs : List (List ℕ)) (y : List ℕ) → join_with_byte c ((x ∷ xs) ++ y ∷ []) ≡ join_with_byte c (x ∷ xs) ++ c ∷ y
join_push c x [] y = refl
join_push c x (z ∷ zs) y = ap (λ t. x ++ (c ∷ t)) (join_push c z zs y) ∙ sym (append_assoc x (c ∷ join_with_byte c (z ∷ zs)) (c ∷ y))

pub first_name : (names : List (List ℕ)) (name text : List ℕ) (i : ℕ) → i ≤ 0 → i < length names → name ≡ get_or names i name → text ≡ field_text (take i names) → text ++ name_text name ≡ field_text (take (i + 1) names)
first_name names name text zero none within e h = ap (λ x. x ++ name_text name) h ∙ sym (ap field_text (take_more names 0 name within ∙ ap (λ x. x ∷ []) (sym e)))
first_name names name text (suc i) none within e h = absurd (omega arith)

next_at : (names : List (List ℕ)) (name : List ℕ) → 0 < length names → field_text (names ++ name ∷ []) ≡ field_text names ++ 46 ∷ name_text name
next_at [] name h = absurd (omega arith)
next_at (x ∷ xs) name h = ap (join_with_byte 46) (map-append name_text (x ∷ xs) (name ∷ [])) ∙ join_push 46 (name_text x) (map name_text xs) (name_text name)

pub next_name : (names : List (List ℕ)) (name text : List ℕ) (i : ℕ) → 0 < i → i < length names → name ≡ get_or names i name → text ≡ field_text (take i names) → (text ++ 46 ∷ []) ++ name_text name ≡ field_text (take (i + 1) names)
next_name names name text i some within e h =
    let count = length-take-le i names (omega arith) in
    append_assoc text (46 ∷ []) (name_text name)
    ∙ (ap (λ x. x ++ 46 ∷ name_text name) h
    ∙ sym (ap field_text (take_more names i name within ∙ ap (λ x. take i names ++ x ∷ []) (sym e)) ∙ next_at (take i names) name (omega arith)))

-- what stands behind a backslash is ASCII
pub narrow : (b : ℕ) → (eqb b 96 || eqb b 92) ≡ true → b < 128
narrow b h = elim (eqb_tells b 96) [
  | inl tick ↦ omega (arith, tick.1)
  | inr other ↦ elim (eqb_tells b 92) [
    | inl slash ↦ omega (arith, slash.1)
    | inr neither ↦ absurd (false≢true (sym (or_from (eqb b 96) (eqb b 92) other.0 neither.0) ∙ h))
  ]
]
