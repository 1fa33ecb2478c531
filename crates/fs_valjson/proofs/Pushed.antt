-- Tokens that are written one after another.
use Rattle.std.proofs.Common.{◌≡◌, ℕ, ◌+◌, ◌<◌, List, [], ◌∷◌, ◌++◌, map, drop, get_or, length, refl, sym, ap, ◌∙◌, append_assoc, codes}
use Rattle.std.proofs.lemmas.List.{append-nil, at_drop_more}
use Rattle.json.specs.Token.{Token, key}
use Rattle.json.specs.Tree.{items_tokens, members_tokens}
use Rattle.serde_json.specs.Written.{items_outline, members_outline}
use Rattle.serde_json.specs.Data as json
use Rattle.fs_value.specs.Data.{Data, items_of, members_of}
use Rattle.fs_value.specs.View.{view, field_view}
use Rattle.fs_value.specs.declared.fields.Field.{Field}
use Rattle.fs_value.specs.declared.value.Value.{Value}
use Rattle.fs_valjson.specs.Document.{with_fields}
use Rattle.fs_valjson.proofs.Tokens.{behind_both}
use Rattle.fs_valjson.specs.Steps.{values_member}
use Rattle.fs_valjson.specs.Tokens.{member_tokens, tokens_of}
use Rattle.fs_valjson.specs.Writing.{items_json, members_json, value_json}

-- two tokens, some, and a token, behind what was written
pub two_around : (old a b c : List Token) (x y z : Token) (ts whole : List Token) → a ≡ old ++ x ∷ [] → b ≡ a ++ y ∷ [] → c ≡ b ++ ts → x ∷ y ∷ (ts ++ z ∷ []) ≡ whole → c ++ z ∷ [] ≡ old ++ whole
two_around old a b c x y z ts whole first second some same =
    let opened : b ≡ old ++ x ∷ y ∷ [] = behind_both old a b (x ∷ []) (y ∷ []) first second in
    ap (λ o. o ++ z ∷ []) (behind_both old b c (x ∷ y ∷ []) ts opened some) ∙ append_assoc old (x ∷ y ∷ ts) (z ∷ []) ∙ ap (λ ts. old ++ ts) same

-- ---- members that are left out where there is nothing

pub some_values : (ds : List Data) → (ds ≡ [] → ⊥) → key (codes "values") ∷ tokens_of (json.array (items_json (items_of ds))) ≡ member_tokens (values_member (items_json (items_of ds)))
some_values [] some = absurd (some refl)
some_values (d ∷ ds) some = sym (append-nil (key (codes "values") ∷ tokens_of (json.array (items_json (items_of (d ∷ ds))))))

pub some_fields : (fs : List (List ℕ × Data)) → (fs ≡ [] → ⊥) → key (codes "fields") ∷ tokens_of (json.object (members_json (members_of fs))) ≡ member_tokens (with_fields (members_json (members_of fs)) json.no_members)
some_fields [] some = absurd (some refl)
some_fields (f ∷ fs) some = sym (append-nil (key (codes "fields") ∷ tokens_of (json.object (members_json (members_of (f ∷ fs))))))

-- the fields of a document, and what stands behind them
pub fields_first : (ms rest : json.Members) → member_tokens (with_fields ms json.no_members) ++ member_tokens rest ≡ member_tokens (with_fields ms rest)
fields_first json.no_members rest = refl
fields_first (json.member k d ms) rest = ap (λ ts. key (codes "fields") ∷ (ts ++ member_tokens rest)) (append-nil (tokens_of (json.object (json.member k d ms))))

-- ---- loops

abbrev values_left : List Value → List Token
values_left vs = items_tokens (items_outline (items_json (items_of (map view vs))))

-- one value more: what is written, and the tokens of those that are left with their bracket, stay the whole
pub next_value : (vs : List Value) (i : ℕ) (v : Value) (now new whole : List Token) → i < length vs → v ≡ get_or vs i v → new ≡ now ++ tokens_of (value_json (view v))
    → now ++ values_left (drop i vs) ≡ whole → new ++ values_left (drop (i + 1) vs) ≡ whole
next_value vs i v now new whole within is one so_far =
    let rest = values_left (drop (i + 1) vs) in
    let step : values_left (drop i vs) ≡ tokens_of (value_json (view v)) ++ rest = at_drop_more values_left vs i v within ∙ ap (λ w. tokens_of (value_json (view w)) ++ rest) (sym is) in
    ap (λ ts. ts ++ rest) one ∙ append_assoc now (tokens_of (value_json (view v))) rest ∙ ap (λ ts. now ++ ts) (sym step) ∙ so_far

abbrev fields_left : List Field → List Token
fields_left fs = members_tokens (members_outline (members_json (members_of (map field_view fs))))

-- the same of fields, by their keys and values
pub next_field : (fs : List Field) (i : ℕ) (f : Field) (now keyed new whole : List Token) → i < length fs → f ≡ get_or fs i f → keyed ≡ now ++ key f.key ∷ []
    → new ≡ keyed ++ tokens_of (value_json (view f.value)) → now ++ fields_left (drop i fs) ≡ whole → new ++ fields_left (drop (i + 1) fs) ≡ whole
next_field fs i f now keyed new whole within is named one so_far =
    let rest = fields_left (drop (i + 1) fs) in
    let this = λ (g : Field). key g.key ∷ (tokens_of (value_json (view g.value)) ++ rest) in
    let step : fields_left (drop i fs) ≡ this f = at_drop_more fields_left fs i f within ∙ ap this (sym is) in
    ap (λ ts. ts ++ rest) (behind_both now keyed new (key f.key ∷ []) (tokens_of (value_json (view f.value))) named one)
    ∙ append_assoc now (key f.key ∷ tokens_of (value_json (view f.value))) rest ∙ ap (λ ts. now ++ ts) (sym step) ∙ so_far
