-- A line that is read as a request has no member that is there and tells another form.
use Rattle.std.proofs.Common.{◌≡◌, ℕ, ◌||◌, Bool, true, false, List, [], ◌∷◌, ◌++◌, Option, Some, None, Result, Ok, Err, ◌&&◌, ◌∙◌, refl, sym, ap, subst, is_some, codes, if◌then◌else◌}
use Rattle.std.proofs.lemmas.Map.Lookups.{exact_bytes}
use Rattle.std.specs.Cmp.Lexicographic.{slice_cmp}
use Rattle.std.specs.Bool.{⊤}
use Rattle.std.specs.List.{AllByRecursion, list_any}
use Rattle.std.specs.Option.{option_map_or, option_or}
use Rattle.std.specs.Ordering.{nat_cmp, match_ordering}
use Rattle.std.specs.declared.cmp.Ordering.{Ordering}
use Rattle.std.specs.declared.cmp.Ordering.TheVariants.{Less, Equal, Greater}
use Rattle.std.proofs.lemmas.Bool.{or_parts}
use Rattle.serde_json.specs.Data.{Data, null, boolean, number, string, array, object, Members, no_members, member}
use Rattle.serde_json.specs.Find.{get, get_member}
use Rattle.fs_json.specs.Answer.{Gives, made, ◌>>=◌}
use Rattle.fs_json.specs.Members.{first_twice, first_unknown, is_there, only_at}
use Rattle.fs_json.specs.Names.{spells}
use Rattle.fs_json.specs.Scalars.{text_at, truth_at}
use Rattle.fs_json.specs.Time.{time_at}
use Rattle.fs_json.specs.declared.bad.Bad.{Bad}
use Rattle.fs_json.specs.declared.bad.Bad.TheVariants.{At, Memory, Method}
use Rattle.fs_path.specs.Place.{member_place}
use Rattle.fs_path.specs.declared.name.Root.{Root}
use Rattle.fs_path.specs.declared.place.Rule.TheVariants.{G}
use Rattle.fs_rpc.specs.Envelope.{session_request_at}
use Rattle.fs_rpc.specs.Methods.{methods, session_head}
use Rattle.fs_rpc.specs.declared.envelope.SessionRequest.{SessionRequest}
use Rattle.fs_rpc.specs.Decimal.{decimal_at}
use Rattle.fs_replay.specs.Forms.{leave_at, load_at, number_at, sole_as, true_at}
use Rattle.fs_replay.specs.Line.{bare, form_at, form_members, form_of, has_any, is_unbuilt_form, leaves_session, line_read, unbuilt_forms, without_each, without_member}
use Rattle.fs_replay.specs.declared.request.Line.{Line}
use Rattle.fs_replay.specs.declared.request.Line.TheVariants as line

-- ---- keys that aren't there

absent_here : (names : List (List ℕ)) (k l : List ℕ) (d : Data) (ms : Members) (known : Bool) (o : Ordering)
    → known ≡ list_any (λ name. spells name l) names → o ≡ slice_cmp nat_cmp k l → list_any (λ name. spells name k) names ≡ false
    → (if known then first_unknown names ms else Some l) ≡ None → (first_unknown names ms ≡ None → is_some (get_member k ms) ≡ false)
    → is_some (match_ordering o (get_member k ms) (Some d) (get_member k ms)) ≡ false
absent_here names k l d ms false o known_is o_is unknown none rest = absurd (cc)
absent_here names k l d ms true Less known_is o_is unknown none rest = rest none
absent_here names k l d ms true Greater known_is o_is unknown none rest = rest none
absent_here names k l d ms true Equal known_is o_is unknown none rest =
    let same : list_any (λ name. spells name k) names ≡ list_any (λ name. spells name l) names = ap (λ key. list_any (λ name. spells name key) names) (exact_bytes k l (sym o_is)) in
    absurd (cc)

-- where no member is unknown, a key that spells none of the names isn't there
absent : (names : List (List ℕ)) (k : List ℕ) (ms : Members) → list_any (λ name. spells name k) names ≡ false → first_unknown names ms ≡ None → is_some (get_member k ms) ≡ false
absent names k no_members unknown none = refl
absent names k (member l d ms) unknown none =
    absent_here names k l d ms (list_any (λ name. spells name l) names) (slice_cmp nat_cmp k l) refl refl unknown none (absent names k ms unknown)

first_none : (place : List ℕ) (a b : Option (List ℕ)) (r : ⊤) → option_map_or (λ key. Err (At G (member_place place key))) (option_or a b) (Ok tt) ≡ Ok r → a ≡ None
first_none place None b r passed = refl
first_none place (Some key) b r passed = absurd (cc)

none_found : {A : Type 0} (found : Option A) → is_some found ≡ false → found ≡ None
none_found None none = refl
none_found (Some x) none = absurd (cc)

-- of an object with no member but these
is_absent : (names : List (List ℕ)) (k : List ℕ) (d : Data) (r : ⊤) → list_any (λ name. spells name k) names ≡ false → only_at names d [] ≡ Ok r → get k d ≡ None
is_absent names k null r unknown passed = refl
is_absent names k (boolean b) r unknown passed = refl
is_absent names k (number n) r unknown passed = refl
is_absent names k (string s) r unknown passed = refl
is_absent names k (array ds) r unknown passed = refl
is_absent names k (object ms) r unknown passed =
    none_found (get_member k ms) (absent names k ms unknown (first_none [] (first_unknown names ms) (first_twice names ms ms) r passed))

-- ---- members that are taken out

kept : (k l : List ℕ) (d : Data) (ms : Members) (o : Ordering) → match_ordering o (get_member k ms) (Some d) (get_member k ms) ≡ None
    → (get_member k ms ≡ None → without_member k ms ≡ ms) → match_ordering o (member l d (without_member k ms)) ms (member l d (without_member k ms)) ≡ member l d ms
kept k l d ms Less none rest = ap (member l d) (rest none)
kept k l d ms Greater none rest = ap (member l d) (rest none)
kept k l d ms Equal none rest = absurd (cc)

-- one that isn't there
all_kept : (k : List ℕ) (ms : Members) → get_member k ms ≡ None → without_member k ms ≡ ms
all_kept k no_members none = refl
all_kept k (member l d ms) none = kept k l d ms (slice_cmp nat_cmp k l) none (all_kept k ms)

-- those of which none is there
each_kept : (names : List (List ℕ)) (ms : Members) → has_any names (object ms) ≡ false → without_each names ms ≡ ms
each_kept [] ms none = refl
each_kept (k ∷ ks) ms none =
    let each = or_parts (is_some (get_member k ms)) (has_any ks (object ms)) none in
    ap (without_each ks) (all_kept k ms (none_found (get_member k ms) each.0)) ∙ each_kept ks ms each.1

is_bare : (d : Data) → has_any form_members d ≡ false → bare d ≡ d
is_bare null none = refl
is_bare (boolean b) none = refl
is_bare (number n) none = refl
is_bare (string s) none = refl
is_bare (array ds) none = refl
is_bare (object ms) none = ap object (each_kept form_members ms none)

-- ---- requests

abbrev known : List (List ℕ)
known = session_head ++ methods

first_passes : {A B : Type 0} (r : Result A Bad) (next : A → Result B Bad) (y : B) → r >>= next ≡ Ok y → (x : A) × (r ≡ Ok x)
first_passes (Ok x) next y is = (x, refl)
first_passes (Err bad) next y is = absurd (cc)

any_absent : (names keys : List (List ℕ)) (d : Data) (r : ⊤) → list_any (λ key. list_any (λ name. spells name key) names) keys ≡ false → only_at names d [] ≡ Ok r → has_any keys d ≡ false
any_absent names [] d r unknown passed = refl
any_absent names (k ∷ ks) d r unknown passed =
    let each = or_parts (list_any (λ name. spells name k) names) (list_any (λ key. list_any (λ name. spells name key) names) ks) unknown in
    rw (is_absent names k d r each.0 passed) (any_absent names ks d r each.1 passed)

-- the first of these that holds decides
abbrev told_first : List (Bool × Result Line Bad) → Result Line Bad → Result Line Bad
told_first [] rest = rest
told_first (t ∷ ts) rest = if t.0 then t.1 else told_first ts rest

none_told : (ts : List (Bool × Result Line Bad)) (rest : Result Line Bad) → AllByRecursion (λ (t : Bool × Result Line Bad). t.0 ≡ false) ts → told_first ts rest ≡ rest
none_told [] rest none = refl
none_told (t ∷ ts) rest none = ap (λ b. if b then t.1 else told_first ts rest) none.0 ∙ none_told ts rest none.1

isnt_there : (k : List ℕ) (d : Data) → get k d ≡ None → is_there k d ≡ false
isnt_there k d none = rw none refl

neither_both : (a b : Bool) → b ≡ false → (a && b) ≡ false
neither_both true b none = none
neither_both false b none = refl

-- what tells each other form, and what a line of it is read as
abbrev forms : Data → List (Bool × Result Line Bad)
forms d =
    (is_unbuilt_form d, Ok line.NotBuilt)
    ∷ (is_there (codes "clock") d, made line.Clock (sole_as time_at (codes "clock") d))
    ∷ (is_there (codes "compact") d, made line.Compact (sole_as time_at (codes "compact") d))
    ∷ (is_there (codes "manual") d, made line.Manual (sole_as truth_at (codes "manual") d))
    ∷ (is_there (codes "settle") d, made line.Settle (sole_as decimal_at (codes "settle") d))
    ∷ (is_there (codes "retry") d, made (λ _. line.Retry) (sole_as true_at (codes "retry") d))
    ∷ (is_there (codes "load") d, sole_as load_at (codes "load") d)
    ∷ (is_there (codes "match") d, made line.Match (sole_as number_at (codes "match") d))
    ∷ (is_there (codes "raise") d, made line.Raise (sole_as text_at (codes "raise") d))
    ∷ (leaves_session d, made line.Leave (leave_at d))
    ∷ []

-- ---- where no member tells another form

none_there : (names : List (List ℕ)) (d : Data) → has_any names d ≡ false → AllByRecursion (λ k. is_there k d ≡ false) names
none_there [] d none = tt
none_there (k ∷ ks) d none =
    let each = or_parts (is_some (get k d)) (has_any ks d) none in
    (isnt_there k d (none_found (get k d) each.0), none_there ks d each.1)

-- it is read as a request, as it is
pub form_plain : (root : Root) (d : Data) → is_unbuilt_form d ≡ false → has_any form_members d ≡ false → form_at root d ≡ made line.Asked (session_request_at root d)
form_plain root d built none =
    let all = none_there form_members d none in
    let leaves = neither_both (is_there (codes "session") d) (is_there (codes "leave") d) all.1.1.1.1.1.1.1.1.0 in
    none_told (forms d) (made line.Asked (session_request_at root (bare d)))
    (built, (all.0, (all.1.0, (all.1.1.0, (all.1.1.1.0, (all.1.1.1.1.0, (all.1.1.1.1.1.0, (all.1.1.1.1.1.1.0, (all.1.1.1.1.1.1.1.0, (leaves, tt))))))))))
    ∙ ap (λ e. made line.Asked (session_request_at root e)) (is_bare d none)

-- and is refused for what is wrong with that
gives_made : (bad : Bad) (asked : Result SessionRequest Bad) → Gives {X = SessionRequest} (λ r. r) (Err bad) asked → Gives {X = Line} (λ l. l) (Err bad) (made line.Asked asked)
gives_made (At rule place) asked gives = ap (made line.Asked) gives
gives_made (Method name) asked gives = ap (made line.Asked) gives
gives_made (Memory e) asked gives = tt

pub plain_refused : (root : Root) (d : Data) (bad : Bad) → (is_unbuilt_form d || has_any form_members d) ≡ false → Gives {X = SessionRequest} (λ r. r) (Err bad) (session_request_at root d)
    → Gives {X = Line} (λ l. l) (Err bad) (form_at root d)
plain_refused root d bad none gives =
    let both = or_parts (is_unbuilt_form d) (has_any form_members d) none in
    subst (Gives {X = Line} (λ l. l) (Err bad)) (sym (form_plain root d both.0 both.1)) (gives_made bad (session_request_at root d) gives)

-- ---- what is read as a request

pub form_asked : (root : Root) (d : Data) (asked : SessionRequest) → session_request_at root d ≡ Ok asked → form_of root d ≡ line.Asked asked
unfolding session_request_at
form_asked root d asked is =
    let passed = first_passes (only_at known d []) _ asked is in
    let built = any_absent known unbuilt_forms d passed.0 refl passed.1 in
    let none = any_absent known form_members d passed.0 refl passed.1 in
    ap line_read (form_plain root d built none ∙ ap (made line.Asked) is)
