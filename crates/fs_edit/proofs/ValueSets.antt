-- Sets of values, as they gain and lose a value, and what is appended and taken out by them.
use Rattle.std.proofs.Common.{◌≡◌, Bool, true, false, cond, not, List, [], ◌∷◌, ◌++◌, length, map, filter, refl, sym, ap, ◌∙◌, subst, arith}
use Rattle.std.specs.Prelude.{◌||◌, ◌&&◌}
use Rattle.std.specs.BTreeSet.{BTreeSet, contains, UpdatesBy}
use Rattle.std.proofs.lemmas.Cmp.{eq_by_cmp_equiv, tied_itself}
use Rattle.std.specs.Cmp.{Equal-is}
use Rattle.std.proofs.Math.Bool.{or-false}
use Rattle.std.proofs.lemmas.List.Folds.{list_any-append}
use Rattle.std.proofs.lemmas.Map.Steps.{list_any_congr}
use Rattle.fs_path.proofs.Bools.{or_within}
use Rattle.fs_value.specs.Data.{Data}
use Rattle.fs_value.specs.ValueOrder.{value_cmp}
use Rattle.fs_value.specs.ValueOrderLaws.{value_cmp_total}
use Rattle.fs_value.specs.View.{view}
use Rattle.fs_value.specs.declared.value.Value.{Value}
use Rattle.fs_value.specs.Elements.{array_contains, same}
use Rattle.fs_edit.specs.Arrays.{append_missing, remove_all}
use Rattle.fs_edit.specs.Closing.{held_cmp, HasExactly, HasMissing, Gains, AppendsOne}

-- ---- one more value

or_none : (a b : Bool) → (a || (b || false)) ≡ (a || b)
or_none true b = refl
or_none false true = refl
or_none false false = refl

has_more : (ds : List Data) (x d : Data) → array_contains (ds ++ x ∷ []) d ≡ (array_contains ds d || same x d)
has_more ds x d =
    list_any-append (same d) ds (x ∷ [])
    ∙ or_none (array_contains ds d) (same d x)
    ∙ ap (λ b. array_contains ds d || b) ((eq_by_cmp_equiv value_cmp_total).symm d x)

-- a value that is there adds nothing
has_again : (ds : List Data) (x d : Data) → array_contains ds x ≡ true → array_contains (ds ++ x ∷ []) d ≡ array_contains ds d
has_again ds x d there =
    has_more ds x d ∙ or_within (array_contains ds d) (same x d) (λ e. sym (list_any_congr (eq_by_cmp_equiv value_cmp_total) x d ds e) ∙ there)

-- values, of which one stands in front
front : (vs rest : List Value) (v : Value) → vs ≡ v ∷ rest → map view vs ≡ view v ∷ map view rest
front vs rest v is = ap (map view) is

-- nothing is left
pub none_left : (vs : List Value) → length vs ≡ 0 → vs ≡ []
none_left [] h = refl
none_left (v ∷ vs) h = absurd (omega arith)

-- ---- a set gains values

cond_gains : (b c d : Bool) → (cond b true c || d) ≡ (c || (b || d))
cond_gains true true d = refl
cond_gains true false d = refl
cond_gains false true d = refl
cond_gains false false d = refl

abbrev Changes : BTreeSet Value → BTreeSet Value → Data → Bool → Type 0
Changes old new x b = UpdatesBy held_cmp (λ v. value_cmp x (view v)) old new b

-- the set at first, as it is now, and the values that it is still to gain
abbrev pub Gaining : BTreeSet Value → BTreeSet Value → List Data → List Data → Type 0
Gaining first now all left = (v : Value) → (contains held_cmp now v || array_contains left (view v)) ≡ (contains held_cmp first v || array_contains all (view v))

pub gained : (first old new : BTreeSet Value) (all : List Data) (vs rest : List Value) (x : Value) → Changes old new (view x) true → vs ≡ x ∷ rest
    → Gaining first old all (map view vs) → Gaining first new all (map view rest)
gained first old new all vs rest x h is so v =
    ap (λ c. c || array_contains (map view rest) (view v)) (h.0 v)
    ∙ cond_gains (same (view x) (view v)) (contains held_cmp old v) (array_contains (map view rest) (view v))
    ∙ ap (λ b. contains held_cmp old v || (b || array_contains (map view rest) (view v))) ((eq_by_cmp_equiv value_cmp_total).symm (view x) (view v))
    ∙ ap (λ ds. contains held_cmp old v || array_contains ds (view v)) (sym (front vs rest x is))
    ∙ so v

pub all_gained : (first now : BTreeSet Value) (all : List Data) (left : List Value) → length left ≡ 0 → Gaining first now all (map view left) → Gains first now all
all_gained first now all left none so v =
    sym (or-false (contains held_cmp now v))
    ∙ ap (λ vs. contains held_cmp now v || array_contains (map view vs) (view v)) (sym (none_left left none))
    ∙ so v

pub exactly_more : (old new : BTreeSet Value) (ds es : List Data) → Gains old new es → HasExactly old ds → HasExactly new (ds ++ es)
exactly_more old new ds es gains has v =
    gains v ∙ ap (λ b. b || array_contains es (view v)) (has v) ∙ sym (list_any-append (same (view v)) ds es)

-- ---- a set loses a value

cond_loses : (b a t : Bool) → cond b false (a && not t) ≡ (a && not (t || b))
cond_loses true true true = refl
cond_loses true true false = refl
cond_loses true false t = refl
cond_loses false true true = refl
cond_loses false true false = refl
cond_loses false false t = refl

pub lost : (old new : BTreeSet Value) (x : Data) (there ds : List Data) → Changes old new x false → HasMissing old there ds → HasMissing new (there ++ x ∷ []) ds
lost old new x there ds h has v =
    h.0 v
    ∙ ap (λ c. cond (same x (view v)) false c) (has v)
    ∙ cond_loses (same x (view v)) (array_contains ds (view v)) (array_contains there (view v))
    ∙ ap (λ t. array_contains ds (view v) && not t) (sym (has_more there x (view v)))

-- one that is there was none of the missing
pub lost_none : (old new : BTreeSet Value) (x : Data) (there ds : List Data) → Changes old new x false → HasMissing old there ds → array_contains there x ≡ true → HasMissing new there ds
lost_none old new x there ds h has within v =
    lost old new x there ds h has v ∙ ap (λ t. array_contains ds (view v) && not t) (has_again there x (view v) within)

nothing_missing : (a : Bool) → a ≡ (a && not false)
nothing_missing true = refl
nothing_missing false = refl

-- at first nothing is there
pub all_missing : (set : BTreeSet Value) (ds : List Data) → HasExactly set ds → HasMissing set [] ds
all_missing set ds has v = has v ∙ nothing_missing (array_contains ds (view v))

-- ---- appending

-- whether a given value was missing tells whether it isn't there
pub told_missing : (set : BTreeSet Value) (v : Value) (there ds : List Data) (told b : Bool) → HasMissing set there ds → array_contains ds (view v) ≡ true → told ≡ contains held_cmp set v → told ≡ b
    → not (array_contains there (view v)) ≡ b
told_missing set v there ds told b has given told_is is =
    sym (told_is ∙ has v ∙ ap (λ a. a && not (array_contains there (view v))) given) ∙ is

not_is : (a b : Bool) → not a ≡ b → a ≡ not b
not_is true true h = sym h
not_is true false h = refl
not_is false true h = refl
not_is false false h = sym h

or_true : (a : Bool) → (a || true) ≡ true
or_true true = refl
or_true false = refl

-- those that are left were given
abbrev AreGiven : List Data → List Data → Type 0
AreGiven left ds = (d : Data) → array_contains left d ≡ true → array_contains ds d ≡ true

-- a value that was missing is appended
pub appends_one : (set set' : BTreeSet Value) (v : Value) (there there' : List Data) (told : Bool) → Changes set set' (view v) false → told ≡ contains held_cmp set v → told ≡ true → there' ≡ there ++ view v ∷ []
    → AppendsOne (view v) set there set' there'
appends_one set set' v there there' told h told_is is grown ds has given =
    let missing = not_is (array_contains there (view v)) true (told_missing set v there ds told true has given told_is is) in (
      subst (λ xs. HasMissing set' xs ds) (sym grown) (lost set set' (view v) there ds h has),
      grown ∙ ap (λ b. cond b there (there ++ view v ∷ [])) (sym missing),
    )

-- and one that wasn't stays away
pub appends_none : (set set' : BTreeSet Value) (v : Value) (there : List Data) (told : Bool) → Changes set set' (view v) false → told ≡ contains held_cmp set v → told ≡ false
    → AppendsOne (view v) set there set' there
appends_none set set' v there told h told_is is ds has given =
    let present = not_is (array_contains there (view v)) false (told_missing set v there ds told false has given told_is is) in
    (lost_none set set' (view v) there ds h has present, ap (λ b. cond b there (there ++ view v ∷ [])) (sym present))

-- the values so far are appended, and the rest will be
pub record Appending (first ds : List Data) (set : BTreeSet Value) (there : List Data) (vs : List Value) : Type 0 where
  pub missing : HasMissing set there ds
  pub appended : append_missing first ds ≡ append_missing there (map view vs)
  pub given : AreGiven (map view vs) ds

module _ (first ds : List Data) (set : BTreeSet Value) (there : List Data) (vs rest : List Value) (v : Value) (is : vs ≡ v ∷ rest) (so : Appending first ds set there vs) where
  given_one : array_contains ds (view v) ≡ true
  given_one =
      so.given (view v) (ap (λ xs. array_contains xs (view v)) (front vs rest v is) ∙ ap (λ b. b || array_contains (map view rest) (view v)) ((Equal-is _).1 (tied_itself value_cmp_total (view v))))

  given_rest : AreGiven (map view rest) ds
  given_rest d h = so.given d (ap (λ xs. array_contains xs d) (front vs rest v is) ∙ ap (λ b. same d (view v) || b) h ∙ or_true (same d (view v)))

  pub appended_one : (set' : BTreeSet Value) (there' : List Data) → AppendsOne (view v) set there set' there' → Appending first ds set' there' rest
  appended_one set' there' one =
      let r = one ds so.missing given_one in
      record {
        missing = r.0;
        appended = so.appended ∙ ap (append_missing there) (front vs rest v is) ∙ ap (λ xs. append_missing xs (map view rest)) (sym r.1);
        given = given_rest;
      }

pub all_appended : (first ds : List Data) (set : BTreeSet Value) (there : List Data) (left : List Value) → length left ≡ 0 → Appending first ds set there left → there ≡ append_missing first ds
all_appended first ds set there left none so = sym (so.appended ∙ ap (λ vs. append_missing there (map view vs)) (none_left left none))

-- ---- taking out

kept_one : (b c : Bool) (v : Value) (kept : List Value) (rest : List Data) → b ≡ c → map view kept ≡ rest → map view (cond (not b) (v ∷ kept) kept) ≡ cond (not c) (view v ∷ rest) rest
kept_one true true v kept rest e h = h
kept_one true false v kept rest e h = absurd (cc)
kept_one false true v kept rest e h = absurd (cc)
kept_one false false v kept rest e h = ap (λ ds. view v ∷ ds) h

-- the values that the set hasn't
pub all_kept : (set : BTreeSet Value) (ds : List Data) → HasExactly set ds → (vs : List Value) → map view (filter (λ v. not (contains held_cmp set v)) vs) ≡ remove_all (map view vs) ds
all_kept set ds has [] = refl
all_kept set ds has (v ∷ vs) =
    kept_one (contains held_cmp set v) (array_contains ds (view v)) v (filter (λ v. not (contains held_cmp set v)) vs) (remove_all (map view vs) ds) (has v) (all_kept set ds has vs)
