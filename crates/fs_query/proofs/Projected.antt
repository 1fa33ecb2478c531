-- What a projection keeps, step by step.
use Rattle.std.proofs.Common.{◌≡◌, ℕ, ◌+◌, ◌<◌, Bool, true, false, cond, List, [], ◌∷◌, ◌++◌, map, length, get_or, take, refl, sym, ap, ◌∙◌, append_assoc, append-nil}
use Rattle.std.proofs.lemmas.List.{map_more}
use denote.Ref.{Bor}
use Rattle.std.specs.Prelude.{◌&&◌}
use Rattle.std.specs.FinMap.{is_sorted}
use Rattle.std.specs.FinMap.Entries.{below_all}
use Rattle.std.specs.Ordering.{is_lt}
use Rattle.fs_path.specs.TextOrder.{text_cmp}
use Rattle.fs_value.specs.Data.{Data, object, members_of}
use Rattle.fs_value.specs.FieldPaths.{map_of}
use Rattle.fs_value.specs.View.{view, field_view}
use Rattle.fs_value.specs.declared.fields.Field.{Field}
use Rattle.fs_query.specs.Project.{ends_here, rest_behind, rests, if_any, kept_of, kept}

rests_more : (key : List ℕ) (ps : List (List (List ℕ))) (p : List (List ℕ)) → rests key (ps ++ p ∷ []) ≡ rests key ps ++ rest_behind key p
rests_more key [] p = append-nil (rest_behind key p)
rests_more key (q ∷ ps) p = ap (λ rs. rest_behind key q ++ rs) (rests_more key ps p) ∙ sym (append_assoc (rest_behind key q) (rests key ps) (rest_behind key p))

-- those of one path more
pub rests_next : (key : List ℕ) (xs : List (Bor (List (List ℕ)))) (i : ℕ) (p : Bor (List (List ℕ))) → i < length xs → p ≡ get_or xs i p
    → rests key (map (λ p. p.now) (take (i + 1) xs)) ≡ rests key (map (λ p. p.now) (take i xs)) ++ rest_behind key p.now
rests_next key xs i p l e =
    ap (rests key) (map_more (λ q. q.now) xs i p l) ∙ rests_more key (map (λ q. q.now) (take i xs)) (get_or xs i p).now ∙ ap (λ q. rests key (map (λ p. p.now) (take i xs)) ++ rest_behind key q.now) (sym e)

-- ---- what is kept of one field more

pub kept_more : (ps : List (List (List ℕ))) (fs : List (List ℕ × Data)) (f : List ℕ × Data) → kept ps (members_of (fs ++ f ∷ [])) ≡ kept ps (members_of fs) ++ kept_of (rests f.0 ps) f.0 f.1
kept_more ps [] f = append-nil (kept_of (rests f.0 ps) f.0 f.1)
kept_more ps (g ∷ fs) f =
    ap (λ gs. kept_of (rests g.0 ps) g.0 g.1 ++ gs) (kept_more ps fs f) ∙ sym (append_assoc (kept_of (rests g.0 ps) g.0 g.1) (kept ps (members_of fs)) (kept_of (rests f.0 ps) f.0 f.1))

-- ---- at most one field is kept of a field, at its key

-- nothing, or a value at a key
pub data AtMost (key : List ℕ) : List (List ℕ × Data) → Type 0 where
  none : AtMost key []
  one : (d : Data) → AtMost key ((key, d) ∷ [])

if_kept : (key : List ℕ) (d : Data) (b : Bool) (rest : List (List ℕ × Data)) → AtMost key rest → AtMost key (cond b ((key, d) ∷ []) rest)
if_kept key d true rest h = one d
if_kept key d false rest h = h

any_kept : (key : List ℕ) (fs : List (List ℕ × Data)) → AtMost key (if_any key fs)
any_kept key [] = none
any_kept key (f ∷ fs) = one (map_of (f ∷ fs))

pub at_most_one : (ps : List (List (List ℕ))) (key : List ℕ) (d : Data) → AtMost key (kept_of ps key d)
at_most_one ps key (object ms) = if_kept key (object ms) (ends_here ps) (if_any key (kept ps ms)) (any_kept key (kept ps ms))
at_most_one ps key d = if_kept key d (ends_here ps) [] none

-- ---- what is kept of fields whose keys rise rises too

below_kept_by : (k key : List ℕ) (gs rest : List (List ℕ × Data)) → AtMost key gs → is_lt (text_cmp k key) ≡ true → below_all text_cmp k rest ≡ true → below_all text_cmp k (gs ++ rest) ≡ true
below_kept_by k key gs rest none h below = below
below_kept_by k key gs rest (one d) h below = ap (λ b. b && below_all text_cmp k rest) h ∙ below

pub first_true : (a b : Bool) → (a && b) ≡ true → a ≡ true
first_true true b e = refl
first_true false b e = e

pub second_true : (a b : Bool) → (a && b) ≡ true → b ≡ true
second_true true b e = e
second_true false b e = absurd (cc)

pub below_kept : (ps : List (List (List ℕ))) (k : List ℕ) (fs : List (List ℕ × Data)) → below_all text_cmp k fs ≡ true → below_all text_cmp k (kept ps (members_of fs)) ≡ true
below_kept ps k [] h = refl
below_kept ps k (f ∷ fs) h =
    below_kept_by k f.0 (kept_of (rests f.0 ps) f.0 f.1) (kept ps (members_of fs)) (at_most_one (rests f.0 ps) f.0 f.1)
    (first_true (is_lt (text_cmp k f.0)) (below_all text_cmp k fs) h) (below_kept ps k fs (second_true (is_lt (text_cmp k f.0)) (below_all text_cmp k fs) h))

kept_rises_by : (key : List ℕ) (gs rest : List (List ℕ × Data)) → AtMost key gs → below_all text_cmp key rest ≡ true → is_sorted text_cmp rest ≡ true → is_sorted text_cmp (gs ++ rest) ≡ true
kept_rises_by key gs rest none below up = up
kept_rises_by key gs rest (one d) below up = ap (λ b. b && is_sorted text_cmp rest) below ∙ up

pub kept_rises : (ps : List (List (List ℕ))) (fs : List (List ℕ × Data)) → is_sorted text_cmp fs ≡ true → is_sorted text_cmp (kept ps (members_of fs)) ≡ true
kept_rises ps [] h = refl
kept_rises ps (f ∷ fs) h =
    kept_rises_by f.0 (kept_of (rests f.0 ps) f.0 f.1) (kept ps (members_of fs)) (at_most_one (rests f.0 ps) f.0 f.1)
    (below_kept ps f.0 fs (first_true (below_all text_cmp f.0 fs) (is_sorted text_cmp fs) h)) (kept_rises ps fs (second_true (below_all text_cmp f.0 fs) (is_sorted text_cmp fs) h))

-- ---- one field more, as a slice holds it

pub kept_next : (ps : List (List (List ℕ))) (xs : List Field) (i : ℕ) (f : Field) → i < length xs → f ≡ get_or xs i f
    → kept ps (members_of (map field_view (take (i + 1) xs))) ≡ kept ps (members_of (map field_view (take i xs))) ++ kept_of (rests f.key ps) f.key (view f.value)
kept_next ps xs i f l e =
    ap (λ fs. kept ps (members_of fs)) (map_more field_view xs i f l) ∙ kept_more ps (map field_view (take i xs)) (field_view (get_or xs i f))
    ∙ ap (λ g. kept ps (members_of (map field_view (take i xs))) ++ kept_of (rests g.key ps) g.key (view g.value)) (sym e)
