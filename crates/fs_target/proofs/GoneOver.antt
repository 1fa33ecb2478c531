-- The documents behind events: at each name what the last event there leaves.
use Rattle.std.proofs.Common.{◌≡◌, ℤ, Bool, true, false, cond, List, [], ◌∷◌, ◌++◌, map, Option, Some, None, refl, sym, ap, ◌∙◌, subst}
use Rattle.std.specs.Prelude.{IfSome, IsTrue, int_le}
use Rattle.std.specs.BTreeMap.{is_at}
use Rattle.std.specs.FinMap.{FinMap, empty, entries, entries_sorted, from_entries, get, get-empty, get-insert, insert, is_sorted, same_map, values}
use Rattle.std.specs.List.{AllByRecursion, cons_option, filter_map}
use Rattle.std.specs.Option.{option_map}
use Rattle.std.specs.Ordering.{eq_by_cmp}
use Rattle.std.proofs.lemmas.Cmp.{eq_by_cmp_equiv}
use Rattle.fs_path.proofs.Bools.{to_true}
use Rattle.fs_path.specs.NameOrder.{name_cmp, name_cmp_total, name_is, name_same}
use Rattle.fs_path.specs.declared.name.DocName.{DocName}
use Rattle.fs_value.specs.Named.{by_name}
use Rattle.fs_value.specs.declared.document.Document.{Document}
use Rattle.fs_value.proofs.Tree.{entries_rising}
use Rattle.fs_write.specs.Batch.{AreNamed, Bears, Docs, with_document}
use Rattle.fs_write.proofs.Names.{with_named}
use Rattle.fs_write.proofs.Stages.{get-with_document}
use Rattle.fs_history.proofs.NamesListed.{listed}
use Rattle.fs_target.specs.Latest.{latest_of, left_behind, with_latest}
use Rattle.fs_target.specs.Places.{HasPlace, HavePlaces, docs_in, is_until, stood}
use Rattle.fs_target.specs.Staged.{IsNamed, gone_over, left_by, up_to}
use Rattle.fs_target.specs.declared.event.TimedEvent.{TimedEvent}
use Rattle.fs_target.specs.declared.place.Place.{Place}
use Rattle.fs_target.proofs.Each.{each_filter, each_weaker}
use Rattle.fs_target.proofs.Standing.{Placed, get-docs_in, get-kept, keep, rising_kept, then_at}

-- ---- the last events

pub with_latest-append : (es fs : List TimedEvent) (had : FinMap name_cmp TimedEvent) → with_latest (es ++ fs) had ≡ with_latest fs (with_latest es had)
with_latest-append [] fs had = refl
with_latest-append (e ∷ es) fs had = with_latest-append es fs (insert had e.name e)

-- the last of a name is one of them, and bears it
module _ (P : TimedEvent → Type 0) where
  abbrev HasLast : DocName → Option TimedEvent → Type 0
  HasLast name o = IfSome o (λ e. P e × (e.name ≡ name))

  last_next : (e : TimedEvent) (name : DocName) (o : Option TimedEvent) (b : Bool) → eq_by_cmp name_cmp name e.name ≡ b → P e → HasLast name o → HasLast name (cond b (Some e) o)
  last_next e name o true ties here had = (here, sym (name_is name e.name ties))
  last_next e name o false ties here had = had

  has_latest : (es : List TimedEvent) (had : FinMap name_cmp TimedEvent) (name : DocName) → AllByRecursion P es → HasLast name (get had name) → HasLast name (get (with_latest es had) name)
  has_latest [] had name all last = last
  has_latest (e ∷ es) had name all last =
      has_latest es (insert had e.name e) name all.1
      (subst (HasLast name) (sym (get-insert name_cmp_total had e.name e name)) (last_next e name (get had name) (eq_by_cmp name_cmp name e.name) refl all.0 last))

  pub has_last : (es : List TimedEvent) (name : DocName) → AllByRecursion P es → HasLast name (get (latest_of es) name)
  has_last es name all = has_latest es empty name all (subst (HasLast name) (sym (get-empty name_cmp name)) tt)

-- ---- what they leave

gone_next : (es : List TimedEvent) (docs before : Docs) (had : FinMap name_cmp TimedEvent) (name : DocName) → get docs name ≡ left_behind (get had name) (get before name)
    → get (gone_over es docs) name ≡ left_behind (get (with_latest es had) name) (get before name)
gone_next [] docs before had name is = is
gone_next (e ∷ es) docs before had name is =
    gone_next es (with_document docs e.name (left_by e)) before (insert had e.name e) name
    (get-with_document docs e.name (left_by e) name
    ∙ one (is_at (name_cmp e.name) name)
    ∙ ap (λ b. left_behind (cond b (Some e) (get had name)) (get before name)) ((eq_by_cmp_equiv name_cmp_total).symm e.name name)
    ∙ ap (λ o. left_behind o (get before name)) (sym (get-insert name_cmp_total had e.name e name))) where
      one : (b : Bool) → cond b (left_by e) (get docs name) ≡ left_behind (cond b (Some e) (get had name)) (get before name)
      one true = refl
      one false = is

pub gone_at : (es : List TimedEvent) (docs : Docs) (name : DocName) → get (gone_over es docs) name ≡ left_behind (get (latest_of es) name) (get docs name)
gone_at es docs name = gone_next es docs docs empty name (ap (λ o. left_behind o (get docs name)) (sym (get-empty name_cmp name)))

-- by what is known of the last event of a name
pub gone_last : (es : List TimedEvent) (docs : Docs) (name : DocName) (latest : FinMap name_cmp TimedEvent) (last : Option TimedEvent) → latest ≡ latest_of es → last ≡ get latest name
    → left_behind last (get docs name) ≡ get (gone_over es docs) name
gone_last es docs name latest last is there =
    ap (λ o. left_behind o (get docs name)) (there ∙ ap (λ m. get m name) is) ∙ sym (gone_at es docs name)

-- documents bear their names behind events whose documents do
left_named : (e : TimedEvent) (b : Bool) → IsNamed e → Bears (cond b e.after None) e.name
left_named e true named = named
left_named e false named = tt

pub gone_named : (es : List TimedEvent) (docs : Docs) → AllByRecursion IsNamed es → AreNamed docs → AreNamed (gone_over es docs)
gone_named [] docs all named = named
gone_named (e ∷ es) docs all named = gone_named es (with_document docs e.name (left_by e)) all.1 (with_named docs e.name (left_by e) named (left_named e e.inside all.0))

-- ---- as a list

-- the documents behind the last events, of what stands at places
abbrev pub shown : FinMap name_cmp TimedEvent → List (DocName × Place) → List Document
shown latest es = filter_map (λ (e : DocName × Place). left_behind (get latest e.0) e.1.document) es

module _ (latest : FinMap name_cmp TimedEvent) where
  abbrev behind : DocName → Place → Option Document
  behind name p = left_behind (get latest name) p.document

  shown_values : (es : List (DocName × Place)) → map (λ (e : DocName × Document). e.1) (filter_map (keep behind) es) ≡ shown latest es
  shown_values [] = refl
  shown_values (e ∷ es) = one (behind e.0 e.1) (shown_values es) where
    one : (o : Option Document) → map (λ (d : DocName × Document). d.1) (filter_map (keep behind) es) ≡ shown latest es
        → map (λ (d : DocName × Document). d.1) (cons_option (option_map (λ y. (e.0, y)) o) (filter_map (keep behind) es)) ≡ cons_option o (shown latest es)
    one None rest = rest
    one (Some d) rest = ap (λ ds. d ∷ ds) rest

-- where there is no place nothing is left
none_left : (places : Placed) (name : DocName) (e : TimedEvent) (b : Bool) → e.inside ≡ b → HasPlace places e → e.name ≡ name → get places name ≡ None → cond b e.after None ≡ None
none_left places name e true is has names none = absurd (let some : true ≡ false = sym (has.1 is) ∙ ap (λ n. is_until e.time (get places n)) names ∙ ap (is_until e.time) none in cc)
none_left places name e false is has names none = refl

left_there : (places : Placed) (name : DocName) (last : Option TimedEvent) (there : Option Place) → get places name ≡ there → IfSome last (λ e. HasPlace places e × (e.name ≡ name))
    → left_behind last (stood there) ≡ then_at (λ (_ : DocName) (p : Place). left_behind last p.document) name there
left_there places name last (Some p) is has = refl
left_there places name None None is has = refl
left_there places name (Some e) None is has = none_left places name e e.inside refl has.0 has.1 is

same_then : (latest : FinMap name_cmp TimedEvent) (name : DocName) (there : Option Place) → then_at (λ (_ : DocName) (p : Place). left_behind (get latest name) p.document) name there ≡ then_at (behind latest) name there
same_then latest name None = refl
same_then latest name (Some p) = refl

gone_kept : (places : Placed) (es : List TimedEvent) → HavePlaces places es → gone_over es (docs_in places) ≡ from_entries (filter_map (keep (behind (latest_of es))) (entries places))
gone_kept places es have =
    same_map name_cmp_total name_same (gone_over es (docs_in places)) (from_entries (filter_map (keep (behind (latest_of es))) (entries places)))
    (λ q. gone_at es (docs_in places) q
    ∙ ap (left_behind (get (latest_of es) q)) (get-docs_in places q)
    ∙ left_there places q (get (latest_of es) q) (get places q) refl (has_last (HasPlace places) es q have)
    ∙ same_then (latest_of es) q (get places q)
    ∙ sym (get-kept (behind (latest_of es)) places q))

pub shown_is : (places : Placed) (es : List TimedEvent) → HavePlaces places es → shown (latest_of es) (entries places) ≡ values (gone_over es (docs_in places))
shown_is places es have =
    let kept = filter_map (keep (behind (latest_of es))) (entries places) in
    sym (shown_values (latest_of es) (entries places))
    ∙ ap (map (λ (e : DocName × Document). e.1)) (sym (entries_rising name_cmp_total kept (rising_kept (behind (latest_of es)) (entries places) (to_true _ (entries_sorted places)))))
    ∙ ap values (sym (gone_kept places es have))

-- ---- up to a time

pub places_up : (places : Placed) (staged : List TimedEvent) (time : ℤ) → HavePlaces places staged → HavePlaces places (up_to time staged)
places_up places staged time have = each_filter (HasPlace places) (λ (e : TimedEvent). int_le e.time time) staged have

module _ (places : Placed) (staged : List TimedEvent) (time : ℤ) (have : HavePlaces places staged) (named : AreNamed (docs_in places)) where
  pub named_up : AreNamed (gone_over (up_to time staged) (docs_in places))
  named_up = gone_named (up_to time staged) (docs_in places) (each_weaker (HasPlace places) IsNamed (λ e has. has.0) (up_to time staged) (places_up places staged time have)) named

  pub rising_up : (ds : List Document) → ds ≡ values (gone_over (up_to time staged) (docs_in places)) → IsTrue (is_sorted name_cmp (by_name ds))
  rising_up ds is = subst (λ ds. IsTrue (is_sorted name_cmp (by_name ds))) (sym is) (listed (gone_over (up_to time staged) (docs_in places)) named_up).0
