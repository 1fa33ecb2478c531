-- A name at which the views of no target differ isn't told of, so those at which they may differ tell all.
use Rattle.std.proofs.Common.{◌≡◌, ℤ, true, false, cond, not, ◌&&◌, ◌||◌, List, [], ◌∷◌, ◌++◌, map, Option, Some, None, refl, sym, ap, ◌∙◌}
use Rattle.std.specs.Prelude.{is_some}
use Rattle.std.specs.FinMap.{entries, entries_sorted, from_entries, get}
use Rattle.std.specs.List.{AllByRecursion, filter, flat_map, list_any}
use Rattle.std.specs.List.Sorted.{IsStrictlySortedBy}
use Rattle.std.specs.Option.{option_to_list}
use Rattle.std.proofs.lemmas.List.{append_assoc}
use Rattle.fs_path.proofs.Bools.{to_true}
use Rattle.fs_path.specs.NameOrder.{name_cmp, name_cmp_total, name_eq, name_same}
use Rattle.fs_path.specs.declared.name.DocName.{DocName}
use Rattle.fs_value.proofs.Alike.{document_itself}
use Rattle.fs_value.specs.declared.document.Document.{Document}
use Rattle.fs_query.specs.declared.listen.ListenMessage.{ListenMessage}
use Rattle.fs_query.specs.declared.listen.ListenMessage.TheVariants as message
use Rattle.fs_listen.proofs.Names.{unnamed}
use Rattle.fs_listen.specs.Told.{Views, gone_from, having, is_differing, leaving, names_of, same_there, shown_in, told, told_of}
use Rattle.fs_target.specs.Looks.{AreAlike, told_at}
use Rattle.fs_target.proofs.Rising.{made_alike, rising_keys}

-- ---- a name at which nothing differs

same_itself : (o : Option Document) → same_there o o ≡ true
same_itself None = refl
same_itself (Some d) = document_itself d

none_differs : (name : DocName) (vs : List Views) → AreAlike name vs → is_differing name vs ≡ false
none_differs name [] alike = refl
none_differs name (v ∷ vs) alike =
    (λ i. not ((ap (λ (o : Option Document). same_there o (get v.new name)) alike.0 ∙ same_itself (get v.new name)) i) || none_differs name vs alike.1 i)

stays : (o : Option Document) → (is_some o && not (is_some o)) ≡ false
stays None = refl
stays (Some d) = refl

none_leaves : (name : DocName) (vs : List Views) → AreAlike name vs → leaving name vs ≡ []
none_leaves name [] alike = refl
none_leaves name (v ∷ vs) alike =
    let rest = filter (λ (w : Views). is_some (get w.sent name) && not (is_some (get w.new name))) vs in
    ap (λ b. map (λ (w : Views). w.id) (cond b (v ∷ rest) rest)) (ap (λ (o : Option Document). is_some o && not (is_some (get v.new name))) alike.0 ∙ stays (get v.new name))
    ∙ none_leaves name vs alike.1

pub not_told : (time : ℤ) (vs : List Views) (name : DocName) → AreAlike name vs → told_at time vs name ≡ []
not_told time vs name alike = by_shown (shown_in name vs) where
  by_shown : (o : Option Document) → told_of true time name o vs ≡ []
  by_shown None = ap (gone_from true time name) (none_leaves name vs alike)
  by_shown (Some d) = ap (λ b. cond b (message.Changed d (having name vs) (leaving name vs) ∷ []) []) (none_differs name vs alike)

-- ---- names that aren't among those of the views

alike_none : (name : DocName) (vs : List Views) → AllByRecursion (λ (v : Views). get v.sent name ≡ None) vs → AllByRecursion (λ (v : Views). get v.new name ≡ None) vs
    → AreAlike name vs
alike_none name [] olds news = tt
alike_none name (v ∷ vs) olds news = (olds.0 ∙ sym news.0, alike_none name vs olds.1 news.1)

unnamed_alike : (name : DocName) (vs : List Views) → list_any (name_eq name) (names_of vs) ≡ false → AreAlike name vs
unnamed_alike name vs none = let both = unnamed name vs none in alike_none name vs both.0 both.1

-- ---- all that is told

names_rise : (vs : List Views) → IsStrictlySortedBy name_cmp (names_of vs)
names_rise vs = rising_keys name_cmp _ (to_true _ (entries_sorted (from_entries {R = name_cmp} (flat_map (λ (v : Views). entries v.sent) vs ++ flat_map (λ (v : Views). entries v.new) vs))))

pub all_told : (time : ℤ) (vs : List Views) (names : List DocName) → IsStrictlySortedBy name_cmp names
    → ((name : DocName) → list_any (name_eq name) names ≡ false → AreAlike name vs)
    → flat_map (told_at time vs) names ≡ told (λ _. true) time vs
all_told time vs names rise outside =
    made_alike name_cmp_total name_same (told_at time vs) names (names_of vs) rise (names_rise vs)
    (λ name none. not_told time vs name (unnamed_alike name vs none)) (λ name none. not_told time vs name (outside name none))

-- what was told so far, after one name more
pub told_next : (f : DocName → List ListenMessage) (said now all : List ListenMessage) (message : Option ListenMessage) (name : DocName) (left rest : List DocName)
    → now ≡ said ++ option_to_list message → option_to_list message ≡ f name → left ≡ name ∷ rest → said ++ flat_map f left ≡ all → now ++ flat_map f rest ≡ all
told_next f said now all message name left rest then tells is before =
    ap (λ ms. ms ++ flat_map f rest) (then ∙ ap (λ ms. said ++ ms) tells)
    ∙ append_assoc said (f name) (flat_map f rest)
    ∙ ap (λ ns. said ++ flat_map f ns) (sym is)
    ∙ before
