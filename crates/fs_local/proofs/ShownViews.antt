-- Where nothing is uncovered, a target is shown just as its view over the documents that the client's are of, if it took that view.
use Rattle.std.proofs.Common.{◌≡◌, ℕ, true, cond, List, Option, Some, None, refl, sym, ap, ◌∙◌}
use Rattle.std.specs.Prelude.{is_some}
use Rattle.std.specs.FinMap.{get, same_map, values}
use Rattle.std.specs.Option.{option_map}
use Rattle.fs_path.specs.NameOrder.{name_cmp_total, name_same}
use Rattle.fs_path.specs.declared.name.DocName.{DocName}
use Rattle.fs_value.specs.declared.document.Document.{Document}
use Rattle.fs_write.specs.Batch.{Docs}
use Rattle.fs_query.specs.declared.target.Target.{Target}
use Rattle.fs_query.specs.declared.target.Target.TheVariants as target
use Rattle.fs_match.specs.Event.{fitting, is_among}
use Rattle.fs_match.specs.Followed.{docs_fitting}
use Rattle.fs_match.proofs.Changes.{fitting_by_name}
use Rattle.fs_listen.specs.View.{shown_names}
use Rattle.fs_cache.specs.Cached.{documents}
use Rattle.fs_cache.specs.declared.cached.CachedDocument.{CachedDocument}
use Rattle.fs_queue.specs.Overlay.{overlay}
use Rattle.fs_local.specs.Gathered.{had_of}
use Rattle.fs_local.specs.Laws.{HasView, ShowsWhatItTook, SkipsNone}
use Rattle.fs_local.specs.Shown.{shown}
use Rattle.fs_local.specs.State.{Client}
use Rattle.fs_cache.proofs.Showing.{get-documents_of}
use Rattle.fs_local.proofs.Parts.{entry_found}
use Rattle.fs_local.proofs.SameAnswers.{same_answer}

-- what a target has is there
had_there : (id : ℕ) (o : Option CachedDocument) (d : Document) → had_of id o ≡ Some d → is_some (option_map (λ (c : CachedDocument). c.document) o) ≡ true
had_there id None d is = absurd (cc)
had_there id (Some c) d is = refl

none_had : (id : ℕ) (o : Option CachedDocument) → option_map (λ (c : CachedDocument). c.document) o ≡ None → had_of id o ≡ None
none_had id None none = refl
none_had id (Some c) none = absurd (cc)

-- where its view has one, that is there
view_there : (id : ℕ) (t : Target) (docs : Docs) (c : Client) (has : HasView id t docs c) (name : DocName) (d : Document) → get docs name ≡ Some d → is_among (shown_names t docs) d ≡ true
    → is_some (get (documents c.cache) name) ≡ true
view_there id t docs c has name d is among =
    ap is_some (get-documents_of c.cache.taken name)
    ∙ had_there id (get c.cache.taken name) d
    (has.whole name ∙ fitting_by_name (is_among (shown_names t docs)) docs name ∙ ap (fitting (is_among (shown_names t docs))) is ∙ ap (λ b. cond b (Some d) None) among)

-- of names: what is there of them is what the view has
names_shown : (id : ℕ) (names : List DocName) (docs : Docs) (c : Client) → HasView id (target.Documents names) docs c → docs_fitting (is_among names) (documents c.cache) ≡ docs_fitting (is_among names) docs
names_shown id names docs c has =
    same_map name_cmp_total name_same (docs_fitting (is_among names) (documents c.cache)) (docs_fitting (is_among names) docs)
    (λ name. fitting_by_name (is_among names) (documents c.cache) name ∙ by_option name (get (documents c.cache) name) refl ∙ sym (fitting_by_name (is_among names) docs name))
  where
    by_option : (name : DocName) (o : Option Document) → get (documents c.cache) name ≡ o → fitting (is_among names) o ≡ fitting (is_among names) (get docs name)
    by_option name (Some d) is = ap (fitting (is_among names)) (sym (has.part name d is))
    by_option name None is =
        sym (none_had id (get c.cache.taken name) (sym (get-documents_of c.cache.taken name) ∙ is)) ∙ has.whole name ∙ fitting_by_name (is_among names) docs name

target_shown : (id : ℕ) (t : Target) (docs : Docs) (c : Client) → SkipsNone t → HasView id t docs c → shown t (documents c.cache) ≡ shown t docs
target_shown id (target.Query q) docs c none has =
    same_answer q (documents c.cache) docs has.part none (λ e there among. view_there id (target.Query q) docs c has e.0 e.1 (entry_found docs e there) among)
target_shown id (target.Documents names) docs c none has = ap values (names_shown id names docs c has)

pub shows_what_it_took : ShowsWhatItTook
shows_what_it_took id t docs c none skips has = ap (λ bs. shown t (overlay (documents c.cache) bs)) none ∙ target_shown id t docs c skips has
