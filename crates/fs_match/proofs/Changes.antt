-- What one change tells.
use Rattle.std.proofs.Common.{◌≡◌, ◌≢◌, Bool, true, false, cond, Option, Some, None, refl, sym, ap, ◌∙◌}
use Rattle.std.specs.FinMap.{get, get-retain_keys}
use Rattle.std.specs.Prelude.{is_some}
use Rattle.fs_path.specs.NameOrder.{name_same}
use Rattle.fs_path.specs.declared.name.DocName.{DocName}
use Rattle.fs_value.specs.Same.{same_document}
use Rattle.fs_value.specs.declared.document.Document.{Document}
use Rattle.fs_value.proofs.Alike.{documents_are, document_itself}
use Rattle.fs_write.specs.Batch.{Docs}
use Rattle.fs_match.specs.declared.events.Event.TheVariants as event
use Rattle.fs_match.specs.Event.{fitting, event_between, event_for, after_event}
use Rattle.fs_match.specs.Followed.{docs_fitting}

-- ---- what fits afterwards

same_stays : (before after : Document) (same : Bool) → same_document before after ≡ same
    → after_event (cond same event.None event.Change) (Some after) (Some before) ≡ Some after
same_stays before after true is = ap Some (documents_are before after is)
same_stays before after false is = refl

changed : (before after : Document) (fitted fit : Bool)
    → after_event (event_between (cond fitted (Some before) None) (cond fit (Some after) None)) (Some after) (cond fitted (Some before) None)
    ≡ cond fit (Some after) None
changed before after false false = refl
changed before after false true = refl
changed before after true false = refl
changed before after true true = same_stays before after (same_document before after) refl

deleted : (before : Document) (fitted : Bool)
    → after_event (event_between (cond fitted (Some before) None) None) None (cond fitted (Some before) None) ≡ None
deleted before false = refl
deleted before true = refl

made : (after : Document) (fit : Bool)
    → after_event (event_between None (cond fit (Some after) None)) (Some after) None ≡ cond fit (Some after) None
made after false = refl
made after true = refl

pub one_change_tells : (fits : Document → Bool) (before after : Option Document)
    → after_event (event_for fits before after) after (fitting fits before) ≡ fitting fits after
one_change_tells fits None None = refl
one_change_tells fits None (Some after) = made after (fits after)
one_change_tells fits (Some before) None = deleted before (fits before)
one_change_tells fits (Some before) (Some after) = changed before after (fits before) (fits after)

-- ---- only what differs changes

no_change : (o : Option Document) → event_between o o ≢ event.Change
no_change None e = cc
no_change (Some d) e =
    absurd (let none : event.None ≡ event.Change = ap (λ same. cond same event.None event.Change) (sym (document_itself d)) ∙ e in cc)

pub changes_differ : (fits : Document → Bool) (before after : Option Document) → event_for fits before after ≡ event.Change → before ≢ after
changes_differ fits before after changes same =
    no_change (fitting fits before) (ap (λ o. event_for fits before o) same ∙ changes)

-- ---- by name

there_where : (fits : Document → Bool) (o : Option Document) → cond (is_some (fitting fits o)) o None ≡ fitting fits o
there_where fits None = refl
there_where fits (Some d) = one (fits d) where
  one : (fit : Bool) → cond (is_some (cond fit (Some d) None)) (Some d) None ≡ cond fit (Some d) None
  one true = refl
  one false = refl

pub fitting_by_name : (fits : Document → Bool) (docs : Docs) (name : DocName) → get (docs_fitting fits docs) name ≡ fitting fits (get docs name)
fitting_by_name fits docs name =
    get-retain_keys docs (λ n. is_some (fitting fits (get docs n))) name
    (λ other ties. ap (λ n. is_some (fitting fits (get docs n))) (sym (name_same name other ties)))
    ∙ there_where fits (get docs name)
