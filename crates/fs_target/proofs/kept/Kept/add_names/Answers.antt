use Rattle.std.proofs.Common.{◌≡◌, Bool, true, false, not, List, Option, None, Some, refl, sym, ap, ◌∙◌, subst}
use Rattle.std.specs.Prelude.{IfSome, IsTrue, is_some}
use Rattle.std.specs.Bool.{beq}
use Rattle.std.specs.BTreeSet.{contains}
use Rattle.std.specs.FinMap.{get}
use Rattle.std.specs.Option.{option_map}
use Rattle.fs_path.specs.NameOrder.{name_cmp}
use Rattle.fs_path.specs.declared.name.DocName.{DocName}
use Rattle.fs_write.specs.Batch.{Docs}
use Rattle.fs_target.specs.Kept.{docs_at}
use Rattle.fs_target.specs.Latest.{latest_of}
use Rattle.fs_target.specs.Places.{docs_in}
use Rattle.fs_target.specs.Ready.{Ready, sent_of}
use Rattle.fs_target.specs.Staged.{gone_over, up_to}
use Rattle.fs_target.specs.declared.event.TimedEvent.{TimedEvent}
use Rattle.fs_target.proofs.GoneOver.{gone_last}
use Rattle.fs_target.proofs.Standing.{Placed}
use Rattle.fs_target.proofs.kept.Kept.add_names.Goals as goal

-- ---- where a name isn't added

not_yet : (old new : Bool) → (old ≡ true → new ≡ true) → new ≡ false → old ≡ false
not_yet false new kept none = refl
not_yet true new kept none = absurd (let both : true ≡ false = sym (kept refl) ∙ none in cc)

not_there : {X : Type 0} (o : Option X) (added : Bool) → (is_some o ≡ true → added ≡ true) → added ≡ false → o ≡ None
not_there None added so none = refl
not_there (Some x) added so none = absurd (let both : true ≡ false = sym (so refl) ∙ none in cc)

not_in : (o : Option Placed) (name : DocName) (added : DocName → Bool) → IfSome o (λ v. (q : DocName) → IsTrue (is_some (get (docs_in v) q)) → IsTrue (added q)) → added name ≡ false
    → IfSome o (λ v. get (docs_in v) name ≡ None)
not_in None name added so none = tt
not_in (Some v) name added so none = not_there (get (docs_in v) name) (added name) (so name) none

was_none : (some none : Bool) → some ≡ not none → some ≡ false → none ≡ true
was_none some true is not_some = refl
was_none some false is not_some = absurd (let both : true ≡ false = sym is ∙ not_some in cc)

-- ---- the two views have the same there

module _ (docs : Docs) (es : List TimedEvent) (name : DocName) where
  same_docs : get (latest_of es) name ≡ None → get docs name ≡ get (gone_over es docs) name
  same_docs none = gone_last es docs name (latest_of es) None refl (sym none)

  alike : (sent next : Option Placed) → IfSome sent (λ v. get (docs_in v) name ≡ None) → IfSome next (λ v. get (docs_in v) name ≡ None)
      → (is_some next ≡ false → get (latest_of es) name ≡ None) → (not (beq (is_some sent) (is_some next)) ≡ true → get docs name ≡ None)
      → get (sent_of (option_map docs_in sent) docs) name ≡ get (sent_of (option_map docs_in next) (gone_over es docs)) name
  alike (Some s) (Some n) olds news latest all = olds ∙ sym news
  alike (Some s) None olds news latest all = olds ∙ sym (all refl) ∙ same_docs (latest refl)
  alike None (Some n) olds news latest all = all refl ∙ sym news
  alike None None olds news latest all = same_docs (latest refl)

pub returns-clause-all : goal.returns-clause-all
returns-clause-all c = λ time name.
    let k = c.self.inside in
    subst (λ (r : Ready). c.args.latest.now ≡ latest_of (up_to time r.kept.staged) → contains name_cmp c.add_all.new.names name ≡ false
    → get r.kept.sent name ≡ get (sent_of r.next (docs_at time r.kept)) name)
    c.self.view_is
    (λ is not_added.
    let not_last = not_yet _ _ (c.in_ok-add_all.ensures.kept name) not_added in
    let not_new = not_yet _ _ (c.in_ok-add_latest.ensures.kept name) not_last in
    let not_old = not_yet _ _ (c.in_ok-add_view-2.ensures.kept name) not_new in
    alike (docs_in k.places) (up_to time k.staged.staged) name k.sent k.next
    (not_in k.sent name (contains name_cmp c.add_view.new.names) c.in_ok-add_view.ensures.added not_old)
    (not_in k.next name (contains name_cmp c.add_view-2.new.names) c.in_ok-add_view-2.ensures.added not_new)
    (λ none. ap (λ m. get m name) (sym is) ∙ not_there _ _ (c.in_ok-add_latest.ensures.added (was_none _ _ c.is_none.ensures none) name) not_last)
    (λ differ. not_there _ _ (c.in_ok-add_all.ensures.added ((λ i. not (beq (c.is_some.ensures i) (c.is_some-2.ensures i))) ∙ differ) name) not_added))
