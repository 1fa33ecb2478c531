use Rattle.std.proofs.Common.{◌≡◌, ◌++◌, List, [], Option, Some, None, map, refl, sym, ap, ◌∙◌, subst, Bor}
use Rattle.std.specs.FinMap.{entries, get}
use Rattle.std.specs.List.{cons_option}
use Rattle.std.proofs.lemmas.List.{append-nil, append_assoc}
use Rattle.fs_path.specs.NameOrder.{name_cmp_total}
use Rattle.fs_value.specs.declared.document.Document.{Document}
use Rattle.fs_value.proofs.Tree.{entries_tree}
use Rattle.fs_write.specs.Batch.{AreNamed}
use Rattle.fs_target.specs.Latest.{left_behind}
use Rattle.fs_target.specs.Places.{docs_in}
use Rattle.fs_target.proofs.GoneOver.{shown, shown_is}
use Rattle.fs_target.proofs.Standing.{Placed, named_tree}
use Rattle.fs_target.proofs.places.Places.documents.Goals as goal

docs_of : List (Bor Document) → List Document
docs_of lent = map (λ (d : Bor Document). d.now) lent

pub loop-name-init : goal.loop-name-init
unfolding docs_of
loop-name-init c = ap (λ ds. docs_of ds ++ shown c.args.latest.now c.into_iter-name-iterator.result) c.new-lent.ensures.items

in_front : (o : Option Document) (ds : List Document) → cons_option o [] ++ ds ≡ cons_option o ds
in_front None ds = refl
in_front (Some d) ds = refl

pub loop-name-preserved : goal.loop-name-preserved
unfolding docs_of
loop-name-preserved c =
    let l = c.loop-name in
    let latest = c.args.latest.now in
    let so_far = docs_of l.lent.items in
    let rest = shown latest c.next.new.self in
    let left = left_behind (get latest c.in-Some.name.now) c.in-Some.place.now.document in
    let is = c.left_behind.ensures ∙ ap (λ o. left_behind o c.in-Some.place.now.document) c.get.ensures in
    ap (λ ds. ds ++ rest) c.in_ok-push_some.ensures
    ∙ ap (λ o. (so_far ++ cons_option o []) ++ rest) is
    ∙ append_assoc so_far (cons_option left []) rest
    ∙ ap (λ ds. so_far ++ ds) (in_front left rest)
    ∙ ap (λ es. so_far ++ shown latest es) (sym c.in-Some.ensures.steps)
    ∙ l.invariant

pub returns-clause-values : goal.returns-clause-values
unfolding docs_of
returns-clause-values c = λ es is have.
    let l = c.loop-name in
    let latest = c.args.latest.now in
    let begun = c.into_iter-name-iterator.ensures.into_iter_gives in
    let there = c.self.inside.places.entries in
    sym (append-nil (docs_of l.lent.items))
    ∙ ap (λ rest. docs_of l.lent.items ++ shown latest rest) (sym c.in-None.ensures.steps.0)
    ∙ l.invariant
    ∙ ap (shown latest) (begun.0 ∙ sym (entries_tree name_cmp_total there begun.5))
    ∙ ap (λ (m : Placed). shown latest (entries m)) c.self.view_is
    ∙ ap (λ last. shown last (entries c.args.self.now)) is
    ∙ shown_is c.args.self.now es have

pub returns-clause-named : goal.returns-clause-named
returns-clause-named c = subst (λ (m : Placed). AreNamed (docs_in m)) c.self.view_is (named_tree c.self.inside.places.entries c.self.invariant)

pub returns-in_err-push_some-clause-named : goal.returns-in_err-push_some-clause-named
returns-in_err-push_some-clause-named c = subst (λ (m : Placed). AreNamed (docs_in m)) c.self.view_is (named_tree c.self.inside.places.entries c.self.invariant)
