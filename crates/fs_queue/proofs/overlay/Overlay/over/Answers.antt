use Rattle.std.proofs.Common.{◌≤◌, None, [], ◌++◌, length, drop, sym, ap, ◌∙◌, subst, arith, length-drop}
use Rattle.std.specs.FinMap.{find, get, get-from_entries}
use Rattle.std.specs.Option.{option_to_list}
use Rattle.std.proofs.lemmas.List.{append-nil, map-append, take_rest}
use Rattle.fs_path.specs.NameOrder.{name_cmp, name_cmp_total}
use Rattle.fs_write.specs.Batch.{Bears, docs_of}
use Rattle.fs_write.proofs.Stages.{get-docs}
use Rattle.fs_queue.specs.Overlay.{laid}
use Rattle.fs_queue.proofs.Merging.{Merges, all_merged, begun, lent_more, rise_back}
use Rattle.fs_queue.proofs.Parting.{Rise, lent}
use Rattle.fs_queue.proofs.overlay.Overlay.over.Goals as goal
use Rattle.fs_queue.proofs.overlay.Overlay.over.Goals.{in-Some-left+in_ok-push, in_default}

pub loop-name-init : goal.loop-name-init
loop-name-init c =
    let all = c.into_iter-name-iterator.result in
    let entries = c.self.inside.left.entries in
    let gives = c.into_iter-name-iterator.ensures.into_iter_gives in
    let docs = lent c.args.docs.now in
    record {
      within = omega arith;
      merges =
          subst (λ xs. Merges docs all all (lent xs) docs) (sym c.in_ok-shown.ensures.items)
          (subst (λ es. Merges docs es es [] docs) (sym gives.0)
          (begun docs entries c.requires gives.5 (λ q. subst (λ o. Bears (laid o None) q) (get-from_entries name_cmp_total entries q) (c.self.invariant q))));
    }

pub places-below-requires : goal.places-below-requires
places-below-requires c =
    let docs = c.args.docs.now in
    subst (λ xs. Rise (lent xs)) (sym (take_rest docs c.loop-name.from)) (rise_back (lent c.loop-name.shown.items) (lent (drop c.loop-name.from docs)) c.loop-name.invariant.merges.rise)

pub loop-name-preserved : goal.loop-name-preserved
loop-name-preserved c =
    let docs = c.args.docs.now in
    let from = c.loop-name.from in
    let shown = c.match-left.shown.items in
    let front = c.extend_from_slice.new.self.items in
    let all = c.into_iter-name-iterator.result in
    let here = c.places-below.result in
    let so_far = c.loop-name.invariant.merges in
    let added = c.in_ok-extend_from_slice.ensures.items in
    record {
      within = omega (arith, subst (λ xs. here.1 ≤ length xs) (take_rest docs from) c.places-below.ensures.within, length-drop from docs);
      merges = elim c.match-left.branch [
        | in-Some-left+in_ok-push w ↦
            lent_more docs c.loop-name.shown.items front _ shown all c.loop-name.name-iterator c.next.new.self c.in-Some.name.now c.in-Some.left.now from here.0 here.1
            c.in-Some.ensures.steps so_far c.places-below.ensures.parted added (ap (λ v. v.items) w.shown-is ∙ w.in_ok-push.ensures.items) (sym (ap option_to_list w.in-Some-left.is))
        | in_default w ↦
            lent_more docs c.loop-name.shown.items front [] shown all c.loop-name.name-iterator c.next.new.self c.in-Some.name.now c.in-Some.left.now from here.0 here.1
            c.in-Some.ensures.steps so_far c.places-below.ensures.parted added (ap (λ v. v.items) w.shown-is ∙ sym (append-nil front)) (sym (ap option_to_list w.in_default.is))
      ];
    }

pub returns-clause-value : goal.returns-clause-value
returns-clause-value c = λ after is.
    let docs = c.args.docs.now in
    let all = c.into_iter-name-iterator.result in
    let entries = c.self.inside.left.entries in
    let shown = c.loop-name.shown.items in
    let rest = drop c.loop-name.from docs in
    let done = subst (λ es. Merges (lent docs) all es (lent shown) (lent rest)) c.in-None.ensures.steps.0 c.loop-name.invariant.merges in
    ap lent (c.in_ok-extend_from_slice-2.ensures.items ∙ ap (λ xs. shown ++ xs) (take_rest docs c.loop-name.from))
    ∙ map-append (λ b. b.now) shown rest
    ∙ all_merged (lent docs) (lent shown) (lent rest) all after done
    (λ q.
    (λ i. laid (find name_cmp q (c.into_iter-name-iterator.ensures.into_iter_gives.0 i)) (get-docs (lent docs) q c.requires i))
    ∙ ap (λ o. laid o (get (docs_of (lent docs)) q)) (sym (get-from_entries name_cmp_total entries q) ∙ ap (λ m. get m q) c.self.view_is)
    ∙ is q)

pub returns-clause-rise : goal.returns-clause-rise
returns-clause-rise c =
    let shown = c.loop-name.shown.items in
    let rest = drop c.loop-name.from c.args.docs.now in
    subst Rise
    (sym (ap lent (c.in_ok-extend_from_slice-2.ensures.items ∙ ap (λ xs. shown ++ xs) (take_rest c.args.docs.now c.loop-name.from)) ∙ map-append (λ b. b.now) shown rest))
    c.loop-name.invariant.merges.rise
