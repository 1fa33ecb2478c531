use Rattle.std.proofs.Common.{[], ◌∷◌, ◌++◌, get_or, take, sym, ap, ◌∙◌}
use Rattle.std.specs.List.{cons_option, filter_map}
use Rattle.std.proofs.lemmas.List.{take_more}
use Rattle.std.proofs.lemmas.List.Elements.{filter_map-append}
use Rattle.fs_target.specs.Entries.{views_in}
use Rattle.fs_target.proofs.raise.looks_of.Goals as goal

pub loop-entry-preserved : goal.loop-entry-preserved
loop-entry-preserved c =
    let l = c.loop-entry in
    let es = c.args.entries.now in
    let e = c.entry-item.result in
    let see = views_in c.args.time in
    let done = filter_map see (take l.entry-index es) in
    record {
      views =
          c.in_ok-push_look.ensures.views
          ∙ ap (λ vs. vs ++ cons_option (see e) []) l.invariant.views
          ∙ ap (λ f. done ++ cons_option (see f) []) c.entry-item.is
          ∙ sym (filter_map-append see (take l.entry-index es) (get_or es l.entry-index e ∷ []))
          ∙ ap (filter_map see) (sym (take_more es l.entry-index e c.loop-entry-test.true));
      latest = c.in_ok-push_look.ensures.latest l.invariant.latest;
    }
