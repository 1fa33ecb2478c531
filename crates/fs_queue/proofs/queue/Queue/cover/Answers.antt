use Rattle.std.proofs.Common.{◌≡◌, rules, ap, ◌∙◌}
use Rattle.std.specs.List.{filter}
use Rattle.std.proofs.lemmas.Fn.{filter_same}
use Rattle.fs_queue.specs.Queue.{covered_to, is_uncovered}
use Rattle.fs_queue.specs.declared.batch.Acknowledged.{Acknowledged}
use Rattle.fs_queue.proofs.queue.Queue.cover.Goals as goal

pub returns : goal.returns
returns c =
    let was = c.self.inside in
    let kept : c.retain.new.self.items ≡ filter (is_uncovered c.args.t) was.acknowledged.items =
    filter_same _ (is_uncovered c.args.t) _ (λ (a : Acknowledged) b f' k. search rules) was.acknowledged.items c.retain.new.self.items c.retain.ensures.filtered in
    ap (λ acknowledged. record { limit = was.limit; given = was.given; acknowledged = acknowledged; unanswered = was.unanswered.items; sent = was.sent }) kept
    ∙ ap (covered_to c.args.t) c.self.view_is
