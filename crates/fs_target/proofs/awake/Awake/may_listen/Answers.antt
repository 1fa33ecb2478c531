use Rattle.std.proofs.Common.{◌∙◌, sym, subst}
use Rattle.fs_target.specs.Held.{IsListenedByNone}
use Rattle.fs_target.specs.Prepared.{held_in}
use Rattle.fs_target.proofs.Collected.{none_listens}
use Rattle.fs_target.proofs.awake.Awake.may_listen.Goals as goal

pub returns : goal.returns
returns c = λ none.
    let t = c.self.inside in
    subst (λ v. IsListenedByNone c.args.name.now (held_in v)) c.self.view_is
    (none_listens t.collections.ids c.args.name.now (record { shards = t.shards; limit = t.limit; raised = t.raised; entries = t.entries.items }) c.self.invariant.1.1 (sym c.have.ensures ∙ none))
