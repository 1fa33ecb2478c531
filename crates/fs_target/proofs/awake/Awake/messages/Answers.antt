use Rattle.std.proofs.Common.{sym, ap, ◌∙◌, subst}
use Rattle.std.proofs.lemmas.Result.{IfOk-weaker}
use Rattle.fs_target.specs.Entries.{messages_in}
use Rattle.fs_target.specs.Prepared.{AreReady, held_in}
use Rattle.fs_target.specs.Raise.{kept_told}
use Rattle.fs_target.proofs.Raising.{messages_told}
use Rattle.fs_target.proofs.awake.Awake.messages.Goals as goal

pub returns : goal.returns
returns c = λ ready.
    let t = c.self.inside in
    let time = c.args.time in
    IfOk-weaker c.messages_at.result _ _
    (λ v is. is
    ∙ ap (messages_in time) c.as_slice.ensures.value
    ∙ messages_told t.shards t.limit t.raised time t.entries.items c.self.invariant.1.0 (subst (AreReady time) (sym c.self.view_is) ready)
    ∙ ap (λ v. kept_told time (held_in v)) c.self.view_is)
    c.messages_at.ensures
