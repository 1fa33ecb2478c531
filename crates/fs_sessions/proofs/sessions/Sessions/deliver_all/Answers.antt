use Rattle.std.proofs.Common.{◌++◌, [], ◌∷◌, sym, ap, ◌∙◌}
use Rattle.std.proofs.lemmas.List.{map-append}
use Rattle.fs_machine.specs.Sessions.{delivered}
use Rattle.fs_machine.specs.declared.reply.Reply.{Reply}
use Rattle.fs_sessions.specs.Place.{all_taken_back}
use Rattle.fs_sessions.proofs.Replies.{all_back, delivered_last}
use Rattle.fs_sessions.proofs.sessions.Sessions.deliver_all.Goals as goal

pub returns-in-Err-clause-err : goal.returns-in-Err-clause-err
returns-in-Err-clause-err c =
    let told = c.in-Err.ensures.stay ∙ c.loop-reply.invariant.noted in
    let now = c.in-Err.ensures.err ∙ c.loop-reply.invariant.delivered in
    c.take_all_back.ensures ∙ (λ i. all_taken_back (told i) (now i)) ∙ all_back c.loop-reply.yielded c.args.self.now

pub loop-reply-preserved : goal.loop-reply-preserved
loop-reply-preserved c =
    let r = c.in-Some.reply in
    let inv = c.loop-reply.invariant in
    record {
      delivered = c.in_default.ensures.ok ∙ ap (delivered r.session r.message) inv.delivered ∙ sym (delivered_last c.loop-reply.yielded r c.args.self.now);
      noted = c.in_default.ensures.noted ∙ ap (λ ns. ns ++ r.session ∷ []) inv.noted ∙ sym (map-append (λ (x : Reply). x.session) c.loop-reply.yielded (r ∷ []));
    }
