use Rattle.std.proofs.Common.{◌∙◌}
use Rattle.fs_sessions.specs.Place.{all_taken_back}
use Rattle.fs_sessions.proofs.Replies.{all_back}
use Rattle.fs_server.proofs.settle.release_told.Goals as goal

pub returns-in-Err-clause-err_told : goal.returns-in-Err-clause-err_told
returns-in-Err-clause-err_told c =
    let ok = c.in_ok-to.ensures.ok in
    let to = c.in_ok-to.ensures.to in
    c.take_all_back.ensures ∙ (λ i. all_taken_back (to i) (ok i)) ∙ all_back c.args.replies.items c.args.sessions.now
