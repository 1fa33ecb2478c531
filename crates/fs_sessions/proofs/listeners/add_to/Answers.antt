use Rattle.std.proofs.Common.{ap, ◌∙◌}
use Rattle.std.specs.FinMap.{remove}
use Rattle.fs_pairs.proofs.Laws.{given_and_taken_back}
use Rattle.fs_sessions.proofs.listeners.add_to.Goals as goal

pub returns-in-Ok-clause-ok : goal.returns-in-Ok-clause-ok
returns-in-Ok-clause-ok c =
    let e = c.args.ear.now in
    λ i. record { session = e.session; held = c.in-Ok.ensures.ok i; numbers = c.in_ok-insert.ensures.ok i }

pub returns-in-Err-clause-err : goal.returns-in-Err-clause-err
returns-in-Err-clause-err c =
    let e = c.args.ear.now in
    let numbers = c.remove.ensures ∙ ap (λ m. remove m c.args.id) c.in_ok-insert.ensures.ok ∙ given_and_taken_back e.numbers c.args.id c.args.number c.requires.unnumbered in
    λ i. record { session = e.session; held = c.in-Err.ensures.err i; numbers = numbers i }
