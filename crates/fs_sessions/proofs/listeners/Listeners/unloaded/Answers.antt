use Rattle.std.proofs.Common.{◌≡◌, None, sym, ap, ◌∙◌, rules}
use Rattle.std.specs.FinMap.{entries}
use Rattle.fs_listen.specs.Cuts.{first_loading}
use Rattle.fs_listen.specs.Listening.{Listening}
use Rattle.fs_sessions.specs.Heard.{heard_of}
use Rattle.fs_sessions.proofs.Listened.{none_there, told_nowhere, told_there}
use Rattle.fs_sessions.proofs.listeners.Listeners.unloaded.Goals as goal

pub returns-in_err-ear : goal.returns-in_err-ear
returns-in_err-ear c =
    let none : c.from_residual.result ≡ None = search rules in
    told_nowhere (λ (s : Listening). first_loading (entries s.targets)) c.args.session c.args.self.now _ c.in_err-ear.ensures (none ∙ ap first_loading (sym none_there))

pub returns : goal.returns
returns c = told_there (λ (s : Listening). first_loading (entries s.targets)) c.args.session c.args.self.now (heard_of c.in_ok-ear.field-0.now) _ c.in_ok-ear.ensures c.unloaded.ensures
