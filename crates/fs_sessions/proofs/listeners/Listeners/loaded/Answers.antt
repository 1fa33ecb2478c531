use Rattle.std.proofs.Common.{◌≡◌, None, option_map, sym, ap, ◌∙◌, rules}
use Rattle.std.specs.FinMap.{get, get-empty}
use Rattle.std.specs.Ordering.{nat_cmp}
use Rattle.fs_listen.specs.Cuts.{is_loaded}
use Rattle.fs_listen.specs.Listening.{Listened, Listening}
use Rattle.fs_sessions.specs.Heard.{heard_of}
use Rattle.fs_sessions.proofs.Listened.{told_nowhere, told_there}
use Rattle.fs_sessions.proofs.listeners.Listeners.loaded.Goals as goal

pub returns-in_err-ear : goal.returns-in_err-ear
returns-in_err-ear c =
    let none : c.from_residual.result ≡ None = search rules in
    told_nowhere (λ (s : Listening). option_map (λ (l : Listened). is_loaded l.loaded) (get s.targets c.args.id)) c.args.session c.args.self.now _ c.in_err-ear.ensures (none ∙ ap (option_map (λ (l : Listened). is_loaded l.loaded)) (sym (get-empty nat_cmp c.args.id)))

pub returns : goal.returns
returns c = told_there (λ (s : Listening). option_map (λ (l : Listened). is_loaded l.loaded) (get s.targets c.args.id)) c.args.session c.args.self.now (heard_of c.in_ok-ear.field-0.now) _ c.in_ok-ear.ensures c.loaded.ensures
