use Rattle.std.proofs.Common.{sym}
use Rattle.std.specs.FinMap.{len, len-empty}
use Rattle.std.specs.Ordering.{nat_cmp}
use Rattle.fs_listen.specs.Listening.{Listened, Listening}
use Rattle.fs_sessions.specs.Heard.{heard_of}
use Rattle.fs_sessions.proofs.Listened.{told_nowhere, told_there}
use Rattle.fs_sessions.proofs.listeners.Listeners.target_count.Goals as goal

pub returns-in-Some : goal.returns-in-Some
returns-in-Some c = told_there (λ (s : Listening). len s.targets) c.args.session c.args.self.now (heard_of c.in-Some.ear.now) _ c.in-Some.ensures c.len.ensures

pub returns-in-None : goal.returns-in-None
returns-in-None c = told_nowhere (λ (s : Listening). len s.targets) c.args.session c.args.self.now _ c.in-None.ensures (sym (len-empty nat_cmp Listened))
