use Rattle.std.proofs.Common.{ap, ◌∙◌}
use Rattle.std.specs.Prelude.{map}
use Rattle.fs_listen.specs.Cuts.{is_ready_at}
use Rattle.fs_target.specs.Seen.{listening_of, seen}
use Rattle.fs_target.proofs.cuts.ready.Goals as goal

pub returns-in-At : goal.returns-in-At
returns-in-At c = let s = listening_of c.args.raised.now (map seen c.args.entries.now) in c.ready_at.ensures ∙ ap (is_ready_at s) (c.in-At.ensures c.args.raised.now)

pub returns-in-Loading : goal.returns-in-Loading
returns-in-Loading c = let s = listening_of c.args.raised.now (map seen c.args.entries.now) in ap (is_ready_at s) (c.in-Loading.ensures c.args.raised.now)

pub returns-in-NoTarget : goal.returns-in-NoTarget
returns-in-NoTarget c = let s = listening_of c.args.raised.now (map seen c.args.entries.now) in ap (is_ready_at s) (c.in-NoTarget.ensures c.args.raised.now)
