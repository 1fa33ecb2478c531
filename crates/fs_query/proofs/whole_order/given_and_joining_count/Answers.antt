use Rattle.std.proofs.Common.{◌≡◌, length, ap, arith}
use Rattle.std.specs.Option.{option_copied}
use Rattle.fs_query.specs.Normal.{joining}
use Rattle.fs_query.proofs.JoiningPaths.{behind, joining_end}
use Rattle.fs_query.proofs.whole_order.given_and_joining_count.Goals as goal

pub returns : goal.returns
returns c =
    let e : length (behind (option_copied c.loop-path.last) (joining c.args.q.now)) ≡ 0 = ap length (joining_end c.args.q.now (option_copied c.loop-path.last) c.in_default.ensures) in
    omega arith
