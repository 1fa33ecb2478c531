use Rattle.std.proofs.Common.{◌≡◌, ◌+◌, ◌-◌, ◌^◌, ◌≤◌, length}
use Rattle.std.specs.Prelude.{min}
use Rattle.std.specs.Option.{option_copied}
use Rattle.fs_query.specs.Normal.{joining}
use Rattle.fs_query.proofs.JoiningPaths.{behind}
use Rattle.fs_query.proofs.whole_order.given_and_joining_count.Given as goal

-- with those behind the last they are as many as are given and join
abbrev pub invariant-loop-path : goal.invariant-loop-path
invariant-loop-path l =
    record {
      fits : l.count ≤ 2 ^ 64 - 1;
      whole :
          min (l.count + length (behind (option_copied l.last) (joining l.q))) (2 ^ 64 - 1) ≡ min (length l.q.orders + length (joining l.q)) (2 ^ 64 - 1);
    }

abbrev pub decreases-loop-path : goal.decreases-loop-path
decreases-loop-path l = length (behind (option_copied l.last) (joining l.q))
