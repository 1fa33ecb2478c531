use Rattle.std.proofs.lemmas.Result.{on_ok_weaker}
use Rattle.fs_replay.specs.Played.{followed_by}
use Rattle.fs_replay.specs.Settling.{loads_each, matches_all, raises_each}
use Rattle.fs_replay.proofs.Serving.{joined, matches_play}
use Rattle.fs_replay.proofs.serve.serve.Goals as goal

pub returns : goal.returns
returns c =
    let s = c.args.state.now in
    let t = c.load_each.new.state in
    let u = c.match_all.new.state in
    let before = c.args.out.now.items in
    let between = c.load_each.new.out.items in
    let matched = matches_play t u between c.in_ok-match_all.ensures in
    let both = joined (loads_each s.directory s) matches_all t u before between between c.in_ok-load_each.ensures matched in
    on_ok_weaker c.raise_each.result
    (joined (followed_by (loads_each s.directory s) matches_all) (λ x. raises_each x.directory x) u c.raise_each.new.state before between c.raise_each.new.out.items both)
    c.raise_each.ensures
