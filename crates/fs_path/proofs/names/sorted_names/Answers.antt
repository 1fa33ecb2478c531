use Rattle.fs_path.proofs.NamesOnce.{is_named, names_at, named_next, rise_lent}
use Rattle.std.proofs.Common.{◌||◌, drop, ◌+◌, ap, ◌∙◌}
use Rattle.fs_path.proofs.names.sorted_names.Goals as goal

pub loop-name-preserved : goal.loop-name-preserved
loop-name-preserved c =
    let all = c.as_slice-name-items.result.now in
    let i = c.loop-name.name-index in
    record {
      rise = c.in_ok-insert.ensures.ordered;
      same = λ q.
          ap (λ keys. is_named q (names_at keys) || is_named q (drop (i + 1) all)) c.in_ok-insert.ensures.keys
          ∙ named_next q all i c.loop-name.sorted.keys _ c.loop-name-test.true c.name-item.is (c.loop-name.invariant.same q);
    }

pub returns-clause-rise : goal.returns-clause-rise
returns-clause-rise c = rise_lent c.loop-name.sorted.keys c.loop-name.invariant.rise
