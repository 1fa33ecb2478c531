use Rattle.std.proofs.Common.{◌≡◌, suc, ◌+◌, None, drop, get_or, sym, ap, ◌∙◌, arith}
use Rattle.std.proofs.lemmas.List.{at_drop_more}
use Rattle.fs_write.specs.Rules.{rule_of_write}
use Rattle.fs_queue.specs.Refusal.{broken_by, broken_from}
use Rattle.fs_queue.proofs.push.check_rules.Goals as goal

pub loop-write-preserved : goal.loop-write-preserved
loop-write-preserved c =
    let ws = c.args.writes.now in
    let n = c.loop-write.number in
    let i = c.loop-write.write-index in
    let w = c.write-item.result in
    let next : n + 1 ≡ suc n = omega arith in
    let kept : rule_of_write (get_or ws i w) ≡ None = ap rule_of_write (sym c.write-item.is) ∙ sym c.in_ok-rule.ensures ∙ c.in_default.is in
    record {
      counted = omega arith;
      rest =
          ap (λ number. broken_from number (drop (i + 1) ws)) next
          ∙ sym (at_drop_more (broken_from n) ws i w c.loop-write-test.true ∙ ap (λ found. broken_by found n (broken_from (suc n) (drop (i + 1) ws))) kept)
          ∙ c.loop-write.invariant.rest;
    }
