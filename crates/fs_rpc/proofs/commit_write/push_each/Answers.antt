use Rattle.std.proofs.Common.{◌∙◌}
use Rattle.fs_json.proofs.Writings.{all_next}
use Rattle.fs_writejson.specs.Results.{result_json, IsResultHeld}
use Rattle.fs_rpc.proofs.Tokens.{next_item}
use Rattle.fs_rpc.proofs.commit_write.push_each.Goals as goal

pub loop-answer-preserved : goal.loop-answer-preserved
loop-answer-preserved c =
    let xs = c.args.results.now in
    let l = c.loop-answer in
    let x = c.answer-item.result in
    let within = c.loop-answer-test.true in
    record {
      whole = next_item result_json xs l.answer-index x l.line.tokens c.push_result.new.line.tokens _ within c.answer-item.is c.in_ok-push_result.ensures.tokens l.invariant.whole;
      before = c.in_ok-push_result.ensures.before ∙ l.invariant.before;
      held = all_next IsResultHeld xs l.answer-index x within c.answer-item.is l.invariant.held c.in_ok-push_result.ensures.held;
    }
