use Rattle.std.proofs.Common.{◌∙◌}
use Rattle.fs_json.proofs.Writings.{all_next}
use Rattle.fs_rpc.specs.MessageJson.{batch_answer_json}
use Rattle.fs_rpc.specs.MessageSteps.{IsAnswerHeld}
use Rattle.fs_rpc.proofs.Tokens.{next_item}
use Rattle.fs_rpc.proofs.reads_write.push_each.Goals as goal

pub loop-answer-preserved : goal.loop-answer-preserved
loop-answer-preserved c =
    let xs = c.args.answers.now in
    let l = c.loop-answer in
    let x = c.answer-item.result in
    let within = c.loop-answer-test.true in
    record {
      whole = next_item batch_answer_json xs l.answer-index x l.line.tokens c.push_answer.new.line.tokens _ within c.answer-item.is c.in_ok-push_answer.ensures.tokens l.invariant.whole;
      before = c.in_ok-push_answer.ensures.before ∙ l.invariant.before;
      held = all_next IsAnswerHeld xs l.answer-index x within c.answer-item.is l.invariant.held c.in_ok-push_answer.ensures.held;
    }
