use Rattle.std.proofs.Common.{◌≡◌, ◌++◌, map, drop, take}
use Rattle.std.specs.List.{AllByRecursion}
use Rattle.json.specs.Tree.{items_tokens}
use Rattle.serde_json.specs.View.{items_of}
use Rattle.serde_json.specs.Written.{items_outline}
use Rattle.fs_rpc.specs.MessageJson.{batch_answer_json}
use Rattle.fs_valjson.specs.Tokens.{tokens_of}
use Rattle.fs_rpc.specs.Tokens.{answers_json}
use Rattle.fs_rpc.specs.MessageSteps.{IsAnswerHeld}
use Rattle.fs_rpc.proofs.reads_write.push_each.Given as goal

-- what is written so far, and the tokens of the answers that are left with their bracket, are the list; and those so far are held
abbrev pub invariant-loop-answer : goal.invariant-loop-answer
invariant-loop-answer l = record {
  whole : l.line.tokens ++ items_tokens (items_outline (items_of (map batch_answer_json (drop l.answer-index l.answers)))) ≡ l.fn.line.tokens ++ tokens_of (answers_json l.answers);
  before : l.line.before ≡ l.fn.line.before;
  held : AllByRecursion IsAnswerHeld (take l.answer-index l.answers);
}
