use Rattle.std.proofs.Common.{◌≡◌, ◌++◌, map, drop}
use Rattle.json.specs.Tree.{items_tokens}
use Rattle.serde_json.specs.Data.{array}
use Rattle.serde_json.specs.View.{items_of}
use Rattle.serde_json.specs.Written.{items_outline}
use Rattle.fs_rpc.specs.ListenJson.{number_json}
use Rattle.fs_valjson.specs.Tokens.{tokens_of}
use Rattle.fs_rpc.proofs.listen_write.push_numbers.Given as goal

-- what is written so far, and the tokens of the numbers that are left with their bracket, are the list
abbrev pub invariant-loop-number : goal.invariant-loop-number
invariant-loop-number l = record {
  whole : l.line.tokens ++ items_tokens (items_outline (items_of (map number_json (drop l.number-index l.numbers)))) ≡ l.fn.line.tokens ++ tokens_of (array (items_of (map number_json l.numbers)));
  before : l.line.before ≡ l.fn.line.before;
}
