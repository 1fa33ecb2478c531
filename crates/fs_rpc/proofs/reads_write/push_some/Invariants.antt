use Rattle.std.proofs.Common.{◌≡◌, ◌++◌, map, drop, take}
use Rattle.std.specs.List.{AllByRecursion}
use Rattle.json.specs.Tree.{items_tokens}
use Rattle.serde_json.specs.Data.{array}
use Rattle.serde_json.specs.View.{items_of}
use Rattle.serde_json.specs.Written.{items_outline}
use Rattle.fs_rpc.specs.MessageJson.{query_answer_json}
use Rattle.fs_valjson.specs.Tokens.{tokens_of}
use Rattle.fs_valjson.specs.Valid.{IsDocumentHeld}
use Rattle.fs_rpc.proofs.reads_write.push_some.Given as goal

-- what is written so far, and the tokens of the documents that are left with their bracket, are the list; and those so far are held
abbrev pub invariant-loop-document : goal.invariant-loop-document
invariant-loop-document l = record {
  whole : l.line.tokens ++ items_tokens (items_outline (items_of (map (query_answer_json l.time) (drop l.document-index l.documents)))) ≡ l.fn.line.tokens ++ tokens_of (array (items_of (map (query_answer_json l.time) l.documents)));
  before : l.line.before ≡ l.fn.line.before;
  held : AllByRecursion IsDocumentHeld (take l.document-index l.documents);
}
