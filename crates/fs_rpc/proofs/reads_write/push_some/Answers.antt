use Rattle.std.proofs.Common.{◌∙◌}
use Rattle.fs_json.proofs.Writings.{all_next}
use Rattle.fs_valjson.specs.Valid.{IsDocumentHeld}
use Rattle.fs_rpc.specs.MessageJson.{query_answer_json}
use Rattle.fs_rpc.proofs.Tokens.{next_item}
use Rattle.fs_rpc.proofs.reads_write.push_some.Goals as goal

pub loop-document-preserved : goal.loop-document-preserved
loop-document-preserved c =
    let xs = c.args.documents.now in
    let l = c.loop-document in
    let x = c.document-item.result in
    let within = c.loop-document-test.true in
    record {
      whole = next_item (query_answer_json c.args.time) xs l.document-index x l.line.tokens c.push_read.new.line.tokens _ within c.document-item.is c.in_ok-push_read.ensures.tokens l.invariant.whole;
      before = c.in_ok-push_read.ensures.before ∙ l.invariant.before;
      held = all_next IsDocumentHeld xs l.document-index x within c.document-item.is l.invariant.held c.in_ok-push_read.ensures.held.0;
    }
