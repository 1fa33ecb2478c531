use Rattle.std.proofs.Common.{[], ap, ◌∙◌}
use Rattle.std.specs.Prelude.{unwrap_or}
use Rattle.std.specs.List.{list_any}
use Rattle.fs_history.specs.Touches.{touches}
use Rattle.fs_txn.specs.Reading.{is_reader, reads_in}
use Rattle.fs_txn.specs.Transactions.{Transactions}
use Rattle.fs_txn.proofs.Readers.{read_in}
use Rattle.fs_txn.proofs.txns.Txns.has_read.Goals as goal

pub returns-clause-reader : goal.returns-clause-reader
returns-clause-reader c = c.is_touched.ensures ∙ c.self.invariant.0.1 c.args.id c.args.name.now ∙ ap (λ (ts : Transactions). is_reader ts c.args.name.now c.args.id) c.self.view_is

pub returns-clause-touches : goal.returns-clause-touches
returns-clause-touches c =
    let ts = c.self.inside.by_id in
    c.is_touched.ensures
    ∙ c.self.invariant.0.1 c.args.id c.args.name.now
    ∙ read_in ts c.args.id c.args.name.now c.len.ensures.rise
    ∙ ap (λ (us : Transactions). list_any (touches c.args.name.now) (unwrap_or (reads_in c.args.id us.open) [])) c.self.view_is
