use Rattle.std.proofs.Common.{Some, ap, ◌∙◌}
use Rattle.fs_txn.specs.Transactions.{txn_of}
use Rattle.fs_machine.specs.Commit.{commit_retry_refusal}
use Rattle.fs_machine.proofs.Carried.{number_open}
use Rattle.fs_server.proofs.server.Server.commit_in.Goals as goal

pub commit_writing-requires-clause-limits : goal.commit_writing-requires-clause-limits
commit_writing-requires-clause-limits c =
    let m = c.args.self.now in
    ap (λ id. commit_retry_refusal m c.args.writes.now (Some id)) (number_open m.txns.open c.args.author c.open_one-txn.result.now c.open_one-txn.ensures) ∙ c.requires.limits

pub commit_writing-requires-clause-there : goal.commit_writing-requires-clause-there
commit_writing-requires-clause-there c =
    let m = c.args.self.now in
    ap (λ id. txn_of id m.txns.open) (number_open m.txns.open c.args.author c.open_one-txn.result.now c.open_one-txn.ensures) ∙ c.open_one-txn.ensures
