use Rattle.std.proofs.Common.{[], List, sum_by, ap, ◌∙◌, arith}
use Rattle.std.proofs.lemmas.List.Sums.{sum_by-cons}
use Rattle.std.proofs.lemmas.Result.{on_ok_weaker}
use Rattle.fs_history.specs.Bytes.{shown_size}
use Rattle.fs_history.specs.declared.read.Read.{Read}
use Rattle.fs_txn.specs.Transactions.{all_noted}
use Rattle.fs_txn.proofs.Several.{noted_alone}
use Rattle.fs_txn.proofs.txns.Txns.note_read.Goals as goal

pub note_reads-requires-clause-fits : goal.note_reads-requires-clause-fits
note_reads-requires-clause-fits c =
    let one = ap (sum_by shown_size) c.in_ok-one.ensures ∙ sum_by-cons shown_size c.args.r [] in
    let fits = c.requires.fits in
    omega (arith, one, fits)

pub returns-clause-ok : goal.returns-clause-ok
returns-clause-ok c =
    let ts = c.args.self.now in
    on_ok_weaker c.note_reads.result
    (λ is. is ∙ ap (λ (rs : List Read). all_noted ts c.args.id rs c.args.now) c.in_ok-one.ensures ∙ noted_alone ts c.args.id c.args.r c.args.now)
    c.note_reads.ensures.ok
