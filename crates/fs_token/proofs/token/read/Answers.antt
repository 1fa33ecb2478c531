use Rattle.std.proofs.Common.{sym, ◌∙◌, ap, arith, rules, w64}
use Rattle.std.proofs.Math.Facts.{to_z-of_z}
use Rattle.fs_token.specs.Token.{time_of_number}
use Rattle.fs_token.proofs.RoundTrip.{reads_exactly, time_in-short, time_in-unmarked, time_in-marked}
use Rattle.fs_token.proofs.token.read.Goals as goal

pub returns-then-bytes-ne-LENGTH-clause-value : goal.returns-then-bytes-ne-LENGTH-clause-value
returns-then-bytes-ne-LENGTH-clause-value c = sym (time_in-short c.args.bytes.now c.if-bytes-ne-LENGTH.true)

pub returns-then-bytes-ne-LENGTH-clause-exact : goal.returns-then-bytes-ne-LENGTH-clause-exact
returns-then-bytes-ne-LENGTH-clause-exact c =
    reads_exactly c.args.bytes.now _ (λ i. omega (arith, c.type_inv.bytes i)) (returns-then-bytes-ne-LENGTH-clause-value c)

pub returns-then-not-starts_with-clause-value : goal.returns-then-not-starts_with-clause-value
returns-then-not-starts_with-clause-value c =
    sym (time_in-unmarked c.args.bytes.now c.if-bytes-ne-LENGTH.false (sym c.starts_with.ensures.value ∙ c.if-not-starts_with.true))

pub returns-then-not-starts_with-clause-exact : goal.returns-then-not-starts_with-clause-exact
returns-then-not-starts_with-clause-exact c =
    reads_exactly c.args.bytes.now _ (λ i. omega (arith, c.type_inv.bytes i)) (returns-then-not-starts_with-clause-value c)

pub returns-clause-value : goal.returns-clause-value
returns-clause-value c =
    c.moment_of.ensures ∙ ap time_of_number (to_z-of_z {w = w64} (search rules) ∙ c.number_behind.ensures)
    ∙ sym (time_in-marked c.args.bytes.now c.if-bytes-ne-LENGTH.false (sym c.starts_with.ensures.value ∙ c.if-not-starts_with.false))

pub returns-clause-exact : goal.returns-clause-exact
returns-clause-exact c =
    reads_exactly c.args.bytes.now _ (λ i. omega (arith, c.type_inv.bytes i)) (returns-clause-value c)
