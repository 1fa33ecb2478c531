use Rattle.std.proofs.Common.{◌≡◌, Some, None, arith, rules}
use Rattle.fs_rpc.specs.Eight.{number_of}
use Rattle.fs_rpc.proofs.Numbers.{number_both_ways}
use Rattle.fs_rpc.proofs.eight.number_of.Goals as goal

pub returns-in-Ok-clause-both_ways : goal.returns-in-Ok-clause-both_ways
unfolding number_of
returns-in-Ok-clause-both_ways c = λ n fits.
    let read : Some c.from_be_bytes.result ≡ number_of c.args.bytes.now = search rules in
    number_both_ways (Some c.from_be_bytes.result) c.args.bytes.now n read (λ i. omega (arith, c.type_inv.bytes i)) fits

pub returns-in-Err-clause-both_ways : goal.returns-in-Err-clause-both_ways
unfolding number_of
returns-in-Err-clause-both_ways c = λ n fits.
    let read : None ≡ number_of c.args.bytes.now = search rules in
    number_both_ways None c.args.bytes.now n read (λ i. omega (arith, c.type_inv.bytes i)) fits
