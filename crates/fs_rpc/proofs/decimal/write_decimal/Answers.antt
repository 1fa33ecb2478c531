use Rattle.fs_rpc.proofs.Decimals.{decimal_again}
use Rattle.fs_rpc.proofs.decimal.write_decimal.Goals as goal

pub returns-clause-held : goal.returns-clause-held
returns-clause-held c = decimal_again c.args.n c.ranges.n.fits
