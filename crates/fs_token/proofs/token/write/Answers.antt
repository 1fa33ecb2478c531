use Rattle.std.proofs.Common.{sym, ◌∙◌, ap, subst}
use Rattle.fs_time.specs.Moment.{IsMoment}
use Rattle.fs_token.specs.Token.{time_in}
use Rattle.fs_token.proofs.RoundTrip.{time_in-token_of, spread_of, fits_signed}
use Rattle.fs_token.proofs.token.write.Goals as goal

pub returns-clause-value : goal.returns-clause-value
returns-clause-value c =
    let value = c.get.ensures.value in
    spread_of c.to_be_bytes.result c.get.result c.args.t (fits_signed c.get.result (subst IsMoment (sym value) c.get.ensures.range)) value c.to_be_bytes.ensures

pub returns-clause-read_again : goal.returns-clause-read_again
returns-clause-read_again c = ap time_in (returns-clause-value c) ∙ time_in-token_of c.args.t c.get.ensures.range
