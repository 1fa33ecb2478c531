use Rattle.std.proofs.Common.{◌≡◌, drop, map, string_bytes, sym, ap, subst}
use Rattle.std.specs.Result.{result_unwrap_or}
use Rattle.fs_edge.specs.declared.status.Status.TheVariants.{Memory}
use Rattle.fsemu.specs.Words.{IsReplay}
use Rattle.fsemu.proofs.program.started.Goals as goal

pub returns-clause-transcript : goal.returns-clause-transcript
returns-clause-transcript g c = λ ok options is.
    let words : drop 1 c.args.given.now ≡ c.words_of-words.result.now = sym c.words_of-words.ensures in
    c.run.ensures.transcript (ap (λ r. result_unwrap_or r Memory) ok) options
    (subst (λ ws. IsReplay (map string_bytes ws) options) words is)
