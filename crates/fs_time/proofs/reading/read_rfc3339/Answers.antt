use Rattle.std.proofs.Common.{◌∙◌, ap, subst}
use Rattle.fs_time.specs.Rfc3339.{time_of}
use Rattle.fs_time.proofs.Means.{Means, means, found, no_memory, bad_text, out_of_range, one_text}
use Rattle.fs_time.proofs.RoundTrip.{time_of-time_text}
use Rattle.fs_time.proofs.reading.read_rfc3339.Goals as goal

pub returns-clause-memory : goal.returns-clause-memory
returns-clause-memory c =
    let e = c.moment_in.ensures ∙ ap time_of c.as_bytes.ensures.value in
    no_memory c.args.text.now c.moment_in.result (means _ _ e)

pub returns-clause-found : goal.returns-clause-found
returns-clause-found c =
    let e = c.moment_in.ensures ∙ ap time_of c.as_bytes.ensures.value in
    found c.args.text.now c.moment_in.result (means _ _ e)

pub returns-clause-bad_text : goal.returns-clause-bad_text
returns-clause-bad_text c =
    let e = c.moment_in.ensures ∙ ap time_of c.as_bytes.ensures.value in
    let m = means c.args.text.now c.moment_in.result e in
    (λ is. subst (Means c.args.text.now) is m, bad_text c.args.text.now c.moment_in.result m)

pub returns-clause-out_of_range : goal.returns-clause-out_of_range
returns-clause-out_of_range c =
    let e = c.moment_in.ensures ∙ ap time_of c.as_bytes.ensures.value in
    let m = means c.args.text.now c.moment_in.result e in
    (λ is. subst (Means c.args.text.now) is m, out_of_range c.args.text.now c.moment_in.result e)

pub returns-clause-again : goal.returns-clause-again
returns-clause-again c = time_of-time_text

pub returns-clause-one_text : goal.returns-clause-one_text
returns-clause-one_text c =
    let e = c.moment_in.ensures ∙ ap time_of c.as_bytes.ensures.value in
    one_text c.args.text.now c.moment_in.result (means _ _ e)
