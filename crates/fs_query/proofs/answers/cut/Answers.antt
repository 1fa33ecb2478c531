use Rattle.std.proofs.Common.{◌≡◌, min, length, take, drop, ◌-◌, ap, ◌∙◌, rules}
use Rattle.fs_query.specs.Answer.{count_of}
use Rattle.fs_query.proofs.Cuts.{cut_limited, cut_unlimited}
use Rattle.fs_query.proofs.answers.cut.Goals as goal

pub returns-in-Some : goal.returns-in-Some
returns-in-Some c =
    let a : c.count_of.result ≡ count_of c.q.inside.offset = search rules in
    let b : c.count_of-in-Some.result ≡ count_of c.in-Some.limit = search rules in
    let from = c.min-from.ensures ∙ ap (λ n. min n (length c.args.found.now)) a in
    let within = c.min.ensures ∙ ap (λ n. min n (length (take (length c.args.found.now - c.min-from.result) (drop c.min-from.result c.args.found.now)))) b in
    rw (← c.q.view_is, c.in-Some.is) (cut_limited (λ f. f.document.now) c.in-Some.limit (count_of c.q.inside.offset) c.min-from.result c.min.result c.args.found.now from within)

pub returns-in-None : goal.returns-in-None
returns-in-None c =
    let a : c.count_of.result ≡ count_of c.q.inside.offset = search rules in
    rw (← c.q.view_is, c.in-None.is) (cut_unlimited (λ f. f.document.now) (count_of c.q.inside.offset) c.min-from.result c.args.found.now (c.min-from.ensures ∙ ap (λ n. min n (length c.args.found.now)) a))
