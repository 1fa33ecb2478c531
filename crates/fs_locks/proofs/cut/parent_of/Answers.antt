use Rattle.std.proofs.Common.{◌≡◌, false, ap, ◌++◌, ◌∙◌}
use Rattle.fs_path.proofs.Segments.{segments_whole}
use Rattle.fs_path.specs.Segment.{has_slash, segments}
use Rattle.fs_locks.proofs.Cuts.{cut_last, no_slash, segments_cut}
use Rattle.fs_locks.proofs.cut.parent_of.Goals as goal

pub returns-in-Some-clause-whole : goal.returns-in-Some-clause-whole
returns-in-Some-clause-whole c =
    let s = c.in-Some.ensures.cases in
    ap has_slash s.4 ∙ no_slash _ s.2.0

pub returns-in-Some-clause-parts : goal.returns-in-Some-clause-parts
returns-in-Some-clause-parts c =
    let s = c.in-Some.ensures.cases in
    let front = c.in-Some.front.now in
    let last = c.in-Some.last.now in
    let whole : has_slash last ≡ false = ap has_slash s.4 ∙ no_slash _ s.2.0 in
    ap segments (cut_last c.args.text.now front last s.0 s.1 s.2.1 s.3 s.4) ∙ segments_cut front last ∙ ap (λ parts. segments front ++ parts) (segments_whole last whole)

pub returns-in-None-clause-parts : goal.returns-in-None-clause-parts
returns-in-None-clause-parts c = segments_whole c.args.text.now (no_slash c.args.text.now c.in-None.ensures.cases)

pub returns-in-None-clause-whole : goal.returns-in-None-clause-whole
returns-in-None-clause-whole c = no_slash c.args.text.now c.in-None.ensures.cases
