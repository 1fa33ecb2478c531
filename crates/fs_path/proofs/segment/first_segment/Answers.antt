use Rattle.std.proofs.Common.{[], lit<}
use Rattle.fs_path.specs.Segment.{segments}
use Rattle.fs_path.proofs.Segments.{cut, first_whole, whole}
use Rattle.fs_path.proofs.segment.first_segment.Goals as goal

pub returns-in-Some-clause-parts : goal.returns-in-Some-clause-parts
returns-in-Some-clause-parts c =
    let at = c.in-Some.ensures.byte (lit< tt) (λ w o h. h) in
    cut c.args.text.now c.in-Some.first.now c.in-Some.rest.now at.0 at.1 at.2

pub returns-in-None-clause-parts : goal.returns-in-None-clause-parts
returns-in-None-clause-parts c = whole _ c.args.text.now (c.in-None.ensures.byte (lit< tt) (λ w o h. h))

pub returns-in-Some-clause-whole : goal.returns-in-Some-clause-whole
returns-in-Some-clause-whole c = first_whole c.args.text.now c.in-Some.first.now (segments c.in-Some.rest.now) (returns-in-Some-clause-parts c)

pub returns-in-None-clause-whole : goal.returns-in-None-clause-whole
returns-in-None-clause-whole c = first_whole c.args.text.now c.args.text.now [] (returns-in-None-clause-parts c)
