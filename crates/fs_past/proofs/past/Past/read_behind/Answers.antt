use Rattle.std.proofs.Common.{◌≤ℤ◌, ap, ◌∙◌, arith}
use Rattle.std.proofs.lemmas.Int.{ints}
use Rattle.fs_machine.specs.Behind.{least}
use Rattle.fs_machine.specs.Past.{Past, batches}
use Rattle.fs_past.specs.Touching.{numbers_since}
use Rattle.fs_past.proofs.LeastNumber.{touching_all}
use Rattle.fs_past.proofs.past.Past.read_behind.Goals as goal

pub returns : goal.returns
returns c =
    let p = c.args.self.now in
    let time = c.released.result in
    let within : time ≤ℤ p.released = omega (arith, ints, c.released.ensures.value) in
    c.first_on_board.ensures
    ∙ ap (λ (q : Past). least (numbers_since time c.args.reads.now (batches q.unreleased))) c.self.view_is
    ∙ ap least (touching_all time p.released p.last c.args.reads.now p.unreleased within c.released.ensures.facts.unreleased)
