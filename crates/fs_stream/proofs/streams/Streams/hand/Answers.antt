use Rattle.std.proofs.Common.{◌≡◌, Some, sym, ap, ◌∙◌, subst}
use Rattle.std.specs.FinMap.{get}
use Rattle.fs_stream.specs.Answers.{is_opened, owns_other}
use Rattle.fs_stream.specs.Stands.{Stands}
use Rattle.fs_stream.specs.Streams.{Streams, handed_to}
use Rattle.fs_stream.proofs.Standing.{handed_again, opened_between, owned_as, stands_handed}
use Rattle.fs_stream.proofs.streams.Streams.hand.Goals as goal

pub invariant_of-self-in-None : goal.invariant_of-self-in-None
invariant_of-self-in-None c =
    let s = c.self.inside in
    let m : Streams = record { opened = s.opened.items; owners = s.owners; limit = s.limit } in
    let there = opened_between c.args.stream m (ap (is_opened c.args.stream) c.self.view_is ∙ c.requires.opened) in
    subst (λ o. Stands (record { opened = s.opened.items; owners = o; limit = s.limit })) (sym c.in_ok-give-in-None.ensures.ok)
    (stands_handed c.args.session c.args.stream m there.0 there.1 c.self.invariant)

-- a session that owns the stream already
pub returns-in-Some-clause-ok : goal.returns-in-Some-clause-ok
returns-in-Some-clause-ok c =
    let s = c.self.inside in
    let m : Streams = record { opened = s.opened.items; owners = s.owners; limit = s.limit } in
    let session = c.args.session in
    let n = c.args.stream in
    let owns : get s.owners session ≡ Some c.in-Some.field-0 = sym c.get.ensures.value ∙ c.in-Some.is in
    let own = owned_as session n c.in-Some.field-0 m owns (ap (owns_other session n) c.self.view_is ∙ c.requires.alone) in
    let handed : handed_to session n m ≡ m = handed_again session n m c.get.ensures.distinct (owns ∙ ap Some own) in
    sym c.self.view_is ∙ sym handed ∙ ap (handed_to session n) c.self.view_is
