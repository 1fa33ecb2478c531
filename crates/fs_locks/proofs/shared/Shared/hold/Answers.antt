use Rattle.std.proofs.Common.{[], ◌∷◌, ◌∙◌, ap, sym, subst}
use Rattle.fs_locks.specs.Marks.{HoldSomething}
use Rattle.fs_locks.specs.Shares.{without_last_share}
use Rattle.fs_locks.specs.Spots.{IndexLess}
use Rattle.fs_locks.specs.declared.reads.Noted.{Noted}
use Rattle.fs_locks.proofs.Indexed.{index_back, index_more, index_stood}
use Rattle.fs_locks.proofs.Lasts.{given_back, something_more}
use Rattle.fs_locks.proofs.shared.Shared.hold.Goals as goal

pub note-requires : goal.note-requires
note-requires c = λ s at. sym (c.self.invariant.0 s c.args.id) ∙ c.has-again.ensures s at

pub invariant_of-self-then-not-again : goal.invariant_of-self-then-not-again
invariant_of-self-then-not-again c =
    let old = c.self.inside.index in
    let h = c.in_ok-share.share in (
      index_back old c.put.new.self c.take.new.self c.self.inside.by_id.entries c.note.new.by_id.entries c.args.id h c.self.invariant.0 c.in_ok-put.ensures.ok
          (subst (λ (n : Noted). IndexLess c.put.new.self c.take.new.self c.args.id (n.share ∷ [])) c.in-Err.ensures.back c.take.ensures)
          (λ s at. c.has-again.ensures s at ∙ c.if-not-again.true) c.in-Err.ensures.err,
      subst HoldSomething (sym c.in-Err.ensures.err) c.self.invariant.1,
    )

pub invariant_of-self-else-not-again : goal.invariant_of-self-else-not-again
invariant_of-self-else-not-again c = (
  index_stood c.self.inside.index c.put.new.self c.self.inside.by_id.entries c.note.new.by_id.entries c.args.id c.in_ok-share.share c.self.invariant.0 c.in_ok-put.ensures.ok
      (λ s at. c.has-again.ensures s at ∙ c.if-not-again.false) c.in-Err.ensures.err,
  subst HoldSomething (sym c.in-Err.ensures.err) c.self.invariant.1,
)

pub invariant_of-self-in_default : goal.invariant_of-self-in_default
invariant_of-self-in_default c =
    let shares = c.self.inside.by_id.entries in
    let again = c.note.new.by_id.entries in
    let h = c.in_ok-share.share in (
      index_more c.self.inside.index c.put.new.self shares again c.args.id h c.self.invariant.0 c.in_ok-put.ensures.ok c.in_default.ensures.ok,
      something_more shares again c.args.id h c.self.invariant.1 c.in_default.ensures.ok,
    )

pub returns-clause-back : goal.returns-clause-back
returns-clause-back c =
    ap (λ all. without_last_share all c.args.id) c.in_default.ensures.ok
    ∙ given_back c.self.inside.by_id.entries c.args.id c.in_ok-share.share c.in_default.ensures.rising c.self.invariant.1
    ∙ c.self.view_is
