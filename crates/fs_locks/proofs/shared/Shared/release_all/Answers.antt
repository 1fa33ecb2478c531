use Rattle.std.proofs.Common.{[], ap, ◌∙◌}
use Rattle.std.specs.Prelude.{◌≡◌, ◌&&◌, ◌==◌, not, unwrap_or}
use Rattle.fs_locks.specs.Marks.{helds}
use Rattle.fs_locks.specs.Shares.{is_shared, is_touched, shared_by}
use Rattle.fs_locks.proofs.Entries.{any_less}
use Rattle.fs_locks.proofs.Indexed.{index_less}
use Rattle.fs_locks.proofs.Lasts.{something_less}
use Rattle.fs_locks.proofs.shared.Shared.release_all.Goals as goal

pub invariant_of-self : goal.invariant_of-self
invariant_of-self c =
    let shares = c.self.inside.by_id.entries in
    let all : helds c.as_slice.result.now ≡ shared_by c.args.id shares = c.as_slice.ensures ∙ ap (λ o. unwrap_or o []) c.in-Some.ensures.value in (
      index_less c.self.inside.index c.take_all.new.self shares c.remove.new.self.entries c.args.id (helds c.as_slice.result.now) c.self.invariant.0 all c.take_all.ensures c.in-Some.ensures.updates.0,
      something_less shares c.remove.new.self.entries c.args.id c.self.invariant.1 c.in-Some.ensures.updates.0,
    )

pub returns-in-Some-clause-others : goal.returns-in-Some-clause-others
returns-in-Some-clause-others c = λ i n.
    let shares = c.self.inside.by_id.entries in
    any_less (λ h. is_touched h n) shares c.remove.new.self.entries c.args.id i c.in-Some.ensures.updates.0
    ∙ ap (λ all. not (i == c.args.id) && is_shared all i n) c.self.view_is
