use Rattle.std.proofs.Common.{◌∙◌, ap}
use Rattle.std.specs.Prelude.{◌≡◌, ◌||◌, ◌&&◌, ◌==◌, ℕ}
use Rattle.std.proofs.lemmas.Result.{on_ok_weaker}
use Rattle.fs_path.specs.declared.name.DocName.{DocName}
use Rattle.fs_locks.specs.Locked.{Locked}
use Rattle.fs_locks.specs.Shares.{is_shared, is_touched, with_share}
use Rattle.fs_locks.proofs.Entries.{any_more}
use Rattle.fs_locks.proofs.locks.Locks.hold.Goals as goal

pub returns-clause-ok : goal.returns-clause-ok
returns-clause-ok c =
    let old = c.self.inside.shared in
    let new = c.hold.new.self in
    on_ok_weaker {P = new ≡ with_share old c.args.id c.args.held} {Q = (i : ℕ) (n : DocName) → is_shared new i n ≡ (is_shared c.args.self.now.shared i n || (i == c.args.id && is_touched c.args.held n))} c.hold.result
    (λ is i n.
    ap (λ shares. is_shared shares i n) is ∙ any_more (λ h. is_touched h n) old c.args.id i c.args.held
    ∙ ap (λ (l : Locked). is_shared l.shared i n || (i == c.args.id && is_touched c.args.held n)) c.self.view_is)
    c.hold.ensures.ok
