use Rattle.std.proofs.Common.{List, subst, sym}
use Rattle.std.specs.Prelude.{is_ok}
use Rattle.fs_locks.specs.Marks.{IsMarked}
use Rattle.fs_locks.specs.declared.held.Held.{Held}
use Rattle.fs_locks.proofs.Lasts.{marked_pushed}
use Rattle.fs_locks.proofs.reads.Reads.push.Goals as goal

pub invariant_of-self : goal.invariant_of-self
invariant_of-self c =
    let n = c.args.noted in
    marked_pushed c.self.inside.notes.items c.push.new.self.items n (is_ok c.push.result) c.push.ensures.items c.self.invariant
    (subst (λ (hs : List Held). IsMarked hs n.share n.again) (sym c.self.view_is) c.requires)
