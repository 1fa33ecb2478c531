use Rattle.std.proofs.Common.{rules}
use Rattle.std.proofs.lemmas.Fn.{always_returns_same}
use Rattle.fs_path.specs.NameOrder.{name_cmp}
use Rattle.fs_queue.proofs.Parting.{found, missed}
use Rattle.fs_queue.proofs.overlay.places.Goals as goal

pub returns-in-Ok-clause-parted : goal.returns-in-Ok-clause-parted
returns-in-Ok-clause-parted c =
    found c.args.name.now c.args.docs.now c.in-Ok.i c.requires c.in-Ok.ensures.bound
    (c.in-Ok.ensures.position (λ b. name_cmp b.now.name c.args.name.now) (always_returns_same _ _ _ (λ a r f' called. search rules)))

pub returns-in-Err-clause-parted : goal.returns-in-Err-clause-parted
returns-in-Err-clause-parted c =
    missed c.args.name.now c.args.docs.now c.in-Err.i c.requires
    (c.in-Err.ensures.position (λ b. name_cmp b.now.name c.args.name.now) (always_returns_same _ _ _ (λ a r f' called. search rules)))
