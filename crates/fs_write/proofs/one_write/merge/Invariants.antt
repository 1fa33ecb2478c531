use Rattle.std.proofs.Common.{◌≡◌, take}
use Rattle.fs_write.specs.OneWrite.{merged}
use Rattle.fs_write.proofs.one_write.merge.Given as goal

abbrev pub invariant-loop-path : goal.invariant-loop-path
invariant-loop-path l = l.opened ≡ merged (take l.path-index l.mask) l.input l.fn.fields
