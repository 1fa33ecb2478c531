use Rattle.std.proofs.Common.{◌+◌, ◌-◌, take, drop, ap, ◌∙◌}
use Rattle.fs_edge.proofs.Parts.{part_then_rest}
use Rattle.fs_edge.proofs.memory.source.copy_part.Goals as goal

pub returns : goal.returns
returns c =
    let at = c.args.at in
    let n = c.args.most in
    part_then_rest c.args.bytes.now c.copy_from_slice.new.self (drop n c.args.into.now) at n (c.copy_from_slice.ensures.after ∙ ap (λ b. take (at + n - at) (drop at b)) c.as_slice.ensures) c.requires.there
