use Rattle.std.proofs.Common.{◌∷◌, refl, sym, ◌∙◌}
use Rattle.std.specs.Prelude.{map}
use Rattle.std.specs.List.{flat_map}
use Rattle.fs_listen.specs.Cuts.{greatest, greatest_before, times_of}
use Rattle.fs_target.specs.Seen.{Seen, seen}
use Rattle.fs_target.proofs.Cutting.{base_of, greatest_next, greatest_of_entries, greatest_of_entry}
use Rattle.fs_target.proofs.Joined.{greatest_alone, greatest_thrice, joined_all}
use Rattle.fs_target.proofs.cuts.base.Goals as goal

pub returns : goal.returns
returns c =
    let l = c.loop-entry in
    let all = greatest (c.args.raised.now ∷ flat_map (λ (s : Seen). times_of s.listened) (map seen c.args.entries.now)) in
    joined_all greatest_before greatest_thrice greatest_alone greatest_of_entries greatest_of_entry greatest_next refl all l.base c.args.entries.now l.entry-index
    c.loop-entry-test.false l.invariant
    ∙ sym (base_of c.args.raised.now c.args.entries.now c.requires)
