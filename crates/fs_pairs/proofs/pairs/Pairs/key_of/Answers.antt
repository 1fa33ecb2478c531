use Rattle.std.proofs.Common.{ap, ◌∙◌}
use Rattle.std.specs.FinMap.{entries, from_entries}
use Rattle.std.proofs.lemmas.Cmp.{nat_cmp_total}
use Rattle.fs_value.proofs.Tree.{get_tree}
use Rattle.fs_pairs.specs.Pairs.{key_of}
use Rattle.fs_pairs.proofs.Pairing.{looked_up}
use Rattle.fs_pairs.proofs.pairs.Pairs.key_of.Goals as goal

pub returns : goal.returns
returns c =
    let s = c.self.inside in
    c.copied.ensures ∙ c.get.ensures.value ∙ get_tree nat_cmp_total s.keys.entries c.args.number
    ∙ looked_up (from_entries s.numbers.entries) (from_entries s.keys.entries) c.self.invariant c.args.number
    ∙ ap (λ m. key_of c.args.number (entries m)) c.self.view_is
