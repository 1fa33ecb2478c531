use Rattle.std.proofs.Common.{ap, ◌∙◌}
use Rattle.std.specs.FinMap.{entries}
use Rattle.fs_path.specs.NameOrder.{name_cmp}
use Rattle.fs_value.proofs.Rising.{rising_entries}
use Rattle.fs_versions.specs.Listed.{all_shown}
use Rattle.fs_versions.specs.Room.{Versioned}
use Rattle.fs_versions.specs.Sound.{lists_of}
use Rattle.fs_versions.proofs.Listing.{shown_tree, shown_values, none_left}
use Rattle.fs_versions.proofs.versions.Versions.all_at.Goals as goal

pub returns-clause-value : goal.returns-clause-value
returns-clause-value c =
    let t = c.args.time in
    let tree = c.self.inside.chains.entries in
    let begun = c.into_iter-chain-iterator.ensures.into_iter_gives in
    none_left t c.loop-chain.documents c.loop-chain.chain-iterator (all_shown t (lists_of c.into_iter-chain-iterator.result)) c.loop-chain.invariant c.in-None.ensures.steps.0
    ∙ ap (λ es. all_shown t (lists_of es)) begun.0
    ∙ shown_tree t tree (rising_entries name_cmp tree begun.5)
    ∙ ap (λ (v : Versioned). all_shown t (entries v.chains.by_name)) c.self.view_is

pub returns-clause-shows : goal.returns-clause-shows
returns-clause-shows c = λ h shows. returns-clause-value c ∙ shown_values c.args.self.now.chains.by_name _ c.args.time (λ q. shows.documents c.args.time q c.requires)
