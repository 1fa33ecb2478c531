use Rattle.std.proofs.Common.{map, ap, ◌∙◌}
use Rattle.std.specs.List.{filter}
use Rattle.fs_path.specs.Scope.{covers}
use Rattle.fs_versions.specs.Listed.{all_shown}
use Rattle.fs_versions.specs.Sound.{lists_of}
use Rattle.fs_versions.proofs.Listing.{none_left}
use Rattle.fs_versions.proofs.listed.shown_in.Goals as goal

pub returns : goal.returns
returns c =
    let t = c.args.time in
    let scope = c.args.scope.now in
    none_left t (map (λ d. d.now) c.loop-name.documents.items) (filter (λ e. covers scope e.0) c.loop-name.name-iterator)
    (all_shown t (lists_of (filter (λ e. covers scope e.0) c.into_iter-name-iterator.result))) c.loop-name.invariant (ap (filter (λ e. covers scope e.0)) c.in-None.ensures.steps.0)
    ∙ ap (λ es. all_shown t (lists_of (filter (λ e. covers scope e.0) es))) c.into_iter-name-iterator.ensures.into_iter_gives
