use Rattle.std.proofs.Common.{sym, ap, ◌∙◌}
use Rattle.fs_replay.specs.Directory.{place_in, without}
use Rattle.fs_replay.proofs.Places.{none_removed, removed_at}
use Rattle.fs_replay.proofs.directory.Directory.remove.Goals as goal

pub returns-in-Some : goal.returns-in-Some
returns-in-Some c =
    let name = c.args.name.now in
    c.remove.ensures.items
    ∙ sym (removed_at name c.self.inside.items.items c.in-Some.place (ap (place_in name) (sym c.deref.ensures.value) ∙ sym c.in-Some.ensures.place))
    ∙ ap (without name) c.self.view_is

pub returns-in-None : goal.returns-in-None
returns-in-None c =
    let name = c.args.name.now in
    sym (ap (without name) (sym c.self.view_is) ∙ none_removed name c.self.inside.items.items (ap (place_in name) (sym c.deref.ensures.value) ∙ sym c.in-None.ensures.place) ∙ c.self.view_is)
