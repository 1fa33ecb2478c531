use Rattle.std.proofs.Common.{◌≤◌, sym, ap, ◌∙◌, subst}
use Rattle.std.specs.FinMap.{FinMap}
use Rattle.std.specs.List.{All}
use Rattle.std.specs.Prelude.{List}
use Rattle.std.proofs.lemmas.List.Elements.{All-weaker}
use Rattle.std.proofs.lemmas.Result.{on_ok_weaker}
use Rattle.fs_history.specs.declared.version.Version.{Version}
use Rattle.fs_path.specs.NameOrder.{name_cmp}
use Rattle.fs_versions.specs.Room.{Versioned, room_of}
use Rattle.fs_versions.specs.Sound.{room_in, rooms_of}
use Rattle.fs_write.specs.declared.change.Change.{Change}
use Rattle.fs_versions.proofs.Installing.{ends_same}
use Rattle.fs_versions.proofs.Views.{room_get, same_view}
use Rattle.fs_versions.proofs.versions.Versions.make_room.Goals as goal

pub invariant_of-self : goal.invariant_of-self
invariant_of-self c = ends_same c.self.inside.chains.entries c.make_room.new.chains.entries c.self.inside.last c.self.invariant c.make_room.ensures.same

pub returns-clause-same : goal.returns-clause-same
returns-clause-same c =
    ap (λ (m : FinMap name_cmp (List Version)). record { by_name = m; floor = c.self.inside.floor; last = c.self.inside.last })
    (same_view c.self.inside.chains.entries c.make_room.new.chains.entries c.make_room.ensures.same)
    ∙ ap (λ (v : Versioned). v.chains) c.self.view_is

pub returns-clause-kept : goal.returns-clause-kept
returns-clause-kept c = λ q.
    let old = c.self.inside.chains.entries in
    let new = c.make_room.new.chains.entries in
    subst (λ n. n ≤ room_of (rooms_of new) q) (sym (room_get old q) ∙ ap (λ (v : Versioned). room_of v.room q) c.self.view_is)
    (subst (λ n. room_in q old ≤ n) (sym (room_get new q)) (c.make_room.ensures.kept q))

pub returns-clause-ok : goal.returns-clause-ok
returns-clause-ok c =
    let new = c.make_room.new.chains.entries in
    let more = c.args.more in
    on_ok_weaker c.make_room.result
    (λ all. subst (All (λ (d : Change). more ≤ room_of (rooms_of new) d.name)) c.as_slice.ensures
    (All-weaker (λ (d : Change). more ≤ room_in d.name new) (λ (d : Change). more ≤ room_of (rooms_of new) d.name)
    (λ d has. subst (λ n. more ≤ n) (sym (room_get new d.name)) has) c.as_slice.result.now all))
    c.make_room.ensures.ok
