use Rattle.std.proofs.Common.{◌≤◌, ℤ, ◌<ℤ◌, refl, sym, ap, ◌∙◌, subst}
use Rattle.std.specs.FinMap.{FinMap}
use Rattle.std.specs.List.{All}
use Rattle.std.specs.Prelude.{List}
use Rattle.std.proofs.lemmas.List.Elements.{All-weaker}
use Rattle.fs_history.specs.declared.version.Version.{Version}
use Rattle.fs_path.specs.NameOrder.{name_cmp}
use Rattle.fs_versions.specs.Chain.{extended}
use Rattle.fs_versions.specs.Chains.{chain_of, installed}
use Rattle.fs_versions.specs.Room.{Versioned, room_after, room_of}
use Rattle.fs_versions.specs.Sound.{HasChanged, HasTaken, room_in}
use Rattle.fs_write.specs.declared.change.Change.{Change}
use Rattle.fs_versions.proofs.Installing.{installed_view, ends_before, ends_more, shows_more}
use Rattle.fs_versions.proofs.TreeLaws.{Rise, change_at}
use Rattle.fs_versions.proofs.Views.{chain_get, room_get}
use Rattle.fs_versions.proofs.versions.Versions.install.Goals as goal

pub install-requires-clause-rising : goal.install-requires-clause-rising
install-requires-clause-rising c = subst Rise (sym (c.deref_mut.ensures.value ∙ c.into_vec-changes.ensures)) c.requires.rising

pub install-requires-clause-room : goal.install-requires-clause-room
install-requires-clause-room c =
    let tree = c.self.inside.chains.entries in
    subst (All (λ (d : Change). 1 ≤ room_in d.name tree)) (sym (c.deref_mut.ensures.value ∙ c.into_vec-changes.ensures))
    (All-weaker (λ (d : Change). 1 ≤ room_of c.args.self.now.room d.name) (λ (d : Change). 1 ≤ room_in d.name tree)
    (λ d has. subst (λ n. 1 ≤ n) (ap (λ (v : Versioned). room_of v.room d.name) (sym c.self.view_is) ∙ room_get tree d.name) has)
    c.args.changes c.requires.room)

pub install-requires-clause-earlier : goal.install-requires-clause-earlier
install-requires-clause-earlier c =
    ends_before c.self.inside.chains.entries c.self.inside.last c.args.time c.self.invariant
    (subst (λ (t : ℤ). t <ℤ c.args.time) (sym (ap (λ (v : Versioned). v.chains.last) c.self.view_is)) c.requires.later)

pub invariant_of-self : goal.invariant_of-self
invariant_of-self c =
    ends_more c.self.inside.chains.entries c.install.new.chains.entries c.deref_mut.result.now c.self.inside.last c.args.time c.self.invariant
    (subst (λ (t : ℤ). t <ℤ c.args.time) (sym (ap (λ (v : Versioned). v.chains.last) c.self.view_is)) c.requires.later)
    c.install.ensures.chains

pub returns-clause-value : goal.returns-clause-value
returns-clause-value c =
    let old = c.self.inside.chains.entries in
    let new = c.install.new.chains.entries in
    let has = subst (λ cs. HasChanged old new cs c.args.time) (c.deref_mut.ensures.value ∙ c.into_vec-changes.ensures) c.install.ensures.chains in
    ap (λ (m : FinMap name_cmp (List Version)). record { by_name = m; floor = c.self.inside.floor; last = c.args.time })
    (installed_view old new c.args.changes c.args.time c.requires.rising has)
    ∙ ap (λ (v : Versioned). installed v.chains c.args.changes c.args.time) c.self.view_is

pub returns-clause-installs : goal.returns-clause-installs
returns-clause-installs c =
    let old = c.self.inside.chains.entries in
    let new = c.install.new.chains.entries in
    let has = subst (λ cs. HasChanged old new cs c.args.time) (c.deref_mut.ensures.value ∙ c.into_vec-changes.ensures) c.install.ensures.chains in
    record {
      floor = ap (λ (v : Versioned). v.chains.floor) c.self.view_is;
      last = refl;
      chains = λ q.
          chain_get new q
          ∙ has q
          ∙ ap (extended c.args.time (change_at q c.args.changes)) (sym (chain_get old q) ∙ ap (λ (v : Versioned). chain_of v.chains q) c.self.view_is);
    }

pub returns-clause-room : goal.returns-clause-room
returns-clause-room c = λ q.
    let old = c.self.inside.chains.entries in
    let new = c.install.new.chains.entries in
    let has = subst (λ cs. HasTaken old new cs) (c.deref_mut.ensures.value ∙ c.into_vec-changes.ensures) c.install.ensures.room in
    room_get new q
    ∙ has q
    ∙ ap (room_after (change_at q c.args.changes)) (sym (room_get old q) ∙ ap (λ (v : Versioned). room_of v.room q) c.self.view_is)

pub returns-clause-shows : goal.returns-clause-shows
returns-clause-shows c = λ h b shows same changes.
    shows_more c.args.self.now.chains _ c.args.changes c.args.time (returns-clause-installs c) c.requires.above_floor c.requires.later h b shows same changes
    c.histories_are_lawful.ensures.chain c.histories_are_lawful.ensures.newest
