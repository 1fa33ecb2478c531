use Rattle.std.proofs.Common.{◌≡◌, List, get_or, Some, map, set, sym, ap, ◌∙◌, subst, arith}
use Rattle.std.specs.FinMap.{get}
use Rattle.std.specs.Vec.{with_items}
use Rattle.std.proofs.lemmas.List.{get_or-map, map-set, with_items_is}
use Rattle.fs_target.specs.Collections.{HasAll, HasThoseOf}
use Rattle.fs_target.specs.Entries.{IsAbsentAt, IsThereAt, Rises}
use Rattle.fs_target.specs.Held.{Held, IsUnloaded, with_loaded}
use Rattle.fs_target.specs.Prepared.{held_in}
use Rattle.fs_target.specs.Seen.{Seen, held_of, seen}
use Rattle.fs_target.specs.declared.entry.Entry.{Entry}
use Rattle.fs_target.proofs.Asked.{none_there}
use Rattle.fs_target.proofs.Each.{each_set}
use Rattle.fs_target.proofs.Entries.{rises_set, same_there, within_there}
use Rattle.fs_target.proofs.Holding.{held_put}
use Rattle.fs_target.proofs.awake.Awake.load.Goals as goal

pub place_there-i-requires-clause-there : goal.place_there-i-requires-clause-there
place_there-i-requires-clause-there c = λ i at.
    let t = c.self.inside in
    let es = t.entries.items in
    let id = c.args.id in
    subst IsUnloaded
    (ap (λ (h : Held). get h.listening.targets id) (sym (ap held_in c.self.view_is))
    ∙ none_there t.raised id (map seen es) i (subst (λ (fs : List Entry). IsAbsentAt id (map seen fs) i) c.as_slice.ensures.value at))
    c.requires.there

there : (c : goal.After-self-1) → IsThereAt c.args.id (map seen c.self.inside.entries.items) c.place_there-i.result
there c = subst (λ (fs : List Entry). IsThereAt c.args.id (map seen fs) c.place_there-i.result) c.as_slice.ensures.value c.place_there-i.ensures

abbrev entry_loaded : goal.After-self-1 → Entry
entry_loaded c = record c.index.result.now { loaded = Some c.in_ok-loaded.loaded }

-- what contracts see of the entries in the end
entries_loaded : (c : goal.After-self-1) → map seen (with_items c.self.inside.entries c.put_loaded.new.entries).items
    ≡ set (map seen c.self.inside.entries.items) c.place_there-i.result (seen (entry_loaded c))
entries_loaded c =
    let v = c.self.inside.entries in
    let i = c.place_there-i.result in
    let e = c.index.result.now in
    ap (map seen)
    (with_items_is v c.put_loaded.new.entries (omega arith)
    ∙ c.put_loaded.ensures e
    ∙ ap (λ es. set es i (record (get_or es i e) { loaded = Some c.in_ok-loaded.loaded })) c.as_mut_slice.ensures.value
    ∙ ap (λ (d : Entry). set v.items i (record d { loaded = Some c.in_ok-loaded.loaded })) (sym c.index.ensures))
    ∙ map-set seen v.items i (entry_loaded c)

-- its target stays
target_there : (c : goal.After-self-1) → (get_or (map seen c.self.inside.entries.items) c.place_there-i.result (seen c.index.result.now)).listened.target ≡ c.index.result.now.target
target_there c =
    let es = c.self.inside.entries.items in
    let e = c.index.result.now in
    ap (λ (s : Seen). s.listened.target) (get_or-map seen es c.place_there-i.result e (seen e) (within_there c.args.id es c.place_there-i.result (there c)) ∙ ap seen (sym c.index.ensures))

pub invariant_of-self : goal.invariant_of-self
invariant_of-self c =
    let es = c.self.inside.entries.items in
    let id = c.args.id in
    let i = c.place_there-i.result in
    let e = c.index.result.now in
    let ids = c.self.inside.collections.ids in (
      c.self.invariant.0,
      (
        subst Rises (sym (entries_loaded c))
            (rises_set id (map seen es) i (seen (entry_loaded c)) c.self.invariant.1.0 (there c) (ap (λ (d : Entry). d.id) c.index.ensures ∙ same_there id es i e (there c))),
        subst (HasAll ids) (sym (entries_loaded c))
            (each_set (λ (s : Seen). HasThoseOf ids s.listened.target) (map seen es) i (seen (entry_loaded c)) (seen e) (there c).within (subst (HasThoseOf ids) (target_there c)) c.self.invariant.1.1),
      ),
    )

pub returns-clause-ok : goal.returns-clause-ok
returns-clause-ok c =
    let t = c.self.inside in
    let sent = c.args.sent in
    let docs = c.args.docs in
    ap (held_of t.shards t.limit t.raised) (entries_loaded c)
    ∙ held_put t.shards t.limit t.raised c.args.id t.entries.items c.place_there-i.result c.index.result.now c.in_ok-loaded.loaded c.args.time c.args.reset sent docs c.self.invariant.1.0 (there c) c.index.ensures
    c.in_ok-loaded.ensures.loaded c.in_ok-loaded.ensures.kept
    ∙ ap (with_loaded c.args.id sent c.args.reset docs c.args.time) (ap held_in c.self.view_is)
