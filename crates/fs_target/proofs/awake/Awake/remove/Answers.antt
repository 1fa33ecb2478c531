use Rattle.std.proofs.Common.{List, map, refl, sym, ap, ◌∙◌, subst}
use Rattle.std.specs.Prelude.{IsTrue, is_some}
use Rattle.std.specs.FinMap.{get}
use Rattle.fs_target.specs.Collections.{HasAll, HasThoseOf}
use Rattle.fs_target.specs.Entries.{IsAbsentAt, IsThereAt, Rises}
use Rattle.fs_target.specs.Held.{Held, without_target}
use Rattle.fs_target.specs.Prepared.{held_in}
use Rattle.fs_target.specs.Seen.{Seen, held_of, seen}
use Rattle.fs_target.specs.declared.entry.Entry.{Entry}
use Rattle.fs_target.proofs.Asked.{is_there, none_there}
use Rattle.fs_target.proofs.Each.{each_remove}
use Rattle.fs_target.proofs.Entries.{map-take_out, rises_remove}
use Rattle.fs_target.proofs.Holding.{held_remove}
use Rattle.fs_target.proofs.awake.Awake.remove.Goals as goal

pub invariant_of-self : goal.invariant_of-self
invariant_of-self c =
    let es = c.self.inside.entries.items in
    let i = c.in-Ok.i in
    let at : IsThereAt c.args.id (map seen es) i = subst (λ (fs : List Entry). IsThereAt c.args.id (map seen fs) i) c.as_slice.ensures.value (subst (λ k. IsThereAt k (map seen c.as_slice.result.now) i) c.from.ensures c.in-Ok.ensures) in
    let ids = c.self.inside.collections.ids in
    let less = ap (map seen) c.take_out.ensures ∙ map-take_out seen es i in (
      c.self.invariant.0,
      (
        subst Rises (sym less) (rises_remove c.args.id (map seen es) i c.self.invariant.1.0 at),
        subst (HasAll ids) (sym less) (each_remove (λ (s : Seen). HasThoseOf ids s.listened.target) (map seen es) i c.self.invariant.1.1),
      ),
    )

pub returns-in-Ok-clause-ok : goal.returns-in-Ok-clause-ok
returns-in-Ok-clause-ok c =
    let t = c.self.inside in
    let es = t.entries.items in
    let i = c.in-Ok.i in
    let at : IsThereAt c.args.id (map seen es) i = subst (λ (fs : List Entry). IsThereAt c.args.id (map seen fs) i) c.as_slice.ensures.value (subst (λ k. IsThereAt k (map seen c.as_slice.result.now) i) c.from.ensures c.in-Ok.ensures) in (
      ap (held_of t.shards t.limit t.raised) (ap (map seen) c.take_out.ensures ∙ map-take_out seen es i)
          ∙ held_remove t.shards t.limit t.raised c.args.id (map seen es) i c.self.invariant.1.0 at
          ∙ ap (without_target c.args.id) (ap held_in c.self.view_is),
      subst (λ (h : Held). IsTrue (is_some (get h.listening.targets c.args.id))) (ap held_in c.self.view_is) (is_there t.raised c.args.id (map seen es) i c.self.invariant.1.0 at),
    )

pub returns-in-Err-clause-unknown : goal.returns-in-Err-clause-unknown
returns-in-Err-clause-unknown c =
    let es = c.self.inside.entries.items in
    let i = c.in-Err.field-0 in
    let at : IsAbsentAt c.args.id (map seen es) i = subst (λ (fs : List Entry). IsAbsentAt c.args.id (map seen fs) i) c.as_slice.ensures.value (subst (λ k. IsAbsentAt k (map seen c.as_slice.result.now) i) c.from.ensures c.in-Err.ensures) in
    (refl, ap (λ (h : Held). get h.listening.targets c.args.id) (sym (ap held_in c.self.view_is)) ∙ none_there c.self.inside.raised c.args.id (map seen es) i at)
