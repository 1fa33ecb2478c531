use Rattle.std.proofs.Common.{◌≡◌, List, None, map, refl, rules, sym, ap, ◌∙◌, subst}
use Rattle.std.specs.Prelude.{IfErr, alloc_error}
use Rattle.fs_value.proofs.Places.{map-insert}
use Rattle.fs_target.specs.Collections.{HasAll, HasThoseOf}
use Rattle.fs_target.specs.Entries.{IsAbsentAt, IsKeptOut, Rises}
use Rattle.fs_target.specs.Held.{refusal, with_target}
use Rattle.fs_target.specs.Prepared.{held_in}
use Rattle.fs_target.specs.Seen.{Seen, held_of, seen}
use Rattle.fs_target.specs.declared.entry.Entry.{Entry}
use Rattle.fs_target.specs.declared.error.TargetError.TheVariants as error
use Rattle.fs_target.proofs.Each.{each_insert}
use Rattle.fs_target.proofs.Entries.{rises_insert}
use Rattle.fs_target.proofs.Holding.{held_insert}
use Rattle.fs_target.proofs.awake.Awake.add.Goals as goal

pub returns-in-Err-clause-refused : goal.returns-in-Err-clause-refused
returns-in-Err-clause-refused c =
    let t = c.self.inside in
    subst (λ o. IsKeptOut o c.in-Err.refusal)
    (ap (λ (es : List Entry). refusal c.args.id (held_of t.shards t.limit t.raised (map seen es))) c.as_slice-entries.ensures.value ∙ ap (λ v. refusal c.args.id (held_in v)) c.self.view_is)
    (c.in-Err.ensures.err t.shards t.raised)

pub returns-in_err-put_in-clause-refused : goal.returns-in_err-put_in-clause-refused
returns-in_err-put_in-clause-refused c =
    let r = c.from_residual.result in
    let t = c.self.inside in
    let none = sym (ap (λ (es : List Entry). refusal c.args.id (held_of t.shards t.limit t.raised (map seen es))) c.as_slice-entries.ensures.value ∙ ap (λ v. refusal c.args.id (held_in v)) c.self.view_is)
    ∙ c.in-Ok.ensures.ok t.shards t.raised in
    let memory : IfErr r (λ e. e ≡ error.Memory alloc_error) = search rules in
    subst (λ o. IfErr r (IsKeptOut o)) (sym none) memory

pub invariant_of-self-2 : goal.invariant_of-self-2
invariant_of-self-2 c =
    let es = c.self.inside.entries.items in
    let i = c.in-Ok.i in
    let e : Entry = record { id = c.args.id; target = c.args.target; token = c.args.token; loaded = None } in
    let at : IsAbsentAt c.args.id (map seen es) i = subst (λ (fs : List Entry). IsAbsentAt c.args.id (map seen fs) i) c.as_slice-entries.ensures.value c.in-Ok.ensures.place in
    let more = ap (map seen) c.in_ok-put_in.ensures.ok ∙ map-insert seen es i e in
    let ids = c.make_way.new.collections.ids in (
      c.self.invariant.0,
      (
        subst Rises (sym more) (rises_insert c.args.id (map seen es) i (seen e) c.self.invariant.1.0 at refl),
        subst (HasAll ids) (sym more)
            (each_insert (λ (s : Seen). HasThoseOf ids s.listened.target) (map seen es) i (seen e) (subst (λ (fs : List Entry). HasAll ids (map seen fs)) c.as_slice-entries.ensures.value c.in-Ok.ensures.kept) c.in-Ok.ensures.put),
      ),
    )

pub returns-clause-ok : goal.returns-clause-ok
returns-clause-ok c =
    let t = c.self.inside in
    let es = t.entries.items in
    let i = c.in-Ok.i in
    let e : Entry = record { id = c.args.id; target = c.args.target; token = c.args.token; loaded = None } in
    let at : IsAbsentAt c.args.id (map seen es) i = subst (λ (fs : List Entry). IsAbsentAt c.args.id (map seen fs) i) c.as_slice-entries.ensures.value c.in-Ok.ensures.place in
    ap (held_of t.shards t.limit t.raised) (ap (map seen) c.in_ok-put_in.ensures.ok ∙ map-insert seen es i e)
    ∙ held_insert t.shards t.limit t.raised c.args.id c.args.target c.args.token (map seen es) i c.self.invariant.1.0 at
    ∙ ap (with_target c.args.id c.args.target c.args.token) (ap held_in c.self.view_is)

pub returns-clause-none : goal.returns-clause-none
returns-clause-none c =
    let t = c.self.inside in
    sym (ap (λ (es : List Entry). refusal c.args.id (held_of t.shards t.limit t.raised (map seen es))) c.as_slice-entries.ensures.value ∙ ap (λ v. refusal c.args.id (held_in v)) c.self.view_is)
    ∙ c.in-Ok.ensures.ok t.shards t.raised
