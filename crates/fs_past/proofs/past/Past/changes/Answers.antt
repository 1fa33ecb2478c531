use Rattle.std.proofs.Common.{◌≡◌, ℤ, ◌≤ℤ◌, Bool, true, false, cond, refl, sym, ap, ◌∙◌, subst, arith}
use Rattle.std.specs.Prelude.{◌<◌, int_le}
use Rattle.std.proofs.lemmas.Int.{ints}
use Rattle.std.proofs.lemmas.Result.{IfOk-weaker}
use Rattle.fs_history.specs.Brings.{AreChangesIn}
use Rattle.fs_path.specs.Scope.{in_shard}
use Rattle.fs_store.specs.Changes.{later}
use Rattle.fs_machine.specs.Past.{Past}
use Rattle.fs_past.proofs.past.Past.changes.Goals as goal

-- of two times the later one, which the first is
later_is : (a b : ℤ) → b ≤ℤ a → later a b ≡ a
later_is a b by = of (int_le a b) refl where
  of : (t : Bool) → int_le a b ≡ t → cond t b a ≡ a
  of true is = omega (arith, ints, is, by)
  of false is = refl

pub changes-requires : goal.changes-requires
changes-requires c = subst (λ (p : Past). c.args.shard < p.shards) (sym c.self.view_is) c.requires.shard

pub returns : goal.returns
returns c =
    let s = c.self.inside in
    let low = later_is c.args.from s.store.stored.chains.floor (subst (λ (p : Past). p.floor ≤ℤ c.args.from) (sym c.self.view_is) c.requires.from) in
    let high = c.released.ensures.value ∙ ap (λ (p : Past). p.released) (sym c.self.view_is) in
    let order = later_is c.released.result c.args.from (subst (λ t. c.args.from ≤ℤ t) (sym c.released.ensures.value) c.requires.to) in
    IfOk-weaker c.changes.result _ _
    (λ cs so.
    subst (λ (p : Past). AreChangesIn p.history (in_shard p.shards c.args.shard) c.args.from p.released cs) c.self.view_is
    (subst (λ to. AreChangesIn s.journal.history (in_shard s.store.stored.shards c.args.shard) c.args.from to cs) ((λ i. later c.released.result (low i)) ∙ order ∙ high)
    (subst (λ from. AreChangesIn s.journal.history (in_shard s.store.stored.shards c.args.shard) from (later c.released.result (later c.args.from s.store.stored.chains.floor)) cs) low
    (so s.journal.history c.self.invariant.shows))))
    c.changes.ensures.shows
