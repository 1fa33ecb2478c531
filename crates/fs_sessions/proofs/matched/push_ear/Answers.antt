use Rattle.std.proofs.Common.{ℕ, List, [], ◌++◌, refl, sym, ap, ◌∙◌}
use Rattle.std.specs.FinMap.{FinMap, entries}
use Rattle.std.specs.Ordering.{nat_cmp}
use Rattle.std.proofs.lemmas.Cmp.{nat_cmp_total}
use Rattle.std.proofs.lemmas.List.{append-nil}
use Rattle.fs_value.proofs.Tree.{entries_tree}
use Rattle.std.specs.List.{flat_map}
use Rattle.fs_target.specs.declared.event.TimedEvent.{TimedEvent}
use Rattle.fs_sessions.specs.Heard.{heard_of}
use Rattle.fs_sessions.specs.Matched.{numbered_events}
use Rattle.fs_sessions.proofs.Unconcerned.{no_matter}
use Rattle.fs_sessions.proofs.Joined.{joined_end, list_alone, list_thrice}
use Rattle.fs_sessions.proofs.matched.push_ear.Goals as goal

pub returns-then-not-some_may : goal.returns-then-not-some_may
returns-then-not-some_may c =
    let before = c.args.events.now.items in
    let h = heard_of c.args.ear.now in
    let none = no_matter h c.args.shard c.args.commits.now (c.some_may.ensures c.if-not-some_may.true) in
    sym (append-nil before) ∙ ap (λ es. before ++ es) (sym none)

pub loop-id-init : goal.loop-id-init
loop-id-init c =
    let listed = c.by_key.result.now.entries in
    let before = c.args.events.now.items in
    let to : ℕ × ℕ → List TimedEvent = numbered_events c.args.shard c.args.commits.now (heard_of c.args.ear.now) in
    let all = ap (λ (m : FinMap nat_cmp ℕ). entries m) (sym c.by_key.ensures) ∙ entries_tree nat_cmp_total listed c.iter-id-items.ensures.ordered in
    ap (λ (es : List (ℕ × ℕ)). before ++ flat_map to es) (all ∙ sym (c.into_iter-id-iterator.ensures.into_iter_gives ∙ c.iter-id-items.ensures.rest))

pub returns : goal.returns
returns c =
    let all = entries c.args.ear.now.numbers in
    let before = c.args.events.now.items in
    let to : ℕ × ℕ → List TimedEvent = numbered_events c.args.shard c.args.commits.now (heard_of c.args.ear.now) in
    joined_end ◌++◌ [] list_thrice list_alone (flat_map to) to (λ e es. refl) refl (before ++ flat_map to all) c.loop-id.events.items c.loop-id.id-iterator
    c.in-None.ensures.steps.0 c.loop-id.invariant
