use Rattle.std.proofs.Common.{◌≡◌, Bool, true, false, cond, ◌||◌, refl, sym, ap, ◌∙◌}
use Rattle.std.specs.BTreeSet.{contains}
use Rattle.std.specs.List.{list_any}
use Rattle.fs_path.specs.NameOrder.{name_cmp, name_eq, name_eq_equiv}
use Rattle.fs_target.proofs.keys.add_keys.Goals as goal

still : (here had has : Bool) → has ≡ cond here true had → had ≡ true → has ≡ true
still true had has is was = is
still false had has is was = is ∙ was

-- what is to be added first is there then
one_added : (here first had has rest : Bool) → has ≡ cond here true had → here ≡ first → (had || (first || rest)) ≡ true → (has || rest) ≡ true
one_added true first had has rest is same was = ap (λ b. b || rest) is
one_added false first had has rest is same was = ap (λ b. b || rest) is ∙ ap (λ b. had || (b || rest)) same ∙ was

no_more : (b : Bool) → (b || false) ≡ true → b ≡ true
no_more true is = refl
no_more false is = is

pub loop-name-preserved : goal.loop-name-preserved
loop-name-preserved g c =
    let was = c.loop-name.invariant in
    let is = c.in_ok-insert.ensures.updates.0 in
    let name = c.in-Some.name.now in
    record {
      kept = λ q had. still (name_eq c.in_ok-copy.field-0 q) _ _ (is q) (was.kept q had);
      added = λ q given.
          one_added (name_eq c.in_ok-copy.field-0 q) (name_eq q name) _ _ _ (is q) (ap (λ k. name_eq k q) c.in_ok-copy.ensures ∙ name_eq_equiv.symm name q)
          (ap (λ ns. contains name_cmp c.loop-name.names q || list_any (name_eq q) ns) (sym c.in-Some.ensures.steps) ∙ was.added q given);
    }

pub returns-clause-added : goal.returns-clause-added
returns-clause-added g c = λ q some.
    let given = sym (c.keys-name-items.ensures.has q) ∙ some in
    no_more (contains name_cmp c.loop-name.names q)
    (ap (λ ns. contains name_cmp c.loop-name.names q || list_any (name_eq q) ns) (sym c.in-None.ensures.steps.0)
    ∙ c.loop-name.invariant.added q (ap (list_any (name_eq q)) c.into_iter-name-iterator.ensures.into_iter_gives ∙ given))
