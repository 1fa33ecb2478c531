-- The least rule that a query breaks is the least of the first ten, or else of those behind them.
use Rattle.std.proofs.Common.{◌≡◌, Bool, true, false, cond, refl, ap, ◌∙◌}
use Rattle.std.specs.Prelude.{Option, Some, None}
use Rattle.std.specs.Option.{option_map_or}
use Rattle.fs_query.specs.Asked.{Asked}
use Rattle.fs_query.specs.FilterRules.{has_bad_list, long_not_in, has_many_disjuncts, has_two_contains, has_contains_any_beside, has_not_in_beside_other, has_not_in_beside_its_like, has_misused_name}
use Rattle.fs_query.specs.RuleSteps.{rules_to_10, rules_from_11}
use Rattle.fs_query.specs.Rules.{has_bad_collection, has_bad_path, rule_of_query}
use Rattle.fs_query.specs.declared.rule.QueryRule.{QueryRule}

-- the first rule, or else the other
abbrev or_else : Option QueryRule → Option QueryRule → Option QueryRule
or_else None r = r
or_else (Some x) r = Some x

-- where no test is true the rest goes on
chosen : (b : Bool) (x : QueryRule) (rest late all : Option QueryRule) → all ≡ or_else rest late → cond b (Some x) all ≡ or_else (cond b (Some x) rest) late
chosen true x rest late all e = refl
chosen false x rest late all e = e

counted : {N : Type 0} (n : Option N) (f : N → QueryRule) (rest late all : Option QueryRule) → all ≡ or_else rest late → option_map_or (λ k. Some (f k)) n all ≡ or_else (option_map_or (λ k. Some (f k)) n rest) late
counted None f rest late all e = e
counted (Some k) f rest late all e = refl

first_or_late : (q : Asked) → rule_of_query q ≡ or_else (rules_to_10 q) (rules_from_11 q)
first_or_late q =
    let late = rules_from_11 q in
    chosen (has_bad_collection q) _ _ late _
    (chosen (has_bad_path q) _ _ late _
    (chosen (has_bad_list q) _ _ late _
    (counted (long_not_in q) _ _ late _
    (chosen (has_many_disjuncts q) _ _ late _
    (chosen (has_two_contains q) _ _ late _
    (chosen (has_contains_any_beside q) _ _ late _
    (chosen (has_not_in_beside_other q) _ _ late _
    (chosen (has_not_in_beside_its_like q) _ _ late _
    (chosen (has_misused_name q) _ None late late refl)))))))))

-- one of the first ten is the least
pub early_rule : (q : Asked) (x : QueryRule) → rules_to_10 q ≡ Some x → rule_of_query q ≡ Some x
early_rule q x e = first_or_late q ∙ ap (λ r. or_else r (rules_from_11 q)) e

-- where none of them is broken one behind them is
pub late_rule : (q : Asked) → rules_to_10 q ≡ None → rule_of_query q ≡ rules_from_11 q
late_rule q e = first_or_late q ∙ ap (λ r. or_else r (rules_from_11 q)) e
