use Rattle.std.proofs.Common.{◌≡◌, true, false, cond, sym, ap, ◌∙◌}
use Rattle.std.specs.Prelude.{nat_lt}
use Rattle.std.specs.Option.{option_map_or}
use Rattle.fs_query.specs.Normal.{equalities, conjunctions}
use Rattle.fs_query.specs.Peaks.{peaks_in}
use Rattle.fs_query.specs.RuleSteps.{rules_from_8}
use Rattle.fs_query.specs.FilterRules.{has_two_contains, has_contains_any_beside}
use Rattle.fs_query.specs.Rules.{told}
use Rattle.fs_query.proofs.PeakProducts.{two_contains, two_beside}
use Rattle.fs_query.proofs.rules.rule_from_6.Goals as goal

pub returns-then-has_two_contains : goal.returns-then-has_two_contains
returns-then-has_two_contains c =
    let q = c.args.q.now in
    let two : true ≡ has_two_contains q =
    sym c.if-has_two_contains.true ∙ c.has_two_contains.ensures
    ∙ ap (λ p. option_map_or (λ x. nat_lt 1 x.contains) p false) (c.peaks_of-peaks.ensures ∙ ap (λ a. peaks_in (conjunctions equalities a.filter)) c.q.view_is)
    ∙ two_contains (conjunctions equalities q.filter) in
    c.rule.ensures ∙ (λ i. cond (two i) (told 6) (cond (has_contains_any_beside q) (told 7) (rules_from_8 q)))

pub returns-then-has_any_beside : goal.returns-then-has_any_beside
returns-then-has_any_beside c =
    let q = c.args.q.now in
    let two : false ≡ has_two_contains q =
    sym c.if-has_two_contains.false ∙ c.has_two_contains.ensures
    ∙ ap (λ p. option_map_or (λ x. nat_lt 1 x.contains) p false) (c.peaks_of-peaks.ensures ∙ ap (λ a. peaks_in (conjunctions equalities a.filter)) c.q.view_is)
    ∙ two_contains (conjunctions equalities q.filter) in
    let beside : true ≡ has_contains_any_beside q =
    sym c.if-has_any_beside.true ∙ c.has_any_beside.ensures
    ∙ ap (λ p. option_map_or (λ x. nat_lt 1 x.beside_any) p false) (c.peaks_of-peaks.ensures ∙ ap (λ a. peaks_in (conjunctions equalities a.filter)) c.q.view_is)
    ∙ two_beside (conjunctions equalities q.filter) in
    c.rule-then-has_any_beside.ensures ∙ (λ i. cond (two i) (told 6) (cond (beside i) (told 7) (rules_from_8 q)))

pub returns-else-has_any_beside : goal.returns-else-has_any_beside
returns-else-has_any_beside c =
    let q = c.args.q.now in
    let two : false ≡ has_two_contains q =
    sym c.if-has_two_contains.false ∙ c.has_two_contains.ensures
    ∙ ap (λ p. option_map_or (λ x. nat_lt 1 x.contains) p false) (c.peaks_of-peaks.ensures ∙ ap (λ a. peaks_in (conjunctions equalities a.filter)) c.q.view_is)
    ∙ two_contains (conjunctions equalities q.filter) in
    let beside : false ≡ has_contains_any_beside q =
    sym c.if-has_any_beside.false ∙ c.has_any_beside.ensures
    ∙ ap (λ p. option_map_or (λ x. nat_lt 1 x.beside_any) p false) (c.peaks_of-peaks.ensures ∙ ap (λ a. peaks_in (conjunctions equalities a.filter)) c.q.view_is)
    ∙ two_beside (conjunctions equalities q.filter) in
    c.rule_from_8.ensures ∙ (λ i. cond (two i) (told 6) (cond (beside i) (told 7) (rules_from_8 q)))
