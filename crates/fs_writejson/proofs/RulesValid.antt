-- What is judged breaks no rule.
use Rattle.std.proofs.Common.{◌≡◌, ℕ, ◌+◌, List, [], ◌∷◌, map, Bool, true, false, Option, Some, None, Result, Ok, Err, IfOk, cond, not, ◌||◌, ◌&&◌, is_some, refl}
use Rattle.std.specs.Prelude.{⊤}
use Rattle.std.specs.List.{AllByRecursion}
use Rattle.fs_path.specs.Place.{item_place}
use Rattle.fs_path.specs.declared.name.Root.{Root}
use Rattle.fs_json.specs.declared.bad.Bad.{Bad}
use Rattle.fs_json.proofs.Readings.{in_turn_holds}
use Rattle.fs_write.specs.Rules.{has_transforms, is_delete, rule_of_write, some_overlap}
use Rattle.fs_writejson.specs.Rules.{judged_at, mask_of, permitted_at, rule_of_draft, rules_at, unless_broken}
use Rattle.fs_writejson.specs.Valid.{IsDraftOf, IsWriteOf}
use Rattle.fs_writejson.specs.declared.draft.Draft.{Draft}

unless_none : {A : Type 0} (P : A → Type 0) (rule : Option ℕ) (place : List ℕ) (rest : Result A Bad) → (rule ≡ None → IfOk rest P) → IfOk (unless_broken rule place rest) P
unless_none P None place rest holds = holds refl
unless_none P (Some rule) place rest holds = record {}

last_rule : (overlap idle number : Bool) (rule : Option ℕ) → cond overlap (Some 2) (cond idle (Some 3) (cond number (Some 4) rule)) ≡ None → rule ≡ None
last_rule true idle number rule is = cc
last_rule false true number rule is = cc
last_rule false false true rule is = cc
last_rule false false false rule is = is

-- what breaks no rule as a draft breaks none as a write
allowed : (draft : Draft) → rule_of_draft draft ≡ None → rule_of_write draft.write ≡ None
allowed draft is =
    last_rule (some_overlap (mask_of draft)) (is_some draft.idle_mask || (is_delete draft.write.act && has_transforms draft.write.transforms)) (not draft.is_numeric) (rule_of_write draft.write) is

write_of : (root : Root) (draft : Draft) → IsDraftOf root draft → rule_of_draft draft ≡ None → IsWriteOf root draft.write
write_of root draft is none = record { named = is.named; fields = is.fields; elements = is.elements; allowed = allowed draft none }

pub permitted_valid : (root : Root) (draft : Draft) (place : List ℕ) → IsDraftOf root draft → IfOk (permitted_at draft place) (IsWriteOf root)
permitted_valid root draft place is = unless_none (IsWriteOf root) (rule_of_draft draft) place (Ok draft.write) (λ none. write_of root draft is none)

none_broken : (drafts : List Draft) (i : ℕ) (place : List ℕ) → IfOk (rules_at drafts i place) (λ u. AllByRecursion (λ draft. rule_of_draft draft ≡ None) drafts)
none_broken [] i place = tt
none_broken (draft ∷ drafts) i place =
    unless_none _ (rule_of_draft draft) (item_place place i) (rules_at drafts (i + 1) place)
    (λ none. weaker none (rules_at drafts (i + 1) place) (none_broken drafts (i + 1) place))
  where
    weaker : rule_of_draft draft ≡ None → (r : Result ⊤ Bad) → IfOk r (λ u. AllByRecursion (λ d. rule_of_draft d ≡ None) drafts)
        → IfOk r (λ u. (rule_of_draft draft ≡ None) × AllByRecursion (λ d. rule_of_draft d ≡ None) drafts)
    weaker none (Ok u) rest = (none, rest)
    weaker none (Err bad) rest = record {}

each_write : (root : Root) (drafts : List Draft) → AllByRecursion (IsDraftOf root) drafts → AllByRecursion (λ draft. rule_of_draft draft ≡ None) drafts
    → AllByRecursion (IsWriteOf root) (map (λ draft. draft.write) drafts)
each_write root [] are none = tt
each_write root (draft ∷ drafts) are none = (write_of root draft are.0 none.0, each_write root drafts are.1 none.1)

-- the writes of a commit
pub judged_valid : (root : Root) (drafts : List Draft) (place : List ℕ) → AllByRecursion (IsDraftOf root) drafts → IfOk (judged_at drafts place) (AllByRecursion (IsWriteOf root))
judged_valid root drafts place are =
    in_turn_holds (λ u. AllByRecursion (λ draft. rule_of_draft draft ≡ None) drafts) (AllByRecursion (IsWriteOf root)) (rules_at drafts 0 place) _ (none_broken drafts 0 place)
    (λ u none. each_write root drafts are none)
