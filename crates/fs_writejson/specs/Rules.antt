-- The rules of writes, which are tested once a request was walked. Beside those of `fs_write`, where 2 and 3 count the mask
-- of a delete too, there is 4: the operand of `increment`, `maximum` or `minimum` isn't an integer.
use Rattle.std.specs.Prelude.{ℕ, ◌+◌, not, ◌||◌, ◌&&◌, List, [], ◌∷◌, map, Option, Some, None, unwrap_or, is_some, Result, Ok, Err, if◌then◌else◌, ⊤}
use Rattle.fs_path.specs.Place.{item_place}
use Rattle.fs_path.specs.declared.field.FieldPath.{FieldPath}
use Rattle.fs_path.specs.declared.name.Root.{Root}
use Rattle.fs_path.specs.declared.place.Rule.TheVariants.{E}
use Rattle.serde_json.specs.Data.{Data}
use Rattle.fs_json.specs.Answer.{◌>>=◌}
use Rattle.fs_json.specs.declared.bad.Bad.{Bad}
use Rattle.fs_json.specs.declared.bad.Bad.TheVariants.{At}
use Rattle.fs_write.specs.Rules.{masked, is_delete, has_transforms, some_overlap, rule_of_write}
use Rattle.fs_write.specs.declared.write.Write.{Write}
use Rattle.fs_writejson.specs.Draft.{draft_at}
use Rattle.fs_writejson.specs.declared.draft.Draft.{Draft}

-- the mask that was given, of an update or a delete
abbrev pub mask_of : Draft → List FieldPath
mask_of draft = unwrap_or draft.idle_mask (masked draft.write.act)

-- the least rule that a draft breaks
abbrev pub rule_of_draft : Draft → Option ℕ
rule_of_draft draft =
    if some_overlap (mask_of draft) then Some 2
    else if is_some draft.idle_mask || (is_delete draft.write.act && has_transforms draft.write.transforms) then Some 3
    else if not draft.is_numeric then Some 4
    else rule_of_write draft.write

-- what follows where no rule is broken
abbrev pub unless_broken : {A : Type 0} → Option ℕ → List ℕ → Result A Bad → Result A Bad
unless_broken (Some rule) place rest = Err (At (E rule) place)
unless_broken None place rest = rest

-- the write of one draft
abbrev pub permitted_at : Draft → List ℕ → Result Write Bad
permitted_at draft place = unless_broken (rule_of_draft draft) place (Ok draft.write)

-- the first draft that breaks a rule, from this number on
abbrev pub rules_at : List Draft → ℕ → List ℕ → Result ⊤ Bad
rules_at [] i place = Ok tt
rules_at (draft ∷ drafts) i place = unless_broken (rule_of_draft draft) (item_place place i) (rules_at drafts (i + 1) place)

-- the writes of a commit
abbrev pub judged_at : List Draft → List ℕ → Result (List Write) Bad
judged_at drafts place = rules_at drafts 0 place >>= λ _. Ok (map (λ draft. draft.write) drafts)

-- one write: its walk, and then its rules
abbrev pub write_at : Root → Data → List ℕ → Result Write Bad
write_at root d place = draft_at root d place >>= λ draft. permitted_at draft place
