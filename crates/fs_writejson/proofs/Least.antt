-- The least rule of a draft, beside the least rule of its write.
use Rattle.std.proofs.Common.{◌≡◌, ℕ, ◌<◌, ◌&&◌, Bool, true, false, not, cond, Option, Some, None, arith}
use Rattle.fs_write.specs.Rules.{masked, is_delete, has_transforms, some_overlap, write_has_bad_name, is_deep_write, write_has_array_in_array, rule_of_write}
use Rattle.fs_write.specs.declared.write.Write.{Write}
use Rattle.fs_writejson.specs.Rules.{rule_of_draft}
use Rattle.fs_writejson.specs.declared.draft.Draft.{Draft}

-- the least of these tests that holds
abbrev least : Bool → Bool → Bool → Bool → Bool → Option ℕ
least overlap idle name deep arrays = cond overlap (Some 2) (cond idle (Some 3) (cond name (Some 5) (cond deep (Some 6) (cond arrays (Some 7) None))))

below_four : (overlap idle name deep arrays numeric : Bool) (rule : ℕ) → least overlap idle name deep arrays ≡ Some rule → rule < 4
    → Some rule ≡ cond overlap (Some 2) (cond idle (Some 3) (cond (not numeric) (Some 4) (least overlap idle name deep arrays)))
below_four true idle name deep arrays numeric rule is low = cc
below_four false true name deep arrays numeric rule is low = cc
below_four false false true deep arrays numeric rule is low = absurd (let five : 5 ≡ rule = cc in omega arith)
below_four false false false true arrays numeric rule is low = absurd (let six : 6 ≡ rule = cc in omega arith)
below_four false false false false true numeric rule is low = absurd (let seven : 7 ≡ rule = cc in omega arith)
below_four false false false false false numeric rule is low = cc

-- where its write breaks a rule below 4, and it has no idle mask, a draft breaks that one
pub low_rule : (draft : Draft) (rule : ℕ) → draft.idle_mask ≡ None → rule_of_write draft.write ≡ Some rule → rule < 4 → Some rule ≡ rule_of_draft draft
low_rule draft rule none is low =
    let w = draft.write in
    rw none (below_four (some_overlap (masked w.act)) (is_delete w.act && has_transforms w.transforms) (write_has_bad_name w) (is_deep_write w) (write_has_array_in_array w) draft.is_numeric rule is low)

none_least : (overlap idle name deep arrays : Bool) → least overlap idle name deep arrays ≡ None → cond overlap (Some 2) (cond idle (Some 3) (least overlap idle name deep arrays)) ≡ None
none_least true idle name deep arrays is = cc
none_least false true name deep arrays is = cc
none_least false false name deep arrays is = is

-- what breaks no rule as a write breaks none as a draft without an idle mask, whose operands are integers
pub no_rule : (w : Write) → rule_of_write w ≡ None → rule_of_draft (record { write = w; idle_mask = None; is_numeric = true }) ≡ None
no_rule w is = none_least (some_overlap (masked w.act)) (is_delete w.act && has_transforms w.transforms) (write_has_bad_name w) (is_deep_write w) (write_has_array_in_array w) is
