-- How the logic stores a condition: as a list of tokens, one for each condition and one for the end of each list.
use Rattle.std.specs.Prelude.{◌≡◌, ℕ, List, [], ◌∷◌, refl}
use Rattle.std.proofs.Common.{ap}
use Rattle.std.specs.Coded.{Coded, coded_ℕ, coded_list, coded_option, coded×}
use base.Stored.{coded_via}
use Rattle.std.specs.Prelude.{Option, Some, None}
use Rattle.fs_path.specs.contracts.field.FieldPath as path
use Rattle.fs_path.specs.declared.field.FieldPath.{FieldPath}
use Rattle.fs_value.specs.Data.{Data}
use Rattle.fs_value.specs.DataLaws.{data_code}
use Rattle.fs_query.specs.contracts.op.Op as op
use Rattle.fs_query.specs.declared.op.Op.{Op}
use Rattle.fs_query.specs.Condition.{Condition, anything, compared, is_null, is_not_null, all_of, any_of, Conditions, no_more, one_more}

-- which condition it is, with its path, and with its operator and operand
abbrev pub Token : Type 0
Token = ℕ × (Option FieldPath × (Option Op × Option Data))

abbrev pub bare : ℕ → Token
bare n = (n, (None, (None, None)))

-- a condition in front of the rest
abbrev mutual
  pub in_tokens : Condition → List Token → List Token
  in_tokens anything rest = bare 0 ∷ rest
  in_tokens (compared p o v) rest = (1, (Some p, (Some o, Some v))) ∷ rest
  in_tokens (is_null p) rest = (2, (Some p, (None, None))) ∷ rest
  in_tokens (is_not_null p) rest = (3, (Some p, (None, None))) ∷ rest
  in_tokens (all_of cs) rest = bare 4 ∷ list_in_tokens cs rest
  in_tokens (any_of cs) rest = bare 5 ∷ list_in_tokens cs rest

  pub list_in_tokens : Conditions → List Token → List Token
  list_in_tokens no_more rest = bare 6 ∷ rest
  list_in_tokens (one_more c cs) rest = bare 7 ∷ in_tokens c (list_in_tokens cs rest)

-- which condition stands in front
abbrev tag : List Token → ℕ
tag [] = 8
tag (t ∷ ts) = t.0

abbrev its_path : List Token → Option FieldPath
its_path [] = None
its_path (t ∷ ts) = t.1.0

abbrev its_op : List Token → Option Op
its_op [] = None
its_op (t ∷ ts) = t.1.1.0

abbrev its_operand : List Token → Option Data
its_operand [] = None
its_operand (t ∷ ts) = t.1.1.1

mutual
  tokens_tell : (a b : Condition) (k l : List Token) → in_tokens a k ≡ in_tokens b l → (a ≡ b) × (k ≡ l)
  tokens_tell anything anything k l e = (refl, cc)
  tokens_tell (compared p o v) (compared q r w) k l e =
      let h : p ≡ q = cc (ap its_path e) in let i : o ≡ r = cc (ap its_op e) in let j : v ≡ w = cc (ap its_operand e) in (cc, cc)
  tokens_tell (is_null p) (is_null q) k l e = let h : p ≡ q = cc (ap its_path e) in (cc, cc)
  tokens_tell (is_not_null p) (is_not_null q) k l e = let h : p ≡ q = cc (ap its_path e) in (cc, cc)
  tokens_tell (all_of cs) (all_of ds) k l e =
      let r = list_tokens_tell cs ds k l (cc) in (ap all_of r.0, r.1)
  tokens_tell (any_of cs) (any_of ds) k l e =
      let r = list_tokens_tell cs ds k l (cc) in (ap any_of r.0, r.1)
  tokens_tell a b k l e = absurd (cc (ap tag e))

  list_tokens_tell : (a b : Conditions) (k l : List Token) → list_in_tokens a k ≡ list_in_tokens b l → (a ≡ b) × (k ≡ l)
  list_tokens_tell no_more no_more k l e = (refl, cc)
  list_tokens_tell no_more (one_more d ds) k l e = absurd (cc (ap tag e))
  list_tokens_tell (one_more c cs) no_more k l e = absurd (cc (ap tag e))
  list_tokens_tell (one_more c cs) (one_more d ds) k l e =
      let first = tokens_tell c d (list_in_tokens cs k) (list_in_tokens ds l) (cc) in
      let rest = list_tokens_tell cs ds k l first.1 in
      (λ i. one_more (first.0 i) (rest.0 i), rest.1)

-- a condition is told by its tokens
pub in_tokens_inj : (a b : Condition) → in_tokens a [] ≡ in_tokens b [] → a ≡ b
in_tokens_inj a b e = (tokens_tell a b [] [] e).0

abbrev pub token_code : Coded Token
token_code = coded× coded_ℕ (coded× (coded_option path.the_row.coded) (coded× (coded_option op.the_row.coded) (coded_option data_code)))

abbrev pub condition_code : Coded Condition
condition_code = coded_via (coded_list token_code) (λ c. in_tokens c []) in_tokens_inj

abbrev pub condition_list_code : Coded (List Condition)
condition_list_code = coded_list condition_code
