-- The tokens of what a session that listens is told, as they are written one after another.
use Rattle.std.proofs.Common.{◌≡◌, ℕ, List, [], ◌∷◌, ◌++◌, Option, Some, None, map, refl, sym, ap, ◌∙◌, append_assoc}
use Rattle.std.proofs.lemmas.List.{append-nil}
use Rattle.json.specs.Token.{Token, begin_object, end_object, key}
use Rattle.serde_json.specs.Data as json
use Rattle.serde_json.specs.View.{items_of}
use Rattle.fs_json.specs.Members.{with_one}
use Rattle.fs_query.specs.declared.listen.Cause.{Cause}
use Rattle.fs_query.specs.declared.listen.ListenMessage.{ListenMessage}
use Rattle.fs_rpc.specs.ListenJson.{listen_json, number_json, told_members, told_name, with_cause, with_targets}
use Rattle.fs_valjson.proofs.Tokens.{object_tokens}
use Rattle.fs_valjson.specs.Tokens.{member_tokens, tokens_of}
use Rattle.fs_rpc.specs.Tokens.{told_end, told_head}

-- ---- members one after another

-- the numbers of targets, before what stands behind them
pub targets_first : (name targets : List ℕ) (rest : json.Members) → member_tokens (with_targets name targets json.no_members) ++ member_tokens rest ≡ member_tokens (with_targets name targets rest)
targets_first name [] rest = refl
targets_first name (n ∷ ns) rest = ap (λ ts. key name ∷ (ts ++ member_tokens rest)) (append-nil (tokens_of (json.array (items_of (map number_json (n ∷ ns))))))

-- numbers, where there are any
pub some_targets : (name targets : List ℕ) → (targets ≡ [] → ⊥)
    → key name ∷ tokens_of (json.array (items_of (map number_json targets))) ≡ member_tokens (with_targets name targets json.no_members)
some_targets name [] given = absurd (given refl)
some_targets name (n ∷ ns) given = sym (append-nil (key name ∷ tokens_of (json.array (items_of (map number_json (n ∷ ns))))))

-- a cause, before what stands behind it
pub cause_first : (cause : Option Cause) (rest : json.Members) → member_tokens (with_cause cause json.no_members) ++ member_tokens rest ≡ member_tokens (with_cause cause rest)
cause_first None rest = refl
cause_first (Some cause) rest = refl

-- ---- the message

-- a member that is the only one
pub one_alone : (old one : List Token) (name : List ℕ) (d : json.Data) → one ≡ old ++ key name ∷ [] → one ++ tokens_of d ≡ old ++ member_tokens (json.member name d json.no_members)
one_alone old one name d h =
    ap (λ o. o ++ tokens_of d) h ∙ append_assoc old (key name ∷ []) (tokens_of d) ∙ ap (λ ts. old ++ key name ∷ ts) (sym (append-nil (tokens_of d)))

-- members between their brackets, under a name, between its brackets
wrapped : (name : List ℕ) (ms : json.Members) → (told_head name ++ member_tokens ms) ++ told_end ≡ tokens_of (with_one name (json.object ms))
wrapped name ms =
    ap (λ ts. begin_object ∷ key name ∷ begin_object ∷ ts) (sym (append_assoc (member_tokens ms) (end_object ∷ []) (end_object ∷ [])))
    ∙ ap (λ ts. begin_object ∷ key name ∷ (ts ++ end_object ∷ [])) (object_tokens ms)

pub told_whole : (told : ListenMessage) → (told_head (told_name told) ++ member_tokens (told_members told)) ++ told_end ≡ tokens_of (listen_json told)
told_whole told = wrapped (told_name told) (told_members told)
