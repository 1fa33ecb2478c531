-- How tokens that are written one after another come together.
use Rattle.std.proofs.Common.{◌≡◌, ℕ, List, [], ◌∷◌, ◌++◌, refl, ap, ◌∙◌, append_assoc}
use Rattle.json.specs.Print.{print}
use Rattle.json.specs.Token.{Token, begin_object, end_object, key}
use Rattle.json.specs.Tree.{members_tokens}
use Rattle.serde_json.specs.Data as json
use Rattle.serde_json.specs.Written.{compact_text, members_outline}
use Rattle.serde_json.proofs.Texts.{print-outline}
use Rattle.fs_valjson.specs.Tokens.{member_tokens, tokens_of}

-- a token, some, and a token, behind what was written
pub around : (old one two : List Token) (x y : Token) (ts whole : List Token) → one ≡ old ++ x ∷ [] → two ≡ one ++ ts → x ∷ (ts ++ y ∷ []) ≡ whole → two ++ y ∷ [] ≡ old ++ whole
around old one two x y ts whole a b same =
    ap (λ o. o ++ y ∷ []) (b ∙ ap (λ o. o ++ ts) a) ∙ append_assoc (old ++ x ∷ []) ts (y ∷ []) ∙ append_assoc old (x ∷ []) (ts ++ y ∷ []) ∙ ap (λ ts. old ++ ts) same

-- two lists, one behind the other
pub behind_both : (old one two : List Token) (ts us : List Token) → one ≡ old ++ ts → two ≡ one ++ us → two ≡ old ++ (ts ++ us)
behind_both old one two ts us a b = b ∙ ap (λ o. o ++ us) a ∙ append_assoc old ts us

-- members with the closing bracket
closed_members : (ms : json.Members) → member_tokens ms ++ end_object ∷ [] ≡ members_tokens (members_outline ms)
closed_members json.no_members = refl
closed_members (json.member k d ms) =
    ap (λ ts. key k ∷ ts) (append_assoc (tokens_of d) (member_tokens ms) (end_object ∷ []) ∙ ap (λ ts. tokens_of d ++ ts) (closed_members ms))

-- members between their brackets
pub object_tokens : (ms : json.Members) → begin_object ∷ (member_tokens ms ++ end_object ∷ []) ≡ tokens_of (json.object ms)
object_tokens ms = ap (λ ts. begin_object ∷ ts) (closed_members ms)

-- the text of tokens that stand alone
pub text_of_tokens : (before items : List ℕ) (ts : List Token) (d : json.Data) → before ≡ [] → ts ≡ tokens_of d → items ≡ before ++ print ts → items ≡ compact_text d
text_of_tokens before items ts d none same printed = printed ∙ rw (none, same) (print-outline d)
