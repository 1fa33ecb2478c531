-- JSON as the tokens that are written one after another.
--
--     {"integerValue":"3"}     begin_object, key integerValue, string 3, end_object
use Rattle.std.specs.Prelude.{◌≡◌, ℕ, List, [], ◌∷◌, ◌++◌, Some}
use Rattle.json.specs.Token.{Token, key, string}
use Rattle.json.specs.Tree.{json_tokens}
use Rattle.serde_json.specs.Data as json
use Rattle.serde_json.specs.Read.{of_json}
use Rattle.serde_json.specs.Written.{outline}

-- the tokens of a value
abbrev pub tokens_of : json.Data → List Token
tokens_of d = json_tokens (outline d)

-- the tokens of members, without the brackets round them
abbrev pub member_tokens : json.Members → List Token
member_tokens json.no_members = []
member_tokens (json.member k d ms) = key k ∷ (tokens_of d ++ member_tokens ms)

-- a member that is a text
abbrev pub text_member : List ℕ → List ℕ → List Token
text_member name text = key name ∷ string text ∷ []

-- Its tokens are read as the value itself. So they are where its integers have 64 bits, it has no floats, and the keys of its objects rise.
abbrev pub IsReadFromTokens : json.Data → Type 0
IsReadFromTokens d = of_json (outline d) ≡ Some d
