-- The id by which an answer is told from others.
use Rattle.std.specs.Prelude.{ℕ, List, [], Option, Some, None, Result, Ok, codes}
use Rattle.serde_json.specs.Data.{Data, string, Members, put}
use Rattle.fs_json.specs.Answer.{◌>>=◌}
use Rattle.fs_json.specs.Members.{member_at}
use Rattle.fs_json.specs.Scalars.{text_at}
use Rattle.fs_json.specs.declared.bad.Bad.{Bad}

-- a text that may be absent
abbrev pub text_if_there : Option Data → List ℕ → Result (Option (List ℕ)) Bad
text_if_there None place = Ok None
text_if_there (Some d) place = text_at d place >>= λ text. Ok (Some text)

-- the id of a request or of its answer
abbrev pub id_at : Data → Result (Option (List ℕ)) Bad
id_at d = member_at (codes "id") d [] >>= λ given. text_if_there given (codes "id")

-- the id, where there is one, at its place in the order of names
abbrev pub with_id_put : Option (List ℕ) → Members → Members
with_id_put None others = others
with_id_put (Some id) others = put (codes "id") (string id) others
