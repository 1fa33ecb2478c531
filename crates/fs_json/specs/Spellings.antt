-- For private clauses: what an object has under the second spelling of a name, where that is another than the first.
use Rattle.std.specs.Prelude.{ℕ, List, Option, None, if◌then◌else◌}
use Rattle.std.specs.Str.{bytes_eq}
use Rattle.serde_json.specs.Data.{Data, Members}
use Rattle.serde_json.specs.Find.{get_member}
use Rattle.fs_json.specs.Members.{given_at}
use Rattle.fs_json.specs.Names.{snake_of}

abbrev pub second_at : List ℕ → Members → Option Data
second_at name ms = if bytes_eq (snake_of name) name then None else get_member (snake_of name) ms

-- if it counts as there
abbrev pub second_given : List ℕ → Members → Option Data
second_given name ms = if bytes_eq (snake_of name) name then None else given_at (snake_of name) ms
