-- The JSON of a precondition. (v1 reference, "Precondition".)
use Rattle.std.specs.Prelude.{ℕ, List, [], ◌∷◌, Result, Ok, codes, if◌then◌else◌}
use Rattle.std.specs.Option.{option_map_or}
use Rattle.std.specs.Str.{bytes_eq}
use Rattle.fs_path.specs.Place.{member_place}
use Rattle.serde_json.specs.Data.{Data}
use Rattle.fs_json.specs.Answer.{◌>>=◌, made}
use Rattle.fs_json.specs.Members.{at_most_one_at, member_at, only_at}
use Rattle.fs_json.specs.Time.{time_at}
use Rattle.fs_json.specs.Scalars.{truth_at}
use Rattle.fs_json.specs.declared.bad.Bad.{Bad}
use Rattle.fs_write.specs.declared.write.Precondition.{Precondition}
use Rattle.fs_write.specs.declared.write.Precondition.TheVariants as condition

abbrev pub condition_members : List (List ℕ)
condition_members = codes "exists" ∷ codes "updateTime" ∷ []

-- what the member of this name asks for
abbrev pub condition_of : List ℕ → Data → List ℕ → Result Precondition Bad
condition_of name d place =
    if bytes_eq name (codes "exists") then made condition.Exists (truth_at d place)
    else made condition.UpdateTime (time_at d place)

-- an object of at most one of them; an empty one asks for nothing
abbrev pub condition_at : Data → List ℕ → Result Precondition Bad
condition_at d place = only_at condition_members d place >>= λ _. at_most_one_at condition_members d place >>= λ found.
    option_map_or (λ one. condition_of one.0 one.1 (member_place place one.0)) found (Ok condition.None)

-- the precondition of a write, which may be absent
abbrev pub condition_in : Data → List ℕ → Result Precondition Bad
condition_in d place = member_at (codes "currentDocument") d place >>= λ found.
    option_map_or (λ x. condition_at x (member_place place (codes "currentDocument"))) found (Ok condition.None)
