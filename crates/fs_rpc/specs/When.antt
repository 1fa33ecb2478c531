-- When documents are read: in a transaction, as they were at a time, or as they are now.
-- (v1 reference: the "consistency_selector" of `GetDocumentRequest`, `BatchGetDocumentsRequest` and `RunQueryRequest`.)
--
--     {"transaction":"AAAAAAAAAAI="}         in transaction 2
--     {"readTime":"2024-01-01T00:00:00Z"}    as they were then
--     {}                                     as they are now
use Rattle.std.specs.Prelude.{ℕ, ℤ, List, [], ◌∷◌, Option, Some, None, Result, Ok, codes, if◌then◌else◌}
use Rattle.std.specs.Option.{option_map_or}
use Rattle.std.specs.Str.{bytes_eq}
use Rattle.serde_json.specs.Data.{Data, Members, member}
use Rattle.fs_path.specs.Place.{member_place}
use Rattle.fs_json.specs.Answer.{made, ◌>>=◌}
use Rattle.fs_json.specs.Members.{at_most_one_at}
use Rattle.fs_json.specs.Time.{time_at, time_json}
use Rattle.fs_json.specs.declared.bad.Bad.{Bad}
use Rattle.fs_request.specs.When.{time_of, transaction_of}
use Rattle.fs_rpc.specs.Eight.{eight_at, with_eight}
use Rattle.fs_request.specs.declared.when.When.{When}
use Rattle.fs_request.specs.declared.when.When.TheVariants.{Released, At, In}

-- ---- reading

-- the members that tell it, of which at most one is given
abbrev pub when_members : List (List ℕ)
when_members = codes "transaction" ∷ codes "readTime" ∷ []

-- what one of them tells, by its name
abbrev pub when_by : List ℕ → Data → List ℕ → Result When Bad
when_by name d place =
    if bytes_eq name (codes "transaction") then made In (eight_at d (member_place place (codes "transaction")))
    else made At (time_at d (member_place place (codes "readTime")))

unfoldable pub when_at : Data → List ℕ → Result When Bad
when_at d place = at_most_one_at when_members d place >>= λ one. option_map_or (λ x. when_by x.0 x.1 place) one (Ok Released)

-- ---- writing

-- a time of a read, where there is one, in front of what follows
abbrev pub with_read_time : Option ℤ → Members → Members
with_read_time None rest = rest
with_read_time (Some time) rest = member (codes "readTime") (time_json time) rest

-- the one that is given, in front of what follows
abbrev pub with_when : When → Members → Members
with_when when rest = with_read_time (time_of when) (with_eight (codes "transaction") (transaction_of when) rest)
