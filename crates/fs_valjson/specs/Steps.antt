-- What only private clauses cite: what the readers and the writers know on their way.
use Rattle.std.specs.Prelude.{ℕ, List, Option, Result, codes}
use Rattle.serde_json.specs.Data as json
use Rattle.fs_json.specs.Answer.{◌>>=◌}
use Rattle.fs_json.specs.Members.{at_most_one_at, one_of_at, only_at}
use Rattle.fs_json.specs.declared.bad.Bad.{Bad}
use Rattle.fs_valjson.specs.Reading.{kinds}

-- ---- readers

-- the member that is there of the kinds, where no other is
abbrev pub the_kind : json.Data → List ℕ → Result (List ℕ × json.Data) Bad
the_kind d place = only_at kinds d place >>= λ _. one_of_at kinds d place

-- the member that is there of these names, if any is, where no other is
abbrev pub the_content : List (List ℕ) → json.Data → List ℕ → Result (Option (List ℕ × json.Data)) Bad
the_content names d place = only_at names d place >>= λ _. at_most_one_at names d place

-- ---- writers

-- the fields of a document, put in among its other members; fields that are none are left out
abbrev pub with_fields_put : json.Members → json.Members → json.Members
with_fields_put json.no_members others = others
with_fields_put (json.member k d ms) others = json.put (codes "fields") (json.object (json.member k d ms)) others

-- the member that holds the values of an array, which is left out where there are none
abbrev pub values_member : json.Items → json.Members
values_member json.no_items = json.no_members
values_member (json.item d ds) = json.member (codes "values") (json.array (json.item d ds)) json.no_members
