-- What a session that listens was told, or the first place in the walk where it is at fault. The kind of a change of targets
-- is read first, since it decides which members there are: one that the kind doesn't have is at fault at its own place.
-- (v1 reference: `ListenResponse`, `TargetChange`, `DocumentChange`, `DocumentDelete`, `DocumentRemove`.)
--
--     {"targetChange":{"targetChangeType":"ADD","targetIds":[1]}}                  target 1 was added
--     {"targetChange":{"cause":{..},"targetChangeType":"ADD","targetIds":[1]}}     at fault at targetChange.cause
--     {"targetChange":{"targetChangeType":"CURRENT","targetIds":[1]}}              at fault at targetChange.readTime
use Rattle.std.specs.Prelude.{ℕ, ℤ, pos, negsuc, List, [], ◌∷◌, Option, Some, None, Result, Ok, Err, codes, if◌then◌else◌, ⊤}
use Rattle.std.specs.Str.{bytes_eq}
use Rattle.serde_json.specs.Data.{Data}
use Rattle.fs_path.specs.Place.{member_place}
use Rattle.fs_path.specs.declared.name.DocName.{DocName}
use Rattle.fs_path.specs.declared.name.Root.{Root}
use Rattle.fs_path.specs.declared.place.Rule.TheVariants.{G}
use Rattle.fs_json.specs.Answer.{made, or_fault, ◌>>=◌}
use Rattle.fs_json.specs.Base64.{bytes_of}
use Rattle.fs_json.specs.Members.{member_or, one_of_at, only_at, required_as}
use Rattle.fs_json.specs.Paths.{document_name_at}
use Rattle.fs_json.specs.Scalars.{small_at, text_at}
use Rattle.fs_json.specs.Time.{required_time_at}
use Rattle.fs_json.specs.Walk.{all_at}
use Rattle.fs_json.specs.declared.bad.Bad.{Bad}
use Rattle.fs_json.specs.declared.bad.Bad.TheVariants.{At}
use Rattle.fs_query.specs.declared.listen.Cause.{Cause}
use Rattle.fs_query.specs.declared.listen.ListenMessage.{ListenMessage}
use Rattle.fs_query.specs.declared.listen.ListenMessage.TheVariants.{Add, Remove, Reset, Current, NoChange, Changed, Deleted, Removed}
use Rattle.fs_valjson.specs.Document.{document_at}

-- ---- parts

-- a number that isn't negative
abbrev pub natural_of : ℤ → Option ℕ
natural_of (pos n) = Some n
natural_of (negsuc n) = None

-- a number of 32 bits, its sign included, that isn't negative
abbrev pub number_at : Data → List ℕ → Result ℕ Bad
number_at d place = small_at d place >>= λ z. or_fault G place (natural_of z)

-- the numbers of targets, of which there are none where the list is absent
abbrev pub targets_in : List ℕ → Data → List ℕ → Result (List ℕ) Bad
targets_in name d place = member_or [] (all_at number_at) name d place

-- bytes that only the server understands
abbrev pub token_at : Data → List ℕ → Result (List ℕ) Bad
token_at d place = or_fault G place (bytes_of d)

-- the members of a cause, of which none may be absent
abbrev pub cause_members : List (List ℕ)
cause_members = codes "code" ∷ codes "message" ∷ []

unfoldable pub cause_at : Data → List ℕ → Result Cause Bad
cause_at d place = do
  _ ← only_at cause_members d place
  code ← required_as number_at (codes "code") d place
  message ← required_as text_at (codes "message") d place
  Ok (record { code = code; message = message })

-- a cause that may be absent
abbrev pub cause_in : Data → List ℕ → Result (Option Cause) Bad
cause_in d place = member_or None (λ x p. made Some (cause_at x p)) (codes "cause") d place

-- a member that isn't there; one that is, is at fault
abbrev pub absent_at : List ℕ → Data → List ℕ → Result ⊤ Bad
absent_at name d place = member_or tt (λ x p. Err (At G p)) name d place

-- ---- changes of targets

-- targets that were added, or whose views are empty from here on: nothing more is told of them
unfoldable pub targets_alone_at : Data → List ℕ → Result (List ℕ) Bad
targets_alone_at d place = do
  _ ← absent_at (codes "cause") d place
  _ ← absent_at (codes "readTime") d place
  _ ← absent_at (codes "resumeToken") d place
  targets_in (codes "targetIds") d place

-- targets that were removed
unfoldable pub remove_at : Data → List ℕ → Result ListenMessage Bad
remove_at d place = do
  cause ← cause_in d place
  _ ← absent_at (codes "readTime") d place
  _ ← absent_at (codes "resumeToken") d place
  targets ← targets_in (codes "targetIds") d place
  Ok (Remove targets cause)

-- all that targets had been at a time was told
unfoldable pub current_at : Data → List ℕ → Result ListenMessage Bad
current_at d place = do
  _ ← absent_at (codes "cause") d place
  time ← required_time_at (codes "readTime") d place
  token ← required_as token_at (codes "resumeToken") d place
  targets ← targets_in (codes "targetIds") d place
  Ok (Current targets time token)

-- no targets are named
abbrev pub no_targets_at : List ℕ → List ℕ → Result ⊤ Bad
no_targets_at place [] = Ok tt
no_targets_at place (n ∷ ns) = Err (At G place)

-- what was told so far is the view of each target at a time
unfoldable pub no_change_at : Data → List ℕ → Result ListenMessage Bad
no_change_at d place = do
  _ ← absent_at (codes "cause") d place
  time ← required_time_at (codes "readTime") d place
  token ← required_as token_at (codes "resumeToken") d place
  targets ← targets_in (codes "targetIds") d place
  _ ← no_targets_at (member_place place (codes "targetIds")) targets
  Ok (NoChange time token)

-- the change of this kind
abbrev pub change_by : List ℕ → Data → List ℕ → Result ListenMessage Bad
change_by kind d place =
    if bytes_eq kind (codes "NO_CHANGE") then no_change_at d place
    else if bytes_eq kind (codes "ADD") then made Add (targets_alone_at d place)
    else if bytes_eq kind (codes "REMOVE") then remove_at d place
    else if bytes_eq kind (codes "CURRENT") then current_at d place
    else if bytes_eq kind (codes "RESET") then made Reset (targets_alone_at d place)
    else Err (At G (member_place place (codes "targetChangeType")))

-- the members of a change of targets
abbrev pub change_members : List (List ℕ)
change_members = codes "cause" ∷ codes "readTime" ∷ codes "resumeToken" ∷ codes "targetChangeType" ∷ codes "targetIds" ∷ []

-- its kind, by default that nothing changed
abbrev pub kind_in : Data → List ℕ → Result (List ℕ) Bad
kind_in d place = member_or (codes "NO_CHANGE") text_at (codes "targetChangeType") d place

unfoldable pub target_change_at : Data → List ℕ → Result ListenMessage Bad
target_change_at d place = do
  _ ← only_at change_members d place
  kind ← kind_in d place
  change_by kind d place

-- ---- documents

-- the members of a document's change
abbrev pub document_change_members : List (List ℕ)
document_change_members = codes "document" ∷ codes "removedTargetIds" ∷ codes "targetIds" ∷ []

-- a document as it is in the views of targets, and those that have it no longer
unfoldable pub document_change_at : Root → Data → List ℕ → Result ListenMessage Bad
document_change_at root d place = do
  _ ← only_at document_change_members d place
  document ← required_as (document_at root) (codes "document") d place
  left ← targets_in (codes "removedTargetIds") d place
  targets ← targets_in (codes "targetIds") d place
  Ok (Changed document targets left)

-- the members of a document that is gone
abbrev pub gone_members : List (List ℕ)
gone_members = codes "document" ∷ codes "readTime" ∷ codes "removedTargetIds" ∷ []

-- a name, with the time, and the targets whose views have its document no longer
unfoldable pub gone_at : Root → Data → List ℕ → Result (DocName × ℤ × List ℕ) Bad
gone_at root d place = do
  _ ← only_at gone_members d place
  name ← required_as (document_name_at root) (codes "document") d place
  time ← required_time_at (codes "readTime") d place
  left ← targets_in (codes "removedTargetIds") d place
  Ok (name, time, left)

-- a name of which no document stands there
abbrev pub deleted_at : Root → Data → List ℕ → Result ListenMessage Bad
deleted_at root d place = made (λ g. Deleted g.0 g.1 g.2) (gone_at root d place)

-- a name whose document stands there
abbrev pub removed_at : Root → Data → List ℕ → Result ListenMessage Bad
removed_at root d place = made (λ g. Removed g.0 g.1 g.2) (gone_at root d place)

-- ---- what is told

abbrev pub listen_members : List (List ℕ)
listen_members = codes "targetChange" ∷ codes "documentChange" ∷ codes "documentDelete" ∷ codes "documentRemove" ∷ []

-- by the name of its member
abbrev pub told_at : Root → List ℕ → Data → List ℕ → Result ListenMessage Bad
told_at root name d place =
    if bytes_eq name (codes "targetChange") then target_change_at d place
    else if bytes_eq name (codes "documentChange") then document_change_at root d place
    else if bytes_eq name (codes "documentDelete") then deleted_at root d place
    else removed_at root d place

unfoldable pub listen_at : Root → Data → List ℕ → Result ListenMessage Bad
listen_at root d place = do
  _ ← only_at listen_members d place
  one ← one_of_at listen_members d place
  told_at root one.0 one.1 (member_place place one.0)
