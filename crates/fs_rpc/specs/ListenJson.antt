-- The JSON of what a session that listens is told. A change that is none has no name of its kind, as proto3 JSON leaves out a
-- default, and empty lists are left out.
-- (v1 reference: `ListenResponse`, `TargetChange`, `DocumentChange`, `DocumentDelete`, `DocumentRemove`.)
--
--     target 1 was added                  {"targetChange":{"targetChangeType":"ADD","targetIds":[1]}}
--     all was told as of a time           {"targetChange":{"readTime":"..","resumeToken":".."}}
--     for target 2, and not for 1         {"documentChange":{"document":{..},"removedTargetIds":[1],"targetIds":[2]}}
--     no document stands there            {"documentDelete":{"document":"..","readTime":"..","removedTargetIds":[2]}}
use Rattle.std.specs.Prelude.{ℕ, ℤ, List, Option, Some, None, map, codes}
use Rattle.serde_json.specs.Data.{Data, unsigned, number, string, array, object, Items, no_items, item, Members, no_members, member}
use Rattle.serde_json.specs.View.{items_of}
use Rattle.fs_path.specs.Document.{document_text}
use Rattle.fs_path.specs.declared.name.DocName.{DocName}
use Rattle.fs_json.specs.Base64.{bytes_json}
use Rattle.fs_json.specs.Members.{with_one}
use Rattle.fs_json.specs.Time.{time_json}
use Rattle.fs_query.specs.declared.listen.Cause.{Cause}
use Rattle.fs_query.specs.declared.listen.ListenMessage.{ListenMessage}
use Rattle.fs_query.specs.declared.listen.ListenMessage.TheVariants.{Add, Remove, Reset, Current, NoChange, Changed, Deleted, Removed}
use Rattle.fs_valjson.specs.Document.{document_json}
use Rattle.fs_value.specs.declared.document.Document.{Document}

-- ---- parts

-- a number of 32 bits
abbrev pub number_json : ℕ → Data
number_json n = number (unsigned n)

-- a list under this name, in front of what follows; an empty one is left out
abbrev pub with_list : List ℕ → Items → Members → Members
with_list name no_items rest = rest
with_list name (item d ds) rest = member name (array (item d ds)) rest

-- the numbers of targets
abbrev pub with_targets : List ℕ → List ℕ → Members → Members
with_targets name targets rest = with_list name (items_of (map number_json targets)) rest

-- `{"code":3,"message":".."}`
abbrev pub cause_json : Cause → Data
cause_json cause = object (member (codes "code") (number_json cause.code) (member (codes "message") (string cause.message) no_members))

-- a cause, where there is one
abbrev pub with_cause : Option Cause → Members → Members
with_cause None rest = rest
with_cause (Some cause) rest = member (codes "cause") (cause_json cause) rest

-- a time and the token of it
abbrev pub with_moment : ℤ → List ℕ → Members → Members
with_moment time token rest = member (codes "readTime") (time_json time) (member (codes "resumeToken") (bytes_json token) rest)

-- the name of a kind of change, and its targets
abbrev pub kind_members : List ℕ → List ℕ → Members
kind_members kind targets = member (codes "targetChangeType") (string kind) (with_targets (codes "targetIds") targets no_members)

-- ---- what is told

-- a document as it is in the views of targets, and those that have it no longer
abbrev pub changed_members : Document → List ℕ → List ℕ → Members
changed_members document targets left =
    member (codes "document") (document_json document) (with_targets (codes "removedTargetIds") left (with_targets (codes "targetIds") targets no_members))

-- a name, with the time, and the targets whose views have its document no longer
abbrev pub gone_members : DocName → ℤ → List ℕ → Members
gone_members name time left =
    member (codes "document") (string (document_text name)) (member (codes "readTime") (time_json time) (with_targets (codes "removedTargetIds") left no_members))

abbrev pub told_members : ListenMessage → Members
told_members (Add targets) = kind_members (codes "ADD") targets
told_members (Remove targets cause) = with_cause cause (kind_members (codes "REMOVE") targets)
told_members (Reset targets) = kind_members (codes "RESET") targets
told_members (Current targets time token) = with_moment time token (kind_members (codes "CURRENT") targets)
told_members (NoChange time token) = with_moment time token no_members
told_members (Changed document targets left) = changed_members document targets left
told_members (Deleted name time left) = gone_members name time left
told_members (Removed name time left) = gone_members name time left

-- the name that those members stand under
abbrev pub told_name : ListenMessage → List ℕ
told_name (Changed document targets left) = codes "documentChange"
told_name (Deleted name time left) = codes "documentDelete"
told_name (Removed name time left) = codes "documentRemove"
told_name (Add targets) = codes "targetChange"
told_name (Remove targets cause) = codes "targetChange"
told_name (Reset targets) = codes "targetChange"
told_name (Current targets time token) = codes "targetChange"
told_name (NoChange time token) = codes "targetChange"

abbrev pub listen_json : ListenMessage → Data
listen_json told = with_one (told_name told) (object (told_members told))
