-- The requests of write streams, as proto3 JSON. What is asked is told by the members that are there; where a stream is named or there are
-- writes, there is a token too. (v1 reference: `WriteRequest`.)
--
--     under "write", beside "database"                           asks
--     (nothing)                                                  for a new stream
--     "streamId":"1","streamToken":"AAAAAAAAAAA="                for stream 1, of which no batch is known to be finished
--     "streamToken":"AAAAAAAAAAA=","writes":[{"delete":".."}]    for the first batch of the stream that the session owns
--     "streamToken":"AAAAAAAAAAA="                               where that stream is
--     "writes":[{"delete":".."}]                                 nothing: the token is at fault
use Rattle.std.specs.Prelude.{ℕ, Bool, ◌&&◌, ◌||◌, List, [], ◌∷◌, length, nat_lt, Option, Some, None, is_none, is_some, Result, Ok, Err, codes, if◌then◌else◌}
use Rattle.serde_json.specs.Data.{Data}
use Rattle.fs_path.specs.Place.{member_place}
use Rattle.fs_path.specs.declared.name.Root.{Root}
use Rattle.fs_path.specs.declared.place.Rule.TheVariants.{G}
use Rattle.fs_json.specs.Answer.{made, ◌>>=◌}
use Rattle.fs_json.specs.Members.{member_or, only_at}
use Rattle.fs_json.specs.declared.bad.Bad.{Bad}
use Rattle.fs_json.specs.declared.bad.Bad.TheVariants.{At}
use Rattle.fs_write.specs.declared.write.Write.{Write}
use Rattle.fs_writejson.specs.Rules.{judged_at}
use Rattle.fs_writejson.specs.declared.draft.Draft.{Draft}
use Rattle.fs_rpc.specs.Decimal.{decimal_at}
use Rattle.fs_rpc.specs.Eight.{optional_eight_at}
use Rattle.fs_rpc.specs.ReadTargets.{labels_in}
use Rattle.fs_rpc.specs.Requests.{database_at, drafts_in}
use Rattle.fs_request.specs.declared.request.Request.{Request}
use Rattle.fs_request.specs.declared.request.Request.TheVariants as requests
use Rattle.fs_request.specs.declared.stream_request.StreamRequest.{StreamRequest}
use Rattle.fs_request.specs.declared.stream_request.StreamRequest.TheVariants.{Open, Resume, Batch, Ask, Mixed}

-- in the order of the walk
abbrev pub write_members : List (List ℕ)
write_members = codes "database" ∷ codes "streamId" ∷ codes "writes" ∷ codes "streamToken" ∷ codes "labels" ∷ []

-- the number of a stream
abbrev pub stream_in : Data → List ℕ → Result (Option ℕ) Bad
stream_in d place = member_or None (λ x p. made Some (decimal_at x p)) (codes "streamId") d place

-- one that names a stream or has writes has a token too
abbrev pub is_lacking : Option ℕ → List Draft → Option ℕ → Bool
is_lacking stream drafts token = is_none token && (is_some stream || nat_lt 0 (length drafts))

-- the token, at whose place it is at fault that there is none where there has to be one
abbrev pub token_for : Option ℕ → List Draft → Data → List ℕ → Result (Option ℕ) Bad
token_for stream drafts d place = optional_eight_at (codes "streamToken") d place >>= λ token.
    (if is_lacking stream drafts token then Err (At G (member_place place (codes "streamToken"))) else Ok token)

-- What is asked. Without a token there is nothing else; writes that are none are as absent.
abbrev pub asked_with : Option ℕ → Option ℕ → List Write → StreamRequest
asked_with stream None writes = Open
asked_with None (Some token) [] = Ask token
asked_with None (Some token) (w ∷ ws) = Batch token (w ∷ ws)
asked_with (Some stream) (Some token) [] = Resume stream token
asked_with (Some stream) (Some token) (w ∷ ws) = Mixed stream token (w ∷ ws)

-- the rules of writes are tested after the walk
unfoldable pub stream_request_at : Root → Data → List ℕ → Result Request Bad
stream_request_at root d place = do
  _ ← only_at write_members d place
  _ ← database_at root d place
  stream ← stream_in d place
  drafts ← drafts_in root d place
  token ← token_for stream drafts d place
  _ ← labels_in d place
  writes ← judged_at drafts (member_place place (codes "writes"))
  Ok (requests.Write root (asked_with stream token writes))
