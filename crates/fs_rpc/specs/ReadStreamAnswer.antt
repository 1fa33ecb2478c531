-- What is told of a write stream, as proto3 JSON. Results have no place but beside the time of a commit, and a batch that was committed
-- wasn't refused. Which of these there is decides the rest, so it comes first.
-- (v1 reference: `WriteResponse`, and `google.rpc.Status` as REST prints it.)
--
--     {"streamId":"1","streamToken":"AAAAAAAAAAA="}                                     stream 1 stands, and none of its batches is finished
--     {"commitTime":"..","streamId":"1","streamToken":"AAAAAAAAAAE=","writeResults":[{}]}   its first batch, of one write, was committed
--     {"error":{..},"streamId":"1","streamToken":"AAAAAAAAAAI="}                        its second was refused
use Rattle.std.specs.Prelude.{ℕ, List, [], ◌∷◌, Result, Ok, codes, if◌then◌else◌}
use Rattle.std.specs.Option.{option_map_or}
use Rattle.std.specs.Str.{bytes_eq}
use Rattle.serde_json.specs.Data.{Data}
use Rattle.fs_path.specs.Place.{member_place}
use Rattle.fs_json.specs.Answer.{◌>>=◌}
use Rattle.fs_json.specs.Members.{at_most_one_at, only_at, required_as}
use Rattle.fs_json.specs.Time.{time_at}
use Rattle.fs_json.specs.declared.bad.Bad.{Bad}
use Rattle.fs_rpc.specs.Decimal.{decimal_at}
use Rattle.fs_rpc.specs.Eight.{eight_at}
use Rattle.fs_rpc.specs.ReadError.{refusal_at}
use Rattle.fs_rpc.specs.ReadListen.{absent_at}
use Rattle.fs_rpc.specs.ReadResults.{results_in}
use Rattle.fs_request.specs.declared.message.Message.{Message}
use Rattle.fs_request.specs.declared.message.Message.TheVariants.{Write}
use Rattle.fs_request.specs.declared.message.StreamAnswer.{StreamAnswer}
use Rattle.fs_request.specs.declared.message.StreamAnswer.TheVariants.{Stands, Committed, Refused}

abbrev pub stream_answer_members : List (List ℕ)
stream_answer_members = codes "commitTime" ∷ codes "error" ∷ codes "streamId" ∷ codes "streamToken" ∷ codes "writeResults" ∷ []

-- what is told of a batch, of which at most one is there
abbrev pub batch_outcomes : List (List ℕ)
batch_outcomes = codes "commitTime" ∷ codes "error" ∷ []

-- a batch that was committed
abbrev pub committed_at : Data → Data → List ℕ → Result StreamAnswer Bad
committed_at content d place = do
  time ← time_at content (member_place place (codes "commitTime"))
  results ← results_in d place
  Ok (Committed time results)

-- one that was refused
abbrev pub refused_at : Data → Data → List ℕ → Result StreamAnswer Bad
refused_at content d place = do
  _ ← absent_at (codes "writeResults") d place
  told ← refusal_at content (member_place place (codes "error"))
  Ok (Refused told.0 told.1)

-- either, by the name of its member
abbrev pub finished_at : List ℕ → Data → Data → List ℕ → Result StreamAnswer Bad
finished_at name content d place = if bytes_eq name (codes "commitTime") then committed_at content d place else refused_at content d place

-- neither
abbrev pub stands_at : Data → List ℕ → Result StreamAnswer Bad
stands_at d place = absent_at (codes "writeResults") d place >>= λ _. Ok Stands

abbrev pub told_at : Data → List ℕ → Result StreamAnswer Bad
told_at d place = at_most_one_at batch_outcomes d place >>= λ one. option_map_or (λ x. finished_at x.0 x.1 d place) one (stands_at d place)

unfoldable pub stream_answer_at : Data → List ℕ → Result Message Bad
stream_answer_at d place = do
  _ ← only_at stream_answer_members d place
  answer ← told_at d place
  stream ← required_as decimal_at (codes "streamId") d place
  token ← required_as eight_at (codes "streamToken") d place
  Ok (Write stream token answer)
