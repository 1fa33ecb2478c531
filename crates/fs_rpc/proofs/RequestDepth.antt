-- What is written of a request that was read nests no deeper than what was read, or than a few levels.
use Rattle.std.proofs.Common.{ℕ, ◌+◌, ◌-◌, ◌≤◌, ◌<◌, ℤ, List, [], ◌∷◌, ◌++◌, Option, Some, None, Ok, IfOk, codes, bytes_eq, arith}
use Rattle.std.proofs.lemmas.Result.{IfOk-weaker}
use Rattle.std.specs.List.{AllByRecursion}
use Rattle.serde_json.specs.Data.{Data, Members, no_members, member, depth, items_depth, members_depth}
use Rattle.fs_path.specs.Place.{member_place}
use Rattle.fs_path.specs.declared.field.FieldPath.{FieldPath}
use Rattle.fs_path.specs.declared.name.DocName.{DocName}
use Rattle.fs_path.specs.declared.name.Root.{Root}
use Rattle.fs_json.specs.Members.{one_of_at, only_at, required_as, required_at}
use Rattle.fs_json.specs.Paths.{document_name_at as name_at}
use Rattle.fs_query.specs.Asked.{Asked}
use Rattle.fs_queryjson.proofs.QueryDepth.{permitted_within, walked_within}
use Rattle.fs_queryjson.specs.Query.{permitted_at, walked_at}
use Rattle.fs_queryjson.specs.Written.{query_json}
use Rattle.fs_json.proofs.Readings.{at_last_holds, either, in_turn_holds}
use Rattle.fs_json.proofs.Depths.{inside, inside_or, one_falls}
use Rattle.fs_write.specs.declared.write.Write.{Write}
use Rattle.fs_writejson.proofs.MaskDepth.{mask_depth}
use Rattle.fs_writejson.proofs.WriteDepth.{drafts_within, judged_within}
use Rattle.fs_writejson.specs.Draft.{drafts_at}
use Rattle.fs_writejson.specs.Rules.{judged_at}
use Rattle.fs_writejson.specs.Written.{write_json}
use Rattle.fs_writejson.specs.declared.draft.Draft.{Draft}
use Rattle.fs_rpc.specs.ByMethod.{request_at}
use Rattle.fs_rpc.specs.Envelope.{envelope_at}
use Rattle.fs_rpc.specs.Id.{id_at}
use Rattle.fs_rpc.specs.Methods.{envelope_head, methods}
use Rattle.fs_rpc.specs.Options.{options_in}
use Rattle.fs_rpc.specs.ReadStreams.{asked_with, stream_in, stream_request_at, token_for, write_members}
use Rattle.fs_rpc.specs.ReadTargets.{labels_in, listen_request_at}
use Rattle.fs_rpc.specs.RequestJson.{envelope_json, name_json, stream_of, token_of, with_mask, with_stream, writes_json, writes_member, writes_of}
use Rattle.fs_rpc.specs.Requests.{batch_get_at, batch_get_members, begin_at, begin_members, commit_at, commit_members, database_at, drafts_in, get_at, get_members, mask_in, names_at, parent_at, rollback_at, rollback_members, run_query_at, run_query_members, structured_at}
use Rattle.fs_rpc.specs.Eight.{optional_eight_at, eight_at, with_eight}
use Rattle.fs_request.specs.When.{time_of, transaction_of}
use Rattle.fs_rpc.specs.When.{when_at, with_read_time, with_when}
use Rattle.fs_request.specs.declared.options.TransactionOptions.{TransactionOptions}
use Rattle.fs_request.specs.declared.options.TransactionOptions.TheVariants.{ReadWrite, ReadOnly}
use Rattle.fs_request.specs.declared.request.Envelope.{Envelope}
use Rattle.fs_request.specs.declared.request.Request.{Request}
use Rattle.fs_request.specs.declared.request.Request.TheVariants.{Commit, GetDocument, BatchGetDocuments, RunQuery, BeginTransaction, Rollback, AddTarget, RemoveTarget}
use Rattle.fs_request.specs.declared.request.Request.TheVariants as requests
use Rattle.fs_request.specs.declared.stream_request.StreamRequest.{StreamRequest}
use Rattle.fs_request.specs.declared.when.When.{When}
use Rattle.fs_rpc.proofs.TargetsDepth.{IsWithin, listen_within, names_flat}

-- ---- members in front of others

time_fits : (time : Option ℤ) (rest : Members) (n : ℕ) → members_depth rest ≤ n → members_depth (with_read_time time rest) ≤ n
time_fits None rest n h = h
time_fits (Some time) rest n h = omega (arith, h)

eight_fits : (name : List ℕ) (number : Option ℕ) (rest : Members) (n : ℕ) → members_depth rest ≤ n → members_depth (with_eight name number rest) ≤ n
eight_fits name None rest n h = h
eight_fits name (Some number) rest n h = omega (arith, h)

when_fits : (when : When) (rest : Members) (n : ℕ) → members_depth rest ≤ n → members_depth (with_when when rest) ≤ n
when_fits when rest n h = time_fits (time_of when) (with_eight (codes "transaction") (transaction_of when) rest) n (eight_fits (codes "transaction") (transaction_of when) rest n h)

mask_fits : (mask : Option (List FieldPath)) (rest : Members) (n : ℕ) → members_depth rest ≤ n + 2 → members_depth (with_mask mask rest) ≤ n + 2
mask_fits None rest n h = h
mask_fits (Some paths) rest n h = omega (arith, mask_depth paths, h)

-- ---- commits

writes_fit : (ws : List Write) (n : ℕ) → AllByRecursion (λ w. depth (write_json w) ≤ n) ws → items_depth (writes_json ws) ≤ n
writes_fit [] n each = omega arith
writes_fit (w ∷ ws) n each = omega (arith, each.0, writes_fit ws n each.1)

member_fits : (ws : List Write) (n : ℕ) → AllByRecursion (λ w. depth (write_json w) ≤ n) ws → members_depth (writes_member ws) ≤ n + 1
member_fits [] n each = omega arith
member_fits (w ∷ ws) n each = omega (arith, each.0, writes_fit ws n each.1)

commit_fits : (root : Root) (ws : List Write) (transaction : Option ℕ) (n : ℕ) → AllByRecursion (λ w. depth (write_json w) ≤ n) ws → IsWithin (n + 2) (Commit root ws transaction)
commit_fits root ws transaction n each = omega (arith, eight_fits (codes "transaction") transaction (writes_member ws) (n + 1) (member_fits ws n each))

commit_within : (root : Root) (d : Data) (place : List ℕ) (n : ℕ) → depth d ≤ n + 5 → 0 < n → IfOk (commit_at root d place) (IsWithin (n + 5))
unfolding commit_at
commit_within root d place n h some =
    let P = IsWithin (n + 5) in
    let inner = member_place place (codes "writes") in
    let D : List Draft → Type 0 = AllByRecursion (λ draft. depth (write_json draft.write) ≤ n + 3) in
    at_last_holds P (only_at commit_members d place) _
    (λ u. at_last_holds P (database_at root d place) _
    (λ v. in_turn_holds D P (drafts_in root d place) _
    (inside_or D (codes "writes") d place (λ x. drafts_at root x inner) (Ok []) (λ x falls. drafts_within root x inner n (omega (arith, falls, h)) some) tt)
    (λ drafts are. at_last_holds P (optional_eight_at (codes "transaction") d place) _
    (λ transaction. in_turn_holds (AllByRecursion (λ x. depth (write_json x) ≤ n + 3)) P (judged_at drafts inner) _ (judged_within drafts inner (n + 3) are)
    (λ writes each. omega (arith, commit_fits root writes transaction (n + 3) each))))))

-- ---- write streams

stream_fits : (stream : Option ℕ) (rest : Members) (n : ℕ) → members_depth rest ≤ n → members_depth (with_stream stream rest) ≤ n
stream_fits None rest n h = h
stream_fits (Some stream) rest n h = omega (arith, h)

asked_fits : (root : Root) (asked : StreamRequest) (n : ℕ) → AllByRecursion (λ w. depth (write_json w) ≤ n) (writes_of asked) → IsWithin (n + 2) (requests.Write root asked)
asked_fits root asked n each =
    let behind = with_eight (codes "streamToken") (token_of asked) (writes_member (writes_of asked)) in
    omega (arith, stream_fits (stream_of asked) behind (n + 1) (eight_fits (codes "streamToken") (token_of asked) (writes_member (writes_of asked)) (n + 1) (member_fits (writes_of asked) n each)))

-- what is asked has the writes that are there, or none
asked_each : (P : Write → Type 0) (stream token : Option ℕ) (ws : List Write) → AllByRecursion P ws → AllByRecursion P (writes_of (asked_with stream token ws))
asked_each P stream None ws each = tt
asked_each P None (Some token) [] each = tt
asked_each P None (Some token) (w ∷ ws) each = each
asked_each P (Some stream) (Some token) [] each = tt
asked_each P (Some stream) (Some token) (w ∷ ws) each = each

stream_within : (root : Root) (d : Data) (place : List ℕ) (n : ℕ) → depth d ≤ n + 5 → 0 < n → IfOk (stream_request_at root d place) (IsWithin (n + 5))
unfolding stream_request_at
stream_within root d place n h some =
    let P = IsWithin (n + 5) in
    let inner = member_place place (codes "writes") in
    let D : List Draft → Type 0 = AllByRecursion (λ draft. depth (write_json draft.write) ≤ n + 3) in
    let W : Write → Type 0 = λ x. depth (write_json x) ≤ n + 3 in
    at_last_holds P (only_at write_members d place) _
    (λ u. at_last_holds P (database_at root d place) _
    (λ v. at_last_holds P (stream_in d place) _
    (λ stream. in_turn_holds D P (drafts_in root d place) _
    (inside_or D (codes "writes") d place (λ x. drafts_at root x inner) (Ok []) (λ x falls. drafts_within root x inner n (omega (arith, falls, h)) some) tt)
    (λ drafts are. at_last_holds P (token_for stream drafts d place) _
    (λ token. at_last_holds P (labels_in d place) _
    (λ labels. in_turn_holds (AllByRecursion W) P (judged_at drafts inner) _ (judged_within drafts inner (n + 3) are)
    (λ writes each. omega (arith, asked_fits root (asked_with stream token writes) (n + 3) (asked_each W stream token writes each)))))))))

-- ---- reads

get_fits : (name : DocName) (mask : Option (List FieldPath)) (when : When) (n : ℕ) → IsWithin (n + 3) (GetDocument name mask when)
get_fits name mask when n =
    let rest = member (codes "name") (name_json name) (with_when when no_members) in
    let all : members_depth rest ≤ n + 2 = omega (arith, when_fits when no_members (n + 2) (omega arith)) in
    omega (arith, mask_fits mask rest n all)

batch_get_fits : (root : Root) (names : List DocName) (mask : Option (List FieldPath)) (when : When) (n : ℕ) → IsWithin (n + 3) (BatchGetDocuments root names mask when)
batch_get_fits root names mask when n =
    omega (arith, names_flat names, mask_fits mask (with_when when no_members) n (when_fits when no_members (n + 2) (omega arith)))

get_within : (root : Root) (d : Data) (place : List ℕ) (n : ℕ) → IfOk (get_at root d place) (IsWithin (n + 5))
unfolding get_at
get_within root d place n =
    let P = IsWithin (n + 5) in
    at_last_holds P (only_at get_members d place) _
    (λ u. at_last_holds P (required_at (codes "name") d place) _
    (λ text. at_last_holds P (name_at root text (member_place place (codes "name"))) _
    (λ name. at_last_holds P (mask_in d place) _ (λ mask. at_last_holds P (when_at d place) _ (λ when. omega (arith, get_fits name mask when n))))))

batch_get_within : (root : Root) (d : Data) (place : List ℕ) (n : ℕ) → IfOk (batch_get_at root d place) (IsWithin (n + 5))
unfolding batch_get_at
batch_get_within root d place n =
    let P = IsWithin (n + 5) in
    at_last_holds P (only_at batch_get_members d place) _
    (λ u. at_last_holds P (database_at root d place) _
    (λ v. at_last_holds P (required_at (codes "documents") d place) _
    (λ list. at_last_holds P (names_at root list (member_place place (codes "documents"))) _
    (λ names. at_last_holds P (mask_in d place) _ (λ mask. at_last_holds P (when_at d place) _ (λ when. omega (arith, batch_get_fits root names mask when n)))))))

-- ---- queries

query_fits : (root : Root) (q : Asked) (when : When) (n : ℕ) → depth (query_json q) ≤ n → IsWithin (n + 1) (RunQuery root q when)
query_fits root q when n h =
    let behind = with_eight (codes "transaction") (transaction_of when) no_members in
    let rest = member (codes "structuredQuery") (query_json q) behind in
    let all : members_depth rest ≤ n = omega (arith, h, eight_fits (codes "transaction") (transaction_of when) no_members n (omega arith)) in
    omega (arith, time_fits (time_of when) rest n all)

structured_within : (parent : List (List ℕ)) (d : Data) (place : List ℕ) (n : ℕ) → depth d ≤ n + 5 → IfOk (structured_at parent d place) (λ asked. depth (query_json asked.0) ≤ n + 4)
unfolding structured_at
structured_within parent d place n h =
    let inner = member_place place (codes "structuredQuery") in
    let P : Asked × When → Type 0 = λ asked. depth (query_json asked.0) ≤ n + 4 in
    let Q : Asked → Type 0 = λ q. depth (query_json q) ≤ n + 4 in
    inside P (codes "structuredQuery") d place _
    (λ s falls. in_turn_holds Q P (walked_at parent s inner) _ (walked_within parent s inner n (omega (arith, falls, h)))
    (λ walked is. at_last_holds P (when_at d place) _
    (λ when. in_turn_holds Q P (permitted_at walked inner) _ (permitted_within walked inner (n + 4) is) (λ q fits. fits))))

run_query_within : (root : Root) (d : Data) (place : List ℕ) (n : ℕ) → depth d ≤ n + 5 → IfOk (run_query_at root d place) (IsWithin (n + 5))
unfolding run_query_at
run_query_within root d place n h =
    let P = IsWithin (n + 5) in
    at_last_holds P (only_at run_query_members d place) _
    (λ u. at_last_holds P (required_at (codes "parent") d place) _
    (λ name. at_last_holds P (parent_at root name (member_place place (codes "parent"))) _
    (λ parent. in_turn_holds (λ asked. depth (query_json asked.0) ≤ n + 4) P (structured_at parent d place) _ (structured_within parent d place n h)
    (λ asked fits. omega (arith, query_fits root asked.0 asked.1 (n + 4) fits)))))

-- ---- transactions

begin_fits : (root : Root) (options : TransactionOptions) (n : ℕ) → IsWithin (n + 3) (BeginTransaction root options)
begin_fits root ReadWrite n = omega arith
begin_fits root (ReadOnly time) n = omega (arith, time_fits time no_members 0 (omega arith))

begin_within : (root : Root) (d : Data) (place : List ℕ) (n : ℕ) → IfOk (begin_at root d place) (IsWithin (n + 5))
unfolding begin_at
begin_within root d place n =
    let P = IsWithin (n + 5) in
    at_last_holds P (only_at begin_members d place) _
    (λ u. at_last_holds P (database_at root d place) _
    (λ v. at_last_holds P (options_in d place) _ (λ options. omega (arith, begin_fits root options n))))

rollback_within : (root : Root) (d : Data) (place : List ℕ) (n : ℕ) → IfOk (rollback_at root d place) (IsWithin (n + 5))
unfolding rollback_at
rollback_within root d place n =
    let P = IsWithin (n + 5) in
    at_last_holds P (only_at rollback_members d place) _
    (λ u. at_last_holds P (database_at root d place) _
    (λ v. at_last_holds P (required_as eight_at (codes "transaction") d place) _ (λ transaction. omega arith)))

-- ---- requests with their ids

request_within : (root : Root) (method : List ℕ) (d : Data) (n : ℕ) → depth d ≤ n + 5 → 1 < n → IfOk (request_at root method d) (IsWithin (n + 5))
request_within root method d n h some =
    let P = IsWithin (n + 5) in
    either P (bytes_eq method (codes "commit")) _ _ (commit_within root d method n h (omega arith))
    (either P (bytes_eq method (codes "getDocument")) _ _ (get_within root d method n)
    (either P (bytes_eq method (codes "batchGetDocuments")) _ _ (batch_get_within root d method n)
    (either P (bytes_eq method (codes "runQuery")) _ _ (run_query_within root d method n h)
    (either P (bytes_eq method (codes "beginTransaction")) _ _ (begin_within root d method n)
    (either P (bytes_eq method (codes "rollback")) _ _ (rollback_within root d method n)
    (either P (bytes_eq method (codes "listen")) _ _
    (IfOk-weaker (listen_request_at root d method) (IsWithin (n - 2 + 7)) P (λ r is. omega (arith, is)) (listen_within root d method (n - 2) (omega (arith, h))))
    (either P (bytes_eq method (codes "write")) _ _ (stream_within root d method n h (omega arith)) (record {}))))))))

envelope_fits : (id : Option (List ℕ)) (r : Request) (n : ℕ) → IsWithin n r → depth (envelope_json (record { id = id; request = r })) ≤ n + 1
envelope_fits None r n h = omega (arith, h)
envelope_fits (Some id) (Commit root writes transaction) n h = omega (arith, h)
envelope_fits (Some id) (GetDocument name mask when) n h = omega (arith, h)
envelope_fits (Some id) (BatchGetDocuments root names mask when) n h = omega (arith, h)
envelope_fits (Some id) (RunQuery root q when) n h = omega (arith, h)
envelope_fits (Some id) (BeginTransaction root options) n h = omega (arith, h)
envelope_fits (Some id) (Rollback root transaction) n h = omega (arith, h)
envelope_fits (Some id) (AddTarget root k t token) n h = omega (arith, h)
envelope_fits (Some id) (RemoveTarget root k) n h = omega (arith, h)
envelope_fits (Some id) (requests.Write root asked) n h = omega (arith, h)

pub envelope_within : (root : Root) (d : Data) (n : ℕ) → depth d ≤ n + 6 → 1 < n → IfOk (envelope_at root d) (λ e. depth (envelope_json e) ≤ n + 6)
unfolding envelope_at
envelope_within root d n h some =
    let P : Envelope → Type 0 = λ e. depth (envelope_json e) ≤ n + 6 in
    at_last_holds P (only_at (envelope_head ++ methods) d []) _
    (λ u. at_last_holds P (id_at d) _
    (λ id. in_turn_holds (λ one. depth one.1 < depth d) P (one_of_at methods d []) _ (one_falls methods d [])
    (λ one falls. in_turn_holds (IsWithin (n + 5)) P (request_at root one.0 one.1) _ (request_within root one.0 one.1 n (omega (arith, falls, h)) some)
    (λ r is. omega (arith, envelope_fits id r (n + 5) is)))))
