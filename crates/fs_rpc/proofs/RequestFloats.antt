-- What is written of a request has no float, so its text is told byte for byte.
use Rattle.std.proofs.Common.{◌≡◌, ℕ, ℤ, pos, negsuc, false, List, [], ◌∷◌, Option, Some, None, codes, refl}
use Rattle.std.proofs.lemmas.Bool.{or_parts}
use Rattle.std.specs.declared.cmp.Ordering.{Ordering}
use Rattle.std.specs.declared.cmp.Ordering.TheVariants.{Less, Equal, Greater}
use Rattle.std.specs.Cmp.Lexicographic.{slice_cmp}
use Rattle.std.specs.List.{AllByRecursion}
use Rattle.std.specs.Ordering.{nat_cmp, match_ordering}
use Rattle.serde_json.specs.Data.{Data, Members, no_members, member, put, string}
use Rattle.serde_json.specs.Written.{has_float, items_have_float, members_have_float}
use Rattle.fs_path.specs.declared.field.FieldPath.{FieldPath}
use Rattle.fs_path.specs.declared.name.DocName.{DocName}
use Rattle.fs_path.specs.declared.name.Root.{Root}
use Rattle.fs_query.specs.declared.target.Target.{Target}
use Rattle.fs_query.specs.declared.target.Target.TheVariants as target
use Rattle.fs_write.specs.declared.write.Write.{Write}
use Rattle.fs_rpc.specs.Id.{with_id_put}
use Rattle.fs_rpc.specs.RequestJson.{envelope_json, envelope_members, method_of, names_json, request_json, stream_of, token_of, with_mask, with_stream, with_target, with_token, writes_json, writes_member, writes_of}
use Rattle.fs_rpc.specs.RequestSteps.{IsMaskHeld, IsRequestHeld, IsTargetHeld, IsWriteHeld}
use Rattle.fs_rpc.specs.Eight.{with_eight}
use Rattle.fs_request.specs.When.{time_of, transaction_of}
use Rattle.fs_rpc.specs.When.{with_read_time, with_when}
use Rattle.fs_request.specs.declared.options.TransactionOptions.TheVariants.{ReadWrite, ReadOnly}
use Rattle.fs_request.specs.declared.request.Envelope.{Envelope}
use Rattle.fs_request.specs.declared.request.Request.{Request}
use Rattle.fs_request.specs.declared.request.Request.TheVariants.{Commit, GetDocument, BatchGetDocuments, RunQuery, BeginTransaction, Rollback, AddTarget, RemoveTarget}
use Rattle.fs_request.specs.declared.request.Request.TheVariants as requests
use Rattle.fs_request.specs.declared.when.When.{When}

-- ---- the parts of a request

writes_float : (ws : List Write) → AllByRecursion IsWriteHeld ws → items_have_float (writes_json ws) ≡ false
writes_float [] held = refl
writes_float (w ∷ ws) held = rw (held.0.float, writes_float ws held.1) refl

member_float : (ws : List Write) → AllByRecursion IsWriteHeld ws → members_have_float (writes_member ws) ≡ false
member_float [] held = refl
member_float (w ∷ ws) held = rw (held.0.float, writes_float ws held.1) refl

names_float : (ns : List DocName) → items_have_float (names_json ns) ≡ false
names_float [] = refl
names_float (n ∷ ns) = names_float ns

mask_float : (mask : Option (List FieldPath)) (rest : Members) → IsMaskHeld mask → members_have_float rest ≡ false → members_have_float (with_mask mask rest) ≡ false
mask_float None rest held h = h
mask_float (Some paths) rest held h = rw (held.float, h) refl

time_float : (time : Option ℤ) (rest : Members) → members_have_float rest ≡ false → members_have_float (with_read_time time rest) ≡ false
time_float None rest h = h
time_float (Some time) rest h = h

eight_float : (name : List ℕ) (n : Option ℕ) (rest : Members) → members_have_float rest ≡ false → members_have_float (with_eight name n rest) ≡ false
eight_float name None rest h = h
eight_float name (Some n) rest h = h

when_float : (when : When) (rest : Members) → members_have_float rest ≡ false → members_have_float (with_when when rest) ≡ false
when_float when rest h = time_float (time_of when) (with_eight (codes "transaction") (transaction_of when) rest) (eight_float _ (transaction_of when) rest h)

stream_float : (stream : Option ℕ) (rest : Members) → members_have_float rest ≡ false → members_have_float (with_stream stream rest) ≡ false
stream_float None rest h = h
stream_float (Some n) rest h = h

target_float : (root : Root) (t : Target) (rest : Members) → IsTargetHeld t → members_have_float rest ≡ false → members_have_float (with_target root t rest) ≡ false
target_float root (target.Query q) rest held h = rw (held.float, h) refl
target_float root (target.Documents names) rest held h = rw (names_float names, h) refl

token_float : (token : Option (List ℕ)) (rest : Members) → members_have_float rest ≡ false → members_have_float (with_token token rest) ≡ false
token_float None rest h = h
token_float (Some token) rest h = h

content_float : (r : Request) → IsRequestHeld r → has_float (request_json r) ≡ false
content_float (Commit database writes transaction) held = eight_float _ transaction (writes_member writes) (member_float writes held.0)
content_float (GetDocument name mask when) held = mask_float mask _ held.0 (when_float when no_members refl)
content_float (BatchGetDocuments database documents mask when) held =
    rw (names_float documents, mask_float mask (with_when when no_members) held.0 (when_float when no_members refl)) refl
content_float (RunQuery database query when) held =
    time_float (time_of when) _ (rw (held.0.float, eight_float _ (transaction_of when) no_members refl) refl)
content_float (BeginTransaction database ReadWrite) held = refl
content_float (BeginTransaction database (ReadOnly time)) held = rw (time_float time no_members refl) refl
content_float (Rollback database transaction) held = refl
content_float (AddTarget database id t token) held = rw (target_float database t _ held.0 (token_float token _ refl)) refl
content_float (RemoveTarget database (pos n)) held = refl
content_float (RemoveTarget database (negsuc n)) held = refl
content_float (requests.Write database asked) held =
    stream_float (stream_of asked) _ (eight_float (codes "streamToken") (token_of asked) (writes_member (writes_of asked)) (member_float (writes_of asked) held.writes))

-- ---- members that are put in

-- put in before, over, or behind the first member
put_float_at : (o : Ordering) (k l : List ℕ) (d e : Data) (ms more : Members) → has_float d ≡ false → has_float e ≡ false → members_have_float ms ≡ false → members_have_float more ≡ false
    → members_have_float (match_ordering o (member k d (member l e ms)) (member l d ms) (member l e more)) ≡ false
put_float_at Less k l d e ms more one first rest behind = rw (one, first, rest) refl
put_float_at Equal k l d e ms more one first rest behind = rw (one, rest) refl
put_float_at Greater k l d e ms more one first rest behind = rw (first, behind) refl

put_float : (k : List ℕ) (d : Data) (ms : Members) → has_float d ≡ false → members_have_float ms ≡ false → members_have_float (put k d ms) ≡ false
put_float k d no_members one h = rw one refl
put_float k d (member l e ms) one h =
    let parts = or_parts (has_float e) (members_have_float ms) h in
    put_float_at (slice_cmp nat_cmp k l) k l d e ms (put k d ms) one parts.0 parts.1 (put_float k d ms one parts.1)

with_id_float : (id : Option (List ℕ)) (ms : Members) → members_have_float ms ≡ false → members_have_float (with_id_put id ms) ≡ false
with_id_float None ms h = h
with_id_float (Some id) ms h = put_float (codes "id") (string id) ms refl h

-- ---- requests

envelope_members_float : (e : Envelope) → IsRequestHeld e.request → members_have_float (envelope_members e) ≡ false
envelope_members_float e held = with_id_float e.id (member (method_of e.request) (request_json e.request) no_members) (rw (content_float e.request held) refl)

pub envelope_float : (e : Envelope) → IsRequestHeld e.request → has_float (envelope_json e) ≡ false
envelope_float e held = envelope_members_float e held
