-- The tokens of what is answered, as they are written one after another.
use Rattle.std.proofs.Common.{◌≡◌, ℕ, ◌+◌, ◌<◌, Bool, cond, drop, get_or, List, [], ◌∷◌, ◌++◌, Option, Some, None, codes, refl, sym, ap, ◌∙◌, append_assoc, length}
use Rattle.std.proofs.lemmas.List.{append-nil, at_drop_more}
use Rattle.json.specs.Token.{Token, begin_object, end_object, key, string}
use Rattle.serde_json.specs.Data as json
use Rattle.json.specs.Tree.{items_tokens}
use Rattle.serde_json.specs.View.{items_of}
use Rattle.serde_json.specs.Written.{items_outline}
use Rattle.fs_rpc.specs.ListenJson.{listen_json}
use Rattle.fs_rpc.specs.MessageJson.{begin_json, commit_json, error_json, error_members, message_members, query_answers_json, result_members, with_id, with_results as listed_results}
use Rattle.fs_request.specs.declared.message.Message.{Message}
use Rattle.fs_request.specs.declared.message.Message.TheVariants.{Commit, GetDocument, BatchGetDocuments, RunQuery, BeginTransaction, Rollback, Listen, Write, Error}
use Rattle.fs_valjson.specs.Document.{document_json}
use Rattle.fs_valjson.specs.Tokens.{member_tokens, text_member, tokens_of}
use Rattle.fs_write.specs.declared.write_result.WriteResult.{WriteResult}
use Rattle.fs_writejson.specs.Results.{result_json}
use Rattle.fs_rpc.specs.Tokens.{answers_json, result_head, session_first}
use Rattle.std.specs.Prelude.{map}

-- ---- results of commits

-- results that are some
pub some_results : (rs : List WriteResult) → (rs ≡ [] → ⊥) → key (codes "writeResults") ∷ tokens_of (json.array (items_of (map result_json rs))) ≡ member_tokens (listed_results (items_of (map result_json rs)))
some_results [] some = absurd (some refl)
some_results (r ∷ rs) some = sym (append-nil (key (codes "writeResults") ∷ tokens_of (json.array (items_of (map result_json (r ∷ rs))))))

-- ---- messages

-- a result behind its head
head_first : (id : Option (List ℕ)) (d : json.Data) → result_head id ++ tokens_of d ≡ member_tokens (result_members id d)
head_first None d = sym (append-nil (key (codes "result") ∷ tokens_of d))
head_first (Some id) d = ap (λ ts. key (codes "id") ∷ string id ∷ ts) (sym (append-nil (key (codes "result") ∷ tokens_of d)))

pub headed : (old now : List Token) (id : Option (List ℕ)) (d : json.Data) → now ≡ old ++ result_head id → now ++ tokens_of d ≡ old ++ member_tokens (result_members id d)
headed old now id d head = ap (λ o. o ++ tokens_of d) head ∙ append_assoc old (result_head id) (tokens_of d) ∙ ap (λ ts. old ++ ts) (head_first id d)

-- the one member of an object, and a text behind it
one_member : (k : List ℕ) (d : json.Data) (name text : List ℕ) → (key k ∷ (tokens_of d ++ [])) ++ text_member name text ≡ key k ∷ (tokens_of d ++ text_member name text)
one_member k d name text = ap (λ ts. key k ∷ (ts ++ text_member name text)) (append-nil (tokens_of d))

result_on : (id : Option (List ℕ)) (d : json.Data) (session : List ℕ)
    → member_tokens (result_members id d) ++ text_member (codes "session") session ≡ member_tokens (json.put (codes "session") (json.string session) (result_members id d))
result_on None d session = one_member (codes "result") d (codes "session") session
result_on (Some id) d session = ap (λ ts. key (codes "id") ∷ string id ∷ ts) (one_member (codes "result") d (codes "session") session)

error_on : (id : Option (List ℕ)) (d : json.Data) (session : List ℕ)
    → member_tokens (error_members id d) ++ text_member (codes "session") session ≡ member_tokens (json.put (codes "session") (json.string session) (error_members id d))
error_on None d session = one_member (codes "error") d (codes "session") session
error_on (Some id) d session = ap (λ ts. key (codes "error") ∷ ts) (append_assoc (tokens_of d) (text_member (codes "id") id) (text_member (codes "session") session))

-- with the session before or behind them
abbrev pub placed : Bool → List Token → List Token → List Token
placed first members session = cond first (session ++ members) (members ++ session)

pub session_placed : (m : Message) (session : List ℕ)
    → placed (session_first m) (member_tokens (message_members m)) (text_member (codes "session") session) ≡ member_tokens (json.put (codes "session") (json.string session) (message_members m))
session_placed (Commit id time results) session = result_on id (commit_json time results) session
session_placed (GetDocument id document) session = result_on id (document_json document) session
session_placed (BatchGetDocuments id answers) session = result_on id (answers_json answers) session
session_placed (RunQuery id documents time) session = result_on id (json.array (query_answers_json documents time)) session
session_placed (BeginTransaction id transaction) session = result_on id (begin_json transaction) session
session_placed (Rollback id) session = result_on id (json.object json.no_members) session
session_placed (Listen told) session = one_member (codes "listen") (listen_json told) (codes "session") session
session_placed (Write stream token answer) session = refl
session_placed (Error id code message) session = error_on id (error_json code message) session

-- ---- lists

abbrev rest_of : {A : Type 0} → (A → json.Data) → List A → List Token
rest_of json_of xs = items_tokens (items_outline (items_of (map json_of xs)))

-- one item more: what is written, and the tokens of those that are left with their bracket, stay the whole
pub next_item : {A : Type 0} (json_of : A → json.Data) (xs : List A) (i : ℕ) (x : A) (now new whole : List Token) → i < length xs → x ≡ get_or xs i x
    → new ≡ now ++ tokens_of (json_of x) → now ++ rest_of json_of (drop i xs) ≡ whole → new ++ rest_of json_of (drop (i + 1) xs) ≡ whole
next_item json_of xs i x now new whole within is one so_far =
    let rest = rest_of json_of (drop (i + 1) xs) in
    let step : rest_of json_of (drop i xs) ≡ tokens_of (json_of x) ++ rest = at_drop_more (rest_of json_of) xs i x within ∙ ap (λ y. tokens_of (json_of y) ++ rest) (sym is) in
    ap (λ ts. ts ++ rest) one ∙ append_assoc now (tokens_of (json_of x)) rest ∙ ap (λ ts. now ++ ts) (sym step) ∙ so_far
