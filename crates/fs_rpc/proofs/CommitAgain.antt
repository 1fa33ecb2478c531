-- What is written of a commit is read as the same commit.
use Rattle.std.proofs.Common.{◌≡◌, ℕ, ◌+◌, List, [], ◌∷◌, map, Option, Some, None, Result, Ok, Err, IfSome, codes, refl}
use Rattle.std.specs.List.{AllByRecursion}
use Rattle.fs_path.specs.Database.{database_text, IsDatabase}
use Rattle.fs_path.specs.Place.{item_place, member_place}
use Rattle.fs_path.specs.declared.name.Root.{Root}
use Rattle.serde_json.specs.Data.{Data, Items, item, Members, no_members, member, object}
use Rattle.fs_json.specs.Answer.{◌>>=◌}
use Rattle.fs_json.specs.Walk.{each_at}
use Rattle.fs_json.specs.declared.bad.Bad.{Bad}
use Rattle.fs_write.specs.declared.write.Write.{Write}
use Rattle.fs_writejson.specs.Draft.{draft_at}
use Rattle.fs_writejson.specs.Rules.{judged_at, permitted_at, rule_of_draft, rules_at, unless_broken}
use Rattle.fs_writejson.specs.Valid.{IsWriteOf}
use Rattle.fs_writejson.specs.Written.{write_json}
use Rattle.fs_writejson.specs.declared.draft.Draft.{Draft}
use Rattle.fs_rpc.specs.Envelope.{envelope_at}
use Rattle.fs_rpc.specs.Id.{with_id_put}
use Rattle.fs_rpc.specs.RequestJson.{commit_json, writes_json}
use Rattle.fs_rpc.specs.RequestSteps.{IsWriteHeld}
use Rattle.fs_rpc.specs.Requests.{commit_at}
use Rattle.fs_rpc.specs.Eight.{IsEightHeld}
use Rattle.fs_request.specs.declared.request.Request.{Request}
use Rattle.fs_request.specs.declared.request.Request.TheVariants.{Commit}
use Rattle.fs_path.proofs.Databases.{database_taken}

-- ---- one write

-- the draft that a write is read by
record Drafted (walked : Result Draft Bad) (w : Write) : Type 0 where
  draft : Draft
  read : walked ≡ Ok draft
  allowed : rule_of_draft draft ≡ None
  write : draft.write ≡ w

permitted : (draft : Draft) (rule : Option ℕ) (place : List ℕ) (w : Write) → rule_of_draft draft ≡ rule → unless_broken rule place (Ok draft.write) ≡ Ok w → Drafted (Ok draft) w
permitted draft None place w is h = record { draft = draft; read = refl; allowed = is; write = (cc) }
permitted draft (Some n) place w is h = absurd (cc)

drafted : (walked : Result Draft Bad) (place : List ℕ) (w : Write) → (walked >>= λ draft. permitted_at draft place) ≡ Ok w → Drafted walked w
drafted (Ok draft) place w h = permitted draft (rule_of_draft draft) place w refl h
drafted (Err bad) place w h = absurd (cc)

-- ---- writes, from this number on

pub record AllDrafted (root : Root) (ds : Items) (i : ℕ) (place : List ℕ) (ws : List Write) : Type 0 where
  pub drafts : List Draft
  pub read : each_at (draft_at root) ds i place ≡ Ok drafts
  pub allowed : rules_at drafts i place ≡ Ok tt
  pub writes : map (λ draft. draft.write) drafts ≡ ws

one_more : (root : Root) (d : Data) (w : Write) (ds : Items) (ws : List Write) (i : ℕ) (place : List ℕ) → Drafted (draft_at root d (item_place place i)) w
    → AllDrafted root ds (i + 1) place ws → AllDrafted root (item d ds) i place (w ∷ ws)
one_more root d w ds ws i place first rest =
    record { drafts = first.draft ∷ rest.drafts; read = rw (first.read, rest.read) refl; allowed = rw first.allowed rest.allowed; writes = rw (first.write, rest.writes) refl }

pub all_drafted : (root : Root) (ws : List Write) (i : ℕ) (place : List ℕ) → AllByRecursion IsWriteHeld ws → AllByRecursion (IsWriteOf root) ws → AllDrafted root (writes_json ws) i place ws
all_drafted root [] i place held valid = record { drafts = []; read = refl; allowed = refl; writes = refl }
all_drafted root (w ∷ ws) i place held valid =
    let inside = item_place place i in
    let first : Drafted (draft_at root (write_json w) inside) w = drafted (draft_at root (write_json w) inside) inside w (held.0.again root inside valid.0) in
    one_more root (write_json w) w (writes_json ws) ws i place first (all_drafted root ws (i + 1) place held.1 valid.1)

-- ---- the commit

pub judged : (root : Root) (ds : Items) (place : List ℕ) (ws : List Write) → (all : AllDrafted root ds 0 place ws) → judged_at all.drafts place ≡ Ok ws
judged root ds place ws all = rw (all.allowed, all.writes) refl

some_again : (root : Root) (w : Write) (ws : List Write) (transaction : Option ℕ) (place : List ℕ) → IsDatabase root → AllDrafted root (writes_json (w ∷ ws)) 0 (member_place place (codes "writes")) (w ∷ ws)
    → IfSome transaction IsEightHeld → commit_at root (commit_json root (w ∷ ws) transaction) place ≡ Ok (Commit root (w ∷ ws) transaction)
unfolding commit_at
some_again root w ws None place named all told =
    rw ((database_taken root (database_text root)).1 (named, refl), all.read, judged root (writes_json (w ∷ ws)) (member_place place (codes "writes")) (w ∷ ws) all) refl
some_again root w ws (Some n) place named all told =
    rw ((database_taken root (database_text root)).1 (named, refl), all.read, told (member_place place (codes "transaction")), judged root (writes_json (w ∷ ws)) (member_place place (codes "writes")) (w ∷ ws) all) refl

none_again : (root : Root) (transaction : Option ℕ) (place : List ℕ) → IsDatabase root → IfSome transaction IsEightHeld → commit_at root (commit_json root [] transaction) place ≡ Ok (Commit root [] transaction)
unfolding commit_at
none_again root None place named told = rw ((database_taken root (database_text root)).1 (named, refl)) refl
none_again root (Some n) place named told = rw ((database_taken root (database_text root)).1 (named, refl), told (member_place place (codes "transaction"))) refl

pub commit_again : (root : Root) (ws : List Write) (transaction : Option ℕ) (place : List ℕ) → IsDatabase root → AllByRecursion IsWriteHeld ws → AllByRecursion (IsWriteOf root) ws
    → IfSome transaction IsEightHeld → commit_at root (commit_json root ws transaction) place ≡ Ok (Commit root ws transaction)
commit_again root [] transaction place named held valid told = none_again root transaction place named told
commit_again root (w ∷ ws) transaction place named held valid told =
    some_again root w ws transaction place named (all_drafted root (w ∷ ws) 0 (member_place place (codes "writes")) held valid) told

-- ---- with its id

pub commit_read : (root : Root) (id : Option (List ℕ)) (ms : Members) (r : Request) → commit_at root (object ms) (codes "commit") ≡ Ok r
    → envelope_at root (object (with_id_put id (member (codes "commit") (object ms) no_members))) ≡ Ok (record { id = id; request = r })
unfolding envelope_at
commit_read root None ms r h = rw h refl
commit_read root (Some id) ms r h = rw h refl
