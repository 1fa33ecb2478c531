-- The writes of a commit, one after another on the documents of one moment: each on what those before it left, up to the
-- first that is refused, which refuses them all. The changes are the documents that differ afterwards.
--
--     before   c/a {n: 1}, updated at 5       c/b {n: 1}, updated at 5      no c/d
--     at 9     c/a to {n: 2}; c/b to {n: 2}; c/b to {n: 1}; c/d to {n: 1}; c/d deleted
--     after    c/a {n: 2}, updated at 9       c/b is the one of before      no c/d: the one change is that of c/a
-- (Cloud Firestore documentation, "Transactions and batched writes".)
use Rattle.std.specs.Prelude.{◌≡◌, ℤ, IsTrue, IfSome, Bool, true, false, List, [], ◌∷◌, ◌++◌, map, length, Option, Some, None, Result, Ok, Err, if◌then◌else◌}
use Rattle.std.specs.FinMap.{FinMap, find, get, insert, remove, from_sorted, is_sorted}
use Rattle.fs_path.specs.NameOrder.{name_cmp}
use Rattle.fs_path.specs.declared.name.DocName.{DocName}
use Rattle.fs_status.specs.Refusal.{refusal_of}
use Rattle.fs_status.specs.declared.refusal.Refusal.{Refusal}
use Rattle.fs_value.specs.Named.{by_name}
use Rattle.fs_value.specs.declared.document.Document.{Document}
use Rattle.fs_write.specs.OneWrite.{Fault, one_write}
use Rattle.fs_value.specs.Same.{same_fields}
use Rattle.fs_write.specs.Refused.{reason_of}
use Rattle.fs_write.specs.WrittenName.{written_name}
use Rattle.fs_write.specs.declared.change.Change.{Change}
use Rattle.fs_write.specs.declared.write.Write.{Write}
use Rattle.fs_write.specs.declared.write_result.WriteResult.{WriteResult}

-- the documents of one moment, by their names
abbrev pub Docs : Type 0
Docs = FinMap name_cmp Document

-- if there is a document, it bears this name
abbrev pub Bears : Option Document → DocName → Type 0
Bears o name = IfSome o (λ d. d.name ≡ name)

-- each document stands at its own name
abbrev pub AreNamed : Docs → Type 0
AreNamed docs = (name : DocName) → Bears (get docs name) name

-- the documents of a list in the order of names
abbrev pub docs_of : List Document → Docs
docs_of ds = from_sorted (by_name ds)

-- ---- the writes in order

abbrev pub with_document : Docs → DocName → Option Document → Docs
with_document docs name None = remove docs name
with_document docs name (Some d) = insert docs name d

-- the documents and the results after one more write, whose number in the commit is that of the results before it
abbrev pub after_write : Docs → List WriteResult → DocName → Result (Option Document × WriteResult) Fault → Result (Docs × List WriteResult) Refusal
after_write docs results name (Err fault) = Err (refusal_of (reason_of (length results) fault))
after_write docs results name (Ok done) = Ok (with_document docs name done.0, results ++ done.1 ∷ [])

abbrev pub next_write : Result (Docs × List WriteResult) Refusal → Write → ℤ → Result (Docs × List WriteResult) Refusal
next_write (Err refusal) write time = Err refusal
next_write (Ok so_far) write time =
    after_write so_far.0 so_far.1 (written_name write) (one_write (get so_far.0 (written_name write)) write time)

abbrev pub all_writes : Result (Docs × List WriteResult) Refusal → List Write → ℤ → Result (Docs × List WriteResult) Refusal
all_writes so_far [] time = so_far
all_writes so_far (write ∷ writes) time = all_writes (next_write so_far write time) writes time

-- the documents after all writes and their results, or the refusal of the first that is refused
abbrev pub batch : Docs → List Write → ℤ → Result (Docs × List WriteResult) Refusal
batch docs writes time = all_writes (Ok (docs, [])) writes time

-- ---- the changes

-- whether there is a document or none both times, and with the same fields
abbrev pub is_unchanged : Option Document → Option Document → Bool
is_unchanged None None = true
is_unchanged (Some a) (Some b) = same_fields a.fields b.fields
is_unchanged before after = false

-- what a commit does to a name, from the document of before and the one that its writes leave
abbrev pub change_of : DocName → Option Document → Option Document → Option Change
change_of name before after = if is_unchanged before after then None else Some (record { name = name; before = before; after = after })

abbrev pub changes_by_name : List Change → List (DocName × Change)
changes_by_name changes = map (λ c. (c.name, c)) changes

-- the changes between the documents of before and those that the writes left: in the order of names, and each name's is
-- that of its two look-ups
pub record AreChanges (before after : Docs) (changes : List Change) : Type 0 where
  pub rise : IsTrue (is_sorted name_cmp (changes_by_name changes))
  pub told : (name : DocName) → find name_cmp name (changes_by_name changes) ≡ change_of name (get before name) (get after name)

-- the documents of a change bear its name
abbrev pub IsNamed : Change → Type 0
IsNamed c = IfSome c.before (λ d. d.name ≡ c.name) × IfSome c.after (λ d. d.name ≡ c.name)

-- ---- what a commit comes to

-- it isn't refused, and these are its changes and results
pub record IsOutcome (docs : Docs) (writes : List Write) (time : ℤ) (changes : List Change) (results : List WriteResult) : Type 0 where
  pub after : Docs
  pub done : batch docs writes time ≡ Ok (after, results)
  pub changed : AreChanges docs after changes

-- a name's document after the changes: that of its change, if it has one, and else the one of before
abbrev pub changed_to : Option Change → Option Document → Option Document
changed_to (Some change) before = change.after
changed_to None before = before

abbrev pub document_after : Docs → List Change → DocName → Option Document
document_after docs changes name = changed_to (find name_cmp name (changes_by_name changes)) (get docs name)
