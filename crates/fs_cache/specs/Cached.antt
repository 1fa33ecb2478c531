-- The documents that a client has of the targets that it listens to, one of each name, with the targets whose views have it: those of its
-- last snapshot, which are taken, and those that it was told since, which are staged for the next one.
--
--     two targets, 1 and 2              taken                   staged
--     c/a is {n: 1} for 1 and 2                                 c/a {n: 1} of 1 and 2
--     a snapshot is taken at 3          c/a {n: 1} of 1 and 2   the same
--     c/a is {n: 2} for 2, 1 is left    c/a {n: 1} of 1 and 2   c/a {n: 2} of 2
--     the link is lost                  c/a {n: 1} of 1 and 2   the same
--     1 is listened to no longer        c/a {n: 1} of 2         the same
-- (v1 reference, "ListenResponse": `DocumentChange`, `DocumentDelete`, `DocumentRemove`, `TargetChange`.)
use Rattle.std.specs.Prelude.{ℕ, ℤ, Bool, not, List, [], ◌∷◌, ◌++◌, map, Option, Some, None, ◌==◌, refl}
use Rattle.std.specs.Coded.{Coded, code_by, coded×, coded_option, coded_ℤ}
use Rattle.std.specs.FinMap.{FinMap, code, empty, entries, from_entries, get, insert, remove}
use Rattle.std.specs.List.{filter, filter_map, list_any}
use Rattle.std.specs.Option.{option_map}
use Rattle.fs_path.specs.NameOrder.{name_cmp}
use Rattle.fs_path.specs.contracts.name.DocName as name
use Rattle.fs_path.specs.declared.name.DocName.{DocName}
use Rattle.fs_value.specs.declared.document.Document.{Document}
use Rattle.fs_query.specs.declared.listen.ListenMessage.{ListenMessage}
use Rattle.fs_query.specs.declared.listen.ListenMessage.TheVariants as message
use Rattle.fs_cache.specs.contracts.cached.CachedDocument as cached
use Rattle.fs_cache.specs.declared.cached.CachedDocument.{CachedDocument}

abbrev pub Had : Type 0
Had = FinMap name_cmp CachedDocument

abbrev pub had_code : Coded Had
had_code = code name.the_row.coded cached.the_row.coded

pub record Cached : Type 0 where
  pub taken : Had
  pub staged : Had
  -- the time of the last snapshot
  pub snapshot : Option ℤ

-- it is stored as the tuple of its parts
abbrev pub cached_code : Coded Cached
cached_code =
    code_by (Had × (Had × Option ℤ)) (coded× had_code (coded× had_code (coded_option coded_ℤ)))
    (λ c. (c.taken, (c.staged, c.snapshot))) (λ p. record { taken = p.0; staged = p.1.0; snapshot = p.1.1 }) (λ _. refl)

abbrev pub none_cached : Cached
none_cached = record { taken = empty; staged = empty; snapshot = None }

-- ---- what is had of one name

abbrev pub is_number : List ℕ → ℕ → Bool
is_number numbers n = list_any (λ k. n == k) numbers

abbrev pub without : List ℕ → List ℕ → List ℕ
without gone targets = filter (λ t. not (is_number gone t)) targets

-- a document that no target has goes
abbrev pub of_targets : Document → List ℕ → Option CachedDocument
of_targets d [] = None
of_targets d (t ∷ ts) = Some (record { document = d; targets = t ∷ ts })

abbrev pub targets_of : Option CachedDocument → List ℕ
targets_of None = []
targets_of (Some c) = c.targets

-- some targets have it no longer
abbrev pub left_by : List ℕ → Option CachedDocument → Option CachedDocument
left_by gone None = None
left_by gone (Some c) = of_targets c.document (without gone c.targets)

-- it is another now for some targets, and gone for others; where it is told for none, the document stays as it was
abbrev pub changed_for : Document → List ℕ → List ℕ → Option CachedDocument → Option CachedDocument
changed_for d [] gone had = left_by gone had
changed_for d (t ∷ ts) gone had = of_targets d (without (gone ++ t ∷ ts) (targets_of had) ++ t ∷ ts)

-- ---- what a message makes of what is staged

abbrev pub with_cached : Had → DocName → Option CachedDocument → Had
with_cached docs name None = remove docs name
with_cached docs name (Some c) = insert docs name c

abbrev pub at_name : Had → DocName → (Option CachedDocument → Option CachedDocument) → Had
at_name docs name change = with_cached docs name (change (get docs name))

abbrev pub kept_entry : List ℕ → DocName × CachedDocument → Option (DocName × CachedDocument)
kept_entry gone e = option_map (λ (c : CachedDocument). (e.0, c)) (left_by gone (Some e.1))

-- some targets have no document any longer
abbrev pub all_left_by : List ℕ → Had → Had
all_left_by gone docs = from_entries (filter_map (kept_entry gone) (entries docs))

abbrev pub told : ListenMessage → Had → Had
told (message.Add ids) docs = docs
told (message.Remove ids cause) docs = all_left_by ids docs
told (message.Reset ids) docs = all_left_by ids docs
told (message.Current ids time token) docs = docs
told (message.NoChange time token) docs = docs
told (message.Changed d ids left) docs = at_name docs d.name (changed_for d ids left)
told (message.Deleted name time left) docs = at_name docs name (left_by left)
told (message.Removed name time left) docs = at_name docs name (left_by left)

-- ---- what becomes of both

abbrev pub changed : ListenMessage → Cached → Cached
changed m c = record c { staged = told m c.staged }

-- a snapshot of a time is taken
abbrev pub taken_at : ℤ → Cached → Cached
taken_at time c = record c { taken = c.staged; snapshot = Some time }

-- what was told since the last snapshot is thrown away
abbrev pub thrown : Cached → Cached
thrown c = record c { staged = c.taken }

-- a target is listened to no longer
abbrev pub forgotten : ℕ → Cached → Cached
forgotten target c = record c { taken = all_left_by (target ∷ []) c.taken; staged = all_left_by (target ∷ []) c.staged }

-- ---- the documents

abbrev pub documents_of : Had → FinMap name_cmp Document
documents_of docs = from_entries (map (λ (e : DocName × CachedDocument). (e.0, e.1.document)) (entries docs))

-- those of the last snapshot
abbrev pub documents : Cached → FinMap name_cmp Document
documents c = documents_of c.taken
