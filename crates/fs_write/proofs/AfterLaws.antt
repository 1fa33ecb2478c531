-- The documents after a commit, name by name.
use Rattle.std.proofs.Common.{◌≡◌, ℕ, ℤ, Bool, true, false, cond, List, [], ◌∷◌, ◌++◌, length, Option, Some, None, option_map, is_some, Result, Ok, Err, true≢false, refl, sym, ap, ◌∙◌}
use Rattle.std.specs.Prelude.{◌||◌}
use Rattle.std.specs.BTreeMap.{is_at}
use Rattle.std.specs.FinMap.{get}
use Rattle.fs_path.specs.NameOrder.{name_cmp, name_is, name_itself}
use Rattle.fs_path.specs.declared.name.DocName.{DocName}
use Rattle.fs_status.specs.declared.refusal.Refusal.{Refusal}
use Rattle.fs_value.specs.Data.{Data}
use Rattle.fs_value.specs.declared.document.Document.{Document}
use Rattle.fs_write.specs.After.{left_of, documents_left, left_after, after_batch}
use Rattle.fs_write.specs.Batch.{Docs, with_document, after_write, all_writes, batch, is_unchanged, document_after, IsOutcome}
use Rattle.fs_write.specs.OneWrite.{Fault, one_write, unless, overlong, unmet, unfit, written, carried_out, fields_left, document_left}
use Rattle.fs_value.specs.Same.{same_fields}
use Rattle.fs_write.specs.Refused.{reason_of}
use Rattle.fs_write.specs.Transforms.{transformed, transform_results}
use Rattle.fs_write.specs.WrittenName.{act_name, written_name, is_written}
use Rattle.fs_write.specs.declared.change.Change.{Change}
use Rattle.fs_write.specs.declared.write.Act.TheVariants.{Set, Delete}
use Rattle.fs_write.specs.declared.write.Write.{Write}
use Rattle.fs_write.specs.declared.write_result.WriteResult.{WriteResult}
use Rattle.fs_status.specs.Refusal.{refusal_of}
use Rattle.fs_write.proofs.BatchLaws.{all_appended, untouched, law_back, law_differs}
use Rattle.fs_value.proofs.Alike.{same_are, same_itself}
use Rattle.fs_write.proofs.Stages.{get-with_document, all_refused}
use Rattle.fs_write.proofs.WriteLaws.{unless_done, law_set, law_deleted}

module _ (before after : Docs) (q : DocName) where
  left_next : (n : DocName) (b c : Bool) (rest : Option Document) → is_at (name_cmp n) q ≡ b → rest ≡ cond c (left_of (get before q) (get after q)) (get after q)
      → cond (is_at (name_cmp n) q) (left_of (get before n) (get after n)) rest ≡ cond (is_at (name_cmp n) q || c) (left_of (get before q) (get after q)) (get after q)
  left_next n true c rest here then =
      let same : n ≡ q = name_is n q here in
      rw here (ap (λ m. left_of (get before m) (get after m)) same)
  left_next n false c rest here then = rw here then

  -- a name that is written has what the commit leaves of it, and any other what is there
  get-documents_left : (ws : List Write) → get (documents_left before after ws) q ≡ cond (is_written q ws) (left_of (get before q) (get after q)) (get after q)
  get-documents_left [] = refl
  get-documents_left (w ∷ ws) =
      get-with_document (documents_left before after ws) (written_name w) (left_of (get before (written_name w)) (get after (written_name w))) q
      ∙ left_next (written_name w) (is_at (name_cmp (written_name w)) q) (is_written q ws) (get (documents_left before after ws) q) refl (get-documents_left ws)

-- what is there twice is left
left_itself : (o : Option Document) (b : Bool) → cond b o o ≡ o
left_itself o true = refl
left_itself o false = refl

-- ---- of a commit that is carried out

module _ (docs : Docs) (ws : List Write) (t : ℤ) (done : Docs × List WriteResult) (is : batch docs ws t ≡ Ok done) (q : DocName) where
  unwritten_there : is_written q ws ≡ false → left_of (get docs q) (get done.0 q) ≡ get done.0 q
  unwritten_there apart =
      let there : get done.0 q ≡ get docs q = untouched ws docs [] t done q apart is in
      ap (left_of (get docs q)) there ∙ left_itself (get docs q) (is_unchanged (get docs q) (get docs q)) ∙ sym there

  left_anyhow : (b : Bool) → is_written q ws ≡ b → cond b (left_of (get docs q) (get done.0 q)) (get done.0 q) ≡ left_of (get docs q) (get done.0 q)
  left_anyhow true at = refl
  left_anyhow false at = sym (unwritten_there at)

  pub get-after_batch : get (after_batch docs ws t) q ≡ left_of (get docs q) (get done.0 q)
  get-after_batch = ap (λ r. get (left_after docs ws r) q) is ∙ get-documents_left docs done.0 q ws ∙ left_anyhow (is_written q ws) refl

  kept_same : (a b : Document) → get docs q ≡ Some a → get done.0 q ≡ Some b → a.fields ≡ b.fields → left_of (Some a) (Some b) ≡ Some a
  kept_same a b was now same = ap (λ c. cond c (Some a) (Some b)) (ap (same_fields a.fields) (sym same) ∙ same_itself a.fields)

  pub law_as_it_was : (a b : Document) → get docs q ≡ Some a → get done.0 q ≡ Some b → a.fields ≡ b.fields → get (after_batch docs ws t) q ≡ Some a
  law_as_it_was a b was now same = get-after_batch ∙ (λ i. left_of (was i) (now i)) ∙ kept_same a b was now same

module _ (docs : Docs) (ws : List Write) (t : ℤ) (cs : List Change) (rs : List WriteResult) (q : DocName) (had : IsOutcome docs ws t cs rs) where
  left_by_changes : (b : Bool) → is_unchanged (get docs q) (get had.after q) ≡ b → left_of (get docs q) (get had.after q) ≡ document_after docs cs q
  left_by_changes true is = rw is (sym (law_back docs ws t cs rs q had is))
  left_by_changes false is = rw is (sym (law_differs docs ws t cs rs q had is))

  pub law_left : get (after_batch docs ws t) q ≡ document_after docs cs q
  law_left = get-after_batch docs ws t (had.after, rs) had.done q ∙ left_by_changes (is_unchanged (get docs q) (get had.after q)) refl

-- ---- what isn't written stays

unwritten_by : (docs : Docs) (ws : List Write) (t : ℤ) (q : DocName) (r : Result (Docs × List WriteResult) Refusal) → batch docs ws t ≡ r → is_written q ws ≡ false → get (left_after docs ws r) q ≡ get docs q
unwritten_by docs ws t q (Err e) is apart = refl
unwritten_by docs ws t q (Ok done) is apart =
    ap (λ r. get (left_after docs ws r) q) (sym is)
    ∙ get-after_batch docs ws t done is q
    ∙ unwritten_there docs ws t done is q apart
    ∙ untouched ws docs [] t done q apart is

pub law_unwritten : (docs : Docs) (ws : List Write) (t : ℤ) (q : DocName) → is_written q ws ≡ false → get (after_batch docs ws t) q ≡ get docs q
law_unwritten docs ws t q apart = unwritten_by docs ws t q (batch docs ws t) refl apart

pub law_refused_stays : (docs : Docs) (ws : List Write) (t : ℤ) (e : Refusal) → batch docs ws t ≡ Err e → after_batch docs ws t ≡ docs
law_refused_stays docs ws t e is = ap (left_after docs ws) is

-- ---- the last write of a name decides

-- what the write after some others comes to, and what all leave of its name
pub record Last (docs : Docs) (w : Write) (t : ℤ) (done : Docs × List WriteResult) : Type 0 where
  pub there : Option Document
  pub left : Option Document
  pub answer : WriteResult
  pub one : one_write there w t ≡ Ok (left, answer)
  pub stays : get done.0 (written_name w) ≡ left

last_at : (so_far : Docs × List WriteResult) (docs : Docs) (w : Write) (later : List Write) (t : ℤ) (done : Docs × List WriteResult) (r : Result (Option Document × WriteResult) Fault)
    → one_write (get so_far.0 (written_name w)) w t ≡ r → is_written (written_name w) later ≡ false
    → all_writes (after_write so_far.0 so_far.1 (written_name w) r) later t ≡ Ok done → Last docs w t done
last_at so_far docs w later t done (Err fault) one apart is = let e = refusal_of (reason_of (length so_far.1) fault) in absurd (cc (all_refused later t e))
last_at so_far docs w later t done (Ok one_done) one apart is =
    let n = written_name w in
    record {
      there = get so_far.0 n;
      left = one_done.0;
      answer = one_done.1;
      one = one;
      stays = untouched later (with_document so_far.0 n one_done.0) (so_far.1 ++ one_done.1 ∷ []) t done n apart is
          ∙ get-with_document so_far.0 n one_done.0 n
          ∙ ap (λ b. cond b one_done.0 (get so_far.0 n)) (name_itself n);
    }

last_after : (p : Result (Docs × List WriteResult) Refusal) (docs : Docs) (w : Write) (later : List Write) (t : ℤ) (done : Docs × List WriteResult)
    → is_written (written_name w) later ≡ false → all_writes p (w ∷ later) t ≡ Ok done → Last docs w t done
last_after (Err e) docs w later t done apart is = absurd (cc (all_refused later t e))
last_after (Ok so_far) docs w later t done apart is = last_at so_far docs w later t done (one_write (get so_far.0 (written_name w)) w t) refl apart is

last_of : (docs : Docs) (earlier : List Write) (w : Write) (later : List Write) (t : ℤ) (done : Docs × List WriteResult)
    → batch docs (earlier ++ w ∷ later) t ≡ Ok done → is_written (written_name w) later ≡ false → Last docs w t done
last_of docs earlier w later t done is apart = last_after (all_writes (Ok (docs, [])) earlier t) docs w later t done apart (sym (all_appended earlier (w ∷ later) (Ok (docs, [])) t) ∙ is)

chosen_fields : (b : Bool) (a d : Document) → same_fields a.fields d.fields ≡ b → option_map (λ (x : Document). x.fields) (cond b (Some a) (Some d)) ≡ Some d.fields
chosen_fields true a d same = ap Some (same_are a.fields d.fields same)
chosen_fields false a d same = refl

left_fields : (o : Option Document) (d : Document) → option_map (λ (x : Document). x.fields) (left_of o (Some d)) ≡ Some d.fields
left_fields None d = refl
left_fields (Some a) d = chosen_fields (same_fields a.fields d.fields) a d refl

left_none : (o : Option Document) → left_of o None ≡ None
left_none None = refl
left_none (Some d) = refl

leaves_one : Result (Option Document × WriteResult) Fault → Bool
leaves_one (Ok done) = is_some done.0
leaves_one (Err fault) = true

never_none : (u : Option Fault) (d : Document) (a r : WriteResult) → unless {A = Option Document × WriteResult} u (Ok (Some d, a)) ≡ Ok (None, r) → ⊥
unfolding leaves_one
never_none (Some f) d a r is = true≢false (ap leaves_one is)
never_none None d a r is = true≢false (ap leaves_one is)

-- an update leaves a document
set_leaves : (there : Option Document) (w : Write) (t : ℤ) (r : WriteResult) (name : DocName) (fs : List (List ℕ × Data)) → one_write there w t ≡ Ok (None, r) → w.act ≡ Set name fs → ⊥
set_leaves there w t r name fs is act =
    let d = document_left there (written_name w) (transformed w.transforms t fs) t in
    let rs = transform_results w.transforms t fs in
    let done = unless_done (unmet w.condition there) (unless (overlong w.transforms) (written d rs)) (None, r) (ap (λ a. unless (unmet w.condition there) (carried_out (fields_left a there) there w t)) (sym act) ∙ is) in
    never_none (unfit d) d (record { updated = Some d.updated; transforms = rs }) r (unless_done (overlong w.transforms) (written d rs) (None, r) done)

set_left : (left there : Option Document) (w : Write) (t : ℤ) (r : WriteResult) (name : DocName) (fs : List (List ℕ × Data)) (before : Option Document)
    → one_write there w t ≡ Ok (left, r) → w.act ≡ Set name fs → w.transforms ≡ [] → option_map (λ (x : Document). x.fields) (left_of before left) ≡ Some fs
set_left None there w t r name fs before one act none = absurd (set_leaves there w t r name fs one act)
set_left (Some d) there w t r name fs before one act none = left_fields before d ∙ ap Some (law_set there w t d r name fs one act none)

module _ (docs : Docs) (earlier : List Write) (w : Write) (later : List Write) (t : ℤ) (done : Docs × List WriteResult) (name : DocName)
    (is : batch docs (earlier ++ w ∷ later) t ≡ Ok done) (named : written_name w ≡ name) (apart : is_written name later ≡ false) where
  last : Last docs w t done
  last = last_of docs earlier w later t done is (ap (λ n. is_written n later) named ∙ apart)

  last_left : get (after_batch docs (earlier ++ w ∷ later) t) name ≡ left_of (get docs name) last.left
  last_left = get-after_batch docs (earlier ++ w ∷ later) t done is name ∙ ap (left_of (get docs name)) (ap (get done.0) (sym named) ∙ last.stays)

  set_last : (fs : List (List ℕ × Data)) → w.act ≡ Set name fs → w.transforms ≡ [] → option_map (λ (d : Document). d.fields) (get (after_batch docs (earlier ++ w ∷ later) t) name) ≡ Some fs
  set_last fs act none = ap (option_map (λ (d : Document). d.fields)) last_left ∙ set_left last.left last.there w t last.answer name fs (get docs name) last.one act none

  delete_last : w.act ≡ Delete name → get (after_batch docs (earlier ++ w ∷ later) t) name ≡ None
  delete_last act = last_left ∙ ap (left_of (get docs name)) (law_deleted last.there last.left w t last.answer name last.one act).0 ∙ left_none (get docs name)

pub law_set_last : (docs : Docs) (earlier : List Write) (w : Write) (later : List Write) (t : ℤ) (done : Docs × List WriteResult) (name : DocName) (fs : List (List ℕ × Data))
    → batch docs (earlier ++ w ∷ later) t ≡ Ok done → w.act ≡ Set name fs → w.transforms ≡ [] → is_written name later ≡ false
    → option_map (λ (d : Document). d.fields) (get (after_batch docs (earlier ++ w ∷ later) t) name) ≡ Some fs
law_set_last docs earlier w later t done name fs is act none apart = set_last docs earlier w later t done name is (ap act_name act) apart fs act none

pub law_delete_last : (docs : Docs) (earlier : List Write) (w : Write) (later : List Write) (t : ℤ) (done : Docs × List WriteResult) (name : DocName)
    → batch docs (earlier ++ w ∷ later) t ≡ Ok done → w.act ≡ Delete name → is_written name later ≡ false → get (after_batch docs (earlier ++ w ∷ later) t) name ≡ None
law_delete_last docs earlier w later t done name is act apart = delete_last docs earlier w later t done name is (ap act_name act) apart act
