-- The documents that are written so far, as the definition of a batch has them.
use Rattle.std.proofs.Common.{◌≡◌, ℕ, suc, ◌+◌, ◌<◌, ◌≤◌, drop, get_or, arith, ℤ, Bool, true, false, cond, List, [], ◌∷◌, ◌++◌, length, Option, Some, None, Result, Ok, Err, refl, sym, ap, ◌∙◌, subst}
use Rattle.std.proofs.Math.ListN.{drop_of_length-le}
use Rattle.std.proofs.Math.Seq.{drop-cons}
use Rattle.std.specs.Prelude.{IsTrue, T}
use Rattle.std.specs.BTreeMap.{is_at}
use Rattle.std.proofs.lemmas.Cmp.{eq_by_cmp_equiv}
use Rattle.std.specs.FinMap.{find, get, get-insert, get-remove, is_sorted, get-from_sorted}
use Rattle.fs_path.specs.NameOrder.{name_cmp, name_cmp_total, name_is, name_itself}
use Rattle.fs_path.specs.declared.name.DocName.{DocName}
use Rattle.fs_status.specs.declared.refusal.Refusal.{Refusal}
use Rattle.fs_value.specs.declared.document.Document.{Document}
use Rattle.fs_value.specs.Named.{by_name}
use Rattle.fs_write.specs.Batch.{Docs, docs_of, with_document, batch, after_write, all_writes}
use Rattle.fs_write.specs.OneWrite.{Fault, one_write}
use Rattle.fs_write.specs.Refused.{refused}
use Rattle.fs_write.specs.Staging.{IsPut, staged_at, both_of, IsStage, IsTaken, IsNext, now_at}
use Rattle.fs_write.specs.WrittenName.{written_name}
use Rattle.fs_write.specs.declared.batch.Staged.{Staged}
use Rattle.fs_write.specs.declared.write.Write.{Write}
use Rattle.fs_write.specs.declared.write_result.WriteResult.{WriteResult}

-- ---- look-ups after a write

pub get-with_document : (docs : Docs) (name : DocName) (o : Option Document) (q : DocName) → get (with_document docs name o) q ≡ cond (is_at (name_cmp name) q) o (get docs q)
get-with_document docs name None q = get-remove name_cmp_total docs name q ∙ ap (λ b. cond b None (get docs q)) ((eq_by_cmp_equiv name_cmp_total).symm q name)
get-with_document docs name (Some d) q = get-insert name_cmp_total docs name d q ∙ ap (λ b. cond b (Some d) (get docs q)) ((eq_by_cmp_equiv name_cmp_total).symm q name)

-- ---- the stage after a write

-- at each name: the written one has what was staged for it, the others what they had
chosen : (b : Bool) (docs after : Docs) (name q : DocName) (s : Staged) (there : Option Staged) → (b ≡ true → name ≡ q) → s.before ≡ get docs name
    → both_of (get docs q) there ≡ (get docs q, get after q)
    → both_of (get docs q) (cond b (Some s) (cond b None there)) ≡ (get docs q, cond b s.now (get after q))
chosen true docs after name q s there same before stage = (λ i. ((before ∙ ap (get docs) (same refl)) i, s.now))
chosen false docs after name q s there same before stage = stage

module _ (docs after : Docs) (old mid new : List (DocName × Staged)) (name : DocName) (before now : Option Document) (s : Staged) (stage : IsStage docs old after) (is : (before, now) ≡ both_of (get docs name) (staged_at name old)) where
  pub taken_now : now ≡ get after name
  taken_now = ap (λ (p : Option Document × Option Document). p.1) (is ∙ stage name)

  taken_before : before ≡ get docs name
  taken_before = ap (λ (p : Option Document × Option Document). p.0) (is ∙ stage name)

  module _ (taken : IsTaken old mid name) (put : (q : DocName) → staged_at q new ≡ cond (is_at (name_cmp name) q) (Some s) (staged_at q mid)) (kept : s.before ≡ before) where
    staged_then : (q : DocName) → staged_at q new ≡ cond (is_at (name_cmp name) q) (Some s) (cond (is_at (name_cmp name) q) None (staged_at q old))
    staged_then q = put q ∙ ap (cond (is_at (name_cmp name) q) (Some s)) (taken q)

    pub staged_now : now_at docs new name ≡ s.now
    staged_now =
        ap (λ o. (both_of (get docs name) o).1) (staged_then name ∙ ap (λ b. cond b (Some s) (cond b None (staged_at name old))) (name_itself name))

    pub staged_after : IsStage docs new (with_document after name s.now)
    staged_after q =
        ap (both_of (get docs q)) (staged_then q)
        ∙ chosen (is_at (name_cmp name) q) docs after name q s (staged_at q old) (name_is name q) (kept ∙ taken_before) (stage q)
        ∙ ap (λ o. (get docs q, o)) (sym (get-with_document after name s.now q))

-- one write alone
alone : (b : Bool) (docs : Docs) (name q : DocName) (s : Staged) → (b ≡ true → name ≡ q) → s.before ≡ get docs name → both_of (get docs q) (cond b (Some s) None) ≡ (get docs q, cond b s.now (get docs q))
alone true docs name q s same before = (λ i. ((before ∙ ap (get docs) (same refl)) i, s.now))
alone false docs name q s same before = refl

pub one_staged : (docs : Docs) (name : DocName) (s : Staged) → s.before ≡ get docs name → IsStage docs ((name, s) ∷ []) (with_document docs name s.now)
one_staged docs name s before q =
    ap (λ b. both_of (get docs q) (cond b (Some s) None)) ((eq_by_cmp_equiv name_cmp_total).symm q name)
    ∙ alone (is_at (name_cmp name) q) docs name q s (name_is name q) before
    ∙ ap (λ o. (get docs q, o)) (sym (get-with_document docs name s.now q))

-- one more write, from what was taken out and put in
pub next_stage : (docs after : Docs) (old mid new : List (DocName × Staged)) (write : Write) (time : ℤ) (answer : WriteResult) (name : DocName) (there : Option Document) (s : Staged)
    → IsStage docs old after → name ≡ written_name write
    → (s.before, there) ≡ both_of (get docs name) (staged_at name old) → IsTaken old mid name
    → one_write there write time ≡ Ok (s.now, answer)
    → IsPut mid new name s
    → IsNext docs old new write time answer after
next_stage docs after old mid new write time answer name there s stage names is taken made put =
    let is' : (s.before, there) ≡ both_of (get docs (written_name write)) (staged_at (written_name write) old) = is ∙ ap (λ n. both_of (get docs n) (staged_at n old)) names in
    let taken' : IsTaken old mid (written_name write) = subst (IsTaken old mid) names taken in
    let put' : IsPut mid new (written_name write) s = subst (λ n. IsPut mid new n s) names put in
    let now = staged_now docs after old mid new (written_name write) s.before there s stage is' taken' put' refl in
    record {
      done =
          ap (λ o. one_write o write time) (sym (taken_now docs after old mid new (written_name write) s.before there s stage is'))
          ∙ made
          ∙ ap (λ (o : Option Document). Ok (o, answer)) (sym now);
      stage = subst (λ o. IsStage docs new (with_document after (written_name write) o)) (sym now) (staged_after docs after old mid new (written_name write) s.before there s stage is' taken' put' refl);
    }

-- nothing is staged yet
pub no_stage : (docs : Docs) (es : List (DocName × Staged)) → es ≡ [] → IsStage docs es docs
no_stage docs es none name = ap (λ l. both_of (get docs name) (staged_at name l)) none

-- the documents of a list whose names rise
pub get-docs : (ds : List Document) (name : DocName) → IsTrue (is_sorted name_cmp (by_name ds)) → find name_cmp name (by_name ds) ≡ get (docs_of ds) name
get-docs ds name rise = sym (get-from_sorted name_cmp (by_name ds) name (subst T (sym rise) tt))

-- ---- the writes that are left

pub all_refused : (writes : List Write) (time : ℤ) (e : Refusal) → all_writes (Err e) writes time ≡ Err e
all_refused [] time e = refl
all_refused (write ∷ writes) time e = all_refused writes time e

pub refused_write : (docs : Docs) (results : List WriteResult) (name : DocName) (r : Result (Option Document × WriteResult) Fault) (n : ℕ) (e : Refusal)
    → n ≡ length results → refused n r ≡ Some e → after_write docs results name r ≡ Err e
refused_write docs results name (Ok done) n e number is = absurd (cc)
refused_write docs results name (Err fault) n e number is = cc

-- The writes so far have left these documents and results, and the rest goes on from there.
pub record SoFar (docs : Docs) (stage : List (DocName × Staged)) (results : List WriteResult) (writes rest : List Write) (time : ℤ) : Type 0 where
  pub after : Docs
  pub staged : IsStage docs stage after
  pub so_far : batch docs writes time ≡ all_writes (Ok (after, results)) rest time

pub so_far_none : (docs : Docs) (stage : List (DocName × Staged)) (results : List WriteResult) (writes : List Write) (time : ℤ) → stage ≡ [] → results ≡ [] → SoFar docs stage results writes writes time
so_far_none docs stage results writes time none no_results = record {
  after = docs;
  staged = no_stage docs stage none;
  so_far = ap (λ (rs : List WriteResult). all_writes (Ok (docs, rs)) writes time) (sym no_results);
}

module _ (docs : Docs) (stage : List (DocName × Staged)) (results : List WriteResult) (writes rest more : List Write) (time : ℤ) (write : Write) (first : rest ≡ write ∷ more) (had : SoFar docs stage results writes rest time) where
  goes_on : batch docs writes time ≡ all_writes (after_write had.after results (written_name write) (one_write (get had.after (written_name write)) write time)) more time
  goes_on = had.so_far ∙ ap (λ (ws : List Write). all_writes (Ok (had.after, results)) ws time) first

  pub so_far_more : (new : List (DocName × Staged)) (answer : WriteResult) (results_then : List WriteResult)
      → ((after : Docs) → IsStage docs stage after → IsNext docs stage new write time answer after)
      → results_then ≡ results ++ answer ∷ []
      → SoFar docs new results_then writes more time
  so_far_more new answer results_then next then =
      let is = next had.after had.staged in
      let now = now_at docs new (written_name write) in
      record {
        after = with_document had.after (written_name write) now;
        staged = is.stage;
        so_far =
            goes_on
            ∙ ap (λ r. all_writes (after_write had.after results (written_name write) r) more time) is.done
            ∙ ap (λ (rs : List WriteResult). all_writes (Ok (with_document had.after (written_name write) now, rs)) more time) (sym then);
      }

  pub so_far_refused : (n : ℕ) (e : Refusal) → n ≡ length results
      → ((after : Docs) → IsStage docs stage after → refused n (one_write (get after (written_name write)) write time) ≡ Some e)
      → batch docs writes time ≡ Err e
  so_far_refused n e number is =
      goes_on
      ∙ ap (λ r. all_writes r more time) (refused_write had.after results (written_name write) (one_write (get had.after (written_name write)) write time) n e number (is had.after had.staged))
      ∙ all_refused more time e

-- ---- a walk over the writes

pub next_of : (writes items : List Write) (i : ℕ) (write : Write) → items ≡ writes → i < length items → write ≡ get_or items i write → drop i writes ≡ write ∷ drop (i + 1) writes
next_of writes items i write seen within is =
    let next : suc i ≡ i + 1 = omega arith in
    ap (drop i) (sym seen)
    ∙ drop-cons items i write within
    ∙ ap (λ w. w ∷ drop (suc i) items) (sym is)
    ∙ (λ k. write ∷ drop (next k) (seen k))

pub none_left : (writes items : List Write) (i : ℕ) → items ≡ writes → length items ≤ i → drop i writes ≡ []
none_left writes items i seen past = ap (drop i) (sym seen) ∙ drop_of_length-le items past
