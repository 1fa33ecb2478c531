-- The laws of batches.
use Rattle.std.proofs.Common.{◌≡◌, ◌+◌, arith, ℤ, Bool, true, false, cond, List, [], ◌∷◌, ◌++◌, length, Option, Some, None, Result, Ok, Err, refl, sym, ap, ◌∙◌, subst}
use Rattle.std.specs.Prelude.{◌||◌, map}
use Rattle.std.specs.List.{Contains}
use Rattle.std.specs.BTreeMap.{is_at}
use Rattle.std.specs.FinMap.{get}
use Rattle.std.specs.FinMap.Entries.{same_entries}
use Rattle.std.proofs.lemmas.List.{length-append}
use Rattle.std.proofs.lemmas.Bool.{or_parts}
use Rattle.fs_path.proofs.Bools.{from_true}
use Rattle.fs_path.specs.NameOrder.{name_cmp, name_cmp_total, name_same, name_is, name_itself}
use Rattle.fs_path.specs.declared.name.DocName.{DocName}
use Rattle.fs_status.specs.Refusal.{refusal_of}
use Rattle.fs_status.specs.declared.refusal.Refusal.{Refusal}
use Rattle.fs_value.specs.declared.document.Document.{Document}
use Rattle.fs_write.specs.Batch.{Docs, with_document, after_write, next_write, all_writes, batch, is_unchanged, change_of, changes_by_name, IsOutcome, changed_to, document_after}
use Rattle.fs_write.specs.OneWrite.{Fault, one_write}
use Rattle.fs_write.specs.Refused.{reason_of}
use Rattle.fs_write.specs.WrittenName.{written_name, act_name, is_written}
use Rattle.fs_write.specs.declared.change.Change.{Change}
use Rattle.fs_write.specs.declared.write.Act.TheVariants.{Delete}
use Rattle.fs_write.specs.declared.write.Write.{Write}
use Rattle.fs_write.specs.declared.write_result.WriteResult.{WriteResult}
use Rattle.fs_write.proofs.StageChanges.{unchanged_itself}
use Rattle.fs_write.proofs.Stages.{get-with_document, all_refused}
use Rattle.fs_path.proofs.Elements.{has_first, has_later}
use Rattle.fs_write.proofs.WriteLaws.{law_deleted}

-- ---- what a result has

so_far_in : Docs × List WriteResult → Result (Docs × List WriteResult) Refusal → Docs × List WriteResult
so_far_in p (Ok q) = q
so_far_in p (Err e) = p

pub same_ok : (p q : Docs × List WriteResult) → ◌≡◌ {A = Result (Docs × List WriteResult) Refusal} (Ok p) (Ok q) → p ≡ q
unfolding so_far_in
same_ok p q is = ap (so_far_in p) is

-- ---- the first refusal

pub all_appended : (xs ys : List Write) (p : Result (Docs × List WriteResult) Refusal) (t : ℤ) → all_writes p (xs ++ ys) t ≡ all_writes (all_writes p xs t) ys t
all_appended [] ys p t = refl
all_appended (x ∷ xs) ys p t = all_appended xs ys (next_write p x t) t

next_counted : (w : Write) (ws : List Write) (p q : Docs × List WriteResult) (t : ℤ) → ((x : Docs × List WriteResult) → all_writes (Ok x) ws t ≡ Ok q → length q.1 ≡ length x.1 + length ws)
    → (r : Result (Option Document × WriteResult) Fault) → all_writes (after_write p.0 p.1 (written_name w) r) ws t ≡ Ok q → length q.1 ≡ length p.1 + length (w ∷ ws)
next_counted w ws p q t more (Err fault) is = let e = refusal_of (reason_of (length p.1) fault) in absurd (cc (all_refused ws t e))
next_counted w ws p q t more (Ok done) is =
    let rest = more (with_document p.0 (written_name w) done.0, p.1 ++ done.1 ∷ []) is in
    omega (arith, rest, length-append p.1 (done.1 ∷ []))

all_counted : (ws : List Write) (p q : Docs × List WriteResult) (t : ℤ) → all_writes (Ok p) ws t ≡ Ok q → length q.1 ≡ length p.1 + length ws
all_counted [] p q t is = let same = same_ok p q is in omega (arith, ap (λ (x : Docs × List WriteResult). length x.1) same)
all_counted (w ∷ ws) p q t is = next_counted w ws p q t (λ x h. all_counted ws x q t h) (one_write (get p.0 (written_name w)) w t) is

pub law_first_refused : (docs : Docs) (done : List Write) (w : Write) (rest : List Write) (t : ℤ) (so_far : Docs × List WriteResult) (fault : Fault)
    → batch docs done t ≡ Ok so_far → one_write (get so_far.0 (written_name w)) w t ≡ Err fault
    → batch docs (done ++ w ∷ rest) t ≡ Err (refusal_of (reason_of (length done) fault))
law_first_refused docs done w rest t so_far fault is refused =
    let counted : length so_far.1 ≡ length done = omega (arith, all_counted done (docs, []) so_far t is) in
    all_appended done (w ∷ rest) (Ok (docs, [])) t
    ∙ ap (λ p. all_writes p (w ∷ rest) t) is
    ∙ ap (λ r. all_writes (after_write so_far.0 so_far.1 (written_name w) r) rest t) refused
    ∙ all_refused rest t (refusal_of (reason_of (length so_far.1) fault))
    ∙ ap (λ n. Err (refusal_of (reason_of n fault))) counted

pub law_refused : (docs : Docs) (ws : List Write) (t : ℤ) (e : Refusal) (cs : List Change) (rs : List WriteResult) → batch docs ws t ≡ Err e → ¬ IsOutcome docs ws t cs rs
law_refused docs ws t e cs rs is had = let done = had.done in absurd (cc)

-- ---- one list

entries_of : List (DocName × Change) → List Change
entries_of es = map (λ e. e.1) es

unnamed : (cs : List Change) → entries_of (changes_by_name cs) ≡ cs
unfolding entries_of
unnamed [] = refl
unnamed (c ∷ cs) = ap (λ xs. c ∷ xs) (unnamed cs)

pub law_one_list : (docs : Docs) (ws : List Write) (t : ℤ) (cs ds : List Change) (rs qs : List WriteResult) → IsOutcome docs ws t cs rs → IsOutcome docs ws t ds qs → (cs ≡ ds) × (rs ≡ qs)
law_one_list docs ws t cs ds rs qs one other =
    let same = same_ok (one.after, rs) (other.after, qs) (sym one.done ∙ other.done) in
    let after : one.after ≡ other.after = ap (λ (p : Docs × List WriteResult). p.0) same in
    let found = λ (q : DocName). one.changed.told q ∙ ap (λ m. change_of q (get docs q) (get m q)) after ∙ sym (other.changed.told q) in
    let listed = same_entries name_cmp name_cmp_total name_same (changes_by_name cs) (changes_by_name ds) (from_true _ one.changed.rise) (from_true _ other.changed.rise) found in
    (sym (unnamed cs) ∙ ap entries_of listed ∙ unnamed ds, ap (λ (p : Docs × List WriteResult). p.1) same)

-- ---- the documents afterwards

module _ (docs : Docs) (ws : List Write) (t : ℤ) (cs : List Change) (rs : List WriteResult) (name : DocName) (had : IsOutcome docs ws t cs rs) where
  chosen_after : (b : Bool) → is_unchanged (get docs name) (get had.after name) ≡ b → document_after docs cs name ≡ cond b (get docs name) (get had.after name)
  chosen_after true is = ap (λ o. changed_to o (get docs name)) (had.changed.told name ∙ ap (λ b. cond b None (Some (record { name = name; before = get docs name; after = get had.after name }))) is)
  chosen_after false is = ap (λ o. changed_to o (get docs name)) (had.changed.told name ∙ ap (λ b. cond b None (Some (record { name = name; before = get docs name; after = get had.after name }))) is)

  pub law_back : is_unchanged (get docs name) (get had.after name) ≡ true → document_after docs cs name ≡ get docs name
  law_back is = chosen_after true is

  pub law_differs : is_unchanged (get docs name) (get had.after name) ≡ false → document_after docs cs name ≡ get had.after name
  law_differs is = chosen_after false is

  none_after : (before : Option Document) (b : Bool) → get docs name ≡ before → is_unchanged (get docs name) (get had.after name) ≡ b → get had.after name ≡ None → document_after docs cs name ≡ None
  none_after None true there is gone = law_back is ∙ there
  none_after (Some d) true there is gone = let same : is_unchanged (Some d) None ≡ true = (λ i. is_unchanged (sym there i) (sym gone i)) ∙ is in absurd (cc)
  none_after before false there is gone = law_differs is ∙ gone

  pub none_left_after : get had.after name ≡ None → document_after docs cs name ≡ None
  none_left_after gone = none_after (get docs name) (is_unchanged (get docs name) (get had.after name)) refl refl gone

-- ---- a delete alone

delete_next : (docs after : Docs) (w : Write) (t : ℤ) (rs : List WriteResult) (name : DocName) (r : Result (Option Document × WriteResult) Fault) → w.act ≡ Delete name
    → one_write (get docs (written_name w)) w t ≡ r → after_write docs [] (written_name w) r ≡ Ok (after, rs) → get after (written_name w) ≡ None
delete_next docs after w t rs name (Err fault) act made is = absurd (cc)
delete_next docs after w t rs name (Ok done) act made is =
    let n = written_name w in
    let gone = law_deleted (get docs n) done.0 w t done.1 name made act in
    let same = same_ok (with_document docs n done.0, [] ++ done.1 ∷ []) (after, rs) is in
    ap (λ (p : Docs × List WriteResult). get p.0 n) (sym same)
    ∙ get-with_document docs n done.0 n
    ∙ ap (λ b. cond b done.0 (get docs n)) (name_itself n)
    ∙ gone.0

pub law_one_delete : (docs : Docs) (w : Write) (t : ℤ) (cs : List Change) (rs : List WriteResult) (name : DocName) → IsOutcome docs (w ∷ []) t cs rs → w.act ≡ Delete name → document_after docs cs name ≡ None
law_one_delete docs w t cs rs name had act =
    let named : written_name w ≡ name = ap act_name act in
    none_left_after docs (w ∷ []) t cs rs name had (ap (get had.after) (sym named) ∙ delete_next docs had.after w t rs name (one_write (get docs (written_name w)) w t) act refl had.done)

-- ---- only the named documents matter

abbrev pub Agree : List Write → Docs → Docs → Type 0
Agree ws docs other = (w : Write) → Contains ws w → get docs (written_name w) ≡ get other (written_name w)

with_alike : (docs other : Docs) (name : DocName) (o : Option Document) (q : DocName) → get docs q ≡ get other q → get (with_document docs name o) q ≡ get (with_document other name o) q
with_alike docs other name o q e = get-with_document docs name o q ∙ ap (cond (is_at (name_cmp name) q) o) e ∙ sym (get-with_document other name o q)

Alike : Docs → Docs → List WriteResult → List Write → ℤ → Docs × List WriteResult → Type 0
Alike docs other rs ws t p = (m : Docs) × (all_writes (Ok (other, rs)) ws t ≡ Ok (m, p.1)) × ((q : DocName) → get docs q ≡ get other q → get p.0 q ≡ get m q)

next_alike : (w : Write) (ws : List Write) (docs other : Docs) (rs : List WriteResult) (t : ℤ) (p : Docs × List WriteResult) → Agree ws docs other
    → ((x y : Docs) (qs : List WriteResult) → Agree ws x y → all_writes (Ok (x, qs)) ws t ≡ Ok p → Alike x y qs ws t p)
    → (r s : Result (Option Document × WriteResult) Fault) → s ≡ r → all_writes (after_write docs rs (written_name w) r) ws t ≡ Ok p
    → (m : Docs) × (all_writes (after_write other rs (written_name w) s) ws t ≡ Ok (m, p.1)) × ((q : DocName) → get docs q ≡ get other q → get p.0 q ≡ get m q)
unfolding Alike
next_alike w ws docs other rs t p agree more (Err fault) s same is = let e = refusal_of (reason_of (length rs) fault) in absurd (cc (all_refused ws t e))
next_alike w ws docs other rs t p agree more (Ok done) s same is =
    let n = written_name w in
    let rest = more (with_document docs n done.0) (with_document other n done.0) (rs ++ done.1 ∷ []) (λ x at. with_alike docs other n done.0 (written_name x) (agree x at)) is in
    (rest.0, ap (λ x. all_writes (after_write other rs n x) ws t) same ∙ rest.1, λ q e. rest.2 q (with_alike docs other n done.0 q e))

all_alike : (ws : List Write) (docs other : Docs) (rs : List WriteResult) (t : ℤ) (p : Docs × List WriteResult) → Agree ws docs other → all_writes (Ok (docs, rs)) ws t ≡ Ok p → Alike docs other rs ws t p
unfolding Alike
all_alike [] docs other rs t p agree is =
    let same = same_ok (docs, rs) p is in
    (other, ap (λ (x : Docs × List WriteResult). Ok (other, x.1)) same, λ q e. ap (λ (x : Docs × List WriteResult). get x.0 q) (sym same) ∙ e)
all_alike (w ∷ ws) docs other rs t p agree is =
    next_alike w ws docs other rs t p (λ x at. agree x (has_later w ws x at)) (λ x y qs agreed h. all_alike ws x y qs t p agreed h) (one_write (get docs (written_name w)) w t) (one_write (get other (written_name w)) w t)
    (ap (λ o. one_write o w t) (sym (agree w (has_first w ws)))) is

next_refused : (w : Write) (ws : List Write) (docs other : Docs) (rs : List WriteResult) (t : ℤ) (e : Refusal) → Agree ws docs other
    → ((x y : Docs) (qs : List WriteResult) → Agree ws x y → all_writes (Ok (x, qs)) ws t ≡ Err e → all_writes (Ok (y, qs)) ws t ≡ Err e)
    → (r s : Result (Option Document × WriteResult) Fault) → s ≡ r → all_writes (after_write docs rs (written_name w) r) ws t ≡ Err e → all_writes (after_write other rs (written_name w) s) ws t ≡ Err e
next_refused w ws docs other rs t e agree more (Err fault) s same is = ap (λ x. all_writes (after_write other rs (written_name w) x) ws t) same ∙ is
next_refused w ws docs other rs t e agree more (Ok done) s same is =
    let n = written_name w in
    ap (λ x. all_writes (after_write other rs n x) ws t) same
    ∙ more (with_document docs n done.0) (with_document other n done.0) (rs ++ done.1 ∷ []) (λ x at. with_alike docs other n done.0 (written_name x) (agree x at)) is

refused_alike : (ws : List Write) (docs other : Docs) (rs : List WriteResult) (t : ℤ) (e : Refusal) → Agree ws docs other → all_writes (Ok (docs, rs)) ws t ≡ Err e → all_writes (Ok (other, rs)) ws t ≡ Err e
refused_alike [] docs other rs t e agree is = absurd (cc)
refused_alike (w ∷ ws) docs other rs t e agree is =
    next_refused w ws docs other rs t e (λ x at. agree x (has_later w ws x at)) (λ x y qs agreed h. refused_alike ws x y qs t e agreed h) (one_write (get docs (written_name w)) w t) (one_write (get other (written_name w)) w t)
    (ap (λ o. one_write o w t) (sym (agree w (has_first w ws)))) is

next_untouched : (w : Write) (ws : List Write) (docs : Docs) (rs : List WriteResult) (t : ℤ) (p : Docs × List WriteResult) (q : DocName) → is_at (name_cmp (written_name w)) q ≡ false
    → ((x : Docs) (qs : List WriteResult) → all_writes (Ok (x, qs)) ws t ≡ Ok p → get p.0 q ≡ get x q)
    → (r : Result (Option Document × WriteResult) Fault) → all_writes (after_write docs rs (written_name w) r) ws t ≡ Ok p → get p.0 q ≡ get docs q
next_untouched w ws docs rs t p q here more (Err fault) is = let e = refusal_of (reason_of (length rs) fault) in absurd (cc (all_refused ws t e))
next_untouched w ws docs rs t p q here more (Ok done) is =
    more (with_document docs (written_name w) done.0) (rs ++ done.1 ∷ []) is
    ∙ get-with_document docs (written_name w) done.0 q
    ∙ ap (λ b. cond b done.0 (get docs q)) here

pub untouched : (ws : List Write) (docs : Docs) (rs : List WriteResult) (t : ℤ) (p : Docs × List WriteResult) (q : DocName) → is_written q ws ≡ false → all_writes (Ok (docs, rs)) ws t ≡ Ok p → get p.0 q ≡ get docs q
untouched [] docs rs t p q apart is = ap (λ (x : Docs × List WriteResult). get x.0 q) (sym (same_ok (docs, rs) p is))
untouched (w ∷ ws) docs rs t p q apart is =
    let both = or_parts (is_at (name_cmp (written_name w)) q) (is_written q ws) apart in
    next_untouched w ws docs rs t p q both.0 (λ x qs h. untouched ws x qs t p q both.1 h) (one_write (get docs (written_name w)) w t) is

next_agrees : (w : Write) (ws : List Write) (docs other : Docs) (q : DocName) (b : Bool) → get docs (written_name w) ≡ get other (written_name w) → (is_written q ws ≡ true → get docs q ≡ get other q)
    → is_at (name_cmp (written_name w)) q ≡ b → (b || is_written q ws) ≡ true → get docs q ≡ get other q
next_agrees w ws docs other q true here more ties is = subst (λ n. get docs n ≡ get other n) (name_is (written_name w) q ties) here
next_agrees w ws docs other q false here more ties is = more is

written_agrees : (ws : List Write) (docs other : Docs) (q : DocName) → Agree ws docs other → is_written q ws ≡ true → get docs q ≡ get other q
written_agrees [] docs other q agree is = absurd (cc)
written_agrees (w ∷ ws) docs other q agree is =
    next_agrees w ws docs other q (is_at (name_cmp (written_name w)) q) (agree w (has_first w ws)) (λ h. written_agrees ws docs other q (λ x at. agree x (has_later w ws x at)) h) refl is

pub no_change : (q : DocName) (o : Option Document) → change_of q o o ≡ None
no_change q o = ap (λ b. cond b None (Some (record { name = q; before = o; after = o }))) (unchanged_itself o)

change_alike : (ws : List Write) (docs other after then : Docs) (rs qs : List WriteResult) (t : ℤ) (q : DocName) (b : Bool) → is_written q ws ≡ b → Agree ws docs other
    → all_writes (Ok (docs, [])) ws t ≡ Ok (after, rs) → all_writes (Ok (other, [])) ws t ≡ Ok (then, qs) → (get docs q ≡ get other q → get after q ≡ get then q)
    → change_of q (get docs q) (get after q) ≡ change_of q (get other q) (get then q)
change_alike ws docs other after then rs qs t q true is agree one two same =
    let e = written_agrees ws docs other q agree is in
    (λ i. change_of q (e i) (same e i))
change_alike ws docs other after then rs qs t q false is agree one two same =
    ap (change_of q (get docs q)) (untouched ws docs [] t (after, rs) q is one)
    ∙ no_change q (get docs q)
    ∙ sym (no_change q (get other q))
    ∙ ap (change_of q (get other q)) (sym (untouched ws other [] t (then, qs) q is two))

pub law_named : (docs other : Docs) (ws : List Write) (t : ℤ) (cs : List Change) (rs : List WriteResult) → Agree ws docs other → IsOutcome docs ws t cs rs → IsOutcome other ws t cs rs
unfolding Alike
law_named docs other ws t cs rs agree had =
    let a = all_alike ws docs other [] t (had.after, rs) agree had.done in
    record {
      after = a.0;
      done = a.1;
      changed = record {
        rise = had.changed.rise;
        told = λ q. had.changed.told q ∙ change_alike ws docs other had.after a.0 rs rs t q (is_written q ws) refl agree had.done a.1 (a.2 q);
      };
    }

pub law_named_refused : (docs other : Docs) (ws : List Write) (t : ℤ) (e : Refusal) → Agree ws docs other → batch docs ws t ≡ Err e → batch other ws t ≡ Err e
law_named_refused docs other ws t e agree is = refused_alike ws docs other [] t e agree is

-- and those of a commit that isn't refused have the same results
pub law_named_results : (docs other : Docs) (ws : List Write) (t : ℤ) (p : Docs × List WriteResult) → Agree ws docs other → batch docs ws t ≡ Ok p → (m : Docs) × (batch other ws t ≡ Ok (m, p.1))
unfolding Alike
law_named_results docs other ws t p agree is = let a = all_alike ws docs other [] t p agree is in (a.0, a.1)
