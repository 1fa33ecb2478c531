-- What a commit changes, told by the documents before and after it.
use Rattle.std.proofs.Common.{◌≡◌, ℤ, Bool, true, false, cond, List, [], ◌∷◌, Option, Some, None, Result, Ok, Err, refl, sym, ap, ◌∙◌}
use Rattle.std.specs.FinMap.{get}
use Rattle.fs_path.specs.declared.name.DocName.{DocName}
use Rattle.fs_status.specs.declared.refusal.Refusal.{Refusal}
use Rattle.fs_value.specs.declared.document.Document.{Document}
use Rattle.fs_write.specs.After.{left_of, documents_left, left_after, after_batch}
use Rattle.fs_write.specs.Batch.{Docs, batch, is_unchanged, change_of, Bears, AreNamed, AreChanges, IsOutcome}
use Rattle.fs_write.specs.WrittenName.{written_name}
use Rattle.fs_write.specs.declared.change.Change.{Change}
use Rattle.fs_write.specs.declared.write.Write.{Write}
use Rattle.fs_write.specs.declared.write_result.WriteResult.{WriteResult}
use Rattle.fs_write.proofs.AfterLaws.{get-after_batch}
use Rattle.fs_write.proofs.BatchLaws.{no_change}
use Rattle.fs_write.proofs.Names.{with_named, writes_named}

-- ---- a name that is unchanged

kept_by : (before after : Option Document) (b : Bool) → is_unchanged before after ≡ b → is_unchanged before (cond b before after) ≡ true → cond b before after ≡ before
kept_by before after true is same = refl
kept_by before after false is same = absurd (cc)

unchanged_by : (docs : Docs) (ws : List Write) (t : ℤ) (q : DocName) (r : Result (Docs × List WriteResult) Refusal) → batch docs ws t ≡ r
    → is_unchanged (get docs q) (get (after_batch docs ws t) q) ≡ true → get (after_batch docs ws t) q ≡ get docs q
unchanged_by docs ws t q (Err e) is same = ap (λ r. get (left_after docs ws r) q) is
unchanged_by docs ws t q (Ok done) is same =
    let left = get-after_batch docs ws t done is q in
    left ∙ kept_by (get docs q) (get done.0 q) (is_unchanged (get docs q) (get done.0 q)) refl (ap (is_unchanged (get docs q)) (sym left) ∙ same)

pub law_unchanged : (docs : Docs) (ws : List Write) (t : ℤ) (q : DocName) → is_unchanged (get docs q) (get (after_batch docs ws t) q) ≡ true → get (after_batch docs ws t) q ≡ get docs q
law_unchanged docs ws t q same = unchanged_by docs ws t q (batch docs ws t) refl same

-- ---- the changes

change_left : (q : DocName) (before after : Option Document) (b : Bool) → is_unchanged before after ≡ b → change_of q before after ≡ change_of q before (cond b before after)
change_left q before after true is = ap (λ b. cond b None (Some (record { name = q; before = before; after = after }))) is ∙ sym (no_change q before)
change_left q before after false is = refl

pub law_changed : (docs : Docs) (ws : List Write) (t : ℤ) (cs : List Change) (rs : List WriteResult) → IsOutcome docs ws t cs rs → AreChanges docs (after_batch docs ws t) cs
law_changed docs ws t cs rs had = record {
  rise = had.changed.rise;
  told = λ q. had.changed.told q
      ∙ change_left q (get docs q) (get had.after q) (is_unchanged (get docs q) (get had.after q)) refl
      ∙ ap (change_of q (get docs q)) (sym (get-after_batch docs ws t (had.after, rs) had.done q));
}

-- ---- names

left_bears : (b : Bool) (before after : Option Document) (q : DocName) → Bears before q → Bears after q → Bears (cond b before after) q
left_bears true before after q p r = p
left_bears false before after q p r = r

all_left : (ws : List Write) (before after : Docs) → AreNamed before → AreNamed after → AreNamed (documents_left before after ws)
all_left [] before after p r = r
all_left (w ∷ ws) before after p r =
    let n = written_name w in
    with_named (documents_left before after ws) n (left_of (get before n) (get after n)) (all_left ws before after p r)
    (left_bears (is_unchanged (get before n) (get after n)) (get before n) (get after n) n (p n) (r n))

named_by : (docs : Docs) (ws : List Write) (t : ℤ) (r : Result (Docs × List WriteResult) Refusal) → batch docs ws t ≡ r → AreNamed docs → AreNamed (left_after docs ws r)
named_by docs ws t (Err e) is p = p
named_by docs ws t (Ok done) is p = all_left ws docs done.0 p (writes_named ws docs [] t done p is)

pub law_at_own_names : (docs : Docs) (ws : List Write) (t : ℤ) → AreNamed docs → AreNamed (after_batch docs ws t)
law_at_own_names docs ws t p = named_by docs ws t (batch docs ws t) refl p
