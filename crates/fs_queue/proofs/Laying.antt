-- What the writes of batches leave, one after another: a batch more, and a write more of it.
use Rattle.std.proofs.Common.{◌≡◌, ℕ, ◌+◌, ◌<◌, length, map, take, get_or, ℤ, Bool, true, false, cond, List, [], ◌∷◌, ◌++◌, Option, Some, None, is_some, refl, sym, ap, ◌∙◌, subst}
use Rattle.std.proofs.Math.Bool.{or-false, or_assoc}
use Rattle.std.specs.Prelude.{◌||◌}
use Rattle.std.specs.FinMap.{empty, get, get-empty, get-insert, insert}
use Rattle.std.proofs.lemmas.List.{map-append, take_more}
use Rattle.std.proofs.lemmas.List.Folds.{list_any-append}
use Rattle.fs_path.specs.NameOrder.{name_cmp, name_cmp_total, name_eq, name_eq_equiv, name_is}
use Rattle.fs_path.specs.declared.name.DocName.{DocName}
use Rattle.fs_value.specs.declared.document.Document.{Document}
use Rattle.fs_write.specs.Batch.{Bears, Docs}
use Rattle.fs_write.specs.Local.{written_locally}
use Rattle.fs_write.specs.WrittenName.{is_written, written_name}
use Rattle.fs_write.specs.declared.write.Write.{Write}
use Rattle.fs_write.proofs.Stages.{get-with_document}
use Rattle.fs_queue.specs.Overlay.{AreBorne, IsOverlay, Left, laid, overlay, with_write, with_writes}
use Rattle.fs_queue.specs.Queue.{is_named}
use Rattle.fs_queue.specs.declared.batch.Acknowledged.{Acknowledged}
use Rattle.fs_queue.specs.declared.batch.LocalBatch.{LocalBatch}

overlay_pushed : (bs : List LocalBatch) (docs : Docs) (b : LocalBatch) → overlay docs (bs ++ b ∷ []) ≡ with_writes (overlay docs bs) b.writes b.moment
overlay_pushed [] docs b = refl
overlay_pushed (x ∷ bs) docs b = overlay_pushed bs (with_writes docs x.writes x.moment) b

writes_pushed : (ws : List Write) (docs : Docs) (w : Write) (t : ℤ) → with_writes docs (ws ++ w ∷ []) t ≡ with_write (with_writes docs ws t) w t
writes_pushed [] docs w t = refl
writes_pushed (x ∷ ws) docs w t = writes_pushed ws (with_write docs x t) w t

written_pushed : (q : DocName) (ws : List Write) (w : Write) → is_written q (ws ++ w ∷ []) ≡ (is_written q ws || name_eq (written_name w) q)
written_pushed q [] w = or-false (name_eq (written_name w) q)
written_pushed q (x ∷ ws) w = ap (λ b. name_eq (written_name x) q || b) (written_pushed q ws w) ∙ sym (or_assoc (name_eq (written_name x) q) (is_written q ws) (name_eq (written_name w) q))

named_pushed : (q : DocName) (bs : List LocalBatch) (b : LocalBatch) → is_named q (bs ++ b ∷ []) ≡ (is_named q bs || is_written q b.writes)
named_pushed q bs b =
    list_any-append (λ (x : LocalBatch). is_written q x.writes) bs (b ∷ [])
    ∙ ap (λ c. is_named q bs || c) (or-false (is_written q b.writes))

-- ---- no batch yet, and a batch more

pub none_laid : (docs : Docs) → IsOverlay docs [] empty
none_laid docs = record {
  shown = λ q. ap (λ o. laid o (get docs q)) (get-empty name_cmp q);
  named = λ q. ap is_some (get-empty name_cmp q);
}

-- the batches that are acknowledged
abbrev pub batches_of : List Acknowledged → List LocalBatch
batches_of done = map (λ (a : Acknowledged). a.batch) done

-- with that at a place
pub batches_more : (done : List Acknowledged) (i : ℕ) (a : Acknowledged) → i < length done → a ≡ get_or done i a → batches_of (take (i + 1) done) ≡ batches_of (take i done) ++ a.batch ∷ []
batches_more done i a within is =
    ap batches_of (take_more done i a within ∙ ap (λ x. take i done ++ x ∷ []) (sym is))
    ∙ map-append (λ (x : Acknowledged). x.batch) (take i done) (a ∷ [])

-- with so many of its writes
abbrev pub with_batch : List LocalBatch → ℤ → List Write → List LocalBatch
with_batch bs t ws = bs ++ record { writes = ws; moment = t } ∷ []

module _ (docs : Docs) (bs : List LocalBatch) (t : ℤ) where
  pub begun : (left : Left) → IsOverlay docs bs left → IsOverlay docs (with_batch bs t []) left
  begun left is = record {
    shown = λ q. is.shown q ∙ ap (λ m. get m q) (sym (overlay_pushed bs docs (record { writes = []; moment = t })));
    named = λ q. is.named q ∙ sym (named_pushed q bs (record { writes = []; moment = t }) ∙ or-false (is_named q bs));
  }

  -- what one more write leaves of what is there
  abbrev next : Write → Left → Option Document
  next w left = written_locally (laid (get left (written_name w)) (get docs (written_name w))) w t

  module _ (ws : List Write) (w : Write) (left : Left) (is : IsOverlay docs (with_batch bs t ws) left) where
    abbrev name : DocName
    name = written_name w

    abbrev left_then : Option Document
    left_then = next w left

    abbrev so_far : Docs
    so_far = overlay docs (with_batch bs t ws)

    overlay_next : overlay docs (with_batch bs t (ws ++ w ∷ [])) ≡ with_write so_far w t
    overlay_next =
        overlay_pushed bs docs (record { writes = ws ++ w ∷ []; moment = t })
        ∙ writes_pushed ws (overlay docs bs) w t
        ∙ ap (λ m. with_write m w t) (sym (overlay_pushed bs docs (record { writes = ws; moment = t })))

    then_is : left_then ≡ written_locally (get so_far name) w t
    then_is = ap (λ o. written_locally o w t) (is.shown name)

    laid_next : (q : DocName) (b : Bool) → laid (cond b (Some left_then) (get left q)) (get docs q) ≡ cond b left_then (get so_far q)
    laid_next q true = refl
    laid_next q false = is.shown q

    shown_next : (q : DocName) → laid (get (insert left name left_then) q) (get docs q) ≡ get (overlay docs (with_batch bs t (ws ++ w ∷ []))) q
    shown_next q =
        ap (λ o. laid o (get docs q)) (get-insert name_cmp_total left name left_then q)
        ∙ laid_next q (name_eq q name)
        ∙ ap (λ b. cond b left_then (get so_far q)) (name_eq_equiv.symm q name)
        ∙ ap (λ o. cond (name_eq name q) o (get so_far q)) then_is
        ∙ sym (get-with_document so_far name (written_locally (get so_far name) w t) q)
        ∙ ap (λ m. get m q) (sym overlay_next)

    some_next : (b : Bool) (o : Option (Option Document)) → is_some (cond b (Some left_then) o) ≡ (is_some o || b)
    some_next true None = refl
    some_next true (Some x) = refl
    some_next false None = refl
    some_next false (Some x) = refl

    named_next : (q : DocName) → is_some (get (insert left name left_then) q) ≡ is_named q (with_batch bs t (ws ++ w ∷ []))
    named_next q =
        ap is_some (get-insert name_cmp_total left name left_then q)
        ∙ some_next (name_eq q name) (get left q)
        ∙ (λ i. is.named q i || name_eq_equiv.symm q name i)
        ∙ ap (λ b. b || name_eq name q) (named_pushed q bs (record { writes = ws; moment = t }))
        ∙ or_assoc (is_named q bs) (is_written q ws) (name_eq name q)
        ∙ ap (λ b. is_named q bs || b) (sym (written_pushed q ws w))
        ∙ sym (named_pushed q bs (record { writes = ws ++ w ∷ []; moment = t }))

    written_next : IsOverlay docs (with_batch bs t (ws ++ w ∷ [])) (insert left name left_then)
    written_next = record { shown = shown_next; named = named_next }

  -- the write at a place of the batch
  pub written_at : (ws slice : List Write) (i : ℕ) (w : Write) (old new : Left) → slice ≡ ws → i < length slice → w ≡ get_or slice i w
      → new ≡ insert old (written_name w) (next w old) → IsOverlay docs (with_batch bs t (take i ws)) old
      → IsOverlay docs (with_batch bs t (take (i + 1) ws)) new
  written_at ws slice i w old new same within is made before =
      let one : take (i + 1) ws ≡ take i ws ++ w ∷ [] =
      subst (λ xs. take (i + 1) xs ≡ take i xs ++ w ∷ []) same (take_more slice i w within ∙ ap (λ x. take i slice ++ x ∷ []) (sym is)) in
      subst (λ xs. IsOverlay docs (with_batch bs t xs) new) (sym one)
      (subst (IsOverlay docs (with_batch bs t (take i ws ++ w ∷ []))) (sym made) (written_next (take i ws) w old before))

-- ---- each document bears the name at which it is left

pub borne_next : (left : Left) (name : DocName) (o : Option Document) → AreBorne left → Bears o name → AreBorne (insert left name o)
borne_next left name o borne bears q =
    subst (λ x. Bears (laid x None) q) (sym (get-insert name_cmp_total left name o q)) (at (name_eq q name) refl) where
      at : (b : Bool) → name_eq q name ≡ b → Bears (laid (cond b (Some o) (get left q)) None) q
      at true same = subst (Bears o) (sym (name_is q name same)) bears
      at false same = borne q
