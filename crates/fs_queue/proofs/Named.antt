-- Documents bear the names at which they stand: those of a list, and what a write leaves.
use Rattle.std.proofs.Common.{◌≡◌, ℤ, cond, List, [], ◌∷◌, Option, Result, Ok, Err, refl, sym, ap, ◌∙◌, subst}
use Rattle.std.specs.Prelude.{IsTrue}
use Rattle.std.specs.FinMap.{empty, get, get-empty, is_sorted}
use Rattle.fs_path.specs.NameOrder.{name_cmp, name_cmp_total, name_itself}
use Rattle.fs_path.specs.declared.name.DocName.{DocName}
use Rattle.fs_value.specs.Named.{StandAtNames, by_name}
use Rattle.fs_value.specs.declared.document.Document.{Document}
use Rattle.fs_value.proofs.Named.{found_named, one_map}
use Rattle.fs_value.proofs.Tree.{get_tree}
use Rattle.fs_write.specs.Batch.{AreNamed, Bears, Docs, after_write, all_writes, docs_of, with_document}
use Rattle.fs_write.specs.Local.{left_or, untimed, written_locally}
use Rattle.fs_write.specs.OneWrite.{Fault, one_write}
use Rattle.fs_write.specs.WrittenName.{written_name}
use Rattle.fs_write.specs.declared.write.Write.{Write}
use Rattle.fs_write.specs.declared.write_result.WriteResult.{WriteResult}
use Rattle.fs_write.proofs.Names.{with_named, writes_named}
use Rattle.fs_write.proofs.Stages.{get-with_document}

-- ---- of a list

at_own_names : (ds : List Document) → StandAtNames (by_name ds)
at_own_names [] = tt
at_own_names (d ∷ ds) = (refl, at_own_names ds)

pub listed_named : (ds : List Document) → IsTrue (is_sorted name_cmp (by_name ds)) → AreNamed (docs_of ds)
listed_named ds rise q =
    subst (λ o. Bears o q) (get_tree name_cmp_total (by_name ds) q ∙ ap (λ m. get m q) (sym (one_map (by_name ds) rise)))
    (found_named (by_name ds) q (at_own_names ds))

-- ---- after a write

none_named : AreNamed empty
none_named q = subst (λ o. Bears o q) (sym (get-empty name_cmp q)) tt

there : (docs : Docs) (name : DocName) (o : Option Document) → get (with_document docs name o) name ≡ o
there docs name o = get-with_document docs name o name ∙ ap (λ b. cond b o (get docs name)) (name_itself name)

-- by the documents that the write alone leaves of the one
one_left : (before after : Option Document) (w : Write) (t : ℤ) (a : WriteResult) → one_write before w t ≡ Ok (after, a) → Bears before (written_name w) → Bears after (written_name w)
one_left before after w t a is bears =
    let name = written_name w in
    let docs = with_document empty name before in
    let done : all_writes (Ok (docs, [])) (w ∷ []) t ≡ Ok (with_document docs name after, a ∷ []) =
    ap (after_write docs [] name) (ap (λ o. one_write o w t) (there empty name before) ∙ is) in
    subst (λ o. Bears o name) (there docs name after)
    (writes_named (w ∷ []) docs [] t (with_document docs name after, a ∷ []) (with_named empty name before none_named bears) done name)

left_bears : (before : Option Document) (w : Write) (t : ℤ) (r : Result (Option Document × WriteResult) Fault) → one_write before w t ≡ r → Bears before (written_name w) → Bears (left_or before r) (written_name w)
left_bears before w t (Ok done) is bears = one_left before done.0 w t done.1 is bears
left_bears before w t (Err fault) is bears = bears

pub locally_bears : (before : Option Document) (w : Write) (t : ℤ) → Bears before (written_name w) → Bears (written_locally before w t) (written_name w)
locally_bears before w t bears =
    let at_once : Write = record w { condition = untimed w.condition } in
    left_bears before at_once t (one_write before at_once t) refl bears
