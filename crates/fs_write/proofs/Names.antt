-- Documents bear the names at which they stand, before a batch and after it.
use Rattle.std.proofs.Common.{◌≡◌, ℕ, ℤ, Bool, true, false, cond, List, [], ◌∷◌, ◌++◌, Option, Some, None, Result, Ok, Err, refl, sym, ap, ◌∙◌, subst, length}
use Rattle.std.specs.Prelude.{IsTrue}
use Rattle.std.specs.BTreeMap.{is_at}
use Rattle.std.specs.Cmp.{Equal-is}
use Rattle.std.specs.FinMap.{get, find, is_sorted}
use Rattle.std.specs.FinMap.Entries.{below_all}
use Rattle.std.specs.List.{AllByRecursion}
use Rattle.std.specs.Ordering.{eq_by_cmp}
use Rattle.std.proofs.lemmas.Bool.{and_parts}
use Rattle.fs_path.proofs.Orders.{below_less}
use Rattle.fs_path.specs.NameOrder.{name_cmp, name_same, name_is, name_itself}
use Rattle.fs_path.specs.declared.name.DocName.{DocName}
use Rattle.fs_status.specs.Refusal.{refusal_of}
use Rattle.fs_value.specs.Data.{Data}
use Rattle.fs_value.specs.Named.{by_name}
use Rattle.fs_value.specs.declared.document.Document.{Document}
use Rattle.fs_write.specs.Batch.{Docs, docs_of, with_document, after_write, all_writes, changes_by_name, is_unchanged, Bears, AreNamed, IsNamed, IsOutcome}
use Rattle.fs_write.specs.OneWrite.{Fault, one_write, document_left}
use Rattle.fs_value.specs.Same.{same_fields}
use Rattle.fs_write.specs.Refused.{reason_of}
use Rattle.fs_write.specs.Transforms.{transformed}
use Rattle.fs_write.specs.WrittenName.{written_name}
use Rattle.fs_write.specs.declared.change.Change.{Change}
use Rattle.fs_write.specs.declared.write.Write.{Write}
use Rattle.fs_write.specs.declared.write_result.WriteResult.{WriteResult}
use Rattle.fs_write.proofs.BatchLaws.{same_ok}
use Rattle.fs_write.proofs.Stages.{get-docs, get-with_document, all_refused}
use Rattle.fs_write.proofs.WriteLaws.{left_by}

-- ---- the documents of a list

found_named : (ds : List Document) (q : DocName) (d : Document) (b : Bool) → eq_by_cmp name_cmp q d.name ≡ b → Bears (find name_cmp q (by_name ds)) q → Bears (cond b (Some d) (find name_cmp q (by_name ds))) q
found_named ds q d true ties more = sym (name_same q d.name ((Equal-is _).0 ties))
found_named ds q d false ties more = more

all_named : (ds : List Document) (q : DocName) → Bears (find name_cmp q (by_name ds)) q
all_named [] q = tt
all_named (d ∷ ds) q = found_named ds q d (eq_by_cmp name_cmp q d.name) refl (all_named ds q)

listed_named : (ds : List Document) → IsTrue (is_sorted name_cmp (by_name ds)) → AreNamed (docs_of ds)
listed_named ds rise q = subst (λ o. Bears o q) (get-docs ds q rise) (all_named ds q)

-- ---- a write

chosen_named : (b : Bool) (before after : Document) (n : DocName) → before.name ≡ n → after.name ≡ n → (cond b before after).name ≡ n
chosen_named true before after n p q = p
chosen_named false before after n p q = q

left_named : (before : Option Document) (n : DocName) (fs : List (List ℕ × Data)) (t : ℤ) → Bears before n → (document_left before n fs t).name ≡ n
left_named None n fs t p = refl
left_named (Some d) n fs t p = chosen_named (same_fields d.fields fs) d (record { name = n; fields = fs; created = d.created; updated = t }) n p refl

one_named : (before after : Option Document) (w : Write) (t : ℤ) (r : WriteResult) → one_write before w t ≡ Ok (after, r) → Bears before (written_name w) → Bears after (written_name w)
one_named before None w t r is p = tt
one_named before (Some d) w t r is p =
    let l = left_by before w t d r is in
    ap (λ x. x.name) l.is ∙ left_named before (written_name w) (transformed w.transforms t l.fields) t p

with_named_at : (docs : Docs) (n : DocName) (o : Option Document) (q : DocName) (b : Bool) → is_at (name_cmp n) q ≡ b → AreNamed docs → Bears o n → Bears (cond b o (get docs q)) q
with_named_at docs n o q true at named p = subst (Bears o) (name_is n q at) p
with_named_at docs n o q false at named p = named q

pub with_named : (docs : Docs) (n : DocName) (o : Option Document) → AreNamed docs → Bears o n → AreNamed (with_document docs n o)
with_named docs n o named p q = subst (λ x. Bears x q) (sym (get-with_document docs n o q)) (with_named_at docs n o q (is_at (name_cmp n) q) refl named p)

-- ---- all writes

next_named : (w : Write) (ws : List Write) (docs : Docs) (rs : List WriteResult) (t : ℤ) (p : Docs × List WriteResult) → AreNamed docs
    → ((x : Docs) (qs : List WriteResult) → AreNamed x → all_writes (Ok (x, qs)) ws t ≡ Ok p → AreNamed p.0)
    → (r : Result (Option Document × WriteResult) Fault) → one_write (get docs (written_name w)) w t ≡ r → all_writes (after_write docs rs (written_name w) r) ws t ≡ Ok p → AreNamed p.0
next_named w ws docs rs t p named more (Err fault) one is = let e = refusal_of (reason_of (length rs) fault) in absurd (cc (all_refused ws t e))
next_named w ws docs rs t p named more (Ok done) one is =
    let n = written_name w in
    more (with_document docs n done.0) (rs ++ done.1 ∷ []) (with_named docs n done.0 named (one_named (get docs n) done.0 w t done.1 one (named n))) is

pub writes_named : (ws : List Write) (docs : Docs) (rs : List WriteResult) (t : ℤ) (p : Docs × List WriteResult) → AreNamed docs → all_writes (Ok (docs, rs)) ws t ≡ Ok p → AreNamed p.0
writes_named [] docs rs t p named is = subst (λ (x : Docs × List WriteResult). AreNamed x.0) (same_ok (docs, rs) p is) named
writes_named (w ∷ ws) docs rs t p named is =
    next_named w ws docs rs t p named (λ x qs more h. writes_named ws x qs t p more h) (one_write (get docs (written_name w)) w t) refl is

-- ---- the changes

change_named : (b : Bool) (n : DocName) (before after : Option Document) (c : Change) → Bears before n → Bears after n → cond b None (Some (record { name = n; before = before; after = after })) ≡ Some c → IsNamed c
change_named true n before after c p q is = absurd (cc)
change_named false n before after c p q is =
    let same : ◌≡◌ {A = Change} (record { name = n; before = before; after = after }) c = cc in
    subst IsNamed same (p, q)

found_none : (q : DocName) (cs : List Change) → IsTrue (below_all name_cmp q (changes_by_name cs)) → find name_cmp q (changes_by_name cs) ≡ None
found_none q [] below = refl
found_none q (c ∷ cs) below =
    let both = below_less (name_cmp q c.name) (below_all name_cmp q (changes_by_name cs)) below in
    ap (λ b. cond b (Some c) (find name_cmp q (changes_by_name cs))) both.0 ∙ found_none q cs both.1

-- each change that is found bears its name
abbrev FindsNamed : List Change → Type 0
FindsNamed cs = (q : DocName) (c : Change) → find name_cmp q (changes_by_name cs) ≡ Some c → IsNamed c

tail_found : (c : Change) (cs : List Change) (q : DocName) (x : Change) (b : Bool) → IsTrue (below_all name_cmp c.name (changes_by_name cs)) → eq_by_cmp name_cmp q c.name ≡ b
    → find name_cmp q (changes_by_name cs) ≡ Some x → cond b (Some c) (find name_cmp q (changes_by_name cs)) ≡ Some x
tail_found c cs q x true below ties is =
    let none : find name_cmp q (changes_by_name cs) ≡ None = ap (λ n. find name_cmp n (changes_by_name cs)) (name_same q c.name ((Equal-is _).0 ties)) ∙ found_none c.name cs below in
    absurd (cc)
tail_found c cs q x false below ties is = is

each_named : (cs : List Change) → IsTrue (is_sorted name_cmp (changes_by_name cs)) → FindsNamed cs → AllByRecursion IsNamed cs
each_named [] rise named = tt
each_named (c ∷ cs) rise named =
    let both = and_parts (below_all name_cmp c.name (changes_by_name cs)) (is_sorted name_cmp (changes_by_name cs)) rise in (
      named c.name c (ap (λ b. cond b (Some c) (find name_cmp c.name (changes_by_name cs))) (name_itself c.name)),
      each_named cs both.1 (λ q x is. named q x (tail_found c cs q x (eq_by_cmp name_cmp q c.name) both.0 refl is)),
    )

pub changes_named : (ds : List Document) (ws : List Write) (t : ℤ) (cs : List Change) (rs : List WriteResult) → IsTrue (is_sorted name_cmp (by_name ds)) → IsOutcome (docs_of ds) ws t cs rs → AllByRecursion IsNamed cs
changes_named ds ws t cs rs rise had =
    let docs = docs_of ds in
    let before = listed_named ds rise in
    let after = writes_named ws docs [] t (had.after, rs) before had.done in
    each_named cs had.changed.rise
    (λ q c is. change_named (is_unchanged (get docs q) (get had.after q)) q (get docs q) (get had.after q) c (before q) (after q) (sym (had.changed.told q) ∙ is))
