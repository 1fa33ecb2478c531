-- How often a target was told to be current, after each event of a run.
use Rattle.std.proofs.Common.{◌≡◌, ℕ, ◌+◌, ℤ, Bool, true, false, cond, not, List, [], ◌∷◌, ◌++◌, map, Option, Some, None, refl, sym, ap, ◌∙◌, subst, arith}
use Rattle.std.specs.Prelude.{IfSome, IsTrue, ◌==◌}
use Rattle.std.specs.Cmp.{first_so, second_so}
use Rattle.std.specs.FinMap.{entries, entries_sorted, find, get, get-empty, get-entries, get-insert, get-remove, is_sorted}
use Rattle.std.specs.FinMap.Entries.{below_all}
use Rattle.std.specs.List.{filter}
use Rattle.std.specs.Ordering.{eq_by_cmp, nat_cmp}
use Rattle.std.proofs.lemmas.Cmp.{nat_cmp_total}
use Rattle.std.proofs.lemmas.List.{append-nil}
use Rattle.fs_path.proofs.Bools.{to_true}
use Rattle.fs_path.proofs.Orders.{below_less}
use Rattle.fs_path.specs.declared.name.DocName.{DocName}
use Rattle.fs_query.specs.declared.listen.Cause.{Cause}
use Rattle.fs_query.specs.declared.listen.ListenMessage.{ListenMessage}
use Rattle.fs_query.specs.declared.listen.ListenMessage.TheVariants as message
use Rattle.fs_query.specs.declared.target.Target.{Target}
use Rattle.fs_history.specs.declared.batch.Batch.{Batch}
use Rattle.fs_token.specs.Token.{token_of}
use Rattle.fs_listen.specs.Currents.{count_in, currents_from, currents_since, currents_with}
use Rattle.fs_listen.specs.Cuts.{cut, first_loading, is_current, is_loaded, is_ready, least_position}
use Rattle.fs_listen.specs.Laws.{IsCurrentOnce}
use Rattle.fs_listen.specs.Listening.{Listened, Listening, Loaded, added, loaded_at, loaded_one, made_current, matched, moved, raised_to, removed, with_loaded}
use Rattle.fs_listen.specs.Raised.{raised, stands_at, views_of}
use Rattle.fs_listen.specs.Runs.{Event, World, adds, refuses, removes, loads, matches, raises, releases, compacts, May, MayAll, after, after_all, begun, is_lost, raising_at, reset_of, token_of_target}
use Rattle.fs_listen.specs.Sent.{current_from, new_targets, sent}
use Rattle.fs_listen.specs.Told.{Views, told}
use Rattle.fs_listen.specs.declared.cut.Cut.{Cut}
use Rattle.fs_listen.specs.declared.cut.Cut.TheVariants.{At, Loading, NoTarget}
use Rattle.fs_listen.proofs.Bounds.{cut_is, none_loading}
use Rattle.fs_listen.proofs.Events.{IsTold, in_one, made_is, moved_current}
use Rattle.fs_listen.proofs.Listed.{at_found, number_is, other_number, same_itself}
use Rattle.fs_listen.proofs.OfDocuments.{AreOfDocuments, is_of_document, told_of_documents}
use Rattle.fs_listen.proofs.Targets.{from_each, get_each}

-- ---- of some messages and others behind them

pub currents-append : (id : ℕ) (ms ns : List ListenMessage) (n : ℕ) → currents_from id (ms ++ ns) n ≡ currents_from id ns (currents_from id ms n)
currents-append id [] ns n = refl
currents-append id (m ∷ ms) ns n = currents-append id ms ns (currents_with id m n)

-- one message more
currents_more : (id : ℕ) (ms : List ListenMessage) (m : ListenMessage) (n : ℕ) → currents_from id ms 0 ≡ n → currents_since id (ms ++ m ∷ []) ≡ currents_with id m n
currents_more id ms m n is = currents-append id ms (m ∷ []) 0 ∙ ap (currents_with id m) is

-- ---- documents count none

document_counts : (id : ℕ) (m : ListenMessage) (n : ℕ) → is_of_document m ≡ true → currents_with id m n ≡ n
document_counts id (message.Add ids) n is = absurd (cc)
document_counts id (message.Remove ids cause) n is = refl
document_counts id (message.Reset ids) n is = refl
document_counts id (message.Current ids time token) n is = absurd (cc)
document_counts id (message.NoChange time token) n is = refl
document_counts id (message.Changed d ids left) n is = refl
document_counts id (message.Deleted name time left) n is = refl
document_counts id (message.Removed name time left) n is = refl

documents_count : (id : ℕ) (ms : List ListenMessage) (n : ℕ) → AreOfDocuments ms → currents_from id ms n ≡ n
documents_count id [] n are = refl
documents_count id (m ∷ ms) n are = ap (currents_from id ms) (document_counts id m n are.0) ∙ documents_count id ms n are.1

-- ---- a raise counts each target that it names

one_current : (id : ℕ) (time : ℤ) (ids : List ℕ) (n : ℕ) → currents_from id (current_from time ids) n ≡ n + count_in id ids
one_current id time [] n = omega arith
one_current id time (k ∷ ids) n = refl

sent_currents : (id : ℕ) (stands : DocName → Bool) (time : ℤ) (s : Listening) (vs : List Views) (n : ℕ)
    → currents_from id (sent stands time s vs) n ≡ n + count_in id (new_targets s)
sent_currents id stands time s vs n =
    currents-append id (told stands time vs) (current_from time (new_targets s) ++ message.NoChange time (token_of time) ∷ []) n
    ∙ ap (currents_from id (current_from time (new_targets s) ++ message.NoChange time (token_of time) ∷ [])) (documents_count id (told stands time vs) n (told_of_documents stands time vs))
    ∙ currents-append id (current_from time (new_targets s)) (message.NoChange time (token_of time) ∷ []) n
    ∙ one_current id time (new_targets s) n

-- ---- and each that is new is named once

module _ {X : Type 0} (p : ℕ × X → Bool) (id : ℕ) where
  abbrev keys_kept : List (ℕ × X) → List ℕ
  keys_kept es = map (λ (e : ℕ × X). e.0) (filter p es)

  abbrev one_if : Bool → ℕ
  one_if b = cond b 1 0

  more : (n : ℕ) → n ≡ 0 + n
  more n = omega arith

  step : (e : ℕ × X) (es : List (ℕ × X)) (passes : Bool)
      → count_in id (map (λ (d : ℕ × X). d.0) (cond passes (e ∷ filter p es) (filter p es))) ≡ cond passes (one_if (id == e.0)) 0 + count_in id (keys_kept es)
  step e es true = refl
  step e es false = more (count_in id (keys_kept es))

  none_more : (passes : Bool) (n : ℕ) → cond passes 0 0 + n ≡ n
  none_more true n = omega arith
  none_more false n = omega arith

  next : (e : ℕ × X) (es : List (ℕ × X)) → eq_by_cmp nat_cmp id e.0 ≡ false → count_in id (keys_kept (e ∷ es)) ≡ count_in id (keys_kept es)
  next e es other =
      step e es (p e)
      ∙ ap (λ b. cond (p e) (one_if b) 0 + count_in id (keys_kept es)) (other_number id e.0 other)
      ∙ none_more (p e) (count_in id (keys_kept es))

  absent : (es : List (ℕ × X)) → IsTrue (below_all nat_cmp id es) → count_in id (keys_kept es) ≡ 0
  absent [] below = refl
  absent (e ∷ es) below =
      let both = below_less (nat_cmp id e.0) (below_all nat_cmp id es) below in
      next e es both.0 ∙ absent es both.1

  just_one : (passes : Bool) → cond passes 1 0 + 0 ≡ one_if passes
  just_one true = refl
  just_one false = refl

  named_once : (es : List (ℕ × X)) (x : X) → IsTrue (is_sorted nat_cmp es) → find nat_cmp id es ≡ Some x → count_in id (keys_kept es) ≡ one_if (p (id, x))
  named_once [] x rise found = absurd (cc)
  named_once (e ∷ es) x rise found = by_test (named_once es x (second_so _ _ rise)) (eq_by_cmp nat_cmp id e.0) refl where
    by_test : (find nat_cmp id es ≡ Some x → count_in id (keys_kept es) ≡ one_if (p (id, x))) → (same : Bool) → eq_by_cmp nat_cmp id e.0 ≡ same
        → count_in id (keys_kept (e ∷ es)) ≡ one_if (p (id, x))
    by_test again true is =
        let one : Some e.1 ≡ Some x = ap (λ b. cond b (Some e.1) (find nat_cmp id es)) (sym is) ∙ found in
        let value : e.1 ≡ x = cc in
        let key = number_is id e.0 is in
        let none = absent es (subst (λ k. IsTrue (below_all nat_cmp k es)) (sym key) (first_so _ _ rise)) in
        step e es (p e)
        ∙ (λ i. cond (p e) (one_if ((ap (λ k. id == k) (sym key) ∙ same_itself id) i)) 0 + none i)
        ∙ just_one (p e)
        ∙ (λ i. one_if (p (sym key i, value i)))
    by_test again false is = next e es is ∙ again (ap (λ b. cond b (Some e.1) (find nat_cmp id es)) (sym is) ∙ found)

is_new : (s : Listening) (id : ℕ) (l : Listened) → get s.targets id ≡ Some l → count_in id (new_targets s) ≡ cond (not (is_current l.loaded)) 1 0
is_new s id l found =
    named_once (λ (e : ℕ × Listened). not (is_current e.1.loaded)) id (entries s.targets) l (to_true _ (entries_sorted s.targets)) (sym (get-entries s.targets id) ∙ found)

-- ---- the invariant

abbrev count_of : Option Loaded → ℕ
count_of o = cond (is_current o) 1 0

-- each target was told so once where it is current, and else not yet
abbrev pub AreCounted : World → Type 0
AreCounted w = (id : ℕ) (l : Listened) → get w.listening.targets id ≡ Some l → currents_since id w.said ≡ cond (is_current l.loaded) 1 0

pub none_counted : (h : List Batch) (released floor : ℤ) → AreCounted (begun h released floor)
none_counted h released floor = λ id l is. absurd (let none = sym (get-empty nat_cmp id) ∙ is in cc)

add_counts : (id : ℕ) (t : Target) (token : Option ℤ) (w : World) → AreCounted w
    → AreCounted (record w { listening = added id t token w.listening; said = w.said ++ message.Add (id ∷ []) ∷ [] })
add_counts id t token w are = λ q l found. by_test q l (eq_by_cmp nat_cmp q id) refl (sym (get-insert nat_cmp_total w.listening.targets id new q) ∙ found) where
  new : Listened
  new = record { target = t; token = token; loaded = None }

  by_test : (q : ℕ) (l : Listened) (same : Bool) → eq_by_cmp nat_cmp q id ≡ same → cond same (Some new) (get w.listening.targets q) ≡ Some l
      → currents_since q (w.said ++ message.Add (id ∷ []) ∷ []) ≡ count_of l.loaded
  by_test q l true ties found =
      let one : new ≡ l = cc in
      let here = in_one q id ∙ ap (λ n. q == n) (sym (number_is q id ties)) ∙ same_itself q in
      currents_more q w.said (message.Add (id ∷ [])) (currents_since q w.said) refl
      ∙ ap (λ b. cond b 0 (currents_since q w.said)) here
      ∙ ap (λ (m : Listened). count_of m.loaded) one
  by_test q l false ties found =
      currents_more q w.said (message.Add (id ∷ [])) (count_of l.loaded) (are q l found)
      ∙ ap (λ b. cond b 0 (count_of l.loaded)) (in_one q id ∙ other_number q id ties)

refuse_counts : (id : ℕ) (cause : Cause) (w : World) → AreCounted w → AreCounted (record w { said = w.said ++ message.Remove (id ∷ []) (Some cause) ∷ [] })
refuse_counts id cause w are = λ q l found. currents_more q w.said (message.Remove (id ∷ []) (Some cause)) (count_of l.loaded) (are q l found)

remove_counts : (id : ℕ) (w : World) → AreCounted w → AreCounted (record w { listening = removed id w.listening; said = w.said ++ message.Remove (id ∷ []) None ∷ [] })
remove_counts id w are = λ q l found. by_test q l (eq_by_cmp nat_cmp q id) (sym (get-remove nat_cmp_total w.listening.targets id q) ∙ found) where
  by_test : (q : ℕ) (l : Listened) (same : Bool) → cond same None (get w.listening.targets q) ≡ Some l
      → currents_since q (w.said ++ message.Remove (id ∷ []) None ∷ []) ≡ count_of l.loaded
  by_test q l true found = absurd (cc)
  by_test q l false found = currents_more q w.said (message.Remove (id ∷ []) None) (count_of l.loaded) (are q l found)

-- ---- loading

reset_counts : (q id : ℕ) (said : List ListenMessage) (reset : Bool) → currents_since q (said ++ reset_of id reset) ≡ currents_since q said
reset_counts q id said true = currents-append q said (message.Reset (id ∷ []) ∷ []) 0
reset_counts q id said false = ap (currents_since q) (append-nil said)

load_counts : (shards id : ℕ) (time : ℤ) (reset : Bool) (w : World) (o : Option Listened) → get w.listening.targets id ≡ o → IfSome o (λ k. k.loaded ≡ None) → AreCounted w
    → AreCounted (record w { listening = loaded_at shards time reset id o w.listening; said = w.said ++ reset_of id reset })
load_counts shards id time reset w None there may are = λ q l found. reset_counts q id w.said reset ∙ are q l found
load_counts shards id time reset w (Some k) there may are =
    λ q l found. reset_counts q id w.said reset ∙ by_test q l (eq_by_cmp nat_cmp q id) refl (sym (get-insert nat_cmp_total w.listening.targets id next_one q) ∙ found)
  where
    next_one : Listened
    next_one = loaded_one shards time reset k

    by_test : (q : ℕ) (l : Listened) (same : Bool) → eq_by_cmp nat_cmp q id ≡ same → cond same (Some next_one) (get w.listening.targets q) ≡ Some l
        → currents_since q w.said ≡ count_of l.loaded
    by_test q l true ties found =
        let one : next_one ≡ l = cc in
        are q k (ap (get w.listening.targets) (number_is q id ties) ∙ there)
        ∙ ap count_of may
        ∙ ap (λ (m : Listened). count_of m.loaded) one
    by_test q l false ties found = are q l found

-- ---- matching

match_counts : (shard : ℕ) (to : ℤ) (w : World) → AreCounted w → AreCounted (record w { listening = matched shard to w.listening })
match_counts shard to w are = λ id l found. by_change id l (from_each change (get w.listening.targets id) l (sym (get_each change w.listening id) ∙ found)) where
  change : Listened → Listened
  change l = record l { loaded = with_loaded (moved shard to) l.loaded }

  by_change : (id : ℕ) (l : Listened) → (k : Listened) × (get w.listening.targets id ≡ Some k) × (change k ≡ l) → currents_since id w.said ≡ count_of l.loaded
  by_change id l (k, found, made) =
      subst (λ (m : Listened). currents_since id w.said ≡ count_of m.loaded) made
      (are id k found ∙ ap (λ b. cond b 1 0) (sym (moved_current shard to k.loaded)))

-- ---- raising

then_one : (current : Bool) → cond current 1 0 + cond (not current) 1 0 ≡ 1
then_one true = refl
then_one false = refl

raise_counts : (time : ℤ) (w : World) → cut w.listening ≡ At time → AreCounted w
    → AreCounted (record w { listening = raised_to time w.listening; said = w.said ++ raised w.history time w.listening })
raise_counts time w at_time are = λ id l found. by_change id l (from_each change (get w.listening.targets id) l (sym (get_each change w.listening id) ∙ found)) where
  change : Listened → Listened
  change l = record l { loaded = with_loaded made_current l.loaded }

  there : (id : ℕ) (k : Listened) → get w.listening.targets id ≡ Some k → is_loaded k.loaded ≡ true
  there id k found =
      at_found (λ one. one ≡ true) (λ (e : ℕ × Listened). is_loaded e.1.loaded) id k (entries w.listening.targets) (sym (get-entries w.listening.targets id) ∙ found)
      (none_loading (entries w.listening.targets) (cut_is (first_loading (entries w.listening.targets)) (least_position w.listening) time at_time).0)

  by_change : (id : ℕ) (l : Listened) → (k : Listened) × (get w.listening.targets id ≡ Some k) × (change k ≡ l)
      → currents_since id (w.said ++ raised w.history time w.listening) ≡ count_of l.loaded
  by_change id l (k, found, made) =
      subst (λ (m : Listened). currents_since id (w.said ++ raised w.history time w.listening) ≡ count_of m.loaded) made
      (currents-append id w.said (raised w.history time w.listening) 0
      ∙ ap (currents_from id (raised w.history time w.listening)) (are id k found)
      ∙ sent_currents id (stands_at w.history time) time w.listening (views_of w.history time w.listening) (count_of k.loaded)
      ∙ ap (λ n. count_of k.loaded + n) (is_new w.listening id k found)
      ∙ then_one (is_current k.loaded)
      ∙ ap (λ b. cond b 1 0) (sym (made_is k.loaded (there id k found))))

raising_counts : (w : World) (to : Cut) (ready : Bool) → cut w.listening ≡ to → AreCounted w → AreCounted (raising_at ready to w)
raising_counts w (At time) true at_cut are = raise_counts time w at_cut are
raising_counts w (At time) false at_cut are = are
raising_counts w (Loading id) ready at_cut are = are
raising_counts w NoTarget ready at_cut are = are

-- ---- whole runs

count_keeps : (shards : ℕ) (e : Event) (w : World) → AreCounted w → May e w → AreCounted (after shards e w)
count_keeps shards (adds id t token) w are may = add_counts id t token w are
count_keeps shards (refuses id cause) w are may = refuse_counts id cause w are
count_keeps shards (removes id) w are may = remove_counts id w are
count_keeps shards (loads id time) w are may =
    load_counts shards id time (is_lost w.floor (token_of_target (get w.listening.targets id))) w (get w.listening.targets id) refl may.0 are
count_keeps shards (matches shard to) w are may = match_counts shard to w are
count_keeps shards raises w are may = raising_counts w (cut w.listening) (is_ready w.listening) refl are
count_keeps shards (releases bs to) w are may = are
count_keeps shards (compacts to) w are may = are

pub all_counted : (shards : ℕ) (es : List Event) (w : World) → AreCounted w → MayAll shards es w → AreCounted (after_all shards es w)
all_counted shards [] w are may = are
all_counted shards (e ∷ es) w are may = all_counted shards es (after shards e w) (count_keeps shards e w are may.0) may.1

pub current_once : (w : World) → IsTold w → AreCounted w → IsCurrentOnce w
current_once w is are = record {
  once = are;
  all = λ time ended id l found. are id l found ∙ ap (λ b. cond b 1 0) ((is.ends time ended).1 id l found);
}
