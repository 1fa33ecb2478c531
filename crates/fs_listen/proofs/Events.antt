-- What every event of a session keeps: that of each target whoever reads has the view that was sent.
use Rattle.std.proofs.Common.{◌≡◌, ℕ, ℤ, ◌≤ℤ◌, ◌<ℤ◌, Bool, true, false, cond, ◌||◌, List, [], ◌∷◌, ◌++◌, map, Option, Some, None, refl, sym, ap, ◌∙◌, subst, arith}
use Rattle.std.specs.Prelude.{IfSome, IsTrue, ◌==◌}
use Rattle.std.specs.FinMap.{find, get, entries, values, get-empty, get-entries, get-insert, get-remove, entries_sorted, is_sorted}
use Rattle.std.specs.Cmp.{first_so}
use Rattle.std.specs.List.{AllByRecursion, flat_map}
use Rattle.std.specs.Ordering.{eq_by_cmp, nat_cmp}
use Rattle.std.proofs.lemmas.Cmp.{nat_cmp_total}
use Rattle.std.proofs.lemmas.Int.{ints}
use Rattle.std.proofs.lemmas.List.{append-nil}
use Rattle.std.proofs.lemmas.List.Elements.{filter_map-append}
use Rattle.fs_time.proofs.Tests.{after as is_after, through}
use Rattle.fs_path.proofs.Bools.{to_true}
use Rattle.fs_path.specs.NameOrder.{name_cmp}
use Rattle.fs_path.specs.declared.name.DocName.{DocName}
use Rattle.fs_query.specs.declared.listen.Cause.{Cause}
use Rattle.fs_query.specs.declared.listen.ListenMessage.TheVariants as message
use Rattle.fs_value.specs.declared.document.Document.{Document}
use Rattle.fs_write.specs.After.{after_batch}
use Rattle.fs_write.specs.Batch.{AreNamed, Docs}
use Rattle.fs_history.specs.History.{at}
use Rattle.fs_history.specs.declared.batch.Batch.{Batch}
use Rattle.fs_match.specs.Event.{fitting, is_among}
use Rattle.fs_match.proofs.Changes.{fitting_by_name}
use Rattle.fs_listen.specs.Cuts.{base, cut, first_loading, is_current, is_from, is_loaded, is_ready, is_ready_at, least_position, positions_of, times_of}
use Rattle.fs_listen.specs.Gathered.{NeverFalls, ended_at, gathered, is_in, raise_in}
use Rattle.fs_listen.specs.Laws.{AreTold, IsOneTime, gathered_of}
use Rattle.fs_listen.specs.Listening.{Loaded, Listened, Listening, added, loaded_at, loaded_one, made_current, matched, moved, raised_to, removed, with_loaded}
use Rattle.fs_listen.specs.Raised.{raised, sent_time, sent_view, stands_at, views_of}
use Rattle.fs_listen.specs.Runs.{Event, World, adds, refuses, removes, loads, matches, raises, releases, compacts, May, MayAll, after, after_all, begun, is_lost, raising_at, reset_of, token_of_target}
use Rattle.fs_listen.specs.Told.{Views}
use Rattle.fs_listen.specs.View.{shown_names, view, view_at}
use Rattle.fs_listen.specs.declared.cut.Cut.{Cut}
use Rattle.fs_listen.specs.declared.cut.Cut.TheVariants.{At, Loading, NoTarget}
use Rattle.fs_query.specs.declared.target.Target.{Target}
use Rattle.fs_listen.proofs.Bounds.{AreBy, at_positions, by_append, by_later, cut_is, from_first, least_within, none_loading, set_within}
use Rattle.fs_listen.proofs.Listed.{at_found, from_found, number_is, other_number, same_itself}
use Rattle.fs_listen.proofs.Sending.{all_later, by_with, ended_with, falls_with, sent_ends, sent_tells, sent_times, times, times_with}
use Rattle.fs_listen.proofs.Targets.{from_each, get_each}
use Rattle.fs_listen.proofs.Telling.{gathered-append, new_view}

-- ---- the invariant

-- a target's token and positions are of times that were released
abbrev IsWithin : ℤ → Listened → Type 0
IsWithin to l = IfSome l.token (λ k. k ≤ℤ to) × AreBy to (positions_of l.loaded)

-- the times of raises are at most the last's
abbrev AreUpTo : Option ℤ → List ℤ → Type 0
AreUpTo None ts = ts ≡ []
AreUpTo (Some r) ts = AllByRecursion (λ u. u ≤ℤ r) ts

pub record IsTold (w : World) : Type 0 where
  pub told : AreTold w.history w.listening w.said
  pub within : (id : ℕ) (l : Listened) → get w.listening.targets id ≡ Some l → IsWithin w.released l
  pub raised : IfSome w.listening.raised (λ t. t ≤ℤ w.released)
  pub ends : (time : ℤ) → ended_at w.said ≡ Some time
      → (w.listening.raised ≡ Some time) × ((id : ℕ) (l : Listened) → get w.listening.targets id ≡ Some l → is_current l.loaded ≡ true)
  pub falls : NeverFalls (times w.said)
  pub up_to : AreUpTo w.listening.raised (times w.said)

-- ---- a message to one target, or none

pub in_one : (id k : ℕ) → is_in id (k ∷ []) ≡ (id == k)
in_one id k = or_false (id == k) where
  or_false : (b : Bool) → (b || false) ≡ b
  or_false true = refl
  or_false false = refl

other_one : (id k : ℕ) → eq_by_cmp nat_cmp id k ≡ false → is_in id (k ∷ []) ≡ false
other_one id k apart = in_one id k ∙ other_number id k apart

-- ---- beginning

pub begins : (h : List Batch) (released floor : ℤ) → IsTold (begun h released floor)
begins h released floor = record {
  told = λ id l is name. absurd (let none = sym (get-empty nat_cmp id) ∙ is in cc);
  within = λ id l is. absurd (let none = sym (get-empty nat_cmp id) ∙ is in cc);
  raised = tt;
  ends = λ time is. absurd (cc);
  falls = tt;
  up_to = refl;
}

-- ---- adding

adding : (id : ℕ) (t : Target) (token : Option ℤ) (w : World) → IsTold w → IfSome token (λ k. k ≤ℤ w.released)
    → IsTold (record w { listening = added id t token w.listening; said = w.said ++ message.Add (id ∷ []) ∷ [] })
adding id t token w is by = record {
  told = λ q l found name. told q l name (eq_by_cmp nat_cmp q id) refl (sym (get-insert nat_cmp_total w.listening.targets id new q) ∙ found);
  within = λ q l found. within q l (eq_by_cmp nat_cmp q id) (sym (get-insert nat_cmp_total w.listening.targets id new q) ∙ found);
  raised = is.raised;
  ends = λ time ended. absurd (let none = sym (ended_with w.said (message.Add (id ∷ []))) ∙ ended in cc);
  falls = subst NeverFalls (sym (times_with w.said (message.Add (id ∷ [])) refl)) is.falls;
  up_to = subst (AreUpTo w.listening.raised) (sym (times_with w.said (message.Add (id ∷ [])) refl)) is.up_to;
} where
  new : Listened
  new = record { target = t; token = token; loaded = None }

  told : (q : ℕ) (l : Listened) (name : DocName) (same : Bool) → eq_by_cmp nat_cmp q id ≡ same → cond same (Some new) (get w.listening.targets q) ≡ Some l
      → gathered_of w.history q l (w.said ++ message.Add (id ∷ []) ∷ []) name ≡ get (view_at l.target w.history (sent_time w.listening.raised l.token l.loaded)) name
  told q l name true ties found =
      let one : new ≡ l = cc in
      subst (λ (m : Listened). gathered_of w.history q m (w.said ++ message.Add (id ∷ []) ∷ []) name ≡ get (view_at m.target w.history (sent_time w.listening.raised m.token m.loaded)) name) one
      (gathered-append q name (get (view_at t w.history token) name) w.said (message.Add (id ∷ []) ∷ []) None
      ∙ ap (λ b. cond b (get (view_at t w.history token) name) (gathered q name (get (view_at t w.history token) name) w.said None))
      (in_one q id ∙ ap (λ k. q == k) (sym (number_is q id ties)) ∙ same_itself q))
  told q l name false ties found =
      let start = get (view_at l.target w.history l.token) name in
      gathered-append q name start w.said (message.Add (id ∷ []) ∷ []) None
      ∙ ap (λ b. cond b start (gathered q name start w.said None)) (other_one q id ties)
      ∙ is.told q l found name

  within : (q : ℕ) (l : Listened) (same : Bool) → cond same (Some new) (get w.listening.targets q) ≡ Some l → IsWithin w.released l
  within q l true found = let one : new ≡ l = cc in subst (IsWithin w.released) one (by, tt)
  within q l false found = is.within q l found

-- ---- refusing

refusing : (id : ℕ) (cause : Cause) (w : World) → IsTold w → get w.listening.targets id ≡ None
    → IsTold (record w { said = w.said ++ message.Remove (id ∷ []) (Some cause) ∷ [] })
refusing id cause w is absent = record {
  told = λ q l found name. told q l name (eq_by_cmp nat_cmp q id) refl found;
  within = is.within;
  raised = is.raised;
  ends = λ time ended. absurd (let none = sym (ended_with w.said (message.Remove (id ∷ []) (Some cause))) ∙ ended in cc);
  falls = subst NeverFalls (sym (times_with w.said (message.Remove (id ∷ []) (Some cause)) refl)) is.falls;
  up_to = subst (AreUpTo w.listening.raised) (sym (times_with w.said (message.Remove (id ∷ []) (Some cause)) refl)) is.up_to;
} where
  told : (q : ℕ) (l : Listened) (name : DocName) (same : Bool) → eq_by_cmp nat_cmp q id ≡ same → get w.listening.targets q ≡ Some l
      → gathered_of w.history q l (w.said ++ message.Remove (id ∷ []) (Some cause) ∷ []) name ≡ get (view_at l.target w.history (sent_time w.listening.raised l.token l.loaded)) name
  told q l name true ties found = absurd (let none = ap (get w.listening.targets) (number_is q id ties) ∙ absent in cc)
  told q l name false ties found =
      let start = get (view_at l.target w.history l.token) name in
      gathered-append q name start w.said (message.Remove (id ∷ []) (Some cause) ∷ []) None
      ∙ ap (λ b. cond b None (gathered q name start w.said None)) (other_one q id ties)
      ∙ is.told q l found name

-- ---- removing

removing : (id : ℕ) (w : World) → IsTold w
    → IsTold (record w { listening = removed id w.listening; said = w.said ++ message.Remove (id ∷ []) None ∷ [] })
removing id w is = record {
  told = λ q l found name. told q l name (eq_by_cmp nat_cmp q id) refl (sym (get-remove nat_cmp_total w.listening.targets id q) ∙ found);
  within = λ q l found. within q l (eq_by_cmp nat_cmp q id) (sym (get-remove nat_cmp_total w.listening.targets id q) ∙ found);
  raised = is.raised;
  ends = λ time ended. absurd (let none = sym (ended_with w.said (message.Remove (id ∷ []) None)) ∙ ended in cc);
  falls = subst NeverFalls (sym (times_with w.said (message.Remove (id ∷ []) None) refl)) is.falls;
  up_to = subst (AreUpTo w.listening.raised) (sym (times_with w.said (message.Remove (id ∷ []) None) refl)) is.up_to;
} where
  told : (q : ℕ) (l : Listened) (name : DocName) (same : Bool) → eq_by_cmp nat_cmp q id ≡ same → cond same None (get w.listening.targets q) ≡ Some l
      → gathered_of w.history q l (w.said ++ message.Remove (id ∷ []) None ∷ []) name ≡ get (view_at l.target w.history (sent_time w.listening.raised l.token l.loaded)) name
  told q l name true ties found = absurd (cc)
  told q l name false ties found =
      let start = get (view_at l.target w.history l.token) name in
      gathered-append q name start w.said (message.Remove (id ∷ []) None ∷ []) None
      ∙ ap (λ b. cond b None (gathered q name start w.said None)) (other_one q id ties)
      ∙ is.told q l found name

  within : (q : ℕ) (l : Listened) (same : Bool) → cond same None (get w.listening.targets q) ≡ Some l → IsWithin w.released l
  within q l true found = absurd (cc)
  within q l false found = is.within q l found

-- ---- loading

module _ (shards : ℕ) (id : ℕ) (time : ℤ) (w : World) (is : IsTold w) (by : time ≤ℤ w.released) (k : Listened) (there : get w.listening.targets id ≡ Some k) (unloaded : k.loaded ≡ None) where
  abbrev next : Bool → Listened
  next reset = loaded_one shards time reset k

  abbrev listening_then : Bool → Listening
  listening_then reset = loaded_at shards time reset id (Some k) w.listening

  within_loaded : (reset : Bool) (q : ℕ) (l : Listened) (same : Bool) → cond same (Some (next reset)) (get w.listening.targets q) ≡ Some l → IsWithin w.released l
  within_loaded reset q l true found =
      let one : next reset ≡ l = cc in
      subst (IsWithin w.released) one ((is.within id k there).0, at_positions shards k.target time shards 0 w.released by)
  within_loaded reset q l false found = is.within q l found

  told_loaded : (reset : Bool) (q : ℕ) (l : Listened) (name : DocName) (same : Bool) → eq_by_cmp nat_cmp q id ≡ same → cond same (Some (next reset)) (get w.listening.targets q) ≡ Some l
      → gathered_of w.history q l (w.said ++ reset_of id reset) name ≡ get (view_at l.target w.history (sent_time w.listening.raised l.token l.loaded)) name
  told_loaded true q l name true ties found =
      let one : next true ≡ l = cc in
      let start = get (view_at k.target w.history k.token) name in
      subst (λ (m : Listened). gathered_of w.history q m (w.said ++ message.Reset (id ∷ []) ∷ []) name ≡ get (view_at m.target w.history (sent_time w.listening.raised m.token m.loaded)) name) one
      (gathered-append q name start w.said (message.Reset (id ∷ []) ∷ []) None
      ∙ ap (λ b. cond b None (gathered q name start w.said None)) (in_one q id ∙ ap (λ n. q == n) (sym (number_is q id ties)) ∙ same_itself q)
      ∙ sym (get-empty name_cmp name))
  told_loaded false q l name true ties found =
      let one : next false ≡ l = cc in
      subst (λ (m : Listened). gathered_of w.history q m (w.said ++ []) name ≡ get (view_at m.target w.history (sent_time w.listening.raised m.token m.loaded)) name) one
      (ap (λ ms. gathered_of w.history q k ms name) (append-nil w.said)
      ∙ is.told q k (ap (get w.listening.targets) (number_is q id ties) ∙ there) name
      ∙ ap (λ o. get (view_at k.target w.history (sent_time w.listening.raised k.token o)) name) unloaded)
  told_loaded true q l name false ties found =
      let start = get (view_at l.target w.history l.token) name in
      gathered-append q name start w.said (message.Reset (id ∷ []) ∷ []) None
      ∙ ap (λ b. cond b None (gathered q name start w.said None)) (other_one q id ties)
      ∙ is.told q l found name
  told_loaded false q l name false ties found = ap (λ ms. gathered_of w.history q l ms name) (append-nil w.said) ∙ is.told q l found name

  ends_loaded : (reset : Bool) (t : ℤ) → ended_at (w.said ++ reset_of id reset) ≡ Some t
      → (w.listening.raised ≡ Some t) × ((q : ℕ) (l : Listened) → get (listening_then reset).targets q ≡ Some l → is_current l.loaded ≡ true)
  ends_loaded true t ended = absurd (let none = sym (ended_with w.said (message.Reset (id ∷ []))) ∙ ended in cc)
  ends_loaded false t ended =
      let current = (is.ends t (sym (ap ended_at (append-nil w.said)) ∙ ended)).1 id k there in
      absurd (let none : false ≡ true = sym (ap is_current unloaded) ∙ current in cc)

  times_loaded : (reset : Bool) → times (w.said ++ reset_of id reset) ≡ times w.said
  times_loaded true = times_with w.said (message.Reset (id ∷ [])) refl
  times_loaded false = ap times (append-nil w.said)

  loading_one : (reset : Bool) → IsTold (record w { listening = listening_then reset; said = w.said ++ reset_of id reset })
  loading_one reset = record {
    told = λ q l found name. told_loaded reset q l name (eq_by_cmp nat_cmp q id) refl (sym (get-insert nat_cmp_total w.listening.targets id (next reset) q) ∙ found);
    within = λ q l found. within_loaded reset q l (eq_by_cmp nat_cmp q id) (sym (get-insert nat_cmp_total w.listening.targets id (next reset) q) ∙ found);
    raised = is.raised;
    ends = ends_loaded reset;
    falls = subst NeverFalls (sym (times_loaded reset)) is.falls;
    up_to = subst (AreUpTo w.listening.raised) (sym (times_loaded reset)) is.up_to;
  }

load_keeps : (shards id : ℕ) (time : ℤ) (w : World) (o : Option Listened) → get w.listening.targets id ≡ o → IsTold w → IfSome o (λ l. l.loaded ≡ None) → time ≤ℤ w.released
    → IsTold (record w { listening = loaded_at shards time (is_lost w.floor (token_of_target o)) id o w.listening; said = w.said ++ reset_of id (is_lost w.floor (token_of_target o)) })
load_keeps shards id time w None there is may by =
    subst (λ ms. IsTold (record w { said = ms })) (sym (append-nil w.said)) is
load_keeps shards id time w (Some k) there is may by = loading_one shards id time w is by k there may (is_lost w.floor k.token)

-- ---- matching

moved_alike : (shard : ℕ) (to : ℤ) (raised token : Option ℤ) (o : Option Loaded) → sent_time raised token (with_loaded (moved shard to) o) ≡ sent_time raised token o
moved_alike shard to last token None = refl
moved_alike shard to last token (Some l) = refl

pub moved_current : (shard : ℕ) (to : ℤ) (o : Option Loaded) → is_current (with_loaded (moved shard to) o) ≡ is_current o
moved_current shard to None = refl
moved_current shard to (Some l) = refl

moved_within : (shard : ℕ) (to bound : ℤ) (o : Option Loaded) → to ≤ℤ bound → AreBy bound (positions_of o) → AreBy bound (positions_of (with_loaded (moved shard to) o))
moved_within shard to bound None by are = tt
moved_within shard to bound (Some l) by are = set_within l.positions shard to bound by are

match_keeps : (shard : ℕ) (to : ℤ) (w : World) → IsTold w → to ≤ℤ w.released → IsTold (record w { listening = matched shard to w.listening })
match_keeps shard to w is by = record {
  told = λ id l found name. told id l name (from_each change (get w.listening.targets id) l (sym (get_each change w.listening id) ∙ found));
  within = λ id l found. within id l (from_each change (get w.listening.targets id) l (sym (get_each change w.listening id) ∙ found));
  raised = is.raised;
  ends = λ time ended. ((is.ends time ended).0, λ id l found. current time ended id l (from_each change (get w.listening.targets id) l (sym (get_each change w.listening id) ∙ found)));
  falls = is.falls;
  up_to = is.up_to;
} where
  change : Listened → Listened
  change l = record l { loaded = with_loaded (moved shard to) l.loaded }

  told : (id : ℕ) (l : Listened) (name : DocName) → (k : Listened) × (get w.listening.targets id ≡ Some k) × (change k ≡ l)
      → gathered_of w.history id l w.said name ≡ get (view_at l.target w.history (sent_time w.listening.raised l.token l.loaded)) name
  told id l name (k, found, made) =
      subst (λ (m : Listened). gathered_of w.history id m w.said name ≡ get (view_at m.target w.history (sent_time w.listening.raised m.token m.loaded)) name) made
      (is.told id k found name ∙ ap (λ t. get (view_at k.target w.history t) name) (sym (moved_alike shard to w.listening.raised k.token k.loaded)))

  within : (id : ℕ) (l : Listened) → (k : Listened) × (get w.listening.targets id ≡ Some k) × (change k ≡ l) → IsWithin w.released l
  within id l (k, found, made) =
      let was = is.within id k found in
      subst (IsWithin w.released) made (was.0, moved_within shard to w.released k.loaded by was.1)

  current : (time : ℤ) → ended_at w.said ≡ Some time → (id : ℕ) (l : Listened) → (k : Listened) × (get w.listening.targets id ≡ Some k) × (change k ≡ l) → is_current l.loaded ≡ true
  current time ended id l (k, found, made) =
      subst (λ (m : Listened). is_current m.loaded ≡ true) made (moved_current shard to k.loaded ∙ (is.ends time ended).1 id k found)

-- ---- releasing

pub at_more : (bs h : List Batch) (released t : ℤ) → AllByRecursion (λ (b : Batch). released <ℤ b.time) bs → t ≤ℤ released → at (bs ++ h) t ≡ at h t
at_more [] h released t later by = refl
at_more (b ∷ bs) h released t later by =
    let above : released <ℤ b.time = later.0 in
    ap (λ le. cond le (after_batch (at (bs ++ h) t) b.writes b.time) (at (bs ++ h) t)) (is_after b.time t (omega (arith, ints)))
    ∙ at_more bs h released t later.1 by

view_stays : (bs h : List Batch) (released : ℤ) (target : Target) (o : Option ℤ) → AllByRecursion (λ (b : Batch). released <ℤ b.time) bs → IfSome o (λ t. t ≤ℤ released)
    → view_at target (bs ++ h) o ≡ view_at target h o
view_stays bs h released target None later by = refl
view_stays bs h released target (Some t) later by = ap (view target) (at_more bs h released t later by)

sent_within : (raised token : Option ℤ) (o : Option Loaded) (to : ℤ) → IfSome raised (λ t. t ≤ℤ to) → IfSome token (λ t. t ≤ℤ to) → IfSome (sent_time raised token o) (λ t. t ≤ℤ to)
sent_within r token None to last resumed = resumed
sent_within r token (Some l) to last resumed = by_flags l.current l.reset where
  by_flags : (current reset : Bool) → IfSome (cond current r (cond reset None token)) (λ t. t ≤ℤ to)
  by_flags true reset = last
  by_flags false true = tt
  by_flags false false = resumed

some_later : (o : Option ℤ) (s t : ℤ) → s ≤ℤ t → IfSome o (λ u. u ≤ℤ s) → IfSome o (λ u. u ≤ℤ t)
some_later None s t later by = tt
some_later (Some u) s t later by = through u s t by later

release_keeps : (bs : List Batch) (to : ℤ) (w : World) → IsTold w → AllByRecursion (λ (b : Batch). w.released <ℤ b.time) bs → w.released ≤ℤ to
    → IsTold (record w { history = bs ++ w.history; released = to })
release_keeps bs to w is later by = record {
  told = λ id l found name.
      let within = is.within id l found in
      ap (λ (docs : Docs). gathered id name (get docs name) w.said None) (view_stays bs w.history w.released l.target l.token later within.0)
      ∙ is.told id l found name
      ∙ sym (ap (λ (docs : Docs). get docs name) (view_stays bs w.history w.released l.target (sent_time w.listening.raised l.token l.loaded) later
      (sent_within w.listening.raised l.token l.loaded w.released is.raised within.0)));
  within = λ id l found. let within = is.within id l found in (some_later l.token w.released to by within.0, by_later (positions_of l.loaded) w.released to by within.1);
  raised = some_later w.listening.raised w.released to by is.raised;
  ends = is.ends;
  falls = is.falls;
  up_to = is.up_to;
}

-- ---- raising

-- what a view has is there
view_there : (t : Target) (docs : Docs) (name : DocName) → IfSome (get (view t docs) name) (λ x. get docs name ≡ Some x)
view_there t docs name = subst (λ o. IfSome o (λ x. get docs name ≡ Some x)) (sym (fitting_by_name (is_among (shown_names t docs)) docs name)) (fits (get docs name) refl) where
  fits : (o : Option Document) → get docs name ≡ o → IfSome (fitting (is_among (shown_names t docs)) o) (λ x. get docs name ≡ Some x)
  fits None is = tt
  fits (Some d) is = by_test (is_among (shown_names t docs) d) where
    by_test : (fit : Bool) → IfSome (cond fit (Some d) None) (λ x. get docs name ≡ Some x)
    by_test true = is
    by_test false = tt

pub all_there : (h : List Batch) (time : ℤ) (s : Listening) (name : DocName) (es : List (ℕ × Listened))
    → AllByRecursion (λ (v : Views). IfSome (get v.new name) (λ x. get (at h time) name ≡ Some x))
    (map (λ (e : ℕ × Listened). record { id = e.0; sent = sent_view h s.raised e.1; new = view e.1.target (at h time) }) es)
all_there h time s name [] = tt
all_there h time s name (e ∷ es) = (view_there e.1.target (at h time) name, all_there h time s name es)

made_within : (bound : ℤ) (o : Option Loaded) → AreBy bound (positions_of o) → AreBy bound (positions_of (with_loaded made_current o))
made_within bound None are = tt
made_within bound (Some l) are = are

made_sent : (time : ℤ) (token : Option ℤ) (o : Option Loaded) → is_loaded o ≡ true → sent_time (Some time) token (with_loaded made_current o) ≡ Some time
made_sent time token None there = absurd (cc)
made_sent time token (Some l) there = refl

pub made_is : (o : Option Loaded) → is_loaded o ≡ true → is_current (with_loaded made_current o) ≡ true
made_is None there = absurd (cc)
made_is (Some l) there = refl

all_positions : (bound : ℤ) (ls : List Listened) → AllByRecursion (IsWithin bound) ls → AreBy bound (flat_map (λ (l : Listened). positions_of l.loaded) ls)
all_positions bound [] are = tt
all_positions bound (l ∷ ls) are = by_append (positions_of l.loaded) _ bound are.0.1 (all_positions bound ls are.1)

module _ (own_names : (h : List Batch) (t : ℤ) → AreNamed (at h t)) (time : ℤ) (w : World) (is : IsTold w) (at_time : cut w.listening ≡ At time)
    (ready : is_ready_at w.listening (At time) ≡ true) where
  abbrev s : Listening
  s = w.listening

  abbrev f : ℕ × Listened → Views
  f e = record { id = e.0; sent = sent_view w.history s.raised e.1; new = view e.1.target (at w.history time) }

  abbrev change : Listened → Listened
  change l = record l { loaded = with_loaded made_current l.loaded }

  parts : (first_loading (entries s.targets) ≡ None) × (least_position s ≡ Some time)
  parts = cut_is (first_loading (entries s.targets)) (least_position s) time at_time

  rise : IsTrue (is_sorted nat_cmp (entries s.targets))
  rise = to_true _ (entries_sorted s.targets)

  within_all : AllByRecursion (IsWithin w.released) (values s.targets)
  within_all = from_found (IsWithin w.released) (entries s.targets) rise (λ id l found. is.within id l (get-entries s.targets id ∙ found))

  time_within : time ≤ℤ w.released
  time_within = least_within _ w.released time (all_positions w.released (values s.targets) within_all) parts.1

  found_in : (id : ℕ) (k : Listened) → get s.targets id ≡ Some k → find nat_cmp id (entries s.targets) ≡ Some k
  found_in id k found = sym (get-entries s.targets id) ∙ found

  there : (id : ℕ) (k : Listened) → get s.targets id ≡ Some k → is_loaded k.loaded ≡ true
  there id k found =
      at_found (λ one. one ≡ true) (λ (e : ℕ × Listened). is_loaded e.1.loaded) id k (entries s.targets) (found_in id k found) (none_loading (entries s.targets) parts.0)

  told_one : (id : ℕ) (k : Listened) (name : DocName) → get s.targets id ≡ Some k
      → gathered_of w.history id k (w.said ++ raised w.history time s) name ≡ get (view k.target (at w.history time)) name
  told_one id k name found =
      let start = get (view_at k.target w.history k.token) name in
      gathered-append id name start w.said (raised w.history time s) None
      ∙ ap (gathered id name start (raised w.history time s)) (is.told id k found name)
      ∙ sent_tells id name start (stands_at w.history time) time s (views_of w.history time s) _
      ∙ new_view f (λ e. refl) (entries s.targets) rise (at w.history time) (own_names w.history time)
      (λ other. all_there w.history time s other (entries s.targets)) (stands_at w.history time) time id k (found_in id k found) name start

  earlier : (raised_at : Option ℤ) → IfSome raised_at (λ r. r ≤ℤ time) → AreUpTo raised_at (times w.said) → AllByRecursion (λ u. u ≤ℤ time) (times w.said)
  earlier None last are = subst (AllByRecursion (λ u. u ≤ℤ time)) (sym are) tt
  earlier (Some r) last are = all_later (times w.said) r time last are

  before : AllByRecursion (λ u. u ≤ℤ time) (times w.said)
  before = earlier s.raised (from_first s.raised (flat_map times_of (values s.targets)) time (first_so (is_from (base s) time) _ ready)) is.up_to

  times_then : times (w.said ++ raised w.history time s) ≡ times w.said ++ time ∷ []
  times_then = filter_map-append raise_in w.said _ ∙ ap (λ ts. times w.said ++ ts) (sent_times (stands_at w.history time) time s (views_of w.history time s))

  pub raise_keeps : IsTold (record w { listening = raised_to time s; said = w.said ++ raised w.history time s })
  raise_keeps = record {
    told = λ id l found name. told id l name (from_each change (get s.targets id) l (sym (get_each change s id) ∙ found));
    within = λ id l found. within id l (from_each change (get s.targets id) l (sym (get_each change s id) ∙ found));
    raised = time_within;
    ends = λ t ended.
        let one : time ≡ t = (let both : Some time ≡ Some t = sym (sent_ends w.said (stands_at w.history time) time s (views_of w.history time s)) ∙ ended in cc) in
        (ap Some one, λ id l found. current id l (from_each change (get s.targets id) l (sym (get_each change s id) ∙ found)));
    falls = subst NeverFalls (sym times_then) (falls_with (times w.said) time is.falls before);
    up_to = subst (AllByRecursion (λ u. u ≤ℤ time)) (sym times_then) (by_with (times w.said) time before);
  } where
    told : (id : ℕ) (l : Listened) (name : DocName) → (k : Listened) × (get s.targets id ≡ Some k) × (change k ≡ l)
        → gathered_of w.history id l (w.said ++ raised w.history time s) name ≡ get (view_at l.target w.history (sent_time (Some time) l.token l.loaded)) name
    told id l name (k, found, made) =
        subst (λ (m : Listened). gathered_of w.history id m (w.said ++ raised w.history time s) name ≡ get (view_at m.target w.history (sent_time (Some time) m.token m.loaded)) name) made
        (told_one id k name found ∙ sym (ap (λ t. get (view_at k.target w.history t) name) (made_sent time k.token k.loaded (there id k found))))

    within : (id : ℕ) (l : Listened) → (k : Listened) × (get s.targets id ≡ Some k) × (change k ≡ l) → IsWithin w.released l
    within id l (k, found, made) =
        let was = is.within id k found in
        subst (IsWithin w.released) made (was.0, made_within w.released k.loaded was.1)

    current : (id : ℕ) (l : Listened) → (k : Listened) × (get s.targets id ≡ Some k) × (change k ≡ l) → is_current l.loaded ≡ true
    current id l (k, found, made) = subst (λ (m : Listened). is_current m.loaded ≡ true) made (made_is k.loaded (there id k found))

-- ---- every event

module _ (own_names : (h : List Batch) (t : ℤ) → AreNamed (at h t)) (shards : ℕ) where
  raising_keeps : (w : World) (at_cut : Cut) (ready : Bool) → cut w.listening ≡ at_cut → is_ready_at w.listening at_cut ≡ ready → IsTold w → IsTold (raising_at ready at_cut w)
  raising_keeps w (At time) true at_cut ready_is is = raise_keeps own_names time w is at_cut ready_is
  raising_keeps w (At time) false at_cut ready_is is = is
  raising_keeps w (Loading id) ready at_cut ready_is is = is
  raising_keeps w NoTarget ready at_cut ready_is is = is

  keeps : (e : Event) (w : World) → IsTold w → May e w → IsTold (after shards e w)
  keeps (adds id t token) w is may = adding id t token w is may.1
  keeps (refuses id cause) w is may = refusing id cause w is may
  keeps (removes id) w is may = removing id w is
  keeps (loads id time) w is may = load_keeps shards id time w (get w.listening.targets id) refl is may.0 may.2
  keeps (matches shard to) w is may = match_keeps shard to w is may
  keeps raises w is may = raising_keeps w (cut w.listening) (is_ready w.listening) refl refl is
  keeps (releases bs to) w is may = release_keeps bs to w is may.0 may.1
  keeps (compacts to) w is may = record { told = is.told; within = is.within; raised = is.raised; ends = is.ends; falls = is.falls; up_to = is.up_to }

  pub all_keep : (es : List Event) (w : World) → IsTold w → MayAll shards es w → IsTold (after_all shards es w)
  all_keep [] w is may = is
  all_keep (e ∷ es) w is may = all_keep es (after shards e w) (keeps e w is may.0) may.1

-- ---- what whoever reads has where it is told of a raise

current_sent : (raised_at token : Option ℤ) (o : Option Loaded) → is_current o ≡ true → sent_time raised_at token o ≡ raised_at
current_sent raised_at token None is = absurd (cc)
current_sent raised_at token (Some l) is = ap (λ b. cond b raised_at (cond l.reset None token)) is

pub one_time : (w : World) (time : ℤ) → IsTold w → ended_at w.said ≡ Some time → IsOneTime w time
one_time w time is ended =
    let both = is.ends time ended in
    record {
      raised = both.0;
      released = subst (λ o. IfSome o (λ t. t ≤ℤ w.released)) both.0 is.raised;
      views = λ id l found name.
          is.told id l found name
          ∙ ap (λ t. get (view_at l.target w.history t) name) (current_sent w.listening.raised l.token l.loaded (both.1 id l found) ∙ both.0);
    }
