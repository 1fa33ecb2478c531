-- What is kept of targets, as they are added, removed and loaded.
use Rattle.std.proofs.Common.{◌≡◌, ℕ, zero, suc, ◌+◌, ◌<◌, ℤ, ◌≤ℤ◌, Bool, true, false, cond, ◌&&◌, List, [], map, Option, Some, None, refl, sym, ap, ◌∙◌, subst, arith, add-zero}
use Rattle.std.specs.Prelude.{IfSome, if◌then◌else◌, int_le, int_lt, is_some, slice_index_or}
use Rattle.std.specs.FinMap.{get, get-empty, get-insert, get-remove, insert}
use Rattle.std.specs.List.{AllByRecursion, range_with_len}
use Rattle.std.specs.Ordering.{eq_by_cmp, nat_cmp}
use Rattle.std.proofs.lemmas.Cmp.{nat_cmp_total}
use Rattle.std.proofs.lemmas.Int.{ints}
use Rattle.fs_path.specs.Scope.{shard_of}
use Rattle.fs_value.specs.declared.document.Document.{Document}
use Rattle.fs_write.specs.Batch.{docs_of}
use Rattle.fs_history.specs.History.{at}
use Rattle.fs_history.specs.declared.batch.Batch.{Batch}
use Rattle.fs_match.specs.Followed.{docs_fitting}
use Rattle.fs_listen.specs.Listening.{Listened, Loaded, has_shard, loaded_at, loaded_one, positions_at}
use Rattle.fs_listen.specs.View.{is_listened, view_at}
use Rattle.fs_query.specs.declared.target.Target.{Target}
use Rattle.fs_listen.proofs.Listed.{number_is}
use Rattle.fs_target.specs.Held.{Held, with_loaded, with_target, without_target}
use Rattle.fs_target.specs.Keeps.{AreWithin, Keeps, KeepsOf, KeepsOne, events_of, is_staged, is_told}
use Rattle.fs_target.specs.Kept.{Kept}
use Rattle.fs_target.specs.Laws.{NoneKeep}
use Rattle.fs_target.specs.declared.event.TimedEvent.{TimedEvent}
use Rattle.fs_target.proofs.Each.{each_of}
use Rattle.fs_listen.proofs.Filters.{filter_none}
use Rattle.fs_target.proofs.Times.{at_index, both_false}

-- ---- none

pub none_keep : NoneKeep
none_keep h commits known shards limit brought rising are = record {
  commits = commits;
  brought = brought;
  rising = rising;
  shards = are;
  raised = tt;
  tokens = λ id l found. absurd (let none = sym (get-empty nat_cmp id) ∙ found in cc);
  targets = λ id l found. absurd (let none = sym (get-empty nat_cmp id) ∙ found in cc);
}

module _ (h : List Batch) (known : ℤ) (held : Held) (keeps : Keeps h known held) (id : ℕ) where
  abbrev KeptOf : ℕ → Listened → Option (Option Kept) → Type 0
  KeptOf q l kept = KeepsOf h keeps.commits known held.shards held.listening.raised q l.target l.token l.loaded kept

  -- ---- a target is put in, with what is kept of it

  module _ (new : Listened) (kept : Option Kept) (token : IfSome new.token (λ t. t ≤ℤ known)) (one : KeptOf id new (Some kept)) where
    token_of : (q : ℕ) (l : Listened) (same : Bool) → cond same (Some new) (get held.listening.targets q) ≡ Some l → IfSome l.token (λ t. t ≤ℤ known)
    token_of q l true found = let is : new ≡ l = cc in subst (λ (m : Listened). IfSome m.token (λ t. t ≤ℤ known)) is token
    token_of q l false found = keeps.tokens q l found

    kept_of : (q : ℕ) (l : Listened) (same : Bool) → eq_by_cmp nat_cmp q id ≡ same → cond same (Some new) (get held.listening.targets q) ≡ Some l
        → KeptOf q l (cond same (Some kept) (get held.kept q))
    kept_of q l true ties found =
        let is : new ≡ l = cc in
        subst (λ (m : Listened). KeptOf q m (Some kept)) is (subst (λ k. KeptOf k new (Some kept)) (sym (number_is q id ties)) one)
    kept_of q l false ties found = keeps.targets q l found

  -- ---- adding

  pub adding_keeps : (t : Target) (token : Option ℤ) → IfSome token (λ time. time ≤ℤ known) → Keeps h known (with_target id t token held)
  adding_keeps t token by = record {
    commits = keeps.commits;
    brought = keeps.brought;
    rising = keeps.rising;
    shards = keeps.shards;
    raised = keeps.raised;
    tokens = λ q l found. token_of new None by refl q l (eq_by_cmp nat_cmp q id) (sym (get-insert nat_cmp_total held.listening.targets id new q) ∙ found);
    targets = λ q l found.
        subst (KeptOf q l) (sym (get-insert nat_cmp_total held.kept id None q))
        (kept_of new None by refl q l (eq_by_cmp nat_cmp q id) refl (sym (get-insert nat_cmp_total held.listening.targets id new q) ∙ found));
  } where
    new : Listened
    new = record { target = t; token = token; loaded = None }

  -- ---- removing

  left_token : (q : ℕ) (l : Listened) (same : Bool) → cond same None (get held.listening.targets q) ≡ Some l → IfSome l.token (λ t. t ≤ℤ known)
  left_token q l true found = absurd (cc)
  left_token q l false found = keeps.tokens q l found

  left_kept : (q : ℕ) (l : Listened) (same : Bool) → cond same None (get held.listening.targets q) ≡ Some l → KeptOf q l (cond same None (get held.kept q))
  left_kept q l true found = absurd (cc)
  left_kept q l false found = keeps.targets q l found

  pub removing_keeps : Keeps h known (without_target id held)
  removing_keeps = record {
    commits = keeps.commits;
    brought = keeps.brought;
    rising = keeps.rising;
    shards = keeps.shards;
    raised = keeps.raised;
    tokens = λ q l found. left_token q l (eq_by_cmp nat_cmp q id) (sym (get-remove nat_cmp_total held.listening.targets id q) ∙ found);
    targets = λ q l found.
        subst (KeptOf q l) (sym (get-remove nat_cmp_total held.kept id q)) (left_kept q l (eq_by_cmp nat_cmp q id) (sym (get-remove nat_cmp_total held.listening.targets id q) ∙ found));
  }

-- ---- loading

abbrev position_from : ℕ → Target → ℤ → ℕ → Option ℤ
position_from shards t time shard = if has_shard shards t shard then Some time else None

positions_there : (shards : ℕ) (t : Target) (time : ℤ) (n from k : ℕ) → k < n
    → slice_index_or (map (position_from shards t time) (range_with_len from n)) k None ≡ position_from shards t time (from + k)
positions_there shards t time zero from k within = absurd (omega arith)
positions_there shards t time (suc n) from zero within = ap (position_from shards t time) (sym (add-zero from))
positions_there shards t time (suc n) from (suc k) within =
    positions_there shards t time n (from + 1) k (omega arith) ∙ ap (position_from shards t time) (next from k) where
      next : (a b : ℕ) → (a + 1) + b ≡ a + suc b
      next a b = omega arith

positions_are : (shards : ℕ) (t : Target) (time known : ℤ) (n from : ℕ) → time ≤ℤ known → AreWithin time known (map (position_from shards t time) (range_with_len from n))
positions_are shards t time known zero from by = tt
positions_are shards t time known (suc n) from by = (by_test (has_shard shards t from), positions_are shards t time known n (from + 1) by) where
  itself : (u : ℤ) → u ≤ℤ u
  itself u = omega (arith, ints)

  by_test : (has : Bool) → IfSome (cond has (Some time) None) (λ p. (time ≤ℤ p) × (p ≤ℤ known))
  by_test true = (itself time, by)
  by_test false = tt

-- a position that is there is the time
at_time : (shards : ℕ) (t : Target) (time : ℤ) (n from : ℕ) → AllByRecursion (λ (o : Option ℤ). IfSome o (λ p. p ≡ time)) (map (position_from shards t time) (range_with_len from n))
at_time shards t time zero from = tt
at_time shards t time (suc n) from = (by_test (has_shard shards t from), at_time shards t time n (from + 1)) where
  by_test : (has : Bool) → IfSome (cond has (Some time) None) (λ p. p ≡ time)
  by_test true = refl
  by_test false = tt

none_between : (time u : ℤ) (o : Option ℤ) → IfSome o (λ p. p ≡ time) → (int_lt time u && is_told o u) ≡ false
none_between time u None is = both_false (int_lt time u)
none_between time u (Some p) is = ap (λ q. int_lt time u && int_le u q) is ∙ neither time u where
  neither : (a b : ℤ) → (int_lt a b && int_le b a) ≡ false
  neither a b = grind (arith, ints)

module _ (h : List Batch) (known : ℤ) (held : Held) (keeps : Keeps h known held) (id : ℕ) (l : Listened) (sent : List Document) (reset : Bool) (docs : List Document) (time : ℤ) (by : time ≤ℤ known)
    (is_sent : docs_of sent ≡ view_at l.target h (if reset then None else l.token)) (are_docs : docs_of docs ≡ docs_fitting (is_listened l.target) (at h time)) where
  abbrev now : Loaded
  now = record { time = time; reset = reset; positions = positions_at held.shards l.target time; current = false }

  abbrev kept_now : Kept
  kept_now = record { sent = docs_of sent; docs = docs_of docs; staged = [] }

  one_loaded : KeepsOne h keeps.commits known held.shards held.listening.raised id l.target l.token now kept_now
  one_loaded = record {
    base = time;
    is_base = refl;
    before = by;
    sent = is_sent;
    docs = are_docs;
    staged = sym (filter_none (is_staged held.shards time (positions_at held.shards l.target time)) (events_of id l.target keeps.commits)
        (each_of (λ (e : TimedEvent). is_staged held.shards time (positions_at held.shards l.target time) e ≡ false)
        (λ e. none_between time e.time (slice_index_or (positions_at held.shards l.target time) (shard_of held.shards e.name) None)
        (at_index (λ p. p ≡ time) (positions_at held.shards l.target time) (shard_of held.shards e.name) (at_time held.shards l.target time held.shards 0))) (events_of id l.target keeps.commits)));
    there = λ shard within its.
        ap is_some (positions_there held.shards l.target time held.shards 0 shard within ∙ ap (position_from held.shards l.target time) (from_zero shard))
        ∙ ap (λ b. is_some (cond b (Some time) None)) its;
    within = positions_are held.shards l.target time known held.shards 0 by;
  } where
    from_zero : (k : ℕ) → 0 + k ≡ k
    from_zero k = omega arith

  abbrev listened_now : Listened
  listened_now = loaded_one held.shards time reset l

  pub loading_keeps : get held.listening.targets id ≡ Some l → Keeps h known (with_loaded id sent reset docs time held)
  loading_keeps there =
      subst (λ o. Keeps h known (record held { listening = loaded_at held.shards time reset id o held.listening; kept = insert held.kept id (Some kept_now) })) (sym there) (record {
        commits = keeps.commits;
        brought = keeps.brought;
        rising = keeps.rising;
        shards = keeps.shards;
        raised = keeps.raised;
        tokens = λ q m found. token_of h known held keeps id listened_now (Some kept_now) token one q m (eq_by_cmp nat_cmp q id) (sym (get-insert nat_cmp_total held.listening.targets id listened_now q) ∙ found);
        targets = λ q m found.
            subst (KeptOf h known held keeps id q m) (sym (get-insert nat_cmp_total held.kept id (Some kept_now) q))
            (kept_of h known held keeps id listened_now (Some kept_now) token one q m (eq_by_cmp nat_cmp q id) refl (sym (get-insert nat_cmp_total held.listening.targets id listened_now q) ∙ found));
      })
    where
      token : IfSome l.token (λ t. t ≤ℤ known)
      token = keeps.tokens id l there

      one : KeptOf h known held keeps id id listened_now (Some (Some kept_now))
      one = (kept_now, refl, one_loaded)
