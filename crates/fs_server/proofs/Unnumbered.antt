-- No number is kept of a target that isn't there, whatever happens to one.
use Rattle.std.proofs.Common.{◌≡◌, ℕ, ℤ, Bool, true, false, cond, Option, Some, None, sym, ◌∙◌}
use Rattle.std.specs.FinMap.{FinMap, empty, get, get-empty, get-insert, get-remove, insert, remove}
use Rattle.std.specs.Option.{option_map}
use Rattle.std.specs.Ordering.{eq_by_cmp, nat_cmp}
use Rattle.std.proofs.lemmas.Cmp.{nat_cmp_total}
use Rattle.fs_listen.specs.Listening.{Listened, Listening, added, each, loaded, loaded_at, loaded_one, made_current, matched, moved, raised_to, removed, with_loaded}
use Rattle.fs_listen.proofs.Targets.{get_each}
use Rattle.fs_query.specs.declared.target.Target.{Target}
use Rattle.fs_sessions.specs.Heard.{AreNumbered}

-- where others are the targets, and none of those is gone
alike : (s other : Listening) (ns : FinMap nat_cmp ℕ) → ((id : ℕ) → get other.targets id ≡ None → get s.targets id ≡ None) → AreNumbered s ns → AreNumbered other ns
alike s other ns still only id none = only id (still id none)

pub none_numbered : (s : Listening) → AreNumbered s empty
none_numbered s id none = get-empty nat_cmp id

pub adding_numbered : (id number : ℕ) (t : Target) (token : Option ℤ) (s : Listening) (ns : FinMap nat_cmp ℕ) → AreNumbered s ns → AreNumbered (added id t token s) (insert ns id number)
adding_numbered id number t token s ns only q none = by_key (eq_by_cmp nat_cmp q id) (get-insert nat_cmp_total ns id number q) (sym (get-insert nat_cmp_total s.targets id new q) ∙ none) where
  new : Listened
  new = record { target = t; token = token; loaded = None }

  by_key : (same : Bool) → get (insert ns id number) q ≡ cond same (Some number) (get ns q) → cond same (Some new) (get s.targets q) ≡ None → get (insert ns id number) q ≡ None
  by_key true is gone = absurd (cc)
  by_key false is gone = is ∙ only q gone

pub removing_numbered : (id : ℕ) (s : Listening) (ns : FinMap nat_cmp ℕ) → AreNumbered s ns → AreNumbered (removed id s) (remove ns id)
removing_numbered id s ns only q none = by_key (eq_by_cmp nat_cmp q id) (get-remove nat_cmp_total ns id q) (sym (get-remove nat_cmp_total s.targets id q) ∙ none) where
  by_key : (same : Bool) → get (remove ns id) q ≡ cond same None (get ns q) → cond same None (get s.targets q) ≡ None → get (remove ns id) q ≡ None
  by_key true is gone = is
  by_key false is gone = is ∙ only q gone

still_each : (change : Listened → Listened) (s : Listening) (id : ℕ) → get (each change s).targets id ≡ None → get s.targets id ≡ None
still_each change s id none = of (get s.targets id) (sym (get_each change s id) ∙ none) where
  of : (o : Option Listened) → option_map change o ≡ None → o ≡ None
  of None is = is
  of (Some l) is = absurd (cc)

pub matching_numbered : (shard : ℕ) (to : ℤ) (s : Listening) (ns : FinMap nat_cmp ℕ) → AreNumbered s ns → AreNumbered (matched shard to s) ns
matching_numbered shard to s ns only = alike s (matched shard to s) ns (still_each (λ (l : Listened). record l { loaded = with_loaded (moved shard to) l.loaded }) s) only

pub raising_numbered : (time : ℤ) (s : Listening) (ns : FinMap nat_cmp ℕ) → AreNumbered s ns → AreNumbered (raised_to time s) ns
raising_numbered time s ns only = alike s (raised_to time s) ns (still_each (λ (l : Listened). record l { loaded = with_loaded made_current l.loaded }) s) only

pub loading_numbered : (shards target : ℕ) (time : ℤ) (reset : Bool) (s : Listening) (ns : FinMap nat_cmp ℕ) → AreNumbered s ns → AreNumbered (loaded shards target time reset s) ns
loading_numbered shards target time reset s ns only = alike s (loaded shards target time reset s) ns (λ id none. at_one id (get s.targets target) none) only where
  at_one : (id : ℕ) (o : Option Listened) → get (loaded_at shards time reset target o s).targets id ≡ None → get s.targets id ≡ None
  at_one id None gone = gone
  at_one id (Some k) gone = at_key (eq_by_cmp nat_cmp id target) (sym (get-insert nat_cmp_total s.targets target (loaded_one shards time reset k) id) ∙ gone) where
    at_key : (same : Bool) → cond same (Some (loaded_one shards time reset k)) (get s.targets id) ≡ None → get s.targets id ≡ None
    at_key true is = absurd (cc)
    at_key false is = is
