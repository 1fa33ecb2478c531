-- Only where a client has a snapshot, and a token of it, has that a target.
use Rattle.std.proofs.Common.{◌≡◌, ℕ, ℤ, Bool, true, false, cond, List, Option, Some, None, refl, sym, ap, ◌∙◌}
use Rattle.std.specs.Prelude.{◌==◌, is_some}
use Rattle.std.specs.FinMap.{get, get-empty, get-insert, get-remove, len}
use Rattle.std.specs.Ordering.{eq_by_cmp, nat_cmp}
use Rattle.std.specs.Option.{option_map}
use Rattle.std.proofs.lemmas.Cmp.{nat_cmp_total}
use Rattle.fs_query.specs.declared.listen.Cause.{Cause}
use Rattle.fs_query.specs.declared.target.Target.{Target}
use Rattle.fs_cache.specs.Cached.{Cached, is_number, taken_at}
use Rattle.fs_local.specs.Answered.{snapshot_by}
use Rattle.fs_local.specs.Connect.{each, not_current}
use Rattle.fs_local.specs.Listen.{with_target}
use Rattle.fs_local.specs.Raise.{with_snapshot}
use Rattle.fs_local.specs.Stands.{HaveSnapshots}
use Rattle.fs_local.specs.State.{Targets, none_listened}
use Rattle.fs_local.specs.Told.{refused_targets, with_current}
use Rattle.fs_local.specs.Unlisten.{without_target}
use Rattle.fs_local.specs.declared.listened.Listened.{Listened}
use Rattle.fs_local.proofs.TargetsAt.{get_each, get_refused, shown_at, shown_current, token_current, token_refused}

pub snapshots_none : (limit : ℕ) → HaveSnapshots None (none_listened limit)
snapshots_none limit id l found has = absurd (let none : None ≡ Some l = sym (get-empty nat_cmp id) ∙ found in cc)

-- where there is one, any target may have it
pub snapshots_raised : (time : ℤ) (token : List ℕ) (ts : Targets) → HaveSnapshots (Some time) (with_snapshot token ts)
snapshots_raised time token ts id l found has = (refl, refl)

module _ (snapshot : Option ℤ) (ts : Targets) (have : HaveSnapshots snapshot ts) where
  -- where the same are in it
  have_alike : (other : Targets) → other.token ≡ ts.token → ((id : ℕ) → shown_at other id ≡ shown_at ts id) → HaveSnapshots snapshot other
  have_alike other token alike id l found has = by_option (get ts.listened id) refl (sym (alike id) ∙ ap (option_map (λ (k : Listened). k.shown)) found) where
    by_option : (o : Option Listened) → get ts.listened id ≡ o → option_map (λ (k : Listened). k.shown) o ≡ Some l.shown → (is_some snapshot ≡ true) × (is_some other.token ≡ true)
    by_option None is same = absurd (cc)
    by_option (Some k) is same = let both = have id k is (let one : k.shown ≡ l.shown = cc in one ∙ has) in (both.0, ap is_some token ∙ both.1)

  pub snapshots_lost : HaveSnapshots snapshot (each not_current ts)
  snapshots_lost = have_alike (each not_current ts) refl (λ id. ap (option_map (λ (l : Listened). l.shown)) (get_each not_current ts id) ∙ same (get ts.listened id)) where
    same : (o : Option Listened) → option_map (λ (l : Listened). l.shown) (option_map not_current o) ≡ option_map (λ (l : Listened). l.shown) o
    same None = refl
    same (Some l) = refl

  pub snapshots_current : (ids : List ℕ) → HaveSnapshots snapshot (with_current ids ts)
  snapshots_current ids = have_alike (with_current ids ts) (token_current ids ts) (shown_current ids ts)

  fewer : (gone : Bool) (id : ℕ) (l : Listened) → cond gone None (get ts.listened id) ≡ Some l → get ts.listened id ≡ Some l
  fewer true id l found = absurd (cc)
  fewer false id l found = found

  pub snapshots_without : (id : ℕ) → HaveSnapshots snapshot (without_target id ts)
  snapshots_without id q l found = have q l (fewer (eq_by_cmp nat_cmp q id) q l (sym (get-remove nat_cmp_total ts.listened id q) ∙ found))

  pub snapshots_refused : (ids : List ℕ) (cause : Cause) → HaveSnapshots snapshot (refused_targets ids cause ts)
  snapshots_refused ids cause q l found has =
      let both = have q l (fewer (is_number ids q) q l (sym (get_refused ids cause ts q) ∙ found)) has in
      (both.0, ap is_some (token_refused ids cause ts) ∙ both.1)

  -- one that is listened to anew isn't in it
  pub snapshots_with : (id : ℕ) (t : Target) → HaveSnapshots snapshot (with_target id t ts)
  snapshots_with id t q l found has = by_test (eq_by_cmp nat_cmp q id) (sym (get-insert nat_cmp_total ts.listened id new q) ∙ found) where
    new : Listened
    new = record { target = t; shown = false; current = false }

    by_test : (same : Bool) → cond same (Some new) (get ts.listened q) ≡ Some l → (is_some snapshot ≡ true) × (is_some ts.token ≡ true)
    by_test true is = let one : new ≡ l = cc in absurd (let none : false ≡ true = ap (λ (k : Listened). k.shown) one ∙ has in cc)
    by_test false is = have q l is has

-- a commit where nothing is listened to
pub snapshots_settled : (time : ℤ) (ts : Targets) (cache : Cached) → HaveSnapshots cache.snapshot ts → HaveSnapshots (snapshot_by time ts cache).snapshot ts
snapshots_settled time ts cache have = by_test (len ts.listened == 0) where
  by_test : (none : Bool) → HaveSnapshots (cond none (taken_at time cache) cache).snapshot ts
  by_test true = λ id l found has. (refl, (have id l found has).1)
  by_test false = have
