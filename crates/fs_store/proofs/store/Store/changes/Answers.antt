use Rattle.std.proofs.Common.{◌≡◌, ◌≤ℤ◌, ◌<ℤ◌, ℤ, Bool, true, false, cond, List, [], Result, Ok, Err, refl, sym, ap, ◌∙◌, subst, arith}
use Rattle.std.specs.Prelude.{ℕ, IfOk, ◌<◌, int_le}
use Rattle.std.specs.List.{All}
use Rattle.std.proofs.lemmas.Int.{ints}
use Rattle.std.proofs.lemmas.List.Elements.{All-weaker}
use Rattle.fs_path.specs.Scope.{in_shard}
use Rattle.fs_write.specs.declared.timed_change.TimedChange.{TimedChange}
use Rattle.fs_history.specs.Brings.{AreChangesIn, between}
use Rattle.fs_history.specs.declared.batch.Batch.{Batch}
use Rattle.fs_history.proofs.Brought.{brings_between}
use Rattle.fs_store.specs.Changes.{later}
use Rattle.fs_store.specs.Logged.{noted_between}
use Rattle.fs_store.specs.Logs.{log_of}
use Rattle.fs_store.specs.Room.{Housed}
use Rattle.fs_store.specs.Shows.{Shows}
use Rattle.fs_store.specs.Stored.{Stored}
use Rattle.fs_store.specs.Told.{told}
use Rattle.fs_store.specs.declared.noted.Noted.{Noted}
use Rattle.fs_store.proofs.Logging.{log_between}
use Rattle.fs_store.proofs.Ordered.{all_behind, between_later}
use Rattle.fs_store.proofs.Telling.{between_told}
use Rattle.fs_store.proofs.store.Store.changes.Goals as goal

above : (a b c : ℤ) → a ≤ℤ b → b <ℤ c → a <ℤ c
above a b c low h = omega (arith, ints)

pub commits_told-requires : goal.commits_told-requires
commits_told-requires c =
    let v = c.self.inside.versions.chains in
    let low : v.floor ≤ℤ c.later-from.result = subst (λ t. t ≤ℤ c.later-from.result) c.floor.ensures c.later-from.ensures.behind in
    subst (All (λ (n : Noted). v.floor <ℤ n.time)) (sym c.between.ensures)
    (All-weaker (λ (n : Noted). c.later-from.result <ℤ n.time) (λ (n : Noted). v.floor <ℤ n.time) (λ n h. above v.floor c.later-from.result n.time low h)
    (noted_between c.later-from.result c.args.to (log_of c.self.inside.logs.logs c.args.shard)) (all_behind c.later-from.result c.args.to (log_of c.self.inside.logs.logs c.args.shard)))

at_ok : {A E : Type 0} (r : Result A E) (P Q : A → Type 0) → ((a : A) → P a → Q a) → IfOk r P → IfOk r Q
at_ok (Ok x) P Q so p = so x p
at_ok (Err e) P Q so p = tt

later_low : (a b : ℤ) (le : Bool) → int_le a b ≡ le → b ≤ℤ cond le b a
later_low a b true is = itself b
  where
    itself : (t : ℤ) → t ≤ℤ t
    itself t = omega (arith, ints)
later_low a b false is = grind (arith, ints)

-- what is told of a stored shard is what a history that it shows was brought there
told_of_shard : (s : Stored) (shard : ℕ) (from to : ℤ) (cs : List TimedChange) (h : List Batch) → shard < s.shards → s.chains.floor ≤ℤ from → Shows h s
    → cs ≡ told s.chains (noted_between from to (log_of s.logs shard)) → AreChangesIn h (in_shard s.shards shard) from (later to from) cs
told_of_shard s shard from to cs h within low shows is = record {
  commits = between from (later to from) shows.commits;
  brought = brings_between [] shows.commits h from (later to from) shows.brought shows.versions.rising tt (later_low to from (int_le to from) refl);
  told = is
      ∙ ap (told s.chains) (between_later from to (log_of s.logs shard) ∙ log_between s.shards s.chains.floor from (later to from) shows.commits s.logs shard shows.logs within low)
      ∙ between_told s.chains h shows.commits (in_shard s.shards shard) from (later to from) shows.versions shows.brought low;
}

pub returns-clause-shows : goal.returns-clause-shows
returns-clause-shows c =
    let s : Stored = record { chains = c.self.inside.versions.chains; absorbed = c.self.inside.absorbed; shards = c.self.inside.logs.shards; logs = c.self.inside.logs.logs } in
    let from = later c.args.from s.chains.floor in
    let is_from : c.later-from.result ≡ from = c.later-from.ensures.value ∙ ap (later c.args.from) c.floor.ensures in
    at_ok c.commits_told.result (λ cs. cs ≡ told s.chains c.between.result.now)
    (λ cs. (h : List Batch) → Shows h c.args.self.now.stored → AreChangesIn h (in_shard c.args.self.now.stored.shards c.args.shard) (later c.args.from c.args.self.now.stored.chains.floor) (later c.args.to (later c.args.from c.args.self.now.stored.chains.floor)) cs)
    (λ cs is h shows.
    let seen = subst (λ (t : Housed). Shows h t.stored) (sym c.self.view_is) shows in
    let within = subst (λ (t : Housed). c.args.shard < t.stored.shards) (sym c.self.view_is) c.requires in
    subst (λ (t : Housed). AreChangesIn h (in_shard t.stored.shards c.args.shard) (later c.args.from t.stored.chains.floor) (later c.args.to (later c.args.from t.stored.chains.floor)) cs) c.self.view_is
    (told_of_shard s c.args.shard from c.args.to cs h within (later_low c.args.from s.chains.floor (int_le c.args.from s.chains.floor) refl) seen
    (is ∙ ap (told s.chains) (c.between.ensures ∙ ap (λ t. noted_between t c.args.to (log_of s.logs c.args.shard)) is_from))))
    c.commits_told.ensures
