-- The events of a target lie in its shards.
use Rattle.std.proofs.Common.{◌≡◌, ℕ, ◌<◌, ◌%◌, ℤ, Bool, true, false, cond, ◌||◌, List, [], ◌∷◌, Option, Some, None, refl, sym, ap, subst, sum, arith}
use Rattle.std.specs.Prelude.{◌==◌, IfSome}
use Rattle.std.specs.Cmp.{first_so, second_so}
use Rattle.std.specs.List.{list_any}
use Rattle.std.proofs.Math.Nat.{mod-lt}
use Rattle.std.proofs.lemmas.Bool.Decides.{nat_tests}
use Rattle.std.proofs.lemmas.Slice.Eq.{bytes_eq-Decides}
use Rattle.fs_path.specs.NameOrder.{name_eq, name_is}
use Rattle.fs_path.specs.Scope.{AreShards, collection_id, covers, in_shard, lies_in, scope_id, shard_of}
use Rattle.fs_path.specs.declared.name.DocName.{DocName}
use Rattle.fs_path.specs.declared.scope.Scope.{Scope}
use Rattle.fs_path.specs.declared.scope.Scope.TheVariants.{Collection, Group}
use Rattle.fs_value.specs.declared.document.Document.{Document}
use Rattle.fs_write.specs.Batch.{Bears}
use Rattle.fs_write.specs.declared.change.Change.{Change}
use Rattle.fs_match.specs.Event.{event_between, fitting}
use Rattle.fs_match.specs.declared.events.Event.{Event}
use Rattle.fs_match.specs.declared.events.Event.TheVariants as event
use Rattle.fs_listen.specs.Listening.{has_shard}
use Rattle.fs_listen.specs.View.{is_listened}
use Rattle.fs_query.specs.declared.target.Target.{Target}
use Rattle.fs_query.specs.declared.target.Target.TheVariants as target
use Rattle.fs_target.specs.Keeps.{event_of, told_as}
use Rattle.fs_target.specs.declared.event.TimedEvent.{TimedEvent}

pub shard_within : (shards : ℕ) (name : DocName) → AreShards shards → shard_of shards name < shards
shard_within shards name are = let some : 0 < shards = omega (arith, are.some) in mod-lt (sum (collection_id name)) some

same_number : (a b : ℕ) → a ≡ b → (a == b) ≡ true
same_number a b is = grind (arith, nat_tests)

-- ---- a document that a target listens to

in_collection : (scope : Scope) (n : DocName) → covers scope n ≡ true → collection_id n ≡ scope_id scope
in_collection (Collection parent id) n is =
    (bytes_eq-Decides (collection_id n) id).0 (second_so _ _ (first_so (lies_in parent id n.ids) _ is))
in_collection (Group parent id) n is = (bytes_eq-Decides (collection_id n) id).0 (second_so _ _ is)

among_shard : (shards : ℕ) (names : List DocName) (n : DocName) → list_any (λ name. name_eq name n) names ≡ true → list_any (in_shard shards (shard_of shards n)) names ≡ true
among_shard shards [] n is = is
among_shard shards (m ∷ names) n is = by_test (among_shard shards names n) (name_eq m n) refl is where
  by_test : (list_any (λ name. name_eq name n) names ≡ true → list_any (in_shard shards (shard_of shards n)) names ≡ true) → (same : Bool) → name_eq m n ≡ same
      → (same || list_any (λ name. name_eq name n) names) ≡ true → (in_shard shards (shard_of shards n) m || list_any (in_shard shards (shard_of shards n)) names) ≡ true
  by_test again true at is = ap (λ b. b || list_any (in_shard shards (shard_of shards n)) names) (same_number (shard_of shards m) (shard_of shards n) (ap (shard_of shards) (name_is m n at)))
  by_test again false at is = or_else (in_shard shards (shard_of shards n) m) _ (again is) where
    or_else : (a b : Bool) → b ≡ true → (a || b) ≡ true
    or_else true b so = refl
    or_else false b so = so

pub listened_shard : (shards : ℕ) (t : Target) (d : Document) → is_listened t d ≡ true → has_shard shards t (shard_of shards d.name) ≡ true
listened_shard shards (target.Query q) d is =
    same_number (sum (scope_id q.scope) % shards) (sum (collection_id d.name) % shards) (ap (λ id. sum id % shards) (sym (in_collection q.scope d.name (first_so (covers q.scope d.name) _ is))))
listened_shard shards (target.Documents names) d is = among_shard shards names d.name is

-- ---- an event

-- at the name and the time of its change
pub told_at_change : (id : ℕ) (time : ℤ) (c : Change) (kind : Event) → IfSome (told_as id time c kind) (λ (e : TimedEvent). (e.name ≡ c.name) × (e.time ≡ time))
told_at_change id time c event.Enter = (refl, refl)
told_at_change id time c event.Change = (refl, refl)
told_at_change id time c event.Leave = (refl, refl)
told_at_change id time c event.None = tt

if_some : (o : Option TimedEvent) (P : Type 0) → P → IfSome o (λ _. P)
if_some None P p = tt
if_some (Some e) P p = p

module _ (shards : ℕ) (id : ℕ) (t : Target) (time : ℤ) (c : Change) where
  abbrev HasIt : Type 0
  HasIt = has_shard shards t (shard_of shards c.name) ≡ true

  listened : (d : Document) → d.name ≡ c.name → is_listened t d ≡ true → HasIt
  listened d named is = subst (λ n. has_shard shards t (shard_of shards n) ≡ true) named (listened_shard shards t d is)

  abbrev Tells : Option Document → Option Document → Type 0
  Tells before after = IfSome (told_as id time c (event_between before after)) (λ _. HasIt)

  by_after : (a : Option Document) → Bears a c.name → Tells None (fitting (is_listened t) a)
  by_after None named = tt
  by_after (Some d) named = by_test (is_listened t d) refl where
    by_test : (fit : Bool) → is_listened t d ≡ fit → Tells None (cond fit (Some d) None)
    by_test true is = listened d named is
    by_test false is = tt

  by_before : (b a : Option Document) → Bears b c.name → Bears a c.name → Tells (fitting (is_listened t) b) (fitting (is_listened t) a)
  by_before None a named names = by_after a names
  by_before (Some d) a named names = by_test (is_listened t d) refl where
    by_test : (fit : Bool) → is_listened t d ≡ fit → Tells (cond fit (Some d) None) (fitting (is_listened t) a)
    by_test true is = if_some (told_as id time c (event_between (Some d) (fitting (is_listened t) a))) HasIt (listened d named is)
    by_test false is = by_after a names

  pub event_in_shard : Bears c.before c.name → Bears c.after c.name → IfSome (event_of id t time c) (λ _. HasIt)
  event_in_shard named names = by_before c.before c.after named names
