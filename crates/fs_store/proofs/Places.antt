-- The logs of shards, of which one is changed.
use Rattle.std.proofs.Common.{◌≡◌, ◌≢◌, ℕ, zero, suc, ◌+◌, ◌-◌, ◌<◌, ◌≤◌, Bool, true, false, eqb, List, [], ◌∷◌, length, get_or, refl, sym, ap, ◌∙◌, subst, arith}
use Rattle.std.proofs.Math.ListN.{set}
use Rattle.std.proofs.lemmas.Bool.Decides.{nat_tests}
use Rattle.std.proofs.lemmas.List.{get_or-set_other, get_or-set_same}
use Rattle.fs_path.specs.Scope.{shard_of, AreShards}
use Rattle.fs_path.specs.declared.name.DocName.{DocName}
use Rattle.fs_store.specs.Logs.{HavePlaces}
use Rattle.fs_store.proofs.Logging.{shard_within}

-- where there is room, there is a shard
pub place_there : (rooms : List ℕ) (k : ℕ) → 1 ≤ get_or rooms k 0 → k < length rooms
place_there [] zero some = absurd (omega (arith, some))
place_there [] (suc k) some = absurd (omega (arith, some))
place_there (r ∷ rooms) zero some = omega arith
place_there (r ∷ rooms) (suc k) some = let rest = place_there rooms k some in omega arith

-- where each shard has a place, that of a name has one
pub some_left : (shards s : ℕ) (rooms : List ℕ) (name : DocName) (n : ℕ) → AreShards shards → s ≡ shards → HavePlaces shards rooms n → 1 ≤ n → 1 ≤ get_or rooms (shard_of s name) 0
some_left shards s rooms name n are same have some =
    let there : shard_of s name < shards = subst (λ k. shard_of k name < shards) (sym same) (shard_within shards name are) in
    let h = have (shard_of s name) there in
    omega arith

-- one more shard has room
pub room_more : (rooms : List ℕ) (i more room : ℕ) → i < length rooms → HavePlaces i rooms more → more ≤ room → HavePlaces (i + 1) (set rooms i room) more
room_more rooms i more room short have enough k within = by_cases (eqb k i) refl
  where
    by_cases : (b : Bool) → eqb k i ≡ b → more ≤ get_or (set rooms i room) k 0
    by_cases true e =
        let same : k ≡ i = grind (arith, nat_tests) in
        subst (λ n. more ≤ n) (sym (ap (λ j. get_or (set rooms i room) j 0) same ∙ get_or-set_same rooms i room 0 short)) enough
    by_cases false e =
        let other : k ≢ i = λ same. absurd (grind (arith, nat_tests)) in
        let below : k < i = grind (arith, nat_tests) in
        subst (λ n. more ≤ n) (sym (get_or-set_other rooms i k room 0 other)) (have k below)

-- a place less in one shard is a place less in each
pub room_less : (shards : ℕ) (rooms : List ℕ) (place n : ℕ) → place < length rooms → HavePlaces shards rooms (n + 1) → HavePlaces shards (set rooms place (get_or rooms place 0 - 1)) n
room_less shards rooms place n short have k within = by_cases (eqb k place) refl
  where
    by_cases : (b : Bool) → eqb k place ≡ b → n ≤ get_or (set rooms place (get_or rooms place 0 - 1)) k 0
    by_cases true e =
        let same : k ≡ place = grind (arith, nat_tests) in
        let h = subst (λ j. n + 1 ≤ get_or rooms j 0) same (have k within) in
        subst (λ m. n ≤ m) (sym (ap (λ j. get_or (set rooms place (get_or rooms place 0 - 1)) j 0) same ∙ get_or-set_same rooms place (get_or rooms place 0 - 1) 0 short)) (omega arith)
    by_cases false e =
        let other : k ≢ place = λ same. absurd (grind (arith, nat_tests)) in
        let h = have k within in
        subst (λ m. n ≤ m) (sym (get_or-set_other rooms place k (get_or rooms place 0 - 1) 0 other)) (omega arith)
