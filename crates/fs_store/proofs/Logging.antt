-- Changes that are noted, each in the shard of its name.
use Rattle.std.proofs.Common.{◌≡◌, ◌≢◌, ℕ, ◌<◌, ◌≤◌, ℤ, ◌≤ℤ◌, Bool, true, false, cond, eqb, List, [], ◌∷◌, ◌++◌, length, sum, refl, sym, ap, ◌∙◌, subst, arith}
use Rattle.std.proofs.Math.ListN.{set}
use Rattle.std.proofs.Math.Nat.{mod-lt}
use Rattle.std.specs.Prelude.{int_le, int_lt, ◌&&◌}
use Rattle.std.specs.List.{filter}
use Rattle.std.proofs.lemmas.Int.{ints}
use Rattle.std.proofs.lemmas.Bool.Decides.{nat_tests}
use Rattle.std.proofs.lemmas.List.{append-nil, append_assoc, get_or-replicate, get_or-set_other, get_or-set_same, length-set, length-map, get_or-map}
use Rattle.std.proofs.lemmas.List.Elements.{filter-append}
use Rattle.fs_path.specs.Scope.{collection_id, in_shard, shard_of, AreShards}
use Rattle.fs_path.specs.declared.name.DocName.{DocName}
use Rattle.fs_write.specs.declared.change.Change.{Change}
use Rattle.fs_write.specs.declared.timed_change.TimedChange.{TimedChange}
use Rattle.fs_history.specs.Brings.{after, between, if_some, of_names}
use Rattle.fs_store.specs.Logged.{noted_after, noted_between}
use Rattle.fs_store.specs.Logs.{Noticed, all_cut, log_of, none_noted, with_all_noted, with_noted}
use Rattle.fs_store.specs.Noted.{all_noted, names_of, noted_names}
use Rattle.fs_store.specs.Shows.{AreOf}
use Rattle.fs_store.specs.declared.noted.Noted.{Noted}

pub shard_within : (shards : ℕ) (name : DocName) → AreShards shards → shard_of shards name < shards
shard_within shards name are = let some : 0 < shards = omega (arith, are.some) in mod-lt (sum (collection_id name)) some

-- ---- a change more

log_set : (logs : Noticed) (place k : ℕ) (ns : List Noted) (b : Bool) → place < length logs → eqb place k ≡ b → log_of (set logs place ns) k ≡ cond b ns (log_of logs k)
log_set logs place k ns true within is =
    let same : place ≡ k = grind (arith, nat_tests) in
    ap (λ j. log_of (set logs j ns) k) same ∙ get_or-set_same logs k ns [] (subst (λ j. j < length logs) same within)
log_set logs place k ns false within is =
    let other : k ≢ place = λ e. absurd (grind (arith, nat_tests)) in get_or-set_other logs place k ns [] other

pub log_with : (shards : ℕ) (logs : Noticed) (n : Noted) (k : ℕ) → shard_of shards n.name < length logs
    → log_of (with_noted shards logs n) k ≡ cond (in_shard shards k n.name) (log_of logs k ++ n ∷ []) (log_of logs k)
log_with shards logs n k within = log_next (in_shard shards k n.name) refl
  where
    log_next : (b : Bool) → in_shard shards k n.name ≡ b → log_of (with_noted shards logs n) k ≡ cond b (log_of logs k ++ n ∷ []) (log_of logs k)
    log_next true is =
        let same : shard_of shards n.name ≡ k = grind (arith, nat_tests) in
        log_set logs (shard_of shards n.name) k (log_of logs (shard_of shards n.name) ++ n ∷ []) true within is ∙ ap (λ j. log_of logs j ++ n ∷ []) same
    log_next false is = log_set logs (shard_of shards n.name) k (log_of logs (shard_of shards n.name) ++ n ∷ []) false within is

pub length_with : (shards : ℕ) (logs : Noticed) (ns : List Noted) → length (with_all_noted shards logs ns) ≡ length logs
length_with shards logs [] = refl
length_with shards logs (n ∷ ns) =
    length_with shards (with_noted shards logs n) ns ∙ length-set logs (shard_of shards n.name) (log_of logs (shard_of shards n.name) ++ n ∷ [])

log_more : (shards k : ℕ) (n : Noted) (ns : List Noted) (log : List Noted) (b : Bool)
    → cond b (log ++ n ∷ []) log ++ filter (λ (m : Noted). in_shard shards k m.name) ns ≡ log ++ cond b (n ∷ filter (λ (m : Noted). in_shard shards k m.name) ns) (filter (λ (m : Noted). in_shard shards k m.name) ns)
log_more shards k n ns log true = append_assoc log (n ∷ []) (filter (λ (m : Noted). in_shard shards k m.name) ns)
log_more shards k n ns log false = refl

pub log_after : (shards : ℕ) (logs : Noticed) (ns : List Noted) (k : ℕ) → AreShards shards → shards ≤ length logs
    → log_of (with_all_noted shards logs ns) k ≡ log_of logs k ++ filter (λ n. in_shard shards k n.name) ns
log_after shards logs [] k are enough = sym (append-nil (log_of logs k))
log_after shards logs (n ∷ ns) k are enough =
    let place = shard_of shards n.name in
    let there : place < length logs = let low = shard_within shards n.name are in omega arith in
    let long : shards ≤ length (with_noted shards logs n) = subst (λ l. shards ≤ l) (sym (length-set logs place (log_of logs place ++ n ∷ []))) enough in
    log_after shards (with_noted shards logs n) ns k are long
    ∙ ap (λ log. log ++ filter (λ (m : Noted). in_shard shards k m.name) ns) (log_with shards logs n k there)
    ∙ log_more shards k n ns (log_of logs k) (in_shard shards k n.name)

pub with_all-append : (shards : ℕ) (logs : Noticed) (ms ns : List Noted) → with_all_noted shards logs (ms ++ ns) ≡ with_all_noted shards (with_all_noted shards logs ms) ns
with_all-append shards logs [] ns = refl
with_all-append shards logs (m ∷ ms) ns = with_all-append shards (with_noted shards logs m) ms ns

pub noted-append : (cs ds : List TimedChange) → all_noted (cs ++ ds) ≡ all_noted cs ++ all_noted ds
noted-append [] ds = refl
noted-append (c ∷ cs) ds =
    ap (λ ns. noted_names c.time c.id (names_of c.changes) ++ ns) (noted-append cs ds) ∙ sym (append_assoc (noted_names c.time c.id (names_of c.changes)) (all_noted cs) (all_noted ds))

-- ---- of some names, and in some time

named_next : (p : DocName → Bool) (t : ℤ) (id : ℕ) (d : Change) (ds : List Change) (b : Bool)
    → filter (λ (n : Noted). p n.name) (noted_names t id (names_of ds)) ≡ noted_names t id (names_of (filter (λ (e : Change). p e.name) ds))
    → cond b (record { time = t; id = id; name = d.name } ∷ filter (λ (n : Noted). p n.name) (noted_names t id (names_of ds))) (filter (λ (n : Noted). p n.name) (noted_names t id (names_of ds)))
    ≡ noted_names t id (names_of (cond b (d ∷ filter (λ (e : Change). p e.name) ds) (filter (λ (e : Change). p e.name) ds)))
named_next p t id d ds true same = ap (λ (ns : List Noted). record { time = t; id = id; name = d.name } ∷ ns) same
named_next p t id d ds false same = same

-- the changes of some names, in what is noted of a commit
pub noted_named : (p : DocName → Bool) (t : ℤ) (id : ℕ) (ds : List Change) → filter (λ n. p n.name) (noted_names t id (names_of ds)) ≡ noted_names t id (names_of (filter (λ d. p d.name) ds))
noted_named p t id [] = refl
noted_named p t id (d ∷ ds) = named_next p t id d ds (p d.name) (noted_named p t id ds)

-- all of a commit are in a stretch of time, or none
noted_then : (q : ℤ → Bool) (t : ℤ) (id : ℕ) (names : List DocName) (b : Bool) → q t ≡ b → filter (λ (n : Noted). q n.time) (noted_names t id names) ≡ cond b (noted_names t id names) []
noted_then q t id [] true is = refl
noted_then q t id [] false is = refl
noted_then q t id (name ∷ names) true is =
    let first : Noted = record { time = t; id = id; name = name } in
    let rest = filter (λ (n : Noted). q n.time) (noted_names t id names) in
    ap (λ b. cond b (first ∷ rest) rest) is ∙ ap (λ ns. first ∷ ns) (noted_then q t id names true is)
noted_then q t id (name ∷ names) false is =
    let first : Noted = record { time = t; id = id; name = name } in
    let rest = filter (λ (n : Noted). q n.time) (noted_names t id names) in
    ap (λ b. cond b (first ∷ rest) rest) is ∙ noted_then q t id names false is

some_noted : (t : ℤ) (id : ℕ) (ds : List Change) (cs : List TimedChange) → all_noted (if_some t id ds cs) ≡ noted_names t id (names_of ds) ++ all_noted cs
some_noted t id [] cs = refl
some_noted t id (d ∷ ds) cs = refl

module _ (p : DocName → Bool) (floor : ℤ) (q : ℤ → Bool) (above : (t : ℤ) → t ≤ℤ floor → q t ≡ false) where
  -- what is noted of commits behind a floor, of some names and in some time behind it
  taken : List TimedChange → List Noted
  taken cs = filter (λ (n : Noted). q n.time) (filter (λ (n : Noted). p n.name) (all_noted (after floor cs)))

  -- one commit more
  more : (c : TimedChange) (ns : List Noted) (b : Bool) → q c.time ≡ b
      → filter (λ (n : Noted). q n.time) (filter (λ (n : Noted). p n.name) (noted_names c.time c.id (names_of c.changes) ++ ns))
      ≡ cond b (noted_names c.time c.id (names_of (filter (λ (d : Change). p d.name) c.changes))) [] ++ filter (λ (n : Noted). q n.time) (filter (λ (n : Noted). p n.name) ns)
  more c ns b is =
      let here = noted_names c.time c.id (names_of c.changes) in
      ap (filter (λ (n : Noted). q n.time)) (filter-append (λ (n : Noted). p n.name) here ns)
      ∙ filter-append (λ (n : Noted). q n.time) (filter (λ (n : Noted). p n.name) here) (filter (λ (n : Noted). p n.name) ns)
      ∙ ap (λ ms. ms ++ filter (λ (n : Noted). q n.time) (filter (λ (n : Noted). p n.name) ns))
      (ap (filter (λ (n : Noted). q n.time)) (noted_named p c.time c.id c.changes) ∙ noted_then q c.time c.id (names_of (filter (λ (d : Change). p d.name) c.changes)) b is)

  -- as changes of these commits
  pub taken_are : (cs : List TimedChange) → filter (λ n. q n.time) (filter (λ n. p n.name) (all_noted (after floor cs))) ≡ all_noted (of_names p (filter (λ c. q c.time) cs))
  taken_are [] = refl
  taken_are (c ∷ cs) = decide (int_lt floor c.time) (q c.time) refl refl (taken_are cs)
    where
      left : List TimedChange
      left = filter (λ (d : TimedChange). q d.time) cs

      decide : (late among : Bool) → int_lt floor c.time ≡ late → q c.time ≡ among
          → filter (λ (n : Noted). q n.time) (filter (λ (n : Noted). p n.name) (all_noted (after floor cs))) ≡ all_noted (of_names p left)
          → filter (λ (n : Noted). q n.time) (filter (λ (n : Noted). p n.name) (all_noted (cond late (c ∷ after floor cs) (after floor cs)))) ≡ all_noted (of_names p (cond among (c ∷ left) left))
      decide true true is has rest =
          more c (all_noted (after floor cs)) true has
          ∙ ap (λ ns. noted_names c.time c.id (names_of (filter (λ (d : Change). p d.name) c.changes)) ++ ns) rest
          ∙ sym (some_noted c.time c.id (filter (λ (d : Change). p d.name) c.changes) (of_names p left))
      decide true false is has rest = more c (all_noted (after floor cs)) false has ∙ rest
      decide false true is has rest =
          let low : c.time ≤ℤ floor = grind (arith, ints) in
          let none = above c.time low in
          absurd (cc)
      decide false false is has rest = rest

-- ---- logs have what commits changed

between_above : (floor s t u : ℤ) → floor ≤ℤ s → u ≤ℤ floor → (int_lt s u && int_le u t) ≡ false
between_above floor s t u low by = grind (arith, ints)

after_above : (floor s u : ℤ) → floor ≤ℤ s → u ≤ℤ floor → int_lt s u ≡ false
after_above floor s u low by = grind (arith, ints)

-- between two times
pub log_between : (shards : ℕ) (floor s t : ℤ) (commits : List TimedChange) (logs : Noticed) (k : ℕ) → AreOf shards floor commits logs → k < shards → floor ≤ℤ s
    → noted_between s t (log_of logs k) ≡ all_noted (of_names (in_shard shards k) (between s t commits))
log_between shards floor s t commits logs k are within low =
    ap (noted_between s t) (are.each k within) ∙ taken_are (in_shard shards k) floor (λ u. int_lt s u && int_le u t) (λ u by. between_above floor s t u low by) commits

sixteen : length none_noted ≡ 16
sixteen = refl

-- none of no commits
pub are_none : (shards : ℕ) (floor : ℤ) (logs : Noticed) → AreShards shards → logs ≡ none_noted → AreOf shards floor [] logs
are_none shards floor logs are none = record {
  all = ap (λ (ls : Noticed). length ls) none ∙ sixteen;
  each = λ k within. ap (λ ls. log_of ls k) none ∙ get_or-replicate {A = List Noted} 16 k [] [] (omega (arith, are.few));
}

-- those of more commits, all behind the floor
pub are_more : (shards : ℕ) (floor : ℤ) (commits ds : List TimedChange) (logs : Noticed) → AreShards shards → after floor ds ≡ ds → AreOf shards floor commits logs
    → AreOf shards floor (commits ++ ds) (with_all_noted shards logs (all_noted ds))
are_more shards floor commits ds logs shards_are late are =
    let enough : shards ≤ length logs = let few = shards_are.few in let sixteen = are.all in omega arith in
    record {
      all = length_with shards logs (all_noted ds) ∙ are.all;
      each = λ k within.
          log_after shards logs (all_noted ds) k shards_are enough
          ∙ ap (λ log. log ++ filter (λ (n : Noted). in_shard shards k n.name) (all_noted ds)) (are.each k within)
          ∙ sym (filter-append (λ (n : Noted). in_shard shards k n.name) (all_noted (after floor commits)) (all_noted ds))
          ∙ ap (filter (λ (n : Noted). in_shard shards k n.name)) (sym (noted-append (after floor commits) ds)
          ∙ ap all_noted (ap (λ es. after floor commits ++ es) (sym late) ∙ sym (filter-append (λ (c : TimedChange). int_lt floor c.time) commits ds)));
    }

-- of all that is noted of commits
named_all : (p : DocName → Bool) (cs : List TimedChange) → filter (λ (n : Noted). p n.name) (all_noted cs) ≡ all_noted (of_names p cs)
named_all p [] = refl
named_all p (c ∷ cs) =
    filter-append (λ (n : Noted). p n.name) (noted_names c.time c.id (names_of c.changes)) (all_noted cs)
    ∙ ap (λ ns. ns ++ filter (λ (n : Noted). p n.name) (all_noted cs)) (noted_named p c.time c.id c.changes)
    ∙ ap (λ ns. noted_names c.time c.id (names_of (filter (λ (d : Change). p d.name) c.changes)) ++ ns) (named_all p cs)
    ∙ sym (some_noted c.time c.id (filter (λ (d : Change). p d.name) c.changes) (of_names p cs))

-- those behind a later floor
pub are_cut : (shards : ℕ) (floor to : ℤ) (commits : List TimedChange) (logs : Noticed) → AreShards shards → floor ≤ℤ to → AreOf shards floor commits logs → AreOf shards to commits (all_cut to logs)
are_cut shards floor to commits logs shards_are low are = record {
  all = length-map logs (noted_after to) ∙ are.all;
  each = λ k within.
      let there : k < length logs = let few = shards_are.few in let sixteen = are.all in omega arith in
      get_or-map (noted_after to) logs k [] [] there
      ∙ ap (noted_after to) (are.each k within)
      ∙ later_twice (in_shard shards k) commits;
}
  where
    later_twice : (p : DocName → Bool) (cs : List TimedChange) → noted_after to (filter (λ (n : Noted). p n.name) (all_noted (after floor cs))) ≡ filter (λ (n : Noted). p n.name) (all_noted (after to cs))
    later_twice p cs =
        taken_are p floor (λ u. int_lt to u) (λ u by. after_above floor to u low by) cs
        ∙ sym (named_all p (after to cs))
