-- What is done after each line for the sessions that listen, step by step.
use Rattle.std.proofs.Common.{◌≡◌, ℕ, ◌+◌, ◌<◌, arith, suc, zero, List, [], ◌∷◌, ◌++◌, append_assoc, drop, get_or, length, Some, None, refl, sym, ap, ◌∙◌, subst}
use Rattle.std.specs.FinMap.{entries}
use Rattle.std.proofs.lemmas.List.{append-nil, at_drop_more, get_or_default}
use Rattle.fs_listen.specs.Cuts.{first_loading}
use Rattle.fs_machine.specs.Listen.{listening_of}
use Rattle.fs_machine.specs.Match.{matched}
use Rattle.fs_replay.specs.Played.{Played, Plays, followed_by, nothing}
use Rattle.fs_replay.specs.Settling.{loads_each, loads_from, loads_next, loads_of, loads_one, matches_all, matches_from, unloaded_count}
use Rattle.fs_replay.specs.declared.directory.Named.{Named}
use Rattle.fs_replay.specs.declared.state.State.{State}
use Rattle.fs_replay.proofs.Kept.{loads_kept, with_server}
use Rattle.fs_replay.proofs.Loading.{first_loads}
use Rattle.fs_replay.proofs.Playing.{Goes, goes_on}

-- what was played, and what was played behind it
pub joined : (p : Played) (more : State → Played) (t u : State) (before between after : List ℕ) → Plays p t before between → Plays (more t) u between after → Plays (followed_by p more) u before after
joined p more t u before between after first next = record {
  state = next.state ∙ ap (λ (x : State). (more x).state) first.state;
  output =
      next.output ∙ ap (λ (x : State). between ++ (more x).output) first.state ∙ ap (λ o. o ++ (more p.state).output) first.output
      ∙ append_assoc before p.output (more p.state).output;
}

-- ---- loading

-- the session at a place
pub named_at : (ms ns : List Named) (place : ℕ) (m n : Named) → ms ≡ ns → place < length ns → get_or ms place m ≡ get_or ns place n
named_at ms ns place m n same within = ap (λ (l : List Named). get_or l place m) same ∙ get_or_default ns place m n within

-- the first target that isn't loaded is, and the others are still to be
pub next_load : (all : Played) (out now next : List ℕ) (n : Named) (id : ℕ) (s t : State) → first_loading (entries (listening_of s.server n.number).targets) ≡ Some id
    → Goes all out now (loads_of n s) → Plays (loads_one n id s) t now next → Goes all out next (loads_of n t)
next_load all out now next n id s t is goes plays =
    let u = (loads_one n id s).state in
    let k = unloaded_count u.server n.number in
    let one : k + 1 ≡ unloaded_count s.server n.number = first_loads s.server n.number id is in
    let as_many : unloaded_count s.server n.number ≡ suc k = omega (arith, one) in
    let counted : Goes all out now (loads_from (suc k) n s) = subst (λ j. Goes all out now (loads_from j n s)) as_many goes in
    let begun : Goes all out now (followed_by (loads_one n id s) (loads_from k n)) = subst (λ o. Goes all out now (loads_next n s (loads_from k n) o)) is counted in
    subst (λ (x : State). Goes all out next (loads_from (unloaded_count x.server n.number) n t)) (sym plays.state)
    (goes_on all out now next t (loads_one n id s) (loads_from k n) begun plays)

-- which makes what is to be loaded less
pub fewer_left : (n : Named) (id : ℕ) (s t : State) (now next : List ℕ) → first_loading (entries (listening_of s.server n.number).targets) ≡ Some id → Plays (loads_one n id s) t now next
    → unloaded_count t.server n.number < unloaded_count s.server n.number
fewer_left n id s t now next is plays =
    let one : unloaded_count (loads_one n id s).state.server n.number + 1 ≡ unloaded_count s.server n.number = first_loads s.server n.number id is in
    let there : unloaded_count t.server n.number ≡ unloaded_count (loads_one n id s).state.server n.number = ap (λ (x : State). unloaded_count x.server n.number) plays.state in
    omega (arith, one, there)

-- where all are there is nothing to be done
pub none_left : (n : Named) (s : State) → first_loading (entries (listening_of s.server n.number).targets) ≡ None → loads_of n s ≡ nothing s
none_left n s none = by_count (unloaded_count s.server n.number) where
  by_count : (k : ℕ) → loads_from k n s ≡ nothing s
  by_count zero = refl
  by_count (suc k) = ap (loads_next n s (loads_from k n)) none

-- the targets of one session more
pub next_loads : (all : Played) (out now next : List ℕ) (ns : List Named) (place : ℕ) (s t : State) → place < length ns → Goes all out now (loads_each (drop place ns) s)
    → ((n : Named) → Plays (loads_of (get_or ns place n) s) t now next) → Goes all out next (loads_each (drop (place + 1) ns) t)
next_loads all out now next ns place s t within goes plays =
    let none : Named = record { name = []; number = 0 } in
    let n = get_or ns place none in
    let more : Goes all out now (loads_each (n ∷ drop (place + 1) ns) s) = subst (λ p. Goes all out now p) (at_drop_more (λ ms. loads_each ms s) ns place none within) goes in
    goes_on all out now next t (loads_of n s) (loads_each (drop (place + 1) ns)) more (plays none)

-- the sessions stay
pub loads_stay : (n : Named) (s : State) → (loads_of n s).state.directory ≡ s.directory
loads_stay n s = loads_kept (λ t. t.directory ≡ s.directory) (λ t m id same. same) (unloaded_count s.server n.number) n s refl

-- ---- matching

-- nothing is told
pub match_silent : (k shard : ℕ) (s : State) → (matches_from k shard s).output ≡ []
match_silent zero shard s = refl
match_silent (suc k) shard s = match_silent k (shard + 1) (with_server s (matched s.server shard s.server.past.released))

pub matches_play : (s t : State) (out : List ℕ) → t ≡ (matches_all s).state → Plays (matches_all s) t out out
matches_play s t out is = record { state = is; output = sym (ap (λ o. out ++ o) (match_silent s.server.config.shards 0 s) ∙ append-nil out) }
