-- What is done to targets by hand: nothing, or one event of the server, and then the outboxes are emptied.
use Rattle.std.proofs.Common.{◌≡◌, ℕ, ℤ, Bool, true, false, cond, List, [], Option, Some, None, refl}
use Rattle.std.specs.Prelude.{◌&&◌, nat_lt}
use Rattle.std.specs.FinMap.{get}
use Rattle.std.proofs.lemmas.Bool.{and_parts}
use Rattle.fs_machine.specs.Event.{Event}
use Rattle.fs_machine.specs.Listen.{listening_of}
use Rattle.fs_replay.specs.Directory.{number_of}
use Rattle.fs_replay.specs.Played.{Played, followed_by, happens, prints}
use Rattle.fs_replay.specs.Settling.{emptied}
use Rattle.fs_replay.specs.Step.{does_not_apply, is_loaded_target, loads, loads_by_hand, loads_named, matches_by_hand, raises_by_hand, raises_named}
use Rattle.fs_replay.specs.declared.state.State.{State}

abbrev pub done_by_hand : State → Event → List ℕ → Played
done_by_hand s e bytes = followed_by (happens s e bytes) emptied

-- what holds where nothing is done, and of each of these events
pub record HoldsByHand (K : Played → Type 0) (s : State) : Type 0 where
  pub stays : (bytes : List ℕ) → K (prints s bytes)
  pub loading : (number target : ℕ) (at : Option ℤ) (bytes : List ℕ) → s.manual ≡ true → K (done_by_hand s (Event.loading number target at) bytes)
  pub matching : (shard : ℕ) (to : ℤ) → s.manual ≡ true → K (done_by_hand s (Event.matching shard to) [])
  pub raising : (number : ℕ) → s.manual ≡ true → K (done_by_hand s (Event.raising number) [])

module _ (K : Played → Type 0) (s : State) (n : ℕ) (holds : HoldsByHand K s) where
  loads_unless : (name : List ℕ) (number target : ℕ) (at : Option ℤ) (there : Bool) → s.manual ≡ true → K (cond there (does_not_apply s n) (loads s name number target at))
  loads_unless name number target at true manual = holds.stays _
  loads_unless name number target at false manual = holds.loading number target at _ manual

  loads_of_named : (name : List ℕ) (target : ℕ) (at : Option ℤ) (number : Option ℕ) → s.manual ≡ true → K (loads_named s n name target at number)
  loads_of_named name target at None manual = holds.stays _
  loads_of_named name target at (Some number) manual = loads_unless name number target at (is_loaded_target (get (listening_of s.server number).targets target)) manual

  loads_if : (name : List ℕ) (target : ℕ) (at : Option ℤ) (b : Bool) → s.manual ≡ b → K (cond b (loads_named s n name target at (number_of name s.directory)) (does_not_apply s n))
  loads_if name target at true manual = loads_of_named name target at (number_of name s.directory) manual
  loads_if name target at false manual = holds.stays _

  pub loads_hold : (name : List ℕ) (target : ℕ) (at : Option ℤ) → K (loads_by_hand s n name target at)
  loads_hold name target at = loads_if name target at s.manual refl

  matches_if : (shard : ℕ) (b : Bool) → (s.manual && nat_lt shard s.server.config.shards) ≡ b
      → K (cond b (done_by_hand s (Event.matching shard s.server.past.released) []) (does_not_apply s n))
  matches_if shard true is = holds.matching shard s.server.past.released (and_parts s.manual (nat_lt shard s.server.config.shards) is).0
  matches_if shard false is = holds.stays _

  pub matches_hold : (shard : ℕ) → K (matches_by_hand s n shard)
  matches_hold shard = matches_if shard (s.manual && nat_lt shard s.server.config.shards) refl

  raises_of_named : (number : Option ℕ) → s.manual ≡ true → K (raises_named s n number)
  raises_of_named None manual = holds.stays _
  raises_of_named (Some number) manual = holds.raising number manual

  raises_if : (name : List ℕ) (b : Bool) → s.manual ≡ b → K (cond b (raises_named s n (number_of name s.directory)) (does_not_apply s n))
  raises_if name true manual = raises_of_named (number_of name s.directory) manual
  raises_if name false manual = holds.stays _

  pub raises_hold : (name : List ℕ) → K (raises_by_hand s n name)
  raises_hold name = raises_if name s.manual refl
