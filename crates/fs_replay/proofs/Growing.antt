-- The history goes on from what was there through each thing that a line is made of, and so through each line.
use Rattle.std.proofs.Common.{ℕ, [], ◌∷◌, refl}
use Rattle.fs_machine.specs.Event.{Event, step}
use Rattle.fs_machine.specs.Facts.{Facts}
use Rattle.fs_machine.specs.Grows.{Grows}
use Rattle.fs_machine.specs.Laws.{AlwaysGrows}
use Rattle.fs_machine.specs.Past.{Past}
use Rattle.fs_machine.specs.Settle.{decided}
use Rattle.fs_machine.specs.State.{Machine}
use Rattle.fs_machine.specs.Tick.{advanced}
use Rattle.fs_machine.proofs.Grows.{grows_on, grows_same}
use Rattle.fs_machine.proofs.Runs.{keeps, kept_with_session}
use Rattle.fs_replay.specs.Step.{line_played}
use Rattle.fs_replay.specs.declared.request.Line.{Line}
use Rattle.fs_replay.specs.declared.state.State.{State}
use Rattle.fs_replay.proofs.Kept.{Keeps, KeepsAll, line_kept}
use Rattle.fs_replay.proofs.Standing.{Any, any_line}

pub record Grown (p : Past) (m : Machine) : Type 0 where
  pub facts : Facts m
  pub grows : Grows p m.past

module _ (grow : AlwaysGrows) (p : Past) where
  by_event : (m : Machine) (e : Event) → Grown p m → Grown p (step m e)
  by_event m e grown = record { facts = keeps m e grown.facts; grows = grows_on p m.past (step m e).past grown.grows (grow m (e ∷ []) grown.facts) }

  grown_closing : Keeps (λ s. Grown p s.server)
  grown_closing = record {
    by_settling = λ s id grown. by_event (decided s.server id) Event.releasing (by_event s.server (Event.deciding id) grown);
    by_retrying = λ s place r is grown. by_event s.server (Event.retrying place) grown;
    serving = record {
      by_taking = λ s number grown. by_event s.server (Event.taking number) grown;
      by_loading = λ s number target at grown. by_event s.server (Event.loading number target at) grown;
      by_matching = λ s shard to grown. by_event s.server (Event.matching shard to) grown;
      by_raising = λ s number grown. by_event s.server (Event.raising number) grown;
    };
  }

  grown_all : KeepsAll (λ s. Grown p s.server) Any
  grown_all = record {
    closes = grown_closing;
    asking = record {
      by_opening = λ s name grown. record { facts = kept_with_session s.server grown.facts; grows = grown.grows };
      by_asking = λ s number e knows may grown. by_event s.server (Event.asking number e) grown;
    };
    by_leaving = λ s number name is grown. by_event s.server (Event.leaving number) grown;
    by_ticking = λ s now grown. by_event (advanced s.server now) Event.releasing (by_event s.server (Event.advancing now) grown);
    by_compacting = λ s to grown. by_event s.server (Event.compacting to) grown;
    by_hand = λ s on grown. grown;
  }

pub line_grows : AlwaysGrows → (s : State) (n : ℕ) (l : Line) → Facts s.server → Grows s.server.past (line_played s n l).state.server.past
line_grows grow s n l facts =
    (line_kept (λ t. Grown s.server.past t.server) Any (grown_all grow s.server.past) s n l (any_line l) (record { facts = facts; grows = grows_same s.server.past s.server.past refl refl })).grows
