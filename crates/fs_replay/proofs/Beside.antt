-- What serving sessions leaves: all but what they listen to, and their outboxes, which are empty then, where they were. So what is settled
-- stays settled.
use Rattle.std.proofs.Common.{◌≡◌, ℕ, Bool, true, false, List, [], ◌∷◌, ◌++◌, map, None, refl, sym, ap, subst}
use Rattle.std.specs.List.{AllByRecursion}
use Rattle.fs_query.specs.declared.listen.ListenMessage.TheVariants as listen
use Rattle.fs_request.specs.declared.message.Message.TheVariants as message
use Rattle.fs_listen.specs.Raised.{raised as sent_by}
use Rattle.fs_machine.specs.Listen.{listening_of}
use Rattle.fs_machine.specs.Load.{with_reset}
use Rattle.fs_machine.specs.Sessions.{emptied}
use Rattle.fs_machine.specs.State.{Machine}
use Rattle.fs_machine.specs.declared.session.Session.{Session}
use Rattle.fs_machine.proofs.Listening.{beside_listening}
use Rattle.fs_replay.specs.BetweenLines.{HasNothing, IsSettled}
use Rattle.fs_replay.specs.Settling.{serves}
use Rattle.fs_replay.specs.declared.state.State.{State}
use Rattle.fs_replay.proofs.Doing.{loaded_holds, raised_holds}
use Rattle.fs_replay.proofs.Kept.{KeepsServing, Serves, keeps_beside, keeps_serves, serves_kept, with_server}
use Rattle.fs_replay.proofs.Staying.{all_beside, all_held, all_stay}
use Rattle.fs_replay.proofs.Waiting.{taken_all, taken_none}

-- ---- what stays

-- all but what sessions listen to and their outboxes is as it was
abbrev pub IsBeside : State → State → Type 0
IsBeside s t = t ≡ with_server s (beside_listening s.server t.server)

pub beside_serving : (s : State) → KeepsServing (IsBeside s)
beside_serving s = keeps_beside (IsBeside s) (λ t n is. ap (λ (u : State). with_server u (beside_listening u.server n)) is)

pub serves_beside : (s : State) → IsBeside s (serves s).state
serves_beside s = serves_kept (IsBeside s) (keeps_serves (IsBeside s) (beside_serving s)) s refl

beside_settled : (m n : Machine) → IsSettled m → IsSettled (beside_listening m n)
beside_settled m n settled =
    let stay = all_stay m m.parked settled.released settled.held in
    record { released = settled.released; held = all_held (beside_listening m n) m.parked (all_beside m n m.parked stay) }

pub serves_settled : (s : State) → IsSettled s.server → IsSettled (serves s).state.server
serves_settled s settled = subst (λ (t : State). IsSettled t.server) (sym (serves_beside s)) (beside_settled s.server (serves s).state.server settled)

-- ---- outboxes

-- nothing waits to be told
abbrev pub Empty : State → Type 0
Empty s = AllByRecursion HasNothing s.server.sessions

-- nor does anything once a session's messages are taken
abbrev EmptyThen : ℕ → Machine → Type 0
EmptyThen session m = AllByRecursion HasNothing (emptied session m.sessions)

reset_empty : (ss : List Session) (session target : ℕ) (reset : Bool) → AllByRecursion HasNothing ss → AllByRecursion HasNothing (emptied session (with_reset session target reset ss))
reset_empty ss session target true empty = taken_all ss session (λ ms. ms ++ message.Listen (listen.Reset (target ∷ [])) ∷ []) empty
reset_empty ss session target false empty = taken_none ss session empty

pub empty_serving : Serves Empty
empty_serving = record {
  by_loading = λ s n id empty.
      let ss = s.server.sessions in
      loaded_holds (EmptyThen n.number) s.server n.number (taken_none ss n.number empty) id None (λ time reset. reset_empty ss n.number id reset empty);
  by_matching = λ s shard to empty. empty;
  by_raising = λ s n empty.
      let ss = s.server.sessions in
      raised_holds (EmptyThen n.number) s.server n.number (taken_none ss n.number empty)
      (λ time is. taken_all ss n.number (λ ms. ms ++ map message.Listen (sent_by s.server.past.history time (listening_of s.server n.number))) empty);
}
