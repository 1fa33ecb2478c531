-- Between lines, unless the script settles by hand, each session that listens to anything was raised at the released time.
use Rattle.std.proofs.Common.{◌≡◌, ◌≢◌, ℕ, ℤ, ◌<◌, Bool, true, false, cond, List, [], ◌∷◌, ◌++◌, length, map, Option, Some, None, refl, sym, ap, ◌∙◌, subst, arith}
use Rattle.std.specs.Prelude.{◌==◌, int_lt, nat_le}
use Rattle.std.proofs.lemmas.Bool.Decides.{nat_tests}
use Rattle.fs_query.specs.declared.listen.ListenMessage.{ListenMessage}
use Rattle.fs_request.specs.declared.message.Message.{Message}
use Rattle.fs_request.specs.declared.message.Message.TheVariants as message
use Rattle.fs_listen.specs.Cuts.{is_ready, is_ready_at}
use Rattle.fs_listen.specs.Laws.{IsServed as SessionServed}
use Rattle.fs_listen.specs.Listening.{matched as matched_in}
use Rattle.fs_listen.specs.Raised.{raised as sent_by}
use Rattle.fs_listen.specs.declared.cut.Cut.{Cut}
use Rattle.fs_listen.specs.declared.cut.Cut.TheVariants.{At, Loading, NoTarget}
use Rattle.fs_listen.proofs.Listed.{same_itself}
use Rattle.fs_machine.specs.Compact.{earlier}
use Rattle.fs_machine.specs.Event.{Event, after}
use Rattle.fs_machine.specs.Laws.{AlwaysKept}
use Rattle.fs_machine.specs.Limits.{AreAllowed}
use Rattle.fs_machine.specs.Listen.{listening_of}
use Rattle.fs_machine.specs.ListenLaws.{ServedAreRaised}
use Rattle.fs_machine.specs.Match.{matched}
use Rattle.fs_machine.specs.Outbox.{outbox_of}
use Rattle.fs_machine.specs.Raise.{cut_of, raised, raised_at}
use Rattle.fs_machine.specs.Refusing.{outbox_is_full}
use Rattle.fs_machine.specs.State.{Machine}
use Rattle.fs_machine.specs.Told.{is_open, told_in, world_of}
use Rattle.fs_machine.specs.declared.config.Config.{Config}
use Rattle.fs_machine.specs.declared.limits.Limits.{Limits}
use Rattle.fs_machine.proofs.Heard.{among_open, heard_matched, outbox_with}
use Rattle.fs_machine.proofs.Settings.{settings_kept}
use Rattle.fs_replay.specs.BetweenLines.{IsBetweenLines, IsServed}
use Rattle.fs_replay.specs.Run.{RaisedThroughout, server_after}
use Rattle.fs_replay.specs.Step.{start}
use Rattle.fs_replay.specs.Transcript.{after_lines, events_of}
use Rattle.fs_replay.specs.declared.state.State.{State}
use Rattle.fs_replay.proofs.Lawful.{all_between, starts_between}
use Rattle.fs_replay.proofs.Leading.{lines_lead}
use Rattle.fs_replay.proofs.Waiting.{nothing_in}

-- what is sent by a raise is something
told_something : (had : List Message) (told current : List ListenMessage) (last : ListenMessage) → had ++ map message.Listen (told ++ (current ++ last ∷ [])) ≡ [] → ⊥
told_something (m ∷ had) told current last none = absurd (cc)
told_something [] (t ∷ told) current last none = absurd (cc)
told_something [] [] (c ∷ current) last none = absurd (cc)
told_something [] [] [] last none = absurd (cc)

module _ (m : Machine) (k : ℕ) (opened : is_open k m.sessions ≡ true) (empty : outbox_of m k ≡ []) where
  ready_sends : (to : Cut) → is_ready_at (listening_of m k) to ≡ true → outbox_of (raised_at m k to) k ≡ [] → ⊥
  ready_sends (Loading id) ready none = absurd (cc)
  ready_sends NoTarget ready none = absurd (cc)
  ready_sends (At time) ready none =
      let said = sent_by m.past.history time (listening_of m k) in
      let grown = outbox_with m.sessions k k (λ ms. ms ++ map message.Listen said) opened in
      let own = ap (λ b. cond b (outbox_of m k ++ map message.Listen said) (outbox_of m k)) (same_itself k) in
      told_something (outbox_of m k) _ _ _ (sym own ∙ sym grown ∙ none)

  -- to raise it does nothing more, so it isn't ready
  isnt_ready : outbox_is_full m k ≡ false → raised m k ≡ m → is_ready (listening_of m k) ≡ false
  isnt_ready room stays = by_test (is_ready (listening_of m k)) refl where
    by_test : (ready : Bool) → is_ready (listening_of m k) ≡ ready → ready ≡ false
    by_test false is = refl
    by_test true is =
        let path : raised m k ≡ raised_at m k (cut_of m k) = ap (λ full. cond full m (cond (is_ready (listening_of m k)) (raised_at m k (cut_of m k)) m)) room ∙ ap (λ ready. cond ready (raised_at m k (cut_of m k)) m) is in
        absurd (ready_sends (cut_of m k) is (ap (λ (n : Machine). outbox_of n k) (sym path ∙ stays) ∙ empty))

-- a time isn't earlier than itself
earlier_itself : (t : ℤ) → earlier t t ≡ t
earlier_itself t = by_test (int_lt t t) where
  by_test : (less : Bool) → cond less t t ≡ t
  by_test true = refl
  by_test false = refl

room_for : (limit : ℕ) (ms : List Message) → ms ≡ [] → 0 < limit → nat_le limit (length ms) ≡ false
room_for limit ms none some = ap (λ (xs : List Message). nat_le limit (length xs)) none ∙ at_none where
  at_none : nat_le limit 0 ≡ false
  at_none = grind (arith, nat_tests)

session_served : (s : State) (k : ℕ) (said : List ListenMessage) → IsBetweenLines s → s.manual ≡ false → 0 < s.server.limits.outbox → is_open k s.server.sessions ≡ true
    → SessionServed s.server.config.shards (world_of s.server k said)
session_served s k said between manual some opened =
    let m = s.server in
    let served = between.served manual in
    let empty = nothing_in m.sessions k between.empty in
    record {
      loaded = served.all_loaded k;
      matched = λ shard less.
          let listed = among_open m.sessions _ k true between.facts.listeners.listed opened in
          let once = heard_matched m.listeners k shard (earlier m.past.released m.past.released) listed in
          ap (λ t. matched_in shard t (listening_of m k)) (sym (earlier_itself m.past.released)) ∙ sym once ∙ ap (λ (n : Machine). listening_of n k) (served.all_matched shard less);
      raised = isnt_ready m k opened empty (room_for m.limits.outbox (outbox_of m k) empty some) (served.all_raised k);
    }

pub runs_raised : AlwaysKept → ServedAreRaised → (config : Config) (limits : Limits) (lines : List (List ℕ)) → AreAllowed limits → RaisedThroughout config limits lines
runs_raised kept law config limits lines allowed front back session is manual some opened listens =
    let s = after_lines (start config limits) 1 front in
    let events = events_of (start config limits) 1 front in
    let said = told_in (start config limits).server events session in
    let between = all_between (start config limits) 1 front (starts_between kept config limits allowed) in
    let settings = settings_kept (start config limits).server events in
    let leads : s.server ≡ server_after config limits events = lines_lead (start config limits) 1 front in
    let room : 0 < s.server.limits.outbox = subst (λ (n : Machine). 0 < n.limits.outbox) (sym leads) (subst (λ (l : Limits). 0 < l.outbox) (sym settings.limits) some) in
    let served = session_served s session said between manual room opened in
    subst (λ (n : Machine). (listening_of n session).raised ≡ Some n.past.released) (sym leads)
    (law config limits (start config limits).moment events session (ap (λ (n : Machine). is_open session n.sessions) (sym leads) ∙ opened)
    (subst (λ (c : Config). SessionServed c.shards (world_of (server_after config limits events) session said)) settings.config
    (subst (λ (n : Machine). SessionServed n.config.shards (world_of n session said)) leads served))
    (λ none. listens (ap (λ (n : Machine). cut_of n session) leads ∙ none)))
