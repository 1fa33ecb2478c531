-- Where each session was told all, to serve them shows nothing. So it is where no session has a target, and after a compaction.
use Rattle.std.proofs.Common.{◌≡◌, ℕ, ℤ, ◌+◌, ◌<◌, suc, zero, Bool, true, false, cond, List, [], ◌∷◌, refl, sym, ap, ◌∙◌, subst, arith}
use Rattle.std.specs.FinMap.{entries}
use Rattle.std.specs.List.{AllByRecursion}
use Rattle.fs_listen.specs.Cuts.{first_loading, is_ready}
use Rattle.fs_listen.specs.Listening.{Listened, raised_to}
use Rattle.fs_listen.specs.Raised.{raised as sent_by}
use Rattle.fs_listen.specs.declared.cut.Cut.{Cut}
use Rattle.fs_listen.specs.declared.cut.Cut.TheVariants.{At, Loading, NoTarget}
use Rattle.fs_machine.specs.Compact.{compacted, earlier}
use Rattle.fs_machine.specs.Listen.{listening_of}
use Rattle.fs_machine.specs.Listeners.{Listener, with_listening}
use Rattle.fs_machine.specs.Match.{matched}
use Rattle.fs_machine.specs.Outbox.{outbox_of, taken}
use Rattle.fs_machine.specs.Past.{Past}
use Rattle.fs_machine.specs.Raise.{all_told, cut_of, raised, raised_at}
use Rattle.fs_machine.specs.Refusing.{outbox_is_full}
use Rattle.fs_machine.specs.State.{Machine}
use Rattle.fs_replay.specs.BetweenLines.{IsServed}
use Rattle.fs_replay.specs.Lines.{nobody_listens}
use Rattle.fs_replay.specs.Outboxes.{message_lines}
use Rattle.fs_replay.specs.Played.{Played, followed_by, nothing, prints}
use Rattle.fs_replay.specs.Settling.{loads_each, loads_from, loads_next, matches_all, matches_from, raises_each, serves, unloaded_count}
use Rattle.fs_replay.specs.declared.directory.Named.{Named}
use Rattle.fs_replay.specs.declared.state.State.{State}
use Rattle.fs_replay.proofs.Beside.{Empty}
use Rattle.fs_replay.proofs.Changed.{IsAt}
use Rattle.fs_replay.proofs.Drained.{taken_same}
use Rattle.fs_replay.proofs.Kept.{raises_one, with_server}
use Rattle.fs_replay.proofs.Nobody.{listens, no_entries, none_any, none_of, none_ready, of_first, of_others, some_listen, stays_raised}
use Rattle.fs_replay.proofs.Served.{AllAt, AllLoaded, matched_same}
use Rattle.fs_replay.proofs.Shown.{shown}
use Rattle.fs_replay.proofs.Waiting.{nothing_in}

loads_same : (k : ℕ) (n : Named) (s : State) → ((session : ℕ) → AllLoaded (listening_of s.server session)) → loads_from k n s ≡ nothing s
loads_same zero n s all = refl
loads_same (suc k) n s all = ap (loads_next n s (loads_from k n)) (all n.number)

each_loads_same : (ns : List Named) (s : State) → ((session : ℕ) → AllLoaded (listening_of s.server session)) → loads_each ns s ≡ nothing s
each_loads_same [] s all = refl
each_loads_same (n ∷ ns) s all = ap (λ (p : Played). followed_by p (loads_each ns)) (loads_same (unloaded_count s.server n.number) n s all) ∙ each_loads_same ns s all

matches_same : (k shard : ℕ) (s : State) → ((i : ℕ) → i < shard + k → matched s.server i s.server.past.released ≡ s.server) → shown (matches_from k shard s) ≡ nothing s
matches_same zero shard s all = refl
matches_same (suc k) shard s all =
    ap (λ (m : Machine). shown (matches_from k (shard + 1) (with_server s m))) (all shard (omega arith)) ∙ matches_same k (shard + 1) s (λ i within. all i (omega (arith, within)))

raise_same : (n : Named) (s : State) → Empty s → raised s.server n.number ≡ s.server → shown (raises_one n s) ≡ nothing s
raise_same n s empty same =
    ap (λ (m : Machine). prints (with_server s (taken m n.number)) (message_lines n.name (outbox_of m n.number))) same
    ∙ (λ i. prints (with_server s (taken_same s.server n.number empty i)) (message_lines n.name (nothing_in s.server.sessions n.number empty i)))

each_raise_same : (ns : List Named) (s : State) → Empty s → ((session : ℕ) → raised s.server session ≡ s.server) → shown (raises_each ns s) ≡ nothing s
each_raise_same [] s empty all = refl
each_raise_same (n ∷ ns) s empty all = ap (λ (p : Played). shown (followed_by p (raises_each ns))) (raise_same n s empty (all n.number)) ∙ each_raise_same ns s empty all

pub serves_same : (s : State) → IsServed s.server → Empty s → shown (serves s) ≡ nothing s
serves_same s served empty =
    ap (λ (p : Played). shown (followed_by (followed_by p matches_all) (λ t. raises_each t.directory t))) (each_loads_same s.directory s served.all_loaded)
    ∙ ap (λ (p : Played). shown (followed_by p (λ t. raises_each t.directory t))) (matches_same s.server.config.shards 0 s (λ i within. served.all_matched i (omega (arith, within))))
    ∙ each_raise_same s.directory s empty served.all_raised

-- ---- where no session has a target

none_at : (shard : ℕ) (to : ℤ) (ls : List Listener) → some_listen ls ≡ false → AllAt shard to ls
none_at shard to [] none = tt
none_at shard to (l ∷ ls) none = (
  subst (AllByRecursion (λ (e : ℕ × Listened). IsAt shard to e.1)) (sym (no_entries (entries l.listening.targets) (of_first (listens l.listening) (some_listen ls) none))) tt,
  none_at shard to ls (of_others (listens l.listening) (some_listen ls) none),
)

pub nobody_served : (m : Machine) → nobody_listens m ≡ true → IsServed m
nobody_served m nobody =
    let none = none_any (some_listen m.listeners) nobody in
    record {
      all_loaded = λ session. ap first_loading (no_entries (entries (listening_of m session).targets) (none_of m session nobody));
      all_matched = λ shard within.
          let to = earlier m.past.released m.past.released in
          ap (λ (ls : List Listener). record m { listeners = ls }) (matched_same shard to m.listeners (none_at shard to m.listeners none));
      all_raised = λ session. stays_raised m session (none_ready (listening_of m session) (none_of m session nobody));
    }

-- so it writes nothing
pub serves_nothing : (s : State) → nobody_listens s.server ≡ true → Empty s → (serves s).output ≡ []
serves_nothing s nobody empty = ap (λ (p : Played). p.output) (serves_same s (nobody_served s.server nobody) empty)

-- ---- a compaction leaves sessions served

raised_with : (m : Machine) (p : Past) (session : ℕ) (full ready : Bool) (to : Cut) → p.history ≡ m.past.history
    → cond full (record m { past = p }) (cond ready (raised_at (record m { past = p }) session to) (record m { past = p })) ≡ record (cond full m (cond ready (raised_at m session to) m)) { past = p }
raised_with m p session true ready to same = refl
raised_with m p session false false to same = refl
raised_with m p session false true (At time) same =
    λ i. record m {
      past = p;
      listeners = with_listening session (raised_to time) m.listeners;
      sessions = all_told session (sent_by (same i) time (listening_of m session)) m.sessions;
    }
raised_with m p session false true (Loading id) same = refl
raised_with m p session false true NoTarget same = refl

pub compacted_served : (m : Machine) (to : ℤ) → IsServed m → IsServed (compacted m to)
compacted_served m to served =
    let p = (compacted m to).past in
    record {
      all_loaded = served.all_loaded;
      all_matched = λ shard within. ap (λ (n : Machine). record n { past = p }) (served.all_matched shard within);
      all_raised = λ session.
          raised_with m p session (outbox_is_full m session) (is_ready (listening_of m session)) (cut_of m session) refl
          ∙ ap (λ (n : Machine). record n { past = p }) (served.all_raised session);
    }
