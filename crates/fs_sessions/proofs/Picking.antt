-- What the targets of a session are told of events.
use Rattle.std.proofs.Common.{ℕ, ℤ, Bool, true, false, cond, List, [], ◌∷◌, Option, Some, None}
use Rattle.std.specs.Prelude.{IfSome, int_lt}
use Rattle.std.specs.FinMap.{entries, get}
use Rattle.std.specs.List.{AllByRecursion, cons_option, filter_map}
use Rattle.std.specs.Option.{option_and_then}
use Rattle.fs_target.specs.Held.{position_in}
use Rattle.fs_target.specs.Staged.{IsNamed}
use Rattle.fs_target.specs.declared.event.TimedEvent.{TimedEvent}
use Rattle.fs_sessions.specs.Heard.{Heard, picked, picked_as}
use Rattle.fs_pairs.specs.Pairs.{key_of}

-- each bears its name still
named_as : (id : ℕ) (position : Option ℤ) (e : TimedEvent) → IsNamed e → IfSome (picked_as id position e) IsNamed
named_as id None e named = tt
named_as id (Some position) e named = by_test (int_lt position e.time) where
  by_test : (b : Bool) → IfSome (cond b (Some (record e { target = id })) None) IsNamed
  by_test true = named
  by_test false = tt

named_one : (of : ℕ → Option ℤ) (id : Option ℕ) (e : TimedEvent) → IsNamed e → IfSome (option_and_then (λ i. picked_as i (of i) e) id) IsNamed
named_one of None e named = tt
named_one of (Some id) e named = named_as id (of id) e named

named_more : (o : Option TimedEvent) (es : List TimedEvent) → IfSome o IsNamed → AllByRecursion IsNamed es → AllByRecursion IsNamed (cons_option o es)
named_more None es here all = all
named_more (Some e) es here all = (here, all)

pub named_picked : (shard : ℕ) (h : Heard) (es : List TimedEvent) → AllByRecursion IsNamed es → AllByRecursion IsNamed (filter_map (picked shard h) es)
named_picked shard h [] all = tt
named_picked shard h (e ∷ es) all =
    named_more (picked shard h e) (filter_map (picked shard h) es)
    (named_one (λ id. position_in shard (get h.held.listening.targets id)) (key_of e.target (entries h.numbers)) e all.0)
    (named_picked shard h es all.1)
