-- Staged events in order, and those that come next. (Only private clauses cite this.)
use Rattle.std.specs.Prelude.{◌≡◌, ⊤, Bool, true, false, List, [], ◌∷◌, Option, Some, None, refl}
use Rattle.std.specs.Coded.{Coded, code_by, coded×, coded_list}
use Rattle.std.specs.List.{AllByRecursion}
use Rattle.std.specs.Ordering.{is_lt}
use Rattle.std.specs.declared.alloc.Global.{Global}
use Rattle.std.specs.declared.vec.Vec.{Vec}
use Rattle.fs_target.specs.Staged.{event_cmp}
use Rattle.fs_target.specs.contracts.event.TimedEvent as event
use Rattle.fs_target.specs.declared.event.TimedEvent.{TimedEvent}

-- staged events, and those that come next
pub record Coming : Type 0 where
  pub staged : List TimedEvent
  pub coming : List TimedEvent

abbrev pub coming_code : Coded Coming
coming_code =
    code_by (List TimedEvent × List TimedEvent) (coded× (coded_list event.the_row.coded) (coded_list event.the_row.coded))
    (λ s. (s.staged, s.coming)) (λ p. record { staged = p.0; coming = p.1 }) (λ _. refl)

-- none comes before one in front of it
abbrev pub AreInOrder : List TimedEvent → Type 0
AreInOrder [] = ⊤
AreInOrder (e ∷ es) = AllByRecursion (λ (f : TimedEvent). is_lt (event_cmp f e) ≡ false) es × AreInOrder es

abbrev pub coming_in : Option (Vec TimedEvent Global) → List TimedEvent
coming_in None = []
coming_in (Some v) = v.items

-- whether an event comes before the first of others, if there are any
abbrev pub is_before_first : TimedEvent → List TimedEvent → Bool
is_before_first e [] = true
is_before_first e (f ∷ fs) = is_lt (event_cmp e f)
