-- Events that are put at their places: of a rising list, those that pass one test are put among those that pass another.
use Rattle.std.proofs.Common.{◌≡◌, Bool, true, false, cond, List, [], ◌∷◌, refl, ap, ◌∙◌}
use Rattle.std.specs.Prelude.{◌&&◌, ◌||◌}
use Rattle.std.specs.List.{AllByRecursion, filter}
use Rattle.std.specs.List.Sorted.{IsStrictlySortedBy}
use Rattle.std.specs.Ordering.{is_lt}
use Rattle.std.specs.declared.cmp.Ordering.TheVariants.{Less}
use Rattle.fs_target.specs.Staged.{event_cmp, put_event, put_events}
use Rattle.fs_target.specs.declared.event.TimedEvent.{TimedEvent}
use Rattle.fs_target.proofs.Each.{each_filter}
use Rattle.fs_target.proofs.InOrder.{one_way}

-- behind one that they come after
put_behind : (e : TimedEvent) (es staged : List TimedEvent) → AllByRecursion (λ f. is_lt (event_cmp f e) ≡ false) es → put_events es (e ∷ staged) ≡ e ∷ put_events es staged
put_behind e [] staged behind = refl
put_behind e (f ∷ es) staged behind =
    ap (λ b. put_events es (cond b (f ∷ e ∷ staged) (e ∷ put_event f staged))) behind.0 ∙ put_behind e es (put_event f staged) behind.1

-- in front of those that are after it
put_first : (e : TimedEvent) (staged : List TimedEvent) → AllByRecursion (λ f. event_cmp e f ≡ Less) staged → put_event e staged ≡ e ∷ staged
put_first e [] less = refl
put_first e (f ∷ staged) less = ap (λ o. cond (is_lt o) (e ∷ f ∷ staged) (f ∷ put_event e staged)) less.0

module _ (p q : TimedEvent → Bool) where
  behind_all : (e : TimedEvent) (es : List TimedEvent) → AllByRecursion (λ f. event_cmp e f ≡ Less) es → AllByRecursion (λ f. is_lt (event_cmp f e) ≡ false) es
  behind_all e [] less = tt
  behind_all e (f ∷ es) less = (one_way e f (ap is_lt less.0), behind_all e es less.1)

  abbrev of_both : List TimedEvent → List TimedEvent
  of_both es = filter (λ e. p e || q e) es

  one_put : (e : TimedEvent) (es : List TimedEvent) (first second : Bool) → (first && second) ≡ false → AllByRecursion (λ f. event_cmp e f ≡ Less) es
      → put_events (filter q es) (filter p es) ≡ of_both es
      → put_events (cond second (e ∷ filter q es) (filter q es)) (cond first (e ∷ filter p es) (filter p es)) ≡ cond (first || second) (e ∷ of_both es) (of_both es)
  one_put e es true true apart less rest = absurd (cc)
  one_put e es true false apart less rest =
      put_behind e (filter q es) (filter p es) (behind_all e (filter q es) (each_filter (λ f. event_cmp e f ≡ Less) q es less)) ∙ ap (λ fs. e ∷ fs) rest
  one_put e es false true apart less rest =
      ap (put_events (filter q es)) (put_first e (filter p es) (each_filter (λ f. event_cmp e f ≡ Less) p es less))
      ∙ put_behind e (filter q es) (filter p es) (behind_all e (filter q es) (each_filter (λ f. event_cmp e f ≡ Less) q es less)) ∙ ap (λ fs. e ∷ fs) rest
  one_put e es false false apart less rest = rest

  pub put_filters : (es : List TimedEvent) → IsStrictlySortedBy event_cmp es → AllByRecursion (λ e. (p e && q e) ≡ false) es
      → put_events (filter q es) (filter p es) ≡ filter (λ e. p e || q e) es
  unfolding IsStrictlySortedBy
  put_filters [] rise apart = refl
  put_filters (e ∷ es) rise apart = one_put e es (p e) (q e) apart.0 rise.0 (put_filters es rise.1 apart.1)
