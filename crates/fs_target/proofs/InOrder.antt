-- Events in order, and one that is put at its place among them.
use Rattle.std.proofs.Common.{◌≡◌, ℕ, zero, suc, ◌<◌, ◌≤◌, ℤ, ◌<ℤ◌, Bool, true, false, cond, not, List, [], ◌∷◌, length, get_or, Ordering, Less, Equal, Greater, refl, sym, ap, ◌∙◌, arith}
use Rattle.std.proofs.Math.ListN.{set}
use Rattle.std.specs.Prelude.{insert, int_le}
use Rattle.std.specs.Cmp.{IsTotalOrder}
use Rattle.std.specs.List.{AllByRecursion, filter}
use Rattle.std.specs.List.Sorted.{IsPartitionPoint, IsPartitionedBy}
use Rattle.std.specs.Ordering.{int_cmp, is_lt, ordering_reverse, ordering_then}
use Rattle.std.proofs.lemmas.Cmp.{alike_right, int_cmp_total, int_ranked, on_total, then_total}
use Rattle.std.proofs.lemmas.Int.{ints}
use Rattle.fs_path.specs.NameOrder.{name_cmp, name_cmp_total}
use Rattle.fs_target.specs.Room.{AreInOrder}
use Rattle.fs_target.specs.Staged.{event_cmp, put_event, put_events}
use Rattle.fs_target.specs.declared.event.TimedEvent.{TimedEvent}
use Rattle.fs_target.proofs.Each.{each_at, each_filter, each_set, each_weaker}

-- what isn't before a time is up to it
pub not_before : (s t : ℤ) (r : Ordering) → r ≡ int_cmp s t → is_lt r ≡ false → int_le t s ≡ true
not_before s t Less is less = absurd (cc)
not_before s t Equal is less = let same : s ≡ t = int_ranked s t Equal is in grind (arith, ints)
not_before s t Greater is less = let later : t <ℤ s = int_ranked s t Greater is in grind (arith, ints)

-- ---- their order

event_total : IsTotalOrder event_cmp
event_total = then_total (on_total (λ (e : TimedEvent). e.time) int_cmp_total) (on_total (λ (e : TimedEvent). e.name) name_cmp_total)

is_less : (r : Ordering) → is_lt r ≡ true → r ≡ Less
is_less Less is = refl
is_less Equal is = absurd (cc)
is_less Greater is = absurd (cc)

-- of two events one isn't before the other
pub one_way : (e f : TimedEvent) → is_lt (event_cmp e f) ≡ true → is_lt (event_cmp f e) ≡ false
one_way e f less = ap is_lt (event_total.antisymm f e ∙ ap ordering_reverse (is_less (event_cmp e f) less))

-- what is before an event is before one that isn't before that
before_later : (e f g : TimedEvent) → is_lt (event_cmp e f) ≡ true → is_lt (event_cmp g f) ≡ false → is_lt (event_cmp e g) ≡ true
before_later e f g less later = by_cmp (event_cmp g f) refl later where
  by_cmp : (r : Ordering) → event_cmp g f ≡ r → is_lt r ≡ false → is_lt (event_cmp e g) ≡ true
  by_cmp Less is not_less = absurd (cc)
  by_cmp Equal is not_less = ap is_lt (alike_right event_total g f e is) ∙ less
  by_cmp Greater is not_less = ap is_lt (event_total.trans e f g (is_less (event_cmp e f) less) (event_total.antisymm f g ∙ ap ordering_reverse is))

not_before_earlier : (e f g : TimedEvent) → is_lt (event_cmp e f) ≡ true → is_lt (event_cmp g f) ≡ false → is_lt (event_cmp g e) ≡ false
not_before_earlier e f g less later = one_way e g (before_later e f g less later)

-- ---- an event at its place

each_put : (P : TimedEvent → Type 0) (e : TimedEvent) (es : List TimedEvent) → P e → AllByRecursion P es → AllByRecursion P (put_event e es)
each_put P e [] here all = (here, tt)
each_put P e (f ∷ fs) here all = one (is_lt (event_cmp e f)) (each_put P e fs here all.1) where
  one : (b : Bool) → AllByRecursion P (put_event e fs) → AllByRecursion P (cond b (e ∷ f ∷ fs) (f ∷ put_event e fs))
  one true rest = (here, all)
  one false rest = (all.0, rest)

pub each_put_all : (P : TimedEvent → Type 0) (es staged : List TimedEvent) → AllByRecursion P es → AllByRecursion P staged → AllByRecursion P (put_events es staged)
each_put_all P [] staged all had = had
each_put_all P (e ∷ es) staged all had = each_put_all P es (put_event e staged) all.1 (each_put P e staged all.0 had)

pub order_put : (e : TimedEvent) (es : List TimedEvent) → AreInOrder es → AreInOrder (put_event e es)
order_put e [] order = (tt, tt)
order_put e (f ∷ fs) order = one (is_lt (event_cmp e f)) refl (order_put e fs order.1) where
  one : (b : Bool) → is_lt (event_cmp e f) ≡ b → AreInOrder (put_event e fs) → AreInOrder (cond b (e ∷ f ∷ fs) (f ∷ put_event e fs))
  one true less rest = (
    (one_way e f less, each_weaker (λ (g : TimedEvent). is_lt (event_cmp g f) ≡ false) (λ (g : TimedEvent). is_lt (event_cmp g e) ≡ false) (λ g later. not_before_earlier e f g less later) fs order.0),
    order,
  )
  one false less rest = (each_put (λ (g : TimedEvent). is_lt (event_cmp g f) ≡ false) e fs less order.0, rest)

-- those that an event isn't before stand in front
abbrev pub comes_behind : TimedEvent → TimedEvent → Bool
comes_behind e f = not (is_lt (event_cmp e f))

pub not_true : (b : Bool) → not b ≡ true → b ≡ false
not_true true is = absurd (cc)
not_true false is = refl

not_false : (b : Bool) → not b ≡ false → b ≡ true
not_false true is = refl
not_false false is = absurd (cc)

first_passes : (e f g : TimedEvent) (b : Bool) → is_lt (event_cmp e f) ≡ b → is_lt (event_cmp g f) ≡ false → comes_behind e g ≡ true → not b ≡ true
first_passes e f g true less later passes = absurd (let both : true ≡ false = sym (before_later e f g less later) ∙ not_true (is_lt (event_cmp e g)) passes in cc)
first_passes e f g false less later passes = refl

pub partitioned : (e : TimedEvent) (es : List TimedEvent) → AreInOrder es → IsPartitionedBy (comes_behind e) es
partitioned e [] order i j d low within passes = absurd (omega arith)
partitioned e (f ∷ fs) order zero zero d low within passes = passes
partitioned e (f ∷ fs) order zero (suc j) d low within passes =
    first_passes e f (get_or fs j d) (is_lt (event_cmp e f)) refl (each_at (λ (g : TimedEvent). is_lt (event_cmp g f) ≡ false) fs j d (omega arith) order.0) passes
partitioned e (f ∷ fs) order (suc i) zero d low within passes = absurd (omega arith)
partitioned e (f ∷ fs) order (suc i) (suc j) d low within passes = partitioned e fs order.1 i j d (omega arith) (omega arith) passes

pub put_at : (e : TimedEvent) (es : List TimedEvent) (i : ℕ) → i ≤ length es → IsPartitionPoint (λ f. comes_behind e f ≡ true) (λ f. comes_behind e f ≡ false) es i
    → insert es i e ≡ put_event e es
put_at e [] zero within parts = refl
put_at e [] (suc i) within parts = absurd (omega arith)
put_at e (f ∷ fs) zero within parts =
    ap (λ b. cond b (e ∷ f ∷ fs) (f ∷ put_event e fs)) (sym (not_false (is_lt (event_cmp e f)) (parts.1 0 f (omega arith) (omega arith))))
put_at e (f ∷ fs) (suc i) within parts =
    ap (λ es. f ∷ es)
    (put_at e fs i (omega arith) (
      λ k d low high. parts.0 (suc k) d (omega arith) (omega arith),
      λ k d low high. parts.1 (suc k) d (omega arith) (omega arith),
    ))
    ∙ ap (λ b. cond b (e ∷ f ∷ fs) (f ∷ put_event e fs)) (sym (not_true (is_lt (event_cmp e f)) (parts.0 0 f (omega arith) (omega arith))))

-- ---- what keeps them in order

pub order_filter : (p : TimedEvent → Bool) (es : List TimedEvent) → AreInOrder es → AreInOrder (filter p es)
order_filter p [] order = tt
order_filter p (e ∷ es) order = one (p e) (order_filter p es order.1) where
  one : (b : Bool) → AreInOrder (filter p es) → AreInOrder (cond b (e ∷ filter p es) (filter p es))
  one true rest = (each_filter (λ (f : TimedEvent). is_lt (event_cmp f e) ≡ false) p es order.0, rest)
  one false rest = rest

-- another event of the same time and name at a place
same_right : (e f g : TimedEvent) → f.time ≡ e.time → f.name ≡ e.name → event_cmp g f ≡ event_cmp g e
same_right e f g time name = λ i. ordering_then (int_cmp g.time (time i)) (name_cmp g.name (name i))

same_left : (e f g : TimedEvent) → f.time ≡ e.time → f.name ≡ e.name → event_cmp f g ≡ event_cmp e g
same_left e f g time name = λ i. ordering_then (int_cmp (time i) g.time) (name_cmp (name i) g.name)

pub order_set : (es : List TimedEvent) (i : ℕ) (f d : TimedEvent) → i < length es → f.time ≡ (get_or es i d).time → f.name ≡ (get_or es i d).name → AreInOrder es → AreInOrder (set es i f)
order_set [] i f d within time name order = absurd (omega arith)
order_set (e ∷ es) zero f d within time name order = (
  each_weaker (λ (g : TimedEvent). is_lt (event_cmp g e) ≡ false) (λ (g : TimedEvent). is_lt (event_cmp g f) ≡ false) (λ g later. ap is_lt (same_right e f g time name) ∙ later) es order.0,
  order.1,
)
order_set (e ∷ es) (suc i) f d within time name order = (
  each_set (λ (g : TimedEvent). is_lt (event_cmp g e) ≡ false) es i f d (omega arith) (λ later. ap is_lt (same_left (get_or es i d) f e time name) ∙ later) order.0,
  order_set es i f d (omega arith) time name order.1,
)
