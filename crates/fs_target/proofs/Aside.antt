-- Events that are put among others, of which the last are set aside: what is there of both is the first, and then the second, the last first.
use Rattle.std.proofs.Common.{◌≡◌, ℕ, zero, suc, ℤ, ◌+◌, ◌-◌, ◌<◌, Bool, true, false, cond, List, [], ◌∷◌, ◌++◌, length, get_or, Some, None, Ordering, Less, Equal, Greater, refl, sym, ap, ◌∙◌, append_assoc, arith}
use Rattle.std.specs.Prelude.{int_le, int_lt, reverse, slice_get}
use Rattle.std.specs.Ordering.{int_cmp, is_lt, ordering_then}
use Rattle.std.proofs.lemmas.Int.{ints}
use Rattle.std.proofs.lemmas.List.{get_or-reverse, length-reverse, reverse-append}
use Rattle.std.proofs.lemmas.Option.{get_or_from_slice_get, slice_get-get_or, slice_get_within}
use Rattle.fs_path.specs.NameOrder.{name_cmp}
use Rattle.fs_target.specs.Room.{AreInOrder, is_before_first}
use Rattle.fs_target.specs.Staged.{behind, event_cmp, put_event}
use Rattle.fs_target.specs.declared.event.TimedEvent.{TimedEvent}
use Rattle.fs_target.proofs.Each.{each_at, each_before}
use Rattle.fs_target.proofs.InOrder.{not_before}

-- ---- the last of some goes over to others

pub moved : (xs ys : List TimedEvent) (x : TimedEvent) → xs ++ reverse (ys ++ x ∷ []) ≡ (xs ++ x ∷ []) ++ reverse ys
moved xs ys x = ap (λ zs. xs ++ zs) (reverse-append ys (x ∷ [])) ∙ sym (append_assoc xs (x ∷ []) (reverse ys))

-- ---- an event in front of those that are set aside

before_at : (e : TimedEvent) (es : List TimedEvent) (d : TimedEvent) → 0 < length es → is_before_first e es ≡ is_lt (event_cmp e (get_or es 0 d))
before_at e [] d some = absurd (omega arith)
before_at e (f ∷ fs) d some = refl

before_last : (e : TimedEvent) (es : List TimedEvent) (i : ℕ) (d : TimedEvent) → i + 1 ≡ length es → is_before_first e (reverse es) ≡ is_lt (event_cmp e (get_or es i d))
before_last e es i d last =
    let some : 0 < length (reverse es) = omega (arith, last, length-reverse es) in
    let at : length es - 1 - 0 ≡ i = omega (arith, last) in
    before_at e (reverse es) d some
    ∙ ap (λ f. is_lt (event_cmp e f)) (get_or-reverse es 0 d (omega (arith, last)))
    ∙ ap (λ k. is_lt (event_cmp e (get_or es k d))) at

-- the last of those that are set aside, if there is one
pub before_some : (e : TimedEvent) (es : List TimedEvent) (last : TimedEvent) → Some last ≡ slice_get es (length es - 1) → is_lt (event_cmp e last) ≡ is_before_first e (reverse es)
before_some e es last is =
    let within : length es - 1 < length es = slice_get_within es (length es - 1) last (sym is) in
    ap (λ f. is_lt (event_cmp e f)) (sym (get_or_from_slice_get es (length es - 1) last last (sym is)))
    ∙ sym (before_last e es (length es - 1) last (omega (arith, within)))

pub before_none : (e : TimedEvent) (es : List TimedEvent) → None ≡ slice_get es (length es - 1) → true ≡ is_before_first e (reverse es)
before_none e [] is = refl
before_none e (f ∷ fs) is =
    let there : slice_get (f ∷ fs) (length (f ∷ fs) - 1) ≡ Some (get_or (f ∷ fs) (length (f ∷ fs) - 1) f) = slice_get-get_or (f ∷ fs) (length (f ∷ fs) - 1) f (omega arith) in
    absurd (let both : None ≡ Some (get_or (f ∷ fs) (length (f ∷ fs) - 1) f) = is ∙ there in cc)

pub put_before : (e : TimedEvent) (xs ys : List TimedEvent) → is_before_first e ys ≡ true → put_event e (xs ++ ys) ≡ put_event e xs ++ ys
put_before e [] [] before = refl
put_before e [] (y ∷ ys) before = ap (λ b. cond b (e ∷ y ∷ ys) (y ∷ put_event e ys)) before
put_before e (x ∷ xs) ys before = one (is_lt (event_cmp e x)) (put_before e xs ys before) where
  one : (b : Bool) → put_event e (xs ++ ys) ≡ put_event e xs ++ ys → cond b (e ∷ x ∷ (xs ++ ys)) (x ∷ put_event e (xs ++ ys)) ≡ cond b (e ∷ x ∷ xs) (x ∷ put_event e xs) ++ ys
  one true rest = refl
  one false rest = ap (λ zs. x ∷ zs) rest

pub order_front : (xs ys : List TimedEvent) → AreInOrder (xs ++ ys) → AreInOrder xs
order_front [] ys order = tt
order_front (x ∷ xs) ys order = (each_before (λ (f : TimedEvent). is_lt (event_cmp f x) ≡ false) xs ys order.0, order_front xs ys order.1)

-- ---- nothing behind a time

first_not : (r s : Ordering) → is_lt (ordering_then r s) ≡ false → is_lt r ≡ false
first_not Less s is = absurd (cc)
first_not Equal s is = refl
first_not Greater s is = refl

-- what another isn't before isn't later
not_later : (time : ℤ) (e f : TimedEvent) → is_lt (event_cmp f e) ≡ false → int_lt time f.time ≡ false → int_lt time e.time ≡ false
not_later time e f before low =
    let le : int_le e.time f.time ≡ true = not_before f.time e.time (int_cmp f.time e.time) refl (first_not (int_cmp f.time e.time) (name_cmp f.name e.name) before) in grind (arith, ints)

none_behind_last : (time : ℤ) (es : List TimedEvent) (i : ℕ) (d : TimedEvent) → i + 1 ≡ length es → AreInOrder es → int_lt time (get_or es i d).time ≡ false → behind time es ≡ []
none_behind_last time [] i d last order low = refl
none_behind_last time (e ∷ []) zero d last order low = ap (λ b. cond b (e ∷ []) []) low
none_behind_last time (e ∷ []) (suc i) d last order low = absurd (omega arith)
none_behind_last time (e ∷ f ∷ fs) zero d last order low = absurd (omega arith)
none_behind_last time (e ∷ f ∷ fs) (suc i) d last order low =
    let early : int_lt time e.time ≡ false =
    not_later time e (get_or (f ∷ fs) i d) (each_at (λ (g : TimedEvent). is_lt (event_cmp g e) ≡ false) (f ∷ fs) i d (omega arith) order.0) low in
    ap (λ b. cond b (e ∷ behind time (f ∷ fs)) (behind time (f ∷ fs))) early ∙ none_behind_last time (f ∷ fs) i d (omega arith) order.1 low

-- by the last, if there is one
pub none_behind : (time : ℤ) (es : List TimedEvent) (last : TimedEvent) → AreInOrder es → Some last ≡ slice_get es (length es - 1) → int_lt time last.time ≡ false → behind time es ≡ []
none_behind time es last order is low =
    let within : length es - 1 < length es = slice_get_within es (length es - 1) last (sym is) in
    none_behind_last time es (length es - 1) last (omega (arith, within)) order
    (ap (λ (e : TimedEvent). int_lt time e.time) (get_or_from_slice_get es (length es - 1) last last (sym is)) ∙ low)
