-- A session's messages, and whether it has owned a stream, changed where it stands.
use Rattle.std.proofs.Common.{◌≡◌, ℕ, ◌+◌, Bool, true, false, cond, List, [], ◌∷◌, ◌++◌, get_or, set, Option, Some, None, option_map, refl, sym, ap, ◌∙◌, subst, arith}
use Rattle.std.specs.Prelude.{◌==◌, remove}
use Rattle.std.proofs.lemmas.Grind.{common_steps}
use Rattle.fs_request.specs.declared.message.Message.{Message}
use Rattle.fs_machine.specs.Sessions.{outbox_in, delivered, has_owned, owning, with_outbox, without}
use Rattle.fs_machine.specs.declared.session.Session.{Session}
use Rattle.fs_machine.proofs.Places.{next_place, none_there}
use Rattle.fs_sessions.specs.Place.{place_in, taken_back, without_last}

abbrev Changed : (List Message → List Message) → Session → Session
Changed f s = record s { outbox = f s.outbox }

abbrev Owns : Session → Session
Owns s = record s { has_owned = true }

-- the place of a number, by whether the first session has it
abbrev Placed : ℕ → Bool → List Session → Option ℕ
Placed number b ts = cond b (Some 0) (option_map (λ place. place + 1) (place_in number ts))

-- ---- where it stands

module _ (number : ℕ) (change : Session → Session) where
  set_next : (t : Session) (ts changed : List Session) (i : ℕ) (d : Session) (b : Bool) → Placed number b ts ≡ Some i → ((j : ℕ) → place_in number ts ≡ Some j → changed ≡ set ts j (change (get_or ts j d)))
      → cond b (change t ∷ ts) (t ∷ changed) ≡ set (t ∷ ts) i (change (get_or (t ∷ ts) i d))
  set_next t ts changed i d true h more = let e : 0 ≡ i = cc in subst (λ (j : ℕ). change t ∷ ts ≡ set (t ∷ ts) j (change (get_or (t ∷ ts) j d))) e refl
  set_next t ts changed i d false h more =
      let n = next_place (place_in number ts) i h in
      subst (λ (j : ℕ). t ∷ changed ≡ set (t ∷ ts) j (change (get_or (t ∷ ts) j d))) (sym n.2) (ap (λ us. t ∷ us) (more n.0 n.1))

  kept_next : (t : Session) (ts changed : List Session) (b : Bool) → Placed number b ts ≡ None → (place_in number ts ≡ None → changed ≡ ts) → cond b (change t ∷ ts) (t ∷ changed) ≡ t ∷ ts
  kept_next t ts changed true h more = absurd (cc)
  kept_next t ts changed false h more = ap (λ us. t ∷ us) (more (none_there (place_in number ts) h))

module _ {X : Type 0} (number : ℕ) (part : Session → X) where
  part_next : (t : Session) (ts : List Session) (rest : X) (i : ℕ) (d : Session) (b : Bool) → Placed number b ts ≡ Some i → ((j : ℕ) → place_in number ts ≡ Some j → rest ≡ part (get_or ts j d))
      → cond b (part t) rest ≡ part (get_or (t ∷ ts) i d)
  part_next t ts rest i d true h more = let e : 0 ≡ i = cc in subst (λ (j : ℕ). part t ≡ part (get_or (t ∷ ts) j d)) e refl
  part_next t ts rest i d false h more =
      let n = next_place (place_in number ts) i h in
      subst (λ (j : ℕ). rest ≡ part (get_or (t ∷ ts) j d)) (sym n.2) (more n.0 n.1)

  no_part_next : (t : Session) (ts : List Session) (rest none : X) (b : Bool) → Placed number b ts ≡ None → (place_in number ts ≡ None → rest ≡ none) → cond b (part t) rest ≡ none
  no_part_next t ts rest none true h more = absurd (cc)
  no_part_next t ts rest none false h more = more (none_there (place_in number ts) h)

module _ (number : ℕ) (f : List Message → List Message) where
  changed_at : (list : List Session) (d : Session) (i : ℕ) → place_in number list ≡ Some i → with_outbox number f list ≡ set list i (Changed f (get_or list i d))
  changed_at [] d i h = absurd (cc)
  changed_at (t ∷ ts) d i h = set_next number (Changed f) t ts (with_outbox number f ts) i d (t.number == number) h (changed_at ts d)

  unchanged : (list : List Session) → place_in number list ≡ None → with_outbox number f list ≡ list
  unchanged [] h = refl
  unchanged (t ∷ ts) h = kept_next number (Changed f) t ts (with_outbox number f ts) (t.number == number) h (unchanged ts)

module _ (number : ℕ) where
  owning_at : (list : List Session) (d : Session) (i : ℕ) → place_in number list ≡ Some i → owning number list ≡ set list i (Owns (get_or list i d))
  owning_at [] d i h = absurd (cc)
  owning_at (t ∷ ts) d i h = set_next number Owns t ts (owning number ts) i d (t.number == number) h (owning_at ts d)

  none_owning : (list : List Session) → place_in number list ≡ None → owning number list ≡ list
  none_owning [] h = refl
  none_owning (t ∷ ts) h = kept_next number Owns t ts (owning number ts) (t.number == number) h (none_owning ts)

  owned_at : (list : List Session) (d : Session) (i : ℕ) → place_in number list ≡ Some i → has_owned number list ≡ (get_or list i d).has_owned
  owned_at [] d i h = absurd (cc)
  owned_at (t ∷ ts) d i h = part_next number (λ (x : Session). x.has_owned) t ts (has_owned number ts) i d (t.number == number) h (owned_at ts d)

  not_owned : (list : List Session) → place_in number list ≡ None → has_owned number list ≡ false
  not_owned [] h = refl
  not_owned (t ∷ ts) h = no_part_next number (λ (x : Session). x.has_owned) t ts (has_owned number ts) false (t.number == number) h (not_owned ts)

  outbox_at : (list : List Session) (d : Session) (i : ℕ) → place_in number list ≡ Some i → outbox_in number list ≡ (get_or list i d).outbox
  outbox_at [] d i h = absurd (cc)
  outbox_at (t ∷ ts) d i h = part_next number (λ (x : Session). x.outbox) t ts (outbox_in number ts) i d (t.number == number) h (outbox_at ts d)

  no_outbox : (list : List Session) → place_in number list ≡ None → outbox_in number list ≡ []
  no_outbox [] h = refl
  no_outbox (t ∷ ts) h = no_part_next number (λ (x : Session). x.outbox) t ts (outbox_in number ts) [] (t.number == number) h (no_outbox ts)

  removed_next : (t : Session) (ts : List Session) (i : ℕ) (b : Bool) → Placed number b ts ≡ Some i → ((j : ℕ) → place_in number ts ≡ Some j → without number ts ≡ remove ts j)
      → cond b ts (t ∷ without number ts) ≡ remove (t ∷ ts) i
  removed_next t ts i true h more = let e : 0 ≡ i = cc in subst (λ (j : ℕ). ts ≡ remove (t ∷ ts) j) e refl
  removed_next t ts i false h more =
      let n = next_place (place_in number ts) i h in
      subst (λ (j : ℕ). t ∷ without number ts ≡ remove (t ∷ ts) j) (sym n.2) (ap (λ us. t ∷ us) (more n.0 n.1))

  pub removed_at : (list : List Session) (i : ℕ) → place_in number list ≡ Some i → without number list ≡ remove list i
  removed_at [] i h = absurd (cc)
  removed_at (t ∷ ts) i h = removed_next t ts i (t.number == number) h (removed_at ts)

  none_removed_next : (t : Session) (ts : List Session) (b : Bool) → Placed number b ts ≡ None → (place_in number ts ≡ None → without number ts ≡ ts) → cond b ts (t ∷ without number ts) ≡ t ∷ ts
  none_removed_next t ts true h more = absurd (cc)
  none_removed_next t ts false h more = ap (λ us. t ∷ us) (more (none_there (place_in number ts) h))

  pub none_removed : (list : List Session) → place_in number list ≡ None → without number list ≡ list
  none_removed [] h = refl
  none_removed (t ∷ ts) h = none_removed_next t ts (t.number == number) h (none_removed ts)

-- ---- a message that is taken back

last_gone : (ms : List Message) (m : Message) → without_last (ms ++ m ∷ []) ≡ ms
last_gone ms m = grind (arith, common_steps)

back_next : (number : ℕ) (m : Message) (t : Session) (ts : List Session) (b : Bool) → (t.number == number) ≡ b → taken_back number (delivered number m ts) ≡ ts
    → with_outbox number without_last (cond b (Changed (λ ms. ms ++ m ∷ []) t ∷ ts) (t ∷ delivered number m ts)) ≡ t ∷ ts
back_next number m t ts true is more = rw is (ap (λ ms. record t { outbox = ms } ∷ ts) (last_gone t.outbox m))
back_next number m t ts false is more = rw is (ap (λ us. t ∷ us) more)

pub delivered_and_taken_back : (number : ℕ) (m : Message) (list : List Session) → taken_back number (delivered number m list) ≡ list
delivered_and_taken_back number m [] = refl
delivered_and_taken_back number m (t ∷ ts) = back_next number m t ts (t.number == number) refl (delivered_and_taken_back number m ts)

-- ---- the same, as the code has it

module _ (number : ℕ) (items list slice : List Session) (of : slice ≡ items) (is : items ≡ list) where
  placed_at : (o : Option ℕ) → o ≡ place_in number slice → place_in number items ≡ o
  placed_at o at = ap (place_in number) (sym of) ∙ sym at

  pub changed_here : (f : List Message → List Message) (i : ℕ) (s : Session) (ms : List Message) → Some i ≡ place_in number slice → s ≡ get_or items i s → ms ≡ f s.outbox
      → set items i (record { number = s.number; outbox = ms; has_owned = s.has_owned }) ≡ with_outbox number f list
  changed_here f i s ms at here changed =
      ap (λ (x : List Message). set items i (record { number = s.number; outbox = x; has_owned = s.has_owned })) changed
      ∙ ap (λ (x : Session). set items i (Changed f x)) here
      ∙ sym (changed_at number f items s i (placed_at (Some i) at))
      ∙ ap (with_outbox number f) is

  pub unchanged_here : (f : List Message → List Message) → None ≡ place_in number slice → list ≡ with_outbox number f list
  unchanged_here f at = sym (unchanged number f list (ap (place_in number) (sym is) ∙ placed_at None at))

  pub outbox_here : (i : ℕ) (s : Session) → Some i ≡ place_in number slice → s ≡ get_or items i s → s.outbox ≡ outbox_in number list
  outbox_here i s at here = ap (λ (x : Session). x.outbox) here ∙ sym (outbox_at number items s i (placed_at (Some i) at)) ∙ ap (outbox_in number) is

  pub no_outbox_here : None ≡ place_in number slice → [] ≡ outbox_in number list
  no_outbox_here at = sym (no_outbox number list (ap (place_in number) (sym is) ∙ placed_at None at))

  pub owning_here : (i : ℕ) (s : Session) → Some i ≡ place_in number slice → s ≡ get_or items i s → set items i (record { number = s.number; outbox = s.outbox; has_owned = true }) ≡ owning number list
  owning_here i s at here = ap (λ (x : Session). set items i (Owns x)) here ∙ sym (owning_at number items s i (placed_at (Some i) at)) ∙ ap (owning number) is

  pub none_owning_here : None ≡ place_in number slice → list ≡ owning number list
  none_owning_here at = sym (none_owning number list (ap (place_in number) (sym is) ∙ placed_at None at))

  pub owned_here : (i : ℕ) (s : Session) → Some i ≡ place_in number slice → s ≡ get_or items i s → s.has_owned ≡ has_owned number list
  owned_here i s at here = ap (λ (x : Session). x.has_owned) here ∙ sym (owned_at number items s i (placed_at (Some i) at)) ∙ ap (has_owned number) is

  pub not_owned_here : None ≡ place_in number slice → false ≡ has_owned number list
  not_owned_here at = sym (not_owned number list (ap (place_in number) (sym is) ∙ placed_at None at))

  pub removed_here : (i : ℕ) → Some i ≡ place_in number slice → remove items i ≡ without number list
  removed_here i at = sym (removed_at number items i (placed_at (Some i) at)) ∙ ap (without number) is

  pub none_removed_here : None ≡ place_in number slice → list ≡ without number list
  none_removed_here at = sym (none_removed number list (ap (place_in number) (sym is) ∙ placed_at None at))
