-- What a session listens to, changed where it stands.
use Rattle.std.proofs.Common.{◌≡◌, ℕ, ◌+◌, Bool, true, false, cond, List, [], ◌∷◌, get_or, map, set, Option, Some, None, option_map, refl, sym, ap, ◌∙◌, subst}
use Rattle.std.specs.Prelude.{◌==◌, remove}
use Rattle.std.proofs.Math.Seq.{map-set_same}
use Rattle.fs_machine.proofs.Places.{next_place, none_there}
use Rattle.fs_sessions.specs.Heard.{Heard, heard_in, heard_of, with_heard, without_heard}
use Rattle.fs_sessions.specs.Place.{ear_in}
use Rattle.fs_sessions.specs.declared.listeners.Ear.{Ear}

abbrev heard_by : List Ear → List Heard
heard_by es = map heard_of es

-- the place of a session, by whether the first is its
abbrev Placed : ℕ → Bool → List Ear → Option ℕ
Placed session b es = cond b (Some 0) (option_map (λ place. place + 1) (ear_in session (heard_by es)))

-- ---- where it stands

module _ (session : ℕ) (f : Heard → Heard) (d g : Ear) where
  changed_next : (e : Ear) (es : List Ear) (i : ℕ) (b : Bool) → Placed session b es ≡ Some i → heard_of g ≡ f (heard_of (get_or (e ∷ es) i d))
      → ((j : ℕ) → ear_in session (heard_by es) ≡ Some j → heard_of g ≡ f (heard_of (get_or es j d)) → with_heard session f (heard_by es) ≡ heard_by (set es j g))
      → cond b (f (heard_of e) ∷ heard_by es) (heard_of e ∷ with_heard session f (heard_by es)) ≡ heard_by (set (e ∷ es) i g)
  changed_next e es i true h is more =
      let at : 0 ≡ i = cc in
      subst (λ (j : ℕ). heard_of g ≡ f (heard_of (get_or (e ∷ es) j d)) → f (heard_of e) ∷ heard_by es ≡ heard_by (set (e ∷ es) j g)) at
      (λ here. ap (λ x. x ∷ heard_by es) (sym here)) is
  changed_next e es i false h is more =
      let n = next_place (ear_in session (heard_by es)) i h in
      subst (λ (j : ℕ). heard_of g ≡ f (heard_of (get_or (e ∷ es) j d)) → heard_of e ∷ with_heard session f (heard_by es) ≡ heard_by (set (e ∷ es) j g)) (sym n.2)
      (λ here. ap (λ hs. heard_of e ∷ hs) (more n.0 n.1 here)) is

  changed_at : (es : List Ear) (i : ℕ) → ear_in session (heard_by es) ≡ Some i → heard_of g ≡ f (heard_of (get_or es i d)) → with_heard session f (heard_by es) ≡ heard_by (set es i g)
  changed_at [] i h is = absurd (cc)
  changed_at (e ∷ es) i h is = changed_next e es i (e.session == session) h is (changed_at es)

module _ (session : ℕ) where
  unchanged_next : (f : Heard → Heard) (e : Ear) (es : List Ear) (b : Bool) → Placed session b es ≡ None → (ear_in session (heard_by es) ≡ None → with_heard session f (heard_by es) ≡ heard_by es)
      → cond b (f (heard_of e) ∷ heard_by es) (heard_of e ∷ with_heard session f (heard_by es)) ≡ heard_by (e ∷ es)
  unchanged_next f e es true h more = absurd (cc)
  unchanged_next f e es false h more = ap (λ hs. heard_of e ∷ hs) (more (none_there (ear_in session (heard_by es)) h))

  unchanged : (f : Heard → Heard) (es : List Ear) → ear_in session (heard_by es) ≡ None → with_heard session f (heard_by es) ≡ heard_by es
  unchanged f [] h = refl
  unchanged f (e ∷ es) h = unchanged_next f e es (e.session == session) h (unchanged f es)

  found_next : (e : Ear) (es : List Ear) (i : ℕ) (d : Ear) (b : Bool) → Placed session b es ≡ Some i
      → ((j : ℕ) → ear_in session (heard_by es) ≡ Some j → heard_in session (heard_by es) ≡ Some (heard_of (get_or es j d)))
      → cond b (Some (heard_of e)) (heard_in session (heard_by es)) ≡ Some (heard_of (get_or (e ∷ es) i d))
  found_next e es i d true h more = let at : 0 ≡ i = cc in subst (λ (j : ℕ). Some (heard_of e) ≡ Some (heard_of (get_or (e ∷ es) j d))) at refl
  found_next e es i d false h more =
      let n = next_place (ear_in session (heard_by es)) i h in
      subst (λ (j : ℕ). heard_in session (heard_by es) ≡ Some (heard_of (get_or (e ∷ es) j d))) (sym n.2) (more n.0 n.1)

  found_at : (es : List Ear) (i : ℕ) (d : Ear) → ear_in session (heard_by es) ≡ Some i → heard_in session (heard_by es) ≡ Some (heard_of (get_or es i d))
  found_at [] i d h = absurd (cc)
  found_at (e ∷ es) i d h = found_next e es i d (e.session == session) h (λ j. found_at es j d)

  none_next : (e : Ear) (es : List Ear) (b : Bool) → Placed session b es ≡ None → (ear_in session (heard_by es) ≡ None → heard_in session (heard_by es) ≡ None)
      → cond b (Some (heard_of e)) (heard_in session (heard_by es)) ≡ None
  none_next e es true h more = absurd (cc)
  none_next e es false h more = more (none_there (ear_in session (heard_by es)) h)

  none_found : (es : List Ear) → ear_in session (heard_by es) ≡ None → heard_in session (heard_by es) ≡ None
  none_found [] h = refl
  none_found (e ∷ es) h = none_next e es (e.session == session) h (none_found es)

  removed_next : (e : Ear) (es : List Ear) (i : ℕ) (b : Bool) → Placed session b es ≡ Some i
      → ((j : ℕ) → ear_in session (heard_by es) ≡ Some j → without_heard session (heard_by es) ≡ heard_by (remove es j))
      → cond b (heard_by es) (heard_of e ∷ without_heard session (heard_by es)) ≡ heard_by (remove (e ∷ es) i)
  removed_next e es i true h more = let at : 0 ≡ i = cc in subst (λ (j : ℕ). heard_by es ≡ heard_by (remove (e ∷ es) j)) at refl
  removed_next e es i false h more =
      let n = next_place (ear_in session (heard_by es)) i h in
      subst (λ (j : ℕ). heard_of e ∷ without_heard session (heard_by es) ≡ heard_by (remove (e ∷ es) j)) (sym n.2) (ap (λ hs. heard_of e ∷ hs) (more n.0 n.1))

  removed_at : (es : List Ear) (i : ℕ) → ear_in session (heard_by es) ≡ Some i → without_heard session (heard_by es) ≡ heard_by (remove es i)
  removed_at [] i h = absurd (cc)
  removed_at (e ∷ es) i h = removed_next e es i (e.session == session) h (removed_at es)

  kept_next : (e : Ear) (es : List Ear) (b : Bool) → Placed session b es ≡ None → (ear_in session (heard_by es) ≡ None → without_heard session (heard_by es) ≡ heard_by es)
      → cond b (heard_by es) (heard_of e ∷ without_heard session (heard_by es)) ≡ heard_by (e ∷ es)
  kept_next e es true h more = absurd (cc)
  kept_next e es false h more = ap (λ hs. heard_of e ∷ hs) (more (none_there (ear_in session (heard_by es)) h))

  none_removed : (es : List Ear) → ear_in session (heard_by es) ≡ None → without_heard session (heard_by es) ≡ heard_by es
  none_removed [] h = refl
  none_removed (e ∷ es) h = kept_next e es (e.session == session) h (none_removed es)

-- ---- the same, as the code has it

module _ (session : ℕ) (items slice : List Ear) (list : List Heard) (of : slice ≡ items) (is : heard_by items ≡ list) where
  placed_at : (o : Option ℕ) → o ≡ ear_in session (heard_by slice) → ear_in session (heard_by items) ≡ o
  placed_at o at = ap (λ es. ear_in session (heard_by es)) (sym of) ∙ sym at

  pub changed_here : (f : Heard → Heard) (i : ℕ) (e g : Ear) → Some i ≡ ear_in session (heard_by slice) → e ≡ get_or items i e → heard_of g ≡ f (heard_of e)
      → heard_by (set items i g) ≡ with_heard session f list
  changed_here f i e g at here changed =
      sym (changed_at session f e g items i (placed_at (Some i) at) (changed ∙ ap (λ (x : Ear). f (heard_of x)) here)) ∙ ap (with_heard session f) is

  pub unchanged_here : (f : Heard → Heard) → None ≡ ear_in session (heard_by slice) → list ≡ with_heard session f list
  unchanged_here f at = sym is ∙ sym (unchanged session f items (placed_at None at)) ∙ ap (with_heard session f) is

  pub same_here : (i : ℕ) (e g : Ear) → e ≡ get_or items i e → heard_of g ≡ heard_of e → heard_by (set items i g) ≡ list
  same_here i e g here same = map-set_same heard_of items i g e (same ∙ ap heard_of here) ∙ is

  pub found_here : (i : ℕ) (e : Ear) → Some i ≡ ear_in session (heard_by slice) → e ≡ get_or items i e → Some (heard_of e) ≡ heard_in session list
  found_here i e at here = ap (λ (x : Ear). Some (heard_of x)) here ∙ sym (found_at session items i e (placed_at (Some i) at)) ∙ ap (heard_in session) is

  pub none_here : None ≡ ear_in session (heard_by slice) → None ≡ heard_in session list
  none_here at = sym (none_found session items (placed_at None at)) ∙ ap (heard_in session) is

  pub removed_here : (i : ℕ) → Some i ≡ ear_in session (heard_by slice) → heard_by (remove items i) ≡ without_heard session list
  removed_here i at = sym (removed_at session items i (placed_at (Some i) at)) ∙ ap (without_heard session) is

  pub none_removed_here : None ≡ ear_in session (heard_by slice) → list ≡ without_heard session list
  none_removed_here at = sym is ∙ sym (none_removed session items (placed_at None at)) ∙ ap (without_heard session) is
