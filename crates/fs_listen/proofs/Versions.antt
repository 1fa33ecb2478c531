-- The versions of a name that a session was told never fall, over every run.
use Rattle.std.proofs.Common.{◌≡◌, ℕ, ℤ, ◌≤ℤ◌, ◌<ℤ◌, Bool, true, false, cond, List, [], ◌∷◌, ◌++◌, Option, Some, None, refl, sym, ap, ◌∙◌, subst, arith}
use Rattle.std.specs.Prelude.{IfSome, is_some}
use Rattle.std.specs.Cmp.{first_so}
use Rattle.std.specs.FinMap.{entries, get, values}
use Rattle.std.specs.List.{AllByRecursion, cons_option, flat_map}
use Rattle.std.proofs.lemmas.Int.{ints}
use Rattle.std.proofs.lemmas.List.{append-nil}
use Rattle.std.proofs.lemmas.List.Elements.{filter_map-append}
use Rattle.fs_path.specs.NameOrder.{name_eq, name_is}
use Rattle.fs_path.specs.declared.name.DocName.{DocName}
use Rattle.fs_query.specs.declared.listen.ListenMessage.{ListenMessage}
use Rattle.fs_query.specs.declared.listen.ListenMessage.TheVariants as message
use Rattle.fs_token.specs.Token.{token_of}
use Rattle.fs_value.specs.declared.document.Document.{Document}
use Rattle.fs_write.specs.Batch.{AreNamed, Docs}
use Rattle.fs_history.specs.History.{at, IsRising}
use Rattle.fs_history.specs.declared.batch.Batch.{Batch}
use Rattle.fs_listen.specs.Cuts.{base, cut, is_from, is_ready, is_ready_at, times_of}
use Rattle.fs_listen.specs.Gathered.{NeverFalls}
use Rattle.fs_listen.specs.Listening.{Listened, Listening, loaded_at, raised_to}
use Rattle.fs_listen.specs.Raised.{raised, views_of}
use Rattle.fs_listen.specs.Runs.{Event, World, adds, refuses, removes, loads, matches, raises, releases, compacts, May, MayAll, after, after_all, begun, is_lost, raising_at, reset_of, token_of_target}
use Rattle.fs_listen.specs.Sent.{current_from, new_targets, sent}
use Rattle.fs_listen.specs.Told.{Views, gone_from, having, is_differing, leaving, names_of, shown_in, told, told_of}
use Rattle.fs_listen.specs.Versions.{version_in, versions_told}
use Rattle.fs_listen.specs.declared.cut.Cut.{Cut}
use Rattle.fs_listen.specs.declared.cut.Cut.TheVariants.{At, Loading, NoTarget}
use Rattle.fs_listen.proofs.All.{all_append}
use Rattle.fs_listen.proofs.Bounds.{from_first}
use Rattle.fs_listen.proofs.Events.{IsTold, all_keep, all_there, at_more}
use Rattle.fs_listen.proofs.Names.{shown_there}
use Rattle.fs_listen.proofs.Sending.{all_later}
use Rattle.fs_listen.proofs.UpdateTimes.{version_at, versions_rise}

-- ---- lists of times

all_same : (ts : List ℤ) (v : ℤ) → AllByRecursion (λ u. u ≡ v) ts → AllByRecursion (λ u. u ≤ℤ v) ts
all_same [] v are = tt
all_same (t ∷ ts) v are = (subst (λ x. x ≤ℤ v) (sym are.0) (omega (arith, ints)), all_same ts v are.1)

above_one : (u v : ℤ) (ts : List ℤ) → u ≤ℤ v → AllByRecursion (λ t. t ≡ v) ts → AllByRecursion (λ t. u ≤ℤ t) ts
above_one u v [] by are = tt
above_one u v (t ∷ ts) by are = (subst (λ x. u ≤ℤ x) (sym are.0) by, above_one u v ts by are.1)

one_time_falls : (v : ℤ) (ts : List ℤ) → AllByRecursion (λ t. t ≡ v) ts → NeverFalls ts
one_time_falls v [] are = tt
one_time_falls v (t ∷ ts) are = (above_one t v ts (subst (λ x. x ≤ℤ v) (sym are.0) (omega (arith, ints))) are.1, one_time_falls v ts are.1)

-- times up to one, and then that one
then_falls : (v : ℤ) (ts us : List ℤ) → NeverFalls ts → AllByRecursion (λ t. t ≤ℤ v) ts → AllByRecursion (λ t. t ≡ v) us → NeverFalls (ts ++ us)
then_falls v [] us falls by are = one_time_falls v us are
then_falls v (t ∷ ts) us falls by are = (all_append (λ u. t ≤ℤ u) ts us falls.0 (above_one t v us by.0 are), then_falls v ts us falls.1 by.1 are)

-- ---- what a raise tells of a name is of its version then

module _ (name : DocName) (docs : Docs) (time : ℤ) (named : AreNamed docs) where
  abbrev AreOf : List ℤ → Type 0
  AreOf ts = AllByRecursion (λ t. t ≡ version_at time (get docs name)) ts

  one_or_none : (o : Option ℤ) → IfSome o (λ t. t ≡ version_at time (get docs name)) → (ms : List ListenMessage) (m : ListenMessage) → version_in name m ≡ o → AreOf (versions_told name ms) → AreOf (versions_told name (m ∷ ms))
  one_or_none o one ms m is rest = subst (λ x. AreOf (cons_option x (versions_told name ms))) (sym is) (by_option o one) where
    by_option : (x : Option ℤ) → IfSome x (λ t. t ≡ version_at time (get docs name)) → AreOf (cons_option x (versions_told name ms))
    by_option None none = rest
    by_option (Some t) is = (is, rest)

  changed_of : (d : Document) (ids left : List ℕ) → get docs d.name ≡ Some d → (same : Bool) → name_eq name d.name ≡ same → AreOf (versions_told name (message.Changed d ids left ∷ []))
  changed_of d ids left there true is =
      one_or_none (Some d.updated) (sym (ap (version_at time) (ap (get docs) (name_is name d.name is) ∙ there))) [] (message.Changed d ids left)
      (ap (λ b. cond b (Some d.updated) None) is) tt
  changed_of d ids left there false is = one_or_none None tt [] (message.Changed d ids left) (ap (λ b. cond b (Some d.updated) None) is) tt

  none_stands : (o : Option Document) → is_some o ≡ false → o ≡ None
  none_stands None is = refl
  none_stands (Some d) is = absurd (cc)

  deleted_of : (other : DocName) (left : List ℕ) → is_some (get docs other) ≡ false → (same : Bool) → name_eq name other ≡ same → AreOf (versions_told name (message.Deleted other time left ∷ []))
  deleted_of other left gone true is =
      one_or_none (Some time) (sym (ap (version_at time) (ap (get docs) (name_is name other is) ∙ none_stands (get docs other) gone))) [] (message.Deleted other time left)
      (ap (λ b. cond b (Some time) None) is) tt
  deleted_of other left gone false is = one_or_none None tt [] (message.Deleted other time left) (ap (λ b. cond b (Some time) None) is) tt

  gone_of : (other : DocName) (stands : Bool) (ls : List ℕ) → is_some (get docs other) ≡ stands → AreOf (versions_told name (gone_from stands time other ls))
  gone_of other stands [] is = tt
  gone_of other true (l ∷ ls) is = tt
  gone_of other false (l ∷ ls) is = deleted_of other (l ∷ ls) is (name_eq name other) refl

  module _ (vs : List Views) (agree : (other : DocName) → AllByRecursion (λ (v : Views). IfSome (get v.new other) (λ x. get docs other ≡ Some x)) vs) where
    own_name : (other : DocName) (d : Document) → get docs other ≡ Some d → get docs d.name ≡ Some d
    own_name other d is = ap (get docs) (subst (λ o. IfSome o (λ (e : Document). e.name ≡ other)) is (named other)) ∙ is

    told_one : (other : DocName) (shown : Option Document) → shown_in other vs ≡ shown → AreOf (versions_told name (told_of (is_some (get docs other)) time other shown vs))
    told_one other None is = gone_of other (is_some (get docs other)) (leaving other vs) refl
    told_one other (Some d) is = by_test (is_differing other vs) where
      by_test : (differs : Bool) → AreOf (versions_told name (cond differs (message.Changed d (having other vs) (leaving other vs) ∷ []) []))
      by_test true = changed_of d (having other vs) (leaving other vs) (own_name other d (shown_there docs other vs d (agree other) is)) (name_eq name d.name) refl
      by_test false = tt

    all_told : (names : List DocName) → AreOf (versions_told name (flat_map (λ other. told_of (is_some (get docs other)) time other (shown_in other vs) vs) names))
    all_told [] = tt
    all_told (n ∷ ns) =
        subst AreOf (sym (filter_map-append (version_in name) (told_of (is_some (get docs n)) time n (shown_in n vs) vs) (flat_map (λ other. told_of (is_some (get docs other)) time other (shown_in other vs) vs) ns)))
        (all_append (λ t. t ≡ version_at time (get docs name)) (versions_told name (told_of (is_some (get docs n)) time n (shown_in n vs) vs)) _ (told_one n (shown_in n vs) refl) (all_told ns))

    current_none : (ids : List ℕ) → versions_told name (current_from time ids) ≡ []
    current_none [] = refl
    current_none (id ∷ ids) = refl

    sent_of : (s : Listening) → AreOf (versions_told name (sent (λ other. is_some (get docs other)) time s vs))
    sent_of s =
        let rest = current_from time (new_targets s) ++ message.NoChange time (token_of time) ∷ [] in
        let none : versions_told name rest ≡ [] =
        filter_map-append (version_in name) (current_from time (new_targets s)) (message.NoChange time (token_of time) ∷ []) ∙ ap (λ ts. ts ++ []) (current_none (new_targets s)) in
        subst AreOf (sym (filter_map-append (version_in name) (told (λ other. is_some (get docs other)) time vs) rest ∙ ap (λ ts. versions_told name (told (λ other. is_some (get docs other)) time vs) ++ ts) none ∙ append-nil _))
        (all_told (names_of vs))

-- ---- the invariant

-- none is later than the version at the last raise
abbrev AreBefore : List Batch → DocName → Option ℤ → List ℤ → Type 0
AreBefore h name None ts = ts ≡ []
AreBefore h name (Some r) ts = AllByRecursion (λ t. t ≤ℤ version_at r (get (at h r) name)) ts

pub record AreRising (name : DocName) (w : World) : Type 0 where
  pub falls : NeverFalls (versions_told name w.said)
  pub before : AreBefore w.history name w.listening.raised (versions_told name w.said)

module _ (own_names : (h : List Batch) (t : ℤ) → AreNamed (at h t)) (shards : ℕ) (name : DocName) where
  -- what says nothing of a document
  says_none : (w : World) (s : Listening) (ms : List ListenMessage) → s.raised ≡ w.listening.raised → versions_told name ms ≡ [] → AreRising name w
      → AreRising name (record w { listening = s; said = w.said ++ ms })
  says_none w s ms same none is =
      let alike : versions_told name (w.said ++ ms) ≡ versions_told name w.said = filter_map-append (version_in name) w.said ms ∙ ap (λ ts. versions_told name w.said ++ ts) none ∙ append-nil (versions_told name w.said) in
      record {
        falls = subst NeverFalls (sym alike) is.falls;
        before = subst (λ o. AreBefore w.history name o (versions_told name (w.said ++ ms))) (sym same) (subst (AreBefore w.history name w.listening.raised) (sym alike) is.before);
      }

  load_raised : (id : ℕ) (time : ℤ) (reset : Bool) (o : Option Listened) (s : Listening) → (loaded_at shards time reset id o s).raised ≡ s.raised
  load_raised id time reset None s = refl
  load_raised id time reset (Some l) s = refl

  reset_none : (id : ℕ) (reset : Bool) → versions_told name (reset_of id reset) ≡ []
  reset_none id true = refl
  reset_none id false = refl

  -- ---- raising

  earlier : (h : List Batch) (time : ℤ) (o : Option ℤ) (ts : List ℤ) → IsRising h → IfSome o (λ r. r ≤ℤ time) → AreBefore h name o ts → AllByRecursion (λ t. t ≤ℤ version_at time (get (at h time) name)) ts
  earlier h time None ts rise last are = subst (AllByRecursion (λ t. t ≤ℤ version_at time (get (at h time) name))) (sym are) tt
  earlier h time (Some r) ts rise last are = all_later ts (version_at r (get (at h r) name)) (version_at time (get (at h time) name)) (versions_rise h r time name rise last) are

  raise_rises : (time : ℤ) (w : World) → IsRising w.history → is_ready_at w.listening (At time) ≡ true → AreRising name w
      → AreRising name (record w { listening = raised_to time w.listening; said = w.said ++ raised w.history time w.listening })
  raise_rises time w rise ready is =
      let new = versions_told name (raised w.history time w.listening) in
      let are = sent_of name (at w.history time) time (own_names w.history time) (views_of w.history time w.listening) (λ other. all_there w.history time w.listening other (entries w.listening.targets)) w.listening in
      let by = earlier w.history time w.listening.raised (versions_told name w.said) rise
      (from_first w.listening.raised (flat_map times_of (values w.listening.targets)) time (first_so (is_from (base w.listening) time) _ ready)) is.before in
      let both = filter_map-append (version_in name) w.said (raised w.history time w.listening) in
      record {
        falls = subst NeverFalls (sym both) (then_falls (version_at time (get (at w.history time) name)) (versions_told name w.said) new is.falls by are);
        before = subst (AllByRecursion (λ t. t ≤ℤ version_at time (get (at w.history time) name))) (sym both)
            (all_append (λ t. t ≤ℤ version_at time (get (at w.history time) name)) (versions_told name w.said) new by (all_same new (version_at time (get (at w.history time) name)) are));
      }

  raising_rises : (w : World) (to : Cut) (ready : Bool) → is_ready_at w.listening to ≡ ready → IsRising w.history → AreRising name w → AreRising name (raising_at ready to w)
  raising_rises w (At time) true ready_is rise is = raise_rises time w rise ready_is is
  raising_rises w (At time) false ready_is rise is = is
  raising_rises w (Loading id) ready ready_is rise is = is
  raising_rises w NoTarget ready ready_is rise is = is

  -- ---- releasing

  still_before : (bs h : List Batch) (released : ℤ) (o : Option ℤ) (ts : List ℤ) → AllByRecursion (λ (b : Batch). released <ℤ b.time) bs → IfSome o (λ r. r ≤ℤ released)
      → AreBefore h name o ts → AreBefore (bs ++ h) name o ts
  still_before bs h released None ts later by are = are
  still_before bs h released (Some r) ts later by are =
      subst (λ (docs : Docs). AllByRecursion (λ t. t ≤ℤ version_at r (get docs name)) ts) (sym (at_more bs h released r later by)) are

  -- ---- every event

  step_rises : (e : Event) (w : World) → IsTold w → IsRising w.history → AreRising name w → May e w → AreRising name (after shards e w)
  step_rises (adds id t token) w told rise is may = says_none w _ (message.Add (id ∷ []) ∷ []) refl refl is
  step_rises (refuses id cause) w told rise is may = says_none w w.listening (message.Remove (id ∷ []) (Some cause) ∷ []) refl refl is
  step_rises (removes id) w told rise is may = says_none w _ (message.Remove (id ∷ []) None ∷ []) refl refl is
  step_rises (loads id time) w told rise is may =
      let reset = is_lost w.floor (token_of_target (get w.listening.targets id)) in
      says_none w (loaded_at shards time reset id (get w.listening.targets id) w.listening) (reset_of id reset) (load_raised id time reset (get w.listening.targets id) w.listening) (reset_none id reset) is
  step_rises (matches shard to) w told rise is may = record { falls = is.falls; before = is.before }
  step_rises raises w told rise is may = raising_rises w (cut w.listening) (is_ready w.listening) refl rise is
  step_rises (releases bs to) w told rise is may =
      record { falls = is.falls; before = still_before bs w.history w.released w.listening.raised (versions_told name w.said) may.0 told.raised is.before }
  step_rises (compacts to) w told rise is may = record { falls = is.falls; before = is.before }

  -- ---- a history that rises did before

  rising_behind : (bs h : List Batch) → IsRising (bs ++ h) → IsRising h
  rising_behind [] h rise = rise
  rising_behind (b ∷ bs) h rise = rising_behind bs h rise.1

  raising_behind : (w : World) (to : Cut) (ready : Bool) → IsRising (raising_at ready to w).history → IsRising w.history
  raising_behind w (At time) true rise = rise
  raising_behind w (At time) false rise = rise
  raising_behind w (Loading id) ready rise = rise
  raising_behind w NoTarget ready rise = rise

  step_behind : (e : Event) (w : World) → IsRising (after shards e w).history → IsRising w.history
  step_behind (adds id t token) w rise = rise
  step_behind (refuses id cause) w rise = rise
  step_behind (removes id) w rise = rise
  step_behind (loads id time) w rise = rise
  step_behind (matches shard to) w rise = rise
  step_behind raises w rise = raising_behind w (cut w.listening) (is_ready w.listening) rise
  step_behind (releases bs to) w rise = rising_behind bs w.history rise
  step_behind (compacts to) w rise = rise

  all_behind : (es : List Event) (w : World) → IsRising (after_all shards es w).history → IsRising w.history
  all_behind [] w rise = rise
  all_behind (e ∷ es) w rise = step_behind e w (all_behind es (after shards e w) rise)

  pub all_rise : (es : List Event) (w : World) → IsTold w → MayAll shards es w → IsRising (after_all shards es w).history → AreRising name w → AreRising name (after_all shards es w)
  all_rise [] w told may rise is = is
  all_rise (e ∷ es) w told may rise is =
      all_rise es (after shards e w) (all_keep own_names shards (e ∷ []) w told (may.0, tt)) may.1 rise
      (step_rises e w told (all_behind (e ∷ es) w rise) is may.0)

pub begun_rises : (name : DocName) (h : List Batch) (released floor : ℤ) → AreRising name (begun h released floor)
begun_rises name h released floor = record { falls = tt; before = refl }
