-- A raise of all targets: what it shows is what they keep, and they keep what they have to.
use Rattle.std.proofs.Common.{◌≡◌, ℕ, ℤ, ◌≤ℤ◌, true, List, ◌∷◌, Option, Some, None, sym, ap, ◌∙◌, subst, arith}
use Rattle.std.specs.Prelude.{IfSome, IsTrue}
use Rattle.std.specs.Cmp.{first_so}
use Rattle.std.specs.FinMap.{entries, entries_sorted, find, get, get-entries, is_sorted, values}
use Rattle.std.specs.List.{AllByRecursion, flat_map}
use Rattle.std.specs.Option.{option_map}
use Rattle.std.specs.Ordering.{nat_cmp}
use Rattle.std.proofs.lemmas.Cmp.{nat_cmp_total}
use Rattle.std.proofs.lemmas.Int.{ints}
use Rattle.fs_path.proofs.Bools.{to_true}
use Rattle.fs_write.specs.Batch.{AreNamed}
use Rattle.fs_write.specs.declared.timed_change.TimedChange.{TimedChange}
use Rattle.fs_query.specs.Laws.{AnswersFit, SomeAnswer}
use Rattle.fs_history.specs.History.{IsRising, at, whole}
use Rattle.fs_history.specs.declared.batch.Batch.{Batch}
use Rattle.fs_match.specs.Laws.{FittingByName, MapsFollow}
use Rattle.fs_listen.specs.Cuts.{base, first_loading, is_from, is_loaded, is_ready_at, least_position, load_time, positions_of, times_of}
use Rattle.fs_listen.specs.Listening.{Listened, Loaded, made_current, with_loaded}
use Rattle.fs_listen.specs.Raised.{sent_time, views_of}
use Rattle.fs_listen.specs.View.{view, view_at}
use Rattle.fs_listen.specs.declared.cut.Cut.TheVariants.{At}
use Rattle.fs_query.specs.declared.target.Target.{Target}
use Rattle.fs_listen.proofs.Bounds.{AreBy, cut_is, least_within, none_loading}
use Rattle.fs_listen.proofs.Listed.{at_found, from_found}
use Rattle.fs_listen.proofs.Targets.{from_each, get_each}
use Rattle.fs_target.specs.Held.{Held, kept_raised, raised_at}
use Rattle.fs_target.specs.Keeps.{Keeps, KeepsOf}
use Rattle.fs_target.specs.Kept.{Kept, kept_at}
use Rattle.fs_target.specs.Laws.{IsRaise}
use Rattle.fs_target.specs.Raise.{kept_views, views_kept}
use Rattle.fs_target.proofs.Each.{each_weaker, map_alike}
use Rattle.fs_target.proofs.Found.{all_of_found}
use Rattle.fs_target.proofs.Keeping.{CanGo, keeps_then, shown_there}
use Rattle.fs_target.proofs.KeptMaps.{get-each_kept}
use Rattle.fs_target.proofs.Times.{all_joined, all_parts, from_all, low_all}

-- ---- the positions of one that is kept

within_by : (base known : ℤ) (o : Option ℤ) → IfSome o (λ p. (base ≤ℤ p) × (p ≤ℤ known)) → IfSome o (λ p. p ≤ℤ known)
within_by base known None was = tt
within_by base known (Some p) was = was.1

positions_by : (h : List Batch) (commits : List TimedChange) (known : ℤ) (shards : ℕ) (raised : Option ℤ) (id : ℕ) (t : Target) (token : Option ℤ) (o : Option Loaded) (kept : Option (Option Kept))
    → KeepsOf h commits known shards raised id t token o kept → AreBy known (positions_of o)
positions_by h commits known shards raised id t token None kept keeps = tt
positions_by h commits known shards raised id t token (Some loaded) kept keeps =
    each_weaker (λ (p : Option ℤ). IfSome p (λ u. (keeps.2.base ≤ℤ u) × (u ≤ℤ known))) (λ (p : Option ℤ). IfSome p (λ u. u ≤ℤ known)) (λ p was. within_by keeps.2.base known p was) loaded.positions keeps.2.within

module _ (maps : MapsFollow) (some_answer : SomeAnswer) (answers_fit : AnswersFit) (by_fitting : FittingByName) (own_names : (h : List Batch) (t : ℤ) → AreNamed (at h t)) (named : (g : List Batch) → IsRising g → AreNamed (whole g))
    (h : List Batch) (known time : ℤ) (held : Held) (is : IsRaise h known time held) where
  abbrev keeps : Keeps h known held
  keeps = is.keeps

  abbrev last : Option ℤ
  last = held.listening.raised

  -- ---- what the cut and the base say of a target

  parts : (first_loading (entries held.listening.targets) ≡ None) × (least_position held.listening ≡ Some time)
  parts = cut_is (first_loading (entries held.listening.targets)) (least_position held.listening) time is.at_time

  found_in : (id : ℕ) (l : Listened) → get held.listening.targets id ≡ Some l → find nat_cmp id (entries held.listening.targets) ≡ Some l
  found_in id l found = sym (get-entries held.listening.targets id) ∙ found

  loaded_there : (id : ℕ) (l : Listened) → get held.listening.targets id ≡ Some l → is_loaded l.loaded ≡ true
  loaded_there id l found =
      at_found (λ one. one ≡ true) (λ (e : ℕ × Listened). is_loaded e.1.loaded) id l (entries held.listening.targets) (found_in id l found) (none_loading (entries held.listening.targets) parts.0)

  times : AllByRecursion (λ (p : Option ℤ). IfSome p (λ u. u ≤ℤ time)) (last ∷ flat_map times_of (values held.listening.targets))
  times =
      let ready : is_ready_at held.listening (At time) ≡ true = ap (is_ready_at held.listening) (sym is.at_time) ∙ is.ready in
      from_all (last ∷ flat_map times_of (values held.listening.targets)) time (first_so (is_from (base held.listening) time) _ ready)

  load_before : (id : ℕ) (l : Listened) → get held.listening.targets id ≡ Some l → IfSome (load_time l.loaded) (λ u. u ≤ℤ time)
  load_before id l found =
      (at_found (λ (m : Listened). AllByRecursion (λ (p : Option ℤ). IfSome p (λ u. u ≤ℤ time)) (times_of m)) (λ (e : ℕ × Listened). e.1) id l (entries held.listening.targets) (found_in id l found)
      (all_parts (λ (p : Option ℤ). IfSome p (λ u. u ≤ℤ time)) times_of (values held.listening.targets) times.1)).1.0

  told_up_to : (id : ℕ) (l : Listened) → get held.listening.targets id ≡ Some l → AllByRecursion (λ (p : Option ℤ). IfSome p (λ u. time ≤ℤ u)) (positions_of l.loaded)
  told_up_to id l found =
      at_found (λ (m : Listened). AllByRecursion (λ (p : Option ℤ). IfSome p (λ u. time ≤ℤ u)) (positions_of m.loaded)) (λ (e : ℕ × Listened). e.1) id l (entries held.listening.targets) (found_in id l found)
      (all_parts (λ (p : Option ℤ). IfSome p (λ u. time ≤ℤ u)) (λ (m : Listened). positions_of m.loaded) (values held.listening.targets)
      (low_all (flat_map (λ (m : Listened). positions_of m.loaded) (values held.listening.targets)) (Some time) time parts.1 (itself time)))
    where
      itself : (t : ℤ) → t ≤ℤ t
      itself t = omega (arith, ints)

  rise : IsTrue (is_sorted nat_cmp (entries held.listening.targets))
  rise = to_true _ (entries_sorted held.listening.targets)

  time_known : time ≤ℤ known
  time_known =
      least_within (flat_map (λ (m : Listened). positions_of m.loaded) (values held.listening.targets)) known time
      (all_joined (λ (p : Option ℤ). IfSome p (λ u. u ≤ℤ known)) (λ (m : Listened). positions_of m.loaded) (values held.listening.targets)
      (from_found (λ (m : Listened). AreBy known (positions_of m.loaded)) (entries held.listening.targets) rise
      (λ id l found. let there = get-entries held.listening.targets id ∙ found in
      positions_by h keeps.commits known held.shards last id l.target l.token l.loaded (get held.kept id) (keeps.targets id l there)))) parts.1

  -- ---- the views

  view_of : (id : ℕ) (t : Target) (token : Option ℤ) (o : Option Loaded) (kept : Option (Option Kept)) → is_loaded o ≡ true
      → IfSome (load_time o) (λ u. u ≤ℤ time) → AllByRecursion (λ (p : Option ℤ). IfSome p (λ u. time ≤ℤ u)) (positions_of o)
      → KeepsOf h keeps.commits known held.shards last id t token o kept
      → views_kept time id t kept ≡ record { id = id; sent = view_at t h (sent_time last token o); new = view t (at h time) }
  view_of id t token None kept there load told one = absurd (cc)
  view_of id t token (Some loaded) kept there load told one =
      let go : CanGo time last loaded = record { raise = times.0; load = load; told = told } in
      ap (views_kept time id t) one.1
      ∙ (λ i. record { id = id; sent = one.2.sent i; new = shown_there maps some_answer answers_fit by_fitting own_names named h keeps.commits keeps.brought keeps.rising known held.shards keeps.shards last id t token loaded one.0 one.2 time go i })

  pub views_are : kept_views time held ≡ views_of h time held.listening
  views_are =
      map_alike (λ (e : ℕ × Listened). views_kept time e.0 e.1.target (get held.kept e.0))
      (λ (e : ℕ × Listened). record { id = e.0; sent = view_at e.1.target h (sent_time last e.1.token e.1.loaded); new = view e.1.target (at h time) }) (entries held.listening.targets)
      (all_of_found nat_cmp_total (λ (e : ℕ × Listened). views_kept time e.0 e.1.target (get held.kept e.0)
      ≡ record { id = e.0; sent = view_at e.1.target h (sent_time last e.1.token e.1.loaded); new = view e.1.target (at h time) }) (entries held.listening.targets) rise
      (λ id l found. let there = get-entries held.listening.targets id ∙ found in
      view_of id l.target l.token l.loaded (get held.kept id) (loaded_there id l there) (load_before id l there) (told_up_to id l there) (keeps.targets id l there)))

  -- ---- afterwards

  keeps_of : (id : ℕ) (l : Listened) (o : Option Loaded) (kept : Option (Option Kept))
      → IfSome (load_time o) (λ u. u ≤ℤ time) → AllByRecursion (λ (p : Option ℤ). IfSome p (λ u. time ≤ℤ u)) (positions_of o)
      → KeepsOf h keeps.commits known held.shards last id l.target l.token o kept
      → KeepsOf h keeps.commits known held.shards (Some time) id l.target l.token (with_loaded made_current o) (option_map (kept_raised time (Some l)) kept)
  keeps_of id l None kept load told one = ap (option_map (kept_raised time (Some l))) one
  keeps_of id l (Some loaded) kept load told one =
      let go : CanGo time last loaded = record { raise = times.0; load = load; told = told } in (
        kept_at time l.target one.0,
        ap (option_map (kept_raised time (Some l))) one.1,
        keeps_then maps some_answer answers_fit by_fitting own_names named h keeps.commits keeps.brought keeps.rising known held.shards keeps.shards last id l.target l.token loaded one.0 one.2 time go time_known,
      )

  abbrev change : Listened → Listened
  change l = record l { loaded = with_loaded made_current l.loaded }

  kept_then : (id : ℕ) (l : Listened) → get held.listening.targets id ≡ Some l → get (raised_at time held).kept id ≡ option_map (kept_raised time (Some l)) (get held.kept id)
  kept_then id l found =
      get-each_kept (λ k o. kept_raised time (get held.listening.targets k) o) held.kept id ∙ ap (λ m. option_map (kept_raised time m) (get held.kept id)) found

  one_then : (id : ℕ) (l : Listened) → (k : Listened) × (get held.listening.targets id ≡ Some k) × (change k ≡ l)
      → KeepsOf h keeps.commits known held.shards (Some time) id l.target l.token l.loaded (get (raised_at time held).kept id)
  one_then id l (k, found, made) =
      subst (λ (m : Listened). KeepsOf h keeps.commits known held.shards (Some time) id m.target m.token m.loaded (get (raised_at time held).kept id)) made
      (subst (λ (o : Option (Option Kept)). KeepsOf h keeps.commits known held.shards (Some time) id k.target k.token (with_loaded made_current k.loaded) o) (sym (kept_then id k found))
      (keeps_of id k k.loaded (get held.kept id) (load_before id k found) (told_up_to id k found) (keeps.targets id k found)))

  token_then : (id : ℕ) (l : Listened) → (k : Listened) × (get held.listening.targets id ≡ Some k) × (change k ≡ l) → IfSome l.token (λ t. t ≤ℤ known)
  token_then id l (k, found, made) = subst (λ (m : Listened). IfSome m.token (λ t. t ≤ℤ known)) made (keeps.tokens id k found)

  was : (id : ℕ) (l : Listened) → get (raised_at time held).listening.targets id ≡ Some l → (k : Listened) × (get held.listening.targets id ≡ Some k) × (change k ≡ l)
  was id l found = from_each change (get held.listening.targets id) l (sym (get_each change held.listening id) ∙ found)

  pub raising_keeps : Keeps h known (raised_at time held)
  raising_keeps = record {
    commits = keeps.commits;
    brought = keeps.brought;
    rising = keeps.rising;
    shards = keeps.shards;
    raised = time_known;
    tokens = λ id l found. token_then id l (was id l found);
    targets = λ id l found. one_then id l (was id l found);
  }
