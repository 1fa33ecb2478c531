-- What happens to targets that stand still, and how they come to.
use Rattle.std.proofs.Common.{◌≡◌, ℕ, ℤ, Bool, true, false, List, [], ◌∷◌, ◌++◌, map, get_or, set, Option, Some, None, refl, sym, ap, ◌∙◌, subst}
use Rattle.std.specs.Prelude.{pos}
use Rattle.std.specs.FinMap.{get}
use Rattle.std.specs.List.{AllByRecursion, cons_option, filter_map, flat_map}
use Rattle.std.specs.Option.{option_map}
use Rattle.std.specs.Vec.{with_items}
use Rattle.std.proofs.lemmas.Simd.{map-map}
use Rattle.fs_path.specs.declared.name.DocName.{DocName}
use Rattle.fs_token.specs.Token.{token_of}
use Rattle.fs_query.specs.declared.listen.ListenMessage.TheVariants as message
use Rattle.fs_query.specs.declared.target.Target.{Target}
use Rattle.fs_listen.specs.Cuts.{greatest, positions_of, times_of}
use Rattle.fs_listen.specs.Listening.{Loaded, later_of, made_current, with_loaded}
use Rattle.fs_listen.specs.Sent.{current_from}
use Rattle.fs_listen.specs.Told.{Views, names_of}
use Rattle.fs_listen.specs.View.{is_whole, view}
use Rattle.fs_target.specs.Entries.{Rises, gone_to, new_ids, raised_in, taken, views_in}
use Rattle.fs_target.specs.Held.{events_behind, fed, raised_at}
use Rattle.fs_target.specs.Kept.{Kept, docs_at, kept_at, shown_of}
use Rattle.fs_target.specs.Looks.{AreAlike, told_at}
use Rattle.fs_target.specs.Prepared.{ArePrepared, IsNext, IsPrepared, Prepared, held_in}
use Rattle.fs_target.specs.Raise.{kept_told}
use Rattle.fs_target.specs.Ready.{cut_at as next_cut, next_at}
use Rattle.fs_target.specs.Seen.{Seen, held_of, listed_in, loaded_in, seen}
use Rattle.fs_target.specs.Staged.{behind, gone_over, up_to}
use Rattle.fs_target.specs.Still.{AreOf, AreStill, IsStill, IsNextStill, IsStillWith, WillBe, WillBeWith, all_joined, base_in, entry_at, in_all, joined, loaded_at, nones, seen_at, standing}
use Rattle.fs_target.specs.declared.entry.Entry.{Entry}
use Rattle.fs_target.specs.declared.entry.Loaded as entry
use Rattle.fs_target.specs.declared.event.TimedEvent.{TimedEvent}
use Rattle.fs_target.specs.declared.still.Next.{Next}
use Rattle.fs_target.specs.declared.still.Still.{Still}
use Rattle.fs_target.proofs.Each.{each_of, each_weaker, map_alike}
use Rattle.fs_target.proofs.Feeding.{all_fed}
use Rattle.fs_target.proofs.Holding.{held_fed, held_raised}
use Rattle.fs_target.proofs.InShards.{moved_all, nones_set}
use Rattle.fs_target.proofs.Raising.{all_gone, messages_told, rises_gone, shown_next}
use Rattle.fs_target.proofs.Telling.{not_told}
use Rattle.fs_target.proofs.Stands.{all_seen, none_new, positions_are, rises_at, seen_is}

-- ---- nothing is to come, and what is to be shown is ready

pub still_prepared : (ps : List (Option ℤ)) (shard : ℕ) (es : List Entry) → AllByRecursion (IsPrepared shard []) (map (entry_at ps) es)
still_prepared ps shard [] = tt
still_prepared ps shard (e ∷ es) = (one e.loaded, still_prepared ps shard es) where
  none : (o : Option ℤ) → [] ≡ events_behind e.id o []
  none None = refl
  none (Some t) = refl

  one : (o : Option entry.Loaded) → IsPrepared shard [] (entry_at ps (record e { loaded = o }))
  one None = tt
  one (Some l) = none (get_or (with_items l.positions (in_all l.positions.items ps)).items shard None)

docs_still : (time : ℤ) (k : Kept) → k.staged ≡ [] → docs_at time k ≡ k.docs
docs_still time k none = ap (λ es. gone_over (up_to time es) k.docs) none

next_still : (time : ℤ) (t : Target) (k : Kept) → k.staged ≡ [] → next_at (pos 0) t k ≡ next_at time t k
next_still time t k none = by_whole (is_whole t) where
  by_whole : (whole : Bool) → next_cut whole (pos 0) t k ≡ next_cut whole time t k
  by_whole true = refl
  by_whole false = ap (λ docs. Some (view t docs)) (docs_still (pos 0) k none ∙ sym (docs_still time k none))

module _ (ps : List (Option ℤ)) (time : ℤ) where
  pub still_next : (es : List Entry) → AllByRecursion IsStill (map seen es) → AllByRecursion (IsNext time) (map (entry_at ps) es)
  still_next [] are = tt
  still_next (e ∷ es) are = (one e.loaded are.0, still_next es are.1) where
    one : (o : Option entry.Loaded) → IsStillWith e.target (option_map loaded_in o) (option_map (λ (l : entry.Loaded). l.kept.kept) o) → IsNext time (entry_at ps (record e { loaded = o }))
    one None is = tt
    one (Some l) is = next_still time e.target l.kept.kept is.1.0

  kept_still : (t : Target) (k : Kept) → k.staged ≡ [] → k.sent ≡ shown_of t k.docs → kept_at time t k ≡ k
  kept_still t k none sent =
      let docs = docs_still time k none in
      let shown : shown_of t (docs_at time k) ≡ k.sent = ap (shown_of t) docs ∙ sym sent in
      let staged : behind time k.staged ≡ k.staged = ap (behind time) none ∙ sym none in
      λ i. record { sent = shown i; docs = docs i; staged = staged i }

  raised_same : (s : Seen) → IsStill s → raised_in time (seen_at ps s) ≡ seen_at ps s
  raised_same s is = one s.listened.loaded s.kept is where
    one : (o : Option Loaded) (k : Option Kept) → IsStillWith s.listened.target o k
        → raised_in time (seen_at ps (record s { listened = record s.listened { loaded = o }; kept = k })) ≡ seen_at ps (record s { listened = record s.listened { loaded = o }; kept = k })
    one None k are = absurd are
    one (Some l) None are = absurd are
    one (Some l) (Some k) are =
        let current : true ≡ l.current = sym are.0 in
        let same = kept_still s.listened.target k are.1.0 are.1.1 in
        λ i. record {
          id = s.id;
          listened = record { target = s.listened.target; token = s.listened.token; loaded = Some (record { time = l.time; reset = l.reset; positions = in_all l.positions ps; current = current i }) };
          kept = Some (same i);
        }

  all_raised_same : (ss : List Seen) → AllByRecursion IsStill ss → map (raised_in time) (map (seen_at ps) ss) ≡ map (seen_at ps) ss
  all_raised_same ss are =
      map-map (raised_in time) (seen_at ps) ss ∙ map_alike (λ s. raised_in time (seen_at ps s)) (seen_at ps) ss (each_weaker IsStill (λ s. raised_in time (seen_at ps s) ≡ seen_at ps s) raised_same ss are)

-- a raise changes nothing but its time, and tells nothing else
module _ (s : Still) (v : Prepared) (are : AreStill s v) (time : ℤ) where
  pub still_raised : held_in (standing s.positions.items (record v { raised = Some time })) ≡ raised_at time (held_in (standing s.positions.items v))
  still_raised =
      let ps = s.positions.items in
      let seen_all = all_seen ps v.entries in
      ap (held_of v.shards v.limit (Some time)) (seen_all ∙ sym (ap (map (raised_in time)) seen_all ∙ all_raised_same ps time (map seen v.entries) are.each))
      ∙ held_raised v.shards v.limit v.raised time (map seen (map (entry_at ps) v.entries)) (rises_at ps v.entries are.of.rise)

  abbrev stood : List Entry
  stood = map (entry_at s.positions.items) v.entries

  views_same : (ds : List Entry) → AllByRecursion IsStill (map seen ds) → (name : DocName) → AreAlike name (filter_map (views_in time) (map (entry_at s.positions.items) ds))
  views_same [] still name = tt
  views_same (d ∷ ds) still name = one (views_same ds still.1 name) d.loaded still.0 where
    one : AreAlike name (filter_map (views_in time) (map (entry_at s.positions.items) ds)) → (o : Option entry.Loaded) → IsStillWith d.target (option_map loaded_in o) (option_map (λ (l : entry.Loaded). l.kept.kept) o)
        → AreAlike name (cons_option (views_in time (entry_at s.positions.items (record d { loaded = o }))) (filter_map (views_in time) (map (entry_at s.positions.items) ds)))
    one rest None is = absurd is
    one rest (Some l) is = (
      ap (λ docs. get docs name)
          (is.1.1
          ∙ ap (shown_of d.target) (sym (docs_still time l.kept.kept is.1.0))
          ∙ sym (shown_next time d.target (loaded_at s.positions.items d.target l) (next_still time d.target l.kept.kept is.1.0))),
      rest,
    )

  none_told : (vs : List Views) (names : List DocName) → ((name : DocName) → AreAlike name vs) → flat_map (told_at time vs) names ≡ []
  none_told vs [] alike = refl
  none_told vs (name ∷ names) alike = (λ i. not_told time vs name (alike name) i ++ none_told vs names alike i)

  pub still_told : kept_told time (held_in (standing s.positions.items v)) ≡ message.NoChange time (token_of time) ∷ []
  still_told =
      let ps = s.positions.items in
      let vs = filter_map (views_in time) stood in
      let none = none_told vs (names_of vs) (views_same v.entries are.each) in
      let new : new_ids (map listed_in (map seen stood)) ≡ [] = ap (λ ss. new_ids (map listed_in ss)) (all_seen ps v.entries) ∙ none_new ps (map seen v.entries) are.each in
      sym (messages_told v.shards v.limit v.raised time stood (rises_at ps v.entries are.of.rise) (still_next ps time v.entries are.each))
      ∙ (λ i. none i ++ (current_from time (new i) ++ message.NoChange time (token_of time) ∷ []))

-- ---- what is taken in of a shard

module _ (shard : ℕ) (to : ℤ) where
  abbrev moved_in : List (Option ℤ) → List (Option ℤ)
  moved_in ps = set ps shard (later_of to (get_or ps shard None))

  taken_seen : (ps : List (Option ℤ)) (e : Entry) → seen (entry_at (moved_in ps) e) ≡ taken shard to (entry_at ps e)
  taken_seen ps e = seen_is (moved_in ps) e ∙ one e.loaded where
    one : (o : Option entry.Loaded) → seen_at (moved_in ps) (seen (record e { loaded = o })) ≡ taken shard to (entry_at ps (record e { loaded = o }))
    one None = refl
    one (Some l) =
        let are : in_all l.positions.items (moved_in ps) ≡ moved_in (with_items l.positions (in_all l.positions.items ps)).items =
        moved_all to l.positions.items ps shard ∙ ap moved_in (sym (positions_are ps l)) in
        λ i. record {
          id = e.id;
          listened = record { target = e.target; token = e.token; loaded = Some (record { time = l.time; reset = l.reset; positions = are i; current = l.current }) };
          kept = Some l.kept.kept;
        }

  all_taken : (ps : List (Option ℤ)) (es : List Entry) → map seen (map (entry_at (moved_in ps)) es) ≡ map (taken shard to) (map (entry_at ps) es)
  all_taken ps es =
      map-map seen (entry_at (moved_in ps)) es
      ∙ map_alike (λ e. seen (entry_at (moved_in ps) e)) (λ e. taken shard to (entry_at ps e)) es (each_of (λ e. seen (entry_at (moved_in ps) e) ≡ taken shard to (entry_at ps e)) (taken_seen ps) es)
      ∙ sym (map-map (taken shard to) (entry_at ps) es)

  pub still_fed : (es : List TimedEvent) (ps : List (Option ℤ)) (v : Prepared) → Rises (map seen v.entries) → ArePrepared shard es (standing ps v)
      → held_in (standing (moved_in ps) v) ≡ fed shard es to (held_in (standing ps v))
  still_fed es ps v rise ready =
      let stood = map (entry_at ps) v.entries in
      ap (held_of v.shards v.limit v.raised) (all_taken ps v.entries ∙ all_fed shard es to stood ready)
      ∙ held_fed v.shards v.limit v.raised shard es to (map seen stood) (rises_at ps v.entries rise)

  pub moved_of : (s t : Still) (ss : List Seen) → t.positions.items ≡ moved_in s.positions.items → t.base ≡ s.base → AreOf s ss → AreOf t ss
  moved_of s t ss moves same of = record {
    had =
        let ps = s.positions.items in
        let goes : in_all (all_joined (nones (moved_in ps)) ss) (moved_in ps) ≡ moved_in ps =
        ap (λ ns. in_all (all_joined ns ss) (moved_in ps)) (nones_set ps shard (later_of to (get_or ps shard None)))
        ∙ moved_all to (all_joined (nones ps) ss) ps shard
        ∙ ap moved_in of.had in
        subst (λ qs. in_all (all_joined (nones qs) ss) qs ≡ qs) (sym moves) goes;
    base = same ∙ of.base;
    rise = of.rise;
  }

-- ---- those that come to stand still

module _ (time : ℤ) (ps : List (Option ℤ)) where
  will_still : (ss : List Seen) → AllByRecursion (WillBe time ps) ss → AllByRecursion IsStill (map (raised_in time) ss)
  will_still [] will = tt
  will_still (s ∷ ss) will = (one s.listened.loaded s.kept will.0, will_still ss will.1) where
    one : (o : Option Loaded) (k : Option Kept) → WillBeWith time ps o k → IsStill (raised_in time (record s { listened = record s.listened { loaded = o }; kept = k }))
    one None k is = absurd is
    one (Some l) None is = absurd is
    one (Some l) (Some k) is = (refl, (is.1, refl))

  will_at : (ss : List Seen) → AllByRecursion (WillBe time ps) ss → map (seen_at ps) (map (raised_in time) ss) ≡ map (raised_in time) ss
  will_at [] will = refl
  will_at (s ∷ ss) will = (λ i. one s.listened.loaded s.kept will.0 i ∷ will_at ss will.1 i) where
    one : (o : Option Loaded) (k : Option Kept) → WillBeWith time ps o k
        → seen_at ps (raised_in time (record s { listened = record s.listened { loaded = o }; kept = k })) ≡ raised_in time (record s { listened = record s.listened { loaded = o }; kept = k })
    one None k is = absurd is
    one (Some l) None is = absurd is
    one (Some l) (Some k) is = λ i. record {
      id = s.id;
      listened = record { target = s.listened.target; token = s.listened.token; loaded = Some (record { time = l.time; reset = l.reset; positions = is.0 i; current = true }) };
      kept = Some (kept_at time s.listened.target k);
    }

joined_raised : (time : ℤ) (a : List (Option ℤ)) (ss : List Seen) → all_joined a (map (raised_in time) ss) ≡ all_joined a ss
joined_raised time a [] = refl
joined_raised time a (s ∷ ss) =
    ap (λ own. all_joined (joined own a) (map (raised_in time) ss)) (one s.listened.loaded) ∙ joined_raised time (joined (positions_of s.listened.loaded) a) ss where
      one : (o : Option Loaded) → positions_of (with_loaded made_current o) ≡ positions_of o
      one None = refl
      one (Some l) = refl

base_raised : (time : ℤ) (ss : List Seen) → flat_map (λ (s : Seen). times_of s.listened) (map (raised_in time) ss) ≡ flat_map (λ (s : Seen). times_of s.listened) ss
base_raised time [] = refl
base_raised time (s ∷ ss) = (λ i. one s.listened.loaded i ++ base_raised time ss i) where
  one : (o : Option Loaded) → times_of (record s.listened { loaded = with_loaded made_current o }) ≡ times_of (record s.listened { loaded = o })
  one None = refl
  one (Some l) = refl

module _ (n : Next) (v w : Prepared) (is : IsNextStill n v) (goes : map seen w.entries ≡ map (gone_to n.time) v.entries) where
  raised_all : map seen w.entries ≡ map (raised_in n.time) (map seen v.entries)
  raised_all = goes ∙ all_gone n.time v.entries is.ready

  pub next_are : AreStill n.still w
  next_are = record {
    each = subst (AllByRecursion IsStill) (sym raised_all) (will_still n.time n.still.positions.items (map seen v.entries) is.stand.each);
    of = record {
      had =
          let ps = n.still.positions.items in
          subst (λ ss. in_all (all_joined (nones ps) ss) ps ≡ ps) (sym raised_all) (ap (λ qs. in_all qs ps) (joined_raised n.time (nones ps) (map seen v.entries)) ∙ is.stand.of.had);
      base = is.stand.of.base ∙ sym (ap base_in raised_all ∙ ap greatest (base_raised n.time (map seen v.entries)));
      rise = subst Rises (sym goes) (rises_gone n.time v.entries is.stand.of.rise);
    };
  }

  pub next_held : held_in (standing n.still.positions.items w) ≡ held_in w
  next_held =
      let ps = n.still.positions.items in
      ap (held_of w.shards w.limit w.raised)
      (all_seen ps w.entries ∙ ap (map (seen_at ps)) raised_all ∙ will_at n.time ps (map seen v.entries) is.stand.each ∙ sym raised_all)
