-- Targets that stand still, as contracts see them, and what is asked of them.
use Rattle.std.proofs.Common.{◌≡◌, ℕ, ℤ, Bool, true, false, not, ◌&&◌, ◌||◌, List, [], ◌∷◌, ◌++◌, cond, map, get_or, Option, Some, None, refl, sym, ap, ◌∙◌, subst}
use Rattle.std.specs.FinMap.{entries, from_entries, get}
use Rattle.std.specs.List.{AllByRecursion, filter, flat_map, list_any}
use Rattle.std.specs.Option.{option_map}
use Rattle.std.specs.Ordering.{nat_cmp}
use Rattle.std.specs.Vec.{with_items}
use Rattle.std.proofs.lemmas.List.{with_items_is}
use Rattle.std.proofs.lemmas.Simd.{map-map}
use Rattle.fs_query.specs.declared.target.Target.{Target}
use Rattle.fs_listen.specs.Cuts.{base, cut, cut_at, cut_behind, first_loading, greatest, greatest_before, is_behind, is_current, is_from, is_ready, is_ready_at, least, least_position, positions_of, some_new, times_of}
use Rattle.fs_listen.specs.Listening.{Listened, Loaded, with_loaded}
use Rattle.fs_target.specs.Entries.{Rises, found, ids_of, new_ids}
use Rattle.fs_target.specs.Held.{position_in, position_of, positions_in}
use Rattle.fs_target.specs.Kept.{Kept}
use Rattle.fs_target.specs.Prepared.{Prepared, held_in}
use Rattle.fs_target.specs.Seen.{Seen, held_of, kept_in, listed_in, listening_of, loaded_in, seen}
use Rattle.fs_target.specs.Still.{AreStill, IsStill, IsStillWith, entry_at, in_all, is_ready_still, listened_at, loaded_at, seen_at, standing}
use Rattle.fs_target.specs.declared.entry.Entry.{Entry}
use Rattle.fs_target.specs.declared.entry.Loaded as entry
use Rattle.fs_target.specs.declared.still.Still.{Still}
use Rattle.fs_target.proofs.Asked.{ids_are}
use Rattle.fs_target.proofs.Cutting.{base_of, cut_of, least_of, least_of_entries, some_new_of}
use Rattle.fs_target.proofs.Each.{each_of, map_alike}
use Rattle.fs_target.proofs.EachEntry.{map_found}
use Rattle.fs_target.proofs.Entries.{entries_of, get_of, rises_changed}
use Rattle.fs_target.proofs.InShards.{least_at, least_had, length_all}

-- ---- an entry

module _ (ps : List (Option ℤ)) where
  pub positions_are : (l : entry.Loaded) → (with_items l.positions (in_all l.positions.items ps)).items ≡ in_all l.positions.items ps
  positions_are l = with_items_is l.positions (in_all l.positions.items ps) (length_all l.positions.items ps ∙ sym l.positions.ok.0)

  loaded_is : (t : Target) (o : Option entry.Loaded)
      → option_map loaded_in (option_map (loaded_at ps t) o) ≡ with_loaded (λ (m : Loaded). record m { positions = in_all m.positions ps }) (option_map loaded_in o)
  loaded_is t None = refl
  loaded_is t (Some l) = λ i. Some (record { time = l.time; reset = l.reset; positions = positions_are l i; current = l.current })

  kept_is : (t : Target) (o : Option entry.Loaded) → option_map (λ (l : entry.Loaded). l.kept.kept) (option_map (loaded_at ps t) o) ≡ option_map (λ (l : entry.Loaded). l.kept.kept) o
  kept_is t None = refl
  kept_is t (Some l) = refl

  pub seen_is : (e : Entry) → seen (entry_at ps e) ≡ seen_at ps (seen e)
  seen_is e = λ i. record { id = e.id; listened = record { target = e.target; token = e.token; loaded = loaded_is e.target e.loaded i }; kept = kept_is e.target e.loaded i }

  pub all_seen : (es : List Entry) → map seen (map (entry_at ps) es) ≡ map (seen_at ps) (map seen es)
  all_seen es =
      map-map seen (entry_at ps) es
      ∙ map_alike (λ e. seen (entry_at ps e)) (λ e. seen_at ps (seen e)) es (each_of (λ e. seen (entry_at ps e) ≡ seen_at ps (seen e)) seen_is es)
      ∙ sym (map-map (seen_at ps) seen es)

  pub rises_at : (es : List Entry) → Rises (map seen es) → Rises (map seen (map (entry_at ps) es))
  rises_at es rise =
      subst Rises (sym (map-map seen (entry_at ps) es))
      (rises_changed (λ e. seen (entry_at ps e)) (λ (s : Seen). listened_at ps s.listened) es (λ e. ap listed_in (seen_is e)) rise)

  -- ---- what is asked of one target

  pub listened_is : (raised : Option ℤ) (es : List Entry) (id : ℕ)
      → get (listening_of raised (map seen (map (entry_at ps) es))).targets id ≡ option_map (listened_at ps) (get (listening_of raised (map seen es)).targets id)
  listened_is raised es id =
      ap (λ (ss : List Seen). get (listening_of raised ss).targets id) (all_seen es)
      ∙ ap (λ ts. get (from_entries {R = nat_cmp} ts) id) (map-map listed_in (seen_at ps) (map seen es))
      ∙ get_of (λ (s : Seen). listened_at ps s.listened) id (map seen es)
      ∙ twice (found id (map seen es))
      ∙ ap (option_map (listened_at ps)) (sym (get_of (λ (s : Seen). s.listened) id (map seen es)))
    where
      twice : (o : Option Seen) → option_map (λ (s : Seen). listened_at ps s.listened) o ≡ option_map (listened_at ps) (option_map (λ (s : Seen). s.listened) o)
      twice None = refl
      twice (Some s) = refl

  pub kept_same : (es : List Entry) → from_entries {R = nat_cmp} (map kept_in (map seen (map (entry_at ps) es))) ≡ from_entries (map kept_in (map seen es))
  kept_same es = ap (λ ss. from_entries {R = nat_cmp} (map kept_in ss)) (all_seen es) ∙ ap (from_entries {R = nat_cmp}) (map-map kept_in (seen_at ps) (map seen es))

  pub ids_same : (es : List Entry) → ids_of (map seen (map (entry_at ps) es)) ≡ ids_of (map seen es)
  ids_same es = ap ids_of (all_seen es) ∙ map-map (λ (s : Seen). s.id) (seen_at ps) (map seen es)

-- what was written into the entries
pub written : (ps : List (Option ℤ)) (es : List Entry) → map (λ e. seen_at ps (seen e)) es ≡ map seen (map (entry_at ps) es)
written ps es = sym (all_seen ps es ∙ map-map (seen_at ps) seen es)

-- ---- of those that are still

module _ (ps : List (Option ℤ)) where
  -- none is loading
  pub none_loading : (ss : List Seen) → AllByRecursion IsStill ss → first_loading (map listed_in (map (seen_at ps) ss)) ≡ None
  none_loading [] are = refl
  none_loading (s ∷ ss) are = one (none_loading ss are.1) s.listened.loaded s.kept are.0 where
    one : first_loading (map listed_in (map (seen_at ps) ss)) ≡ None → (o : Option Loaded) (k : Option Kept) → IsStillWith s.listened.target o k
        → first_loading (listed_in (seen_at ps (record s { listened = record s.listened { loaded = o } })) ∷ map listed_in (map (seen_at ps) ss)) ≡ None
    one rest None k is = absurd is
    one rest (Some l) k is = rest

  -- none is new
  pub none_new : (ss : List Seen) → AllByRecursion IsStill ss → new_ids (map listed_in (map (seen_at ps) ss)) ≡ []
  none_new [] are = refl
  none_new (s ∷ ss) are = one (none_new ss are.1) s.listened.loaded s.kept are.0 where
    one : new_ids (map listed_in (map (seen_at ps) ss)) ≡ [] → (o : Option Loaded) (k : Option Kept) → IsStillWith s.listened.target o k
        → new_ids (listed_in (seen_at ps (record s { listened = record s.listened { loaded = o } })) ∷ map listed_in (map (seen_at ps) ss)) ≡ []
    one rest None k is = absurd is
    one rest (Some l) None is = absurd is
    one rest (Some l) (Some k) is =
        let new = filter (λ (e : ℕ × Listened). not (is_current e.1.loaded)) (map listed_in (map (seen_at ps) ss)) in
        let here = listed_in (seen_at ps (record s { listened = record s.listened { loaded = Some l } })) in
        ap (λ b. map (λ (e : ℕ × Listened). e.0) (cond (not b) (here ∷ new) new)) is.0 ∙ rest

  least_is : (ss : List Seen) → flat_map (λ (s : Seen). positions_of s.listened.loaded) (map (seen_at ps) ss) ≡ flat_map (λ (s : Seen). in_all (positions_of s.listened.loaded) ps) ss
  least_is [] = refl
  least_is (s ∷ ss) = (λ i. one s.listened.loaded i ++ least_is ss i) where
    one : (o : Option Loaded) → positions_of (with_loaded (λ (m : Loaded). record m { positions = in_all m.positions ps }) o) ≡ in_all (positions_of o) ps
    one None = refl
    one (Some l) = refl

  base_same : (ss : List Seen) → flat_map (λ (s : Seen). times_of s.listened) (map (seen_at ps) ss) ≡ flat_map (λ (s : Seen). times_of s.listened) ss
  base_same [] = refl
  base_same (s ∷ ss) = (λ i. one s.listened.loaded i ++ base_same ss i) where
    one : (o : Option Loaded) → times_of (listened_at ps (record s.listened { loaded = o })) ≡ times_of (record s.listened { loaded = o })
    one None = refl
    one (Some l) = refl

  none_stale : (es : List Entry) → AllByRecursion IsStill (map seen es) → list_any (λ (e : Entry). not (is_current (option_map loaded_in e.loaded))) (map (entry_at ps) es) ≡ false
  none_stale [] are = refl
  none_stale (e ∷ es) are = one (none_stale es are.1) e.loaded are.0 where
    one : list_any (λ (d : Entry). not (is_current (option_map loaded_in d.loaded))) (map (entry_at ps) es) ≡ false → (o : Option entry.Loaded) → IsStillWith e.target (option_map loaded_in o) (option_map (λ (l : entry.Loaded). l.kept.kept) o)
        → (not (is_current (option_map loaded_in (option_map (loaded_at ps e.target) o))) || list_any (λ (d : Entry). not (is_current (option_map loaded_in d.loaded))) (map (entry_at ps) es)) ≡ false
    one rest None is = absurd is
    one rest (Some l) is = ap (λ b. not b || list_any (λ (d : Entry). not (is_current (option_map loaded_in d.loaded))) (map (entry_at ps) es)) is.0 ∙ rest

-- ---- what is asked of all

or_false : (b : Bool) → (b || false) ≡ b
or_false true = refl
or_false false = refl

pub positions_held : (shards limit : ℕ) (raised : Option ℤ) (shard : ℕ) (ss : List Seen) → Rises ss
    → positions_in shard (held_of shards limit raised ss) ≡ map (λ (s : Seen). position_of shard s.listened.loaded) ss
positions_held shards limit raised shard ss rise =
    let at : ℕ → Option ℤ = λ id. position_in shard (get (listening_of raised ss).targets id) in
    ap (map at) (sym (ids_are raised ss rise))
    ∙ map-map at (λ (s : Seen). s.id) ss
    ∙ map_found (λ (s : Seen). s.listened) (λ _ o. position_in shard o) ss rise

module _ (s : Still) (v : Prepared) (are : AreStill s v) where
  abbrev es : List Entry
  es = map (entry_at s.positions.items) v.entries

  rises : Rises (map seen es)
  rises = rises_at s.positions.items v.entries are.of.rise

  loading : first_loading (map listed_in (map seen es)) ≡ None
  loading = ap (λ ss. first_loading (map listed_in ss)) (all_seen s.positions.items v.entries) ∙ none_loading s.positions.items (map seen v.entries) are.each

  least_all : least_of_entries es ≡ least s.positions.items
  least_all =
      ap (λ ss. least (flat_map (λ (t : Seen). positions_of t.listened.loaded) ss)) (all_seen s.positions.items v.entries)
      ∙ ap least (least_is s.positions.items (map seen v.entries))
      ∙ least_had s.positions.items (map seen v.entries) are.of.had

  pub still_cut : cut (held_in (standing s.positions.items v)).listening ≡ cut_at (least s.positions.items)
  still_cut = cut_of v.raised es rises ∙ (λ i. cut_behind (loading i) (least_all i))

  pub still_least : least_position (held_in (standing s.positions.items v)).listening ≡ least s.positions.items
  still_least = least_of v.raised es rises ∙ least_all

  pub still_base : base (held_in (standing s.positions.items v)).listening ≡ greatest_before v.raised s.base
  still_base =
      base_of v.raised es rises
      ∙ ap (greatest_before v.raised)
      (ap (λ ss. greatest (flat_map (λ (t : Seen). times_of t.listened) ss)) (all_seen s.positions.items v.entries)
      ∙ ap greatest (base_same s.positions.items (map seen v.entries))
      ∙ sym are.of.base)

  pub still_unloaded : first_loading (entries (held_in (standing s.positions.items v)).listening.targets) ≡ None
  still_unloaded = ap first_loading (entries_of (λ (t : Seen). t.listened) (map seen es) rises) ∙ loading

  still_new : some_new (held_in (standing s.positions.items v)).listening ≡ false
  still_new = some_new_of v.raised es rises ∙ none_stale s.positions.items v.entries are.each

  pub still_ready : is_ready (held_in (standing s.positions.items v)).listening ≡ is_ready_still (least s.positions.items) s.base v.raised
  still_ready = ap (is_ready_at (held_in (standing s.positions.items v)).listening) still_cut ∙ by_least (least s.positions.items) where
    by_least : (o : Option ℤ) → is_ready_at (held_in (standing s.positions.items v)).listening (cut_at o) ≡ is_ready_still o s.base v.raised
    by_least None = refl
    by_least (Some t) = (λ i. is_from (still_base i) t && (is_behind v.raised t || still_new i)) ∙ ap (λ b. is_from (greatest_before v.raised s.base) t && b) (or_false (is_behind v.raised t))

  pub still_least_in : (shard : ℕ) → least (positions_in shard (held_in (standing s.positions.items v))) ≡ get_or s.positions.items shard None
  still_least_in shard =
      ap least (positions_held v.shards v.limit v.raised shard (map seen es) rises
      ∙ ap (map (λ (t : Seen). position_of shard t.listened.loaded)) (all_seen s.positions.items v.entries)
      ∙ map-map (λ (t : Seen). position_of shard t.listened.loaded) (seen_at s.positions.items) (map seen v.entries)
      ∙ map_alike (λ (t : Seen). position_of shard (seen_at s.positions.items t).listened.loaded) (λ (t : Seen). get_or (in_all (positions_of t.listened.loaded) s.positions.items) shard None) (map seen v.entries)
      (each_of (λ (t : Seen). position_of shard (seen_at s.positions.items t).listened.loaded ≡ get_or (in_all (positions_of t.listened.loaded) s.positions.items) shard None) (λ t. one t.listened.loaded) (map seen v.entries)))
      ∙ least_at shard s.positions.items (map seen v.entries) are.of.had
    where
      one : (o : Option Loaded) → position_of shard (with_loaded (λ (m : Loaded). record m { positions = in_all m.positions s.positions.items }) o) ≡ get_or (in_all (positions_of o) s.positions.items) shard None
      one None = refl
      one (Some l) = refl
