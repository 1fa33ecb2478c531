-- How far entries are together.
use Rattle.std.proofs.Common.{◌≡◌, ℕ, ◌+◌, ◌<◌, ℤ, false, not, ◌||◌, List, [], ◌∷◌, cond, drop, get_or, length, map, Option, Some, None, refl, sym, ap, ◌∙◌}
use Rattle.std.specs.Prelude.{is_some}
use Rattle.std.specs.FinMap.{from_entries, values}
use Rattle.std.specs.List.{flat_map, list_any}
use Rattle.std.specs.Option.{option_map}
use Rattle.std.specs.Ordering.{nat_cmp}
use Rattle.std.proofs.lemmas.List.{drop_more}
use Rattle.std.proofs.lemmas.List.Folds.{flat_map-map}
use Rattle.std.proofs.lemmas.Simd.{map-map}
use Rattle.fs_listen.specs.Cuts.{base, cut, cut_behind, first_loading, greatest, greatest_before, is_current, is_loaded, least, least_before, least_position, load_time, positions_of, some_new, times_of}
use Rattle.fs_listen.specs.Listening.{Listened}
use Rattle.fs_target.specs.Entries.{Rises}
use Rattle.fs_target.specs.Seen.{Seen, listed_in, listening_of, loaded_in, seen}
use Rattle.fs_target.specs.declared.entry.Entry.{Entry}
use Rattle.fs_target.specs.declared.entry.Loaded as entry
use Rattle.fs_target.proofs.Entries.{entries_of}
use Rattle.fs_target.proofs.Joined.{greatest_thrice, least-append}

loaded_alike : (o : Option entry.Loaded) → is_loaded (option_map loaded_in o) ≡ is_some o
loaded_alike None = refl
loaded_alike (Some l) = refl

-- the first that isn't loaded, where it is the first of those that are left
pub loading_here : (all : Option ℕ) (es : List Entry) (i : ℕ) (e : Entry) → i < length es → all ≡ first_loading (map listed_in (map seen (drop i es))) → e ≡ get_or es i e
    → is_some e.loaded ≡ false → Some e.id ≡ all
loading_here all es i e low so_far is none =
    let rest = first_loading (map listed_in (map seen (drop (i + 1) es))) in
    sym (so_far
    ∙ ap (λ ds. first_loading (map listed_in (map seen ds))) (drop_more es i e low)
    ∙ ap (λ d. first_loading (listed_in (seen d) ∷ map listed_in (map seen (drop (i + 1) es)))) (sym is)
    ∙ ap (λ b. cond b rest (Some e.id)) (loaded_alike e.loaded ∙ none))

-- ---- the least position

abbrev pub least_of_entries : List Entry → Option ℤ
least_of_entries es = least (flat_map (λ (s : Seen). positions_of s.listened.loaded) (map seen es))

abbrev pub least_of_entry : Entry → Option ℤ
least_of_entry e = least (positions_of (option_map loaded_in e.loaded))

pub least_next : (e : Entry) (es : List Entry) → least_of_entries (e ∷ es) ≡ least_before (least_of_entry e) (least_of_entries es)
least_next e es = least-append (positions_of (option_map loaded_in e.loaded)) (flat_map (λ (s : Seen). positions_of s.listened.loaded) (map seen es))

-- ---- the greatest time

abbrev pub greatest_of_entries : List Entry → Option ℤ
greatest_of_entries es = greatest (flat_map (λ (s : Seen). times_of s.listened) (map seen es))

abbrev pub greatest_of_entry : Entry → Option ℤ
greatest_of_entry e = greatest_before e.token (load_time (option_map loaded_in e.loaded))

pub greatest_next : (e : Entry) (es : List Entry) → greatest_of_entries (e ∷ es) ≡ greatest_before (greatest_of_entry e) (greatest_of_entries es)
greatest_next e es = greatest_thrice e.token (load_time (option_map loaded_in e.loaded)) (greatest_of_entries es)

-- ---- as contracts see them

listed_values : (ss : List Seen) → Rises ss → values (from_entries {R = nat_cmp} (map listed_in ss)) ≡ map (λ (s : Seen). s.listened) ss
listed_values ss rise = ap (map (λ (e : ℕ × Listened). e.1)) (entries_of (λ (s : Seen). s.listened) ss rise) ∙ map-map (λ (e : ℕ × Listened). e.1) listed_in ss

pub least_of : (raised : Option ℤ) (es : List Entry) → Rises (map seen es) → least_position (listening_of raised (map seen es)) ≡ least_of_entries es
least_of raised es rise =
    ap (λ ls. least (flat_map (λ (l : Listened). positions_of l.loaded) ls)) (listed_values (map seen es) rise)
    ∙ ap least (flat_map-map (λ (l : Listened). positions_of l.loaded) (λ (s : Seen). s.listened) (map seen es))

pub cut_of : (raised : Option ℤ) (es : List Entry) → Rises (map seen es)
    → cut (listening_of raised (map seen es)) ≡ cut_behind (first_loading (map listed_in (map seen es))) (least_of_entries es)
cut_of raised es rise =
    ap (λ ts. cut_behind (first_loading ts) (least_position (listening_of raised (map seen es)))) (entries_of (λ (s : Seen). s.listened) (map seen es) rise)
    ∙ ap (cut_behind (first_loading (map listed_in (map seen es)))) (least_of raised es rise)

pub base_of : (raised : Option ℤ) (es : List Entry) → Rises (map seen es)
    → base (listening_of raised (map seen es)) ≡ greatest (raised ∷ flat_map (λ (s : Seen). times_of s.listened) (map seen es))
base_of raised es rise =
    ap (λ ts. greatest (raised ∷ ts)) (ap (flat_map times_of) (listed_values (map seen es) rise) ∙ flat_map-map times_of (λ (s : Seen). s.listened) (map seen es))

pub some_new_of : (raised : Option ℤ) (es : List Entry) → Rises (map seen es)
    → some_new (listening_of raised (map seen es)) ≡ list_any (λ (e : Entry). not (is_current (option_map loaded_in e.loaded))) es
some_new_of raised es rise = ap (list_any (λ (l : Listened). not (is_current l.loaded))) (listed_values (map seen es) rise) ∙ any_of es where
  any_of : (ds : List Entry) → list_any (λ (l : Listened). not (is_current l.loaded)) (map (λ (s : Seen). s.listened) (map seen ds))
      ≡ list_any (λ (e : Entry). not (is_current (option_map loaded_in e.loaded))) ds
  any_of [] = refl
  any_of (d ∷ ds) = ap (λ b. not (is_current (option_map loaded_in d.loaded)) || b) (any_of ds)
