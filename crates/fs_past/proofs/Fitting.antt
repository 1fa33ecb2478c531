-- The changes of the commits that a release lets in: they fit the store, and bring it the batches of these commits.
use Rattle.std.proofs.Common.{◌≡◌, ℕ, ◌<◌, ℤ, ◌<ℤ◌, Bool, true, false, cond, List, [], ◌∷◌, length, get_or, map, Option, Some, None, refl, sym, ap, ◌∙◌, subst, arith}
use Rattle.std.specs.Prelude.{IsTrue, is_none, pos, ◌-ℤ◌}
use Rattle.std.specs.Option.{option_map, option_map_or}
use Rattle.std.proofs.lemmas.Cmp.{tied_itself}
use Rattle.std.proofs.lemmas.Int.{ints}
use Rattle.std.proofs.lemmas.List.{get_or-map, get_or_default}
use Rattle.std.proofs.lemmas.List.Elements.{All-from_recursion}
use Rattle.std.specs.FinMap.{find, get, is_sorted}
use Rattle.std.specs.List.{AllByRecursion}
use Rattle.std.specs.declared.cmp.Ordering.TheVariants.{Equal}
use Rattle.fs_board.specs.Board.{all_ready}
use Rattle.fs_path.specs.NameOrder.{name_cmp, name_cmp_total}
use Rattle.fs_path.specs.declared.name.DocName.{DocName}
use Rattle.fs_value.proofs.Search.{find-tied}
use Rattle.fs_value.specs.declared.document.Document.{Document}
use Rattle.fs_write.proofs.AfterLaws.{law_left}
use Rattle.fs_write.proofs.BatchLaws.{law_named}
use Rattle.fs_write.specs.Batch.{AreChanges, Docs, changed_to, changes_by_name, is_unchanged, IsNamed, IsOutcome}
use Rattle.fs_write.specs.declared.change.Change.{Change}
use Rattle.fs_write.specs.declared.timed_change.TimedChange.{TimedChange}
use Rattle.fs_history.specs.History.{whole}
use Rattle.fs_history.specs.Laws.{ChangesOfTheLast}
use Rattle.fs_history.specs.declared.batch.Batch.{Batch}
use Rattle.fs_versions.specs.Chain.{last_document}
use Rattle.fs_versions.specs.Chains.{Chains, chain_of, installed}
use Rattle.fs_store.proofs.Installing.{chain_installed, last_extended}
use Rattle.fs_history.specs.Brings.{Brings}
use Rattle.fs_store.specs.Fits.{AreAllNext, AreNext, IsNext, TimesRise}
use Rattle.fs_machine.specs.NamesApart.{AreApart, IsApartFrom}
use Rattle.fs_machine.specs.Past.{batches}
use Rattle.fs_machine.specs.Release.{free_to}
use Rattle.fs_machine.specs.UnreleasedRise.{RiseFrom}
use Rattle.fs_machine.specs.declared.unreleased.Unreleased.{Unreleased}
use Rattle.fs_machine.proofs.ResultsHold.{agree_behind}
use Rattle.fs_past.specs.declared.accepted.Accepted.{Accepted}
use Rattle.fs_past.specs.Kept.{BringsEffects, Stands, all_history, all_unreleased, changes_of, kept_on_board}
use Rattle.fs_past.proofs.OnBoard.{Posted1}

-- ---- each change is the next of its name

-- a change is what its name finds
found_itself : (cs : List Change) (k : ℕ) (d : Change) → IsTrue (is_sorted name_cmp (changes_by_name cs)) → k < length cs → find name_cmp (get_or cs k d).name (changes_by_name cs) ≡ Some (get_or cs k d)
found_itself cs k d rise within =
    let c = get_or cs k d in
    find-tied name_cmp (λ x. (x.name, x)) name_cmp_total c.name cs k (d.name, d) rise within
    (λ e. subst (λ x. name_cmp x.name c.name ≡ Equal) (get_or_default cs k d e within) (tied_itself name_cmp_total c.name))
    ∙ ap (λ (e : DocName × Change). Some e.1) (get_or-map (λ x. (x.name, x)) cs k d (d.name, d) within)

abbrev before_of : Option Change → Option Document
before_of None = None
before_of (Some c) = c.before

told_before : (name : DocName) (before after : Option Document) (c : Change) (b : Bool) → cond b None (Some (record { name = name; before = before; after = after })) ≡ Some c → c.before ≡ before
told_before name before after c true is = absurd (cc)
told_before name before after c false is = sym (ap before_of is)

-- the newest version of each name is what a history leaves of it
abbrev pub AreNewest : List Batch → Chains → Type 0
AreNewest h v = (q : DocName) → get (whole h) q ≡ last_document (chain_of v q)

module _ (h : List Batch) (v : Chains) (b : Batch) (cs : List Change) (newest : AreNewest h v) (are : AreChanges (whole h) (whole (b ∷ h)) cs) (named : AllByRecursion IsNamed cs) where
  next_at : (k : ℕ) (d : Change) → k < length cs → IsNext v (get_or cs k d)
  next_at k d within =
      let c = get_or cs k d in
      let is = sym (are.told c.name) ∙ found_itself cs k d are.rise within in
      record {
        named = All-from_recursion IsNamed cs named k d within;
        before = told_before c.name (get (whole h) c.name) (get (whole (b ∷ h)) c.name) c (is_unchanged (get (whole h) c.name) (get (whole (b ∷ h)) c.name)) is ∙ newest c.name;
      }

  all_are_next : AreAllNext v cs
  all_are_next = record { rise = are.rise; next = next_at }

-- the changes of a batch, installed
newest_installed : (h : List Batch) (v : Chains) (b : Batch) (a : Accepted) (t : ℤ) → AreNewest h v → IsOutcome (whole h) b.writes b.time a.change.changes a.results → AreNewest (b ∷ h) (installed v a.change.changes t)
newest_installed h v b a t newest had q =
    let cs = a.change.changes in
    let o = find name_cmp q (changes_by_name cs) in
    law_left (whole h) b.writes b.time cs a.results q had
    ∙ ap (changed_to o) (newest q)
    ∙ sym (last_extended t o (chain_of v q))
    ∙ ap last_document (sym (chain_installed v cs t q had.changed.rise))

-- ---- what others bring is right still, once a commit is in the history

effects_behind : (h : List Batch) (u w : Unreleased) (o : Option Accepted) → IsApartFrom u.batch w.batch → BringsEffects (whole h) w o → BringsEffects (whole (u.batch ∷ h)) w o
effects_behind h u w None apart brings = tt
effects_behind h u w (Some a) apart brings = (
  brings.0,
  law_named (whole h) (whole (u.batch ∷ h)) w.batch.writes w.batch.time a.change.changes a.results (λ x at. sym (agree_behind h u.batch w.batch.writes apart x at)) brings.1,
  brings.2,
  brings.3,
)

pub stand_behind : (cs : List Posted1) (h : List Batch) (u : Unreleased) → AllByRecursion (Stands (whole h)) cs → AllByRecursion (IsApartFrom u.batch) (batches (all_unreleased cs))
    → AllByRecursion (Stands (whole (u.batch ∷ h))) cs
stand_behind [] h u all apart = tt
stand_behind (c ∷ cs) h u all apart = (
  record { time = all.0.time; id = all.0.id; pending = all.0.pending; effects = effects_behind h u c.asked c.batch apart.0 all.0.effects },
  stand_behind cs h u all.1 apart.1,
)

-- ---- all that is let in

-- the changes of a commit and of those after it
abbrev changes_from : Unreleased → Option Accepted → List Posted1 → List TimedChange
changes_from u o cs = map (λ (r : Unreleased × Accepted). r.1.change) (option_map_or (λ a. (u, a) ∷ all_ready cs) o [])

abbrev history_from : Option Accepted → List Batch → Unreleased → List Posted1 → List Batch
history_from o h u cs = cond (is_none o) h (all_history (u.batch ∷ h) cs)

module _ (law : ChangesOfTheLast) where
  -- they are the next of a store's versions, and make the history another
  abbrev GoIn : List Batch → Chains → List TimedChange → List Batch → Type 0
  GoIn h v ds k = AreNext v ds × Brings h ds k

  in_next : (h : List Batch) (v : Chains) (u : Unreleased) (o : Option Accepted) (cs : List Posted1) → BringsEffects (whole h) u o → AreNewest h v
      → ((w : Chains) → AreNewest (u.batch ∷ h) w → GoIn (u.batch ∷ h) w (changes_of cs) (all_history (u.batch ∷ h) cs))
      → GoIn h v (changes_from u o cs) (history_from o h u cs)
  in_next h v u None cs brings newest more = (tt, refl)
  in_next h v u (Some a) cs brings newest more =
      let are = law u.batch h a.change.changes a.results brings.1 in
      let rest = more (installed v a.change.changes a.change.time) (newest_installed h v u.batch a a.change.time newest brings.1) in
      ((all_are_next h v u.batch a.change.changes newest are brings.2, rest.0), (u.batch, record { time = sym brings.0; id = sym brings.3; changes = are }, rest.1))

  pub go_in : (cs : List Posted1) (h : List Batch) (v : Chains) → AllByRecursion (Stands (whole h)) cs → AreApart (batches (all_unreleased cs)) → AreNewest h v → GoIn h v (changes_of cs) (all_history h cs)
  go_in [] h v all apart newest = (tt, refl)
  go_in (c ∷ cs) h v all apart newest =
      in_next h v c.asked c.batch cs all.0.effects newest (λ w newer. go_in cs (c.asked.batch ∷ h) w (stand_behind cs h c.asked all.1 apart.0) apart.1 newer)

-- their times rise, up to what can be released
times_next : (docs : Docs) (u : Unreleased) (o : Option Accepted) (cs : List Posted1) (from last : ℤ) → BringsEffects docs u o → from <ℤ u.batch.time → TimesRise u.batch.time (free_to last (all_unreleased cs)) (changes_of cs)
    → TimesRise from (cond (is_none (option_map (λ (a : Accepted). a.results) o)) (u.batch.time -ℤ pos 1) (free_to last (all_unreleased cs))) (changes_from u o cs)
times_next docs u None cs from last brings above more = omega (arith, ints)
times_next docs u (Some a) cs from last brings above more =
    (subst (λ t. from <ℤ t) (sym brings.0) above, subst (λ t. TimesRise t (free_to last (all_unreleased cs)) (changes_of cs)) (sym brings.0) more)

pub times_rise : (docs : Docs) (cs : List Posted1) (from last : ℤ) → AllByRecursion (Stands docs) cs → RiseFrom from last (all_unreleased cs) → TimesRise from (free_to last (all_unreleased cs)) (changes_of cs)
times_rise docs [] from last all above = above
times_rise docs (c ∷ cs) from last all above = times_next docs c.asked c.batch cs from last all.0.effects above.0 (times_rise docs cs c.asked.batch.time last all.1 above.1)

-- those that stay stand still
left_next : (h : List Batch) (u : Unreleased) (c : Posted1) (cs : List Posted1) (b : Bool) → Stands (whole h) c → AllByRecursion (Stands (whole h)) cs → AllByRecursion (Stands (whole (all_history (u.batch ∷ h) cs))) (kept_on_board cs)
    → AllByRecursion (Stands (whole (cond b h (all_history (u.batch ∷ h) cs)))) (cond b (c ∷ cs) (kept_on_board cs))
left_next h u c cs true here all more = (here, all)
left_next h u c cs false here all more = more

pub stand_left : (cs : List Posted1) (h : List Batch) → AllByRecursion (Stands (whole h)) cs → AreApart (batches (all_unreleased cs)) → AllByRecursion (Stands (whole (all_history h cs))) (kept_on_board cs)
stand_left [] h all apart = tt
stand_left (c ∷ cs) h all apart =
    left_next h c.asked c cs (is_none c.batch) all.0 all.1 (stand_left cs (c.asked.batch ∷ h) (stand_behind cs h c.asked all.1 apart.0) apart.1)
