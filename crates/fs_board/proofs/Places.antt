-- Where the commit of an id stands among the entries by time, and what becomes of it there.
use Rattle.std.proofs.Common.{◌≡◌, ℕ, ℤ, ◌<ℤ◌, Bool, true, false, cond, List, [], ◌∷◌, ◌++◌, Option, Some, None, refl, sym, ap, ◌∙◌, subst, arith}
use Rattle.std.specs.Prelude.{pos, ◌+ℤ◌, ◌==◌, is_none, is_some}
use Rattle.std.specs.BTreeMap.{is_at, insert_entry}
use Rattle.std.specs.List.{AllByRecursion}
use Rattle.std.specs.Map.{lookup, set_value, remove_entry}
use Rattle.std.specs.Option.{option_map, option_map_or}
use Rattle.std.specs.Ordering.{int_cmp, match_ordering}
use Rattle.std.proofs.lemmas.Int.{ints}
use Rattle.std.proofs.lemmas.Option.{same_Some}
use Rattle.fs_board.specs.Board.{Commit, Posted, prepared, time_in, asked_in, asked_pending, pending_in, accepted_with, without, commit_at, posted}
use Rattle.fs_board.specs.Held.{entry_in}
use Rattle.fs_board.specs.Rising.{RiseTo}
use Rattle.fs_board.specs.declared.entry.Entry.{Entry}
use Rattle.fs_board.proofs.Keys.{time_at_itself, time_not_at, time_after}

module _ {A B : Type 0} where
  above_next : (c : Commit A B) (cs : List (Commit A B)) (id : ℕ) (t u : ℤ) (b : Bool) → t <ℤ c.time → (time_in id cs ≡ Some u → t <ℤ u) → cond b (Some c.time) (time_in id cs) ≡ Some u → t <ℤ u
  above_next c cs id t u true first more e = subst (λ v. t <ℤ v) (same_Some c.time u e) first
  above_next c cs id t u false first more e = more e

  -- what is behind a time is above it
  time_above : (cs : List (Commit A B)) (id : ℕ) (t u : ℤ) → AllByRecursion (λ d. t <ℤ d.time) cs → time_in id cs ≡ Some u → t <ℤ u
  time_above [] id t u above e = absurd (cc)
  time_above (c ∷ cs) id t u above e = above_next c cs id t u (c.id == id) above.0 (time_above cs id t u above.1) e

  test_next : (e : ℤ × Entry A B) (es : List (ℤ × Entry A B)) (id : ℕ) (t : ℤ) (b : Bool) → AllByRecursion (λ d. e.0 <ℤ d.time) (posted es) → cond b (Some e.0) (time_in id (posted es)) ≡ Some t → is_at (int_cmp t) e.0 ≡ b
  test_next e es id t true above is = subst (λ u. is_at (int_cmp u) e.0 ≡ true) (same_Some e.0 t is) (time_at_itself e.0)
  test_next e es id t false above is = time_not_at t e.0 (time_above (posted es) id e.0 t above is)

  -- the search for the time of an id stops where one for the id does
  test_is : (e : ℤ × Entry A B) (es : List (ℤ × Entry A B)) (id : ℕ) (t last : ℤ) → RiseTo last (posted (e ∷ es)) → time_in id (posted (e ∷ es)) ≡ Some t → is_at (int_cmp t) e.0 ≡ (e.1.id == id)
  test_is e es id t last rise is = test_next e es id t (e.1.id == id) rise.1 is

  -- ---- the entry that is found

  has_time_next : (c : Commit A B) (cs : List (Commit A B)) (id : ℕ) (b : Bool) → (pending_in id cs ≡ true → is_some (time_in id cs) ≡ true) → cond b (is_none c.batch) (pending_in id cs) ≡ true → is_some (cond b (Some c.time) (time_in id cs)) ≡ true
  has_time_next c cs id true more is = refl
  has_time_next c cs id false more is = more is

  pub has_time : (cs : List (Commit A B)) (id : ℕ) → pending_in id cs ≡ true → is_some (time_in id cs) ≡ true
  has_time [] id is = absurd (cc)
  has_time (c ∷ cs) id is = has_time_next c cs id (c.id == id) (has_time cs id) is

  entry_next : (e : ℤ × Entry A B) (es : List (ℤ × Entry A B)) (id : ℕ) (t : ℤ) (b : Bool) → (time_in id (posted es) ≡ Some t → lookup (is_at (int_cmp t)) es ≡ entry_in id (posted es))
      → cond b (Some e.0) (time_in id (posted es)) ≡ Some t → cond b (Some e.1) (lookup (is_at (int_cmp t)) es) ≡ cond b (Some e.1) (entry_in id (posted es))
  entry_next e es id t true more is = refl
  entry_next e es id t false more is = more is

  -- the search for the time of an id finds what stands at its commit
  pub entry_there : (es : List (ℤ × Entry A B)) (id : ℕ) (t last : ℤ) → RiseTo last (posted es) → time_in id (posted es) ≡ Some t → lookup (is_at (int_cmp t)) es ≡ entry_in id (posted es)
  entry_there [] id t last rise is = refl
  entry_there (e ∷ es) id t last rise is =
      ap (λ b. cond b (Some e.1) (lookup (is_at (int_cmp t)) es)) (test_is e es id t last rise is)
      ∙ entry_next e es id t (e.1.id == id) (entry_there es id t last rise.2) is

  some_next : (c : Commit A B) (e : Entry A B) (cs : List (Commit A B)) (id : ℕ) (t : ℤ) (b : Bool) → (time_in id cs ≡ Some t → is_some (entry_in id cs) ≡ true) → cond b (Some c.time) (time_in id cs) ≡ Some t
      → is_some (cond b (Some e) (entry_in id cs)) ≡ true
  some_next c e cs id t true more is = refl
  some_next c e cs id t false more is = more is

  some_entry : (cs : List (Commit A B)) (id : ℕ) (t : ℤ) → time_in id cs ≡ Some t → is_some (entry_in id cs) ≡ true
  some_entry [] id t is = absurd (cc)
  some_entry (c ∷ cs) id t is = some_next c (record { id = c.id; asked = c.asked; batch = c.batch }) cs id t (c.id == id) (some_entry cs id t) is

  none_next : (c : Commit A B) (e : Entry A B) (cs : List (Commit A B)) (id : ℕ) (b : Bool) → (time_in id cs ≡ None → entry_in id cs ≡ None) → cond b (Some c.time) (time_in id cs) ≡ None → cond b (Some e) (entry_in id cs) ≡ None
  none_next c e cs id true more is = absurd (cc)
  none_next c e cs id false more is = more is

  pub no_entry : (cs : List (Commit A B)) (id : ℕ) → time_in id cs ≡ None → entry_in id cs ≡ None
  no_entry [] id is = refl
  no_entry (c ∷ cs) id is = none_next c (record { id = c.id; asked = c.asked; batch = c.batch }) cs id (c.id == id) (no_entry cs id) is

  pub found_there : (es : List (ℤ × Entry A B)) (id : ℕ) (t last : ℤ) → RiseTo last (posted es) → time_in id (posted es) ≡ Some t → is_some (lookup (is_at (int_cmp t)) es) ≡ true
  found_there es id t last rise is = ap is_some (entry_there es id t last rise is) ∙ some_entry (posted es) id t is

  -- ---- what it has, and whether it is pending

  asked_next : (c : Commit A B) (cs : List (Commit A B)) (id : ℕ) (b : Bool) → asked_in id cs ≡ option_map (λ e. e.asked) (entry_in id cs)
      → cond b (Some c.asked) (asked_in id cs) ≡ option_map (λ (e : Entry A B). e.asked) (cond b (Some (record { id = c.id; asked = c.asked; batch = c.batch })) (entry_in id cs))
  asked_next c cs id true more = refl
  asked_next c cs id false more = more

  pub asked_by : (cs : List (Commit A B)) (id : ℕ) → asked_in id cs ≡ option_map (λ e. e.asked) (entry_in id cs)
  asked_by [] id = refl
  asked_by (c ∷ cs) id = asked_next c cs id (c.id == id) (asked_by cs id)

  pub asked_there : (es : List (ℤ × Entry A B)) (id : ℕ) (t last : ℤ) (o : Entry A B) → RiseTo last (posted es) → time_in id (posted es) ≡ Some t → lookup (is_at (int_cmp t)) es ≡ Some o
      → asked_in id (posted es) ≡ Some o.asked
  asked_there es id t last o rise is at = asked_by (posted es) id ∙ ap (option_map (λ (e : Entry A B). e.asked)) (sym (entry_there es id t last rise is) ∙ at)

  pending_next : (c : Commit A B) (cs : List (Commit A B)) (id : ℕ) (b : Bool) → pending_in id cs ≡ option_map_or (λ e. is_none e.batch) (entry_in id cs) false
      → cond b (is_none c.batch) (pending_in id cs) ≡ option_map_or (λ (e : Entry A B). is_none e.batch) (cond b (Some (record { id = c.id; asked = c.asked; batch = c.batch })) (entry_in id cs)) false
  pending_next c cs id true more = refl
  pending_next c cs id false more = more

  pub pending_by : (cs : List (Commit A B)) (id : ℕ) → pending_in id cs ≡ option_map_or (λ e. is_none e.batch) (entry_in id cs) false
  pending_by [] id = refl
  pending_by (c ∷ cs) id = pending_next c cs id (c.id == id) (pending_by cs id)

  -- what an entry has, if it is pending
  abbrev pub pending_entry : Option (Entry A B) → Option A
  pending_entry o = cond (option_map_or (λ e. is_none e.batch) o false) (option_map (λ e. e.asked) o) None

  pub asked_pending_by : (cs : List (Commit A B)) (id : ℕ) → asked_pending id cs ≡ pending_entry (entry_in id cs)
  asked_pending_by cs id = ap (λ b. cond b (asked_in id cs) None) (pending_by cs id) ∙ ap (λ o. cond (option_map_or (λ (e : Entry A B). is_none e.batch) (entry_in id cs) false) o None) (asked_by cs id)

  -- ---- accepted

  accepted_next : (e : ℤ × Entry A B) (es : List (ℤ × Entry A B)) (id : ℕ) (t : ℤ) (o : Entry A B) (batch : B) (b : Bool)
      → (time_in id (posted es) ≡ Some t → lookup (is_at (int_cmp t)) es ≡ Some o → posted (set_value (is_at (int_cmp t)) es (record o { batch = Some batch })) ≡ accepted_with id batch (posted es))
      → cond b (Some e.0) (time_in id (posted es)) ≡ Some t → cond b (Some e.1) (lookup (is_at (int_cmp t)) es) ≡ Some o
      → posted (cond b ((e.0, record o { batch = Some batch }) ∷ es) (e ∷ set_value (is_at (int_cmp t)) es (record o { batch = Some batch })))
      ≡ cond b (record (commit_at e) { batch = Some batch } ∷ posted es) (commit_at e ∷ accepted_with id batch (posted es))
  accepted_next e es id t o batch true more is at = let same : o ≡ e.1 = cc in ap (λ (p : Entry A B). record { time = e.0; id = p.id; asked = p.asked; batch = Some batch } ∷ posted es) same
  accepted_next e es id t o batch false more is at = ap (λ cs. commit_at e ∷ cs) (more is at)

  pub accepted_there : (es : List (ℤ × Entry A B)) (id : ℕ) (t last : ℤ) (o : Entry A B) (batch : B) → RiseTo last (posted es) → time_in id (posted es) ≡ Some t → lookup (is_at (int_cmp t)) es ≡ Some o
      → posted (set_value (is_at (int_cmp t)) es (record o { batch = Some batch })) ≡ accepted_with id batch (posted es)
  accepted_there [] id t last o batch rise is at = refl
  accepted_there (e ∷ es) id t last o batch rise is at =
      let test = test_is e es id t last rise is in
      ap (λ b. posted (cond b ((e.0, record o { batch = Some batch }) ∷ es) (e ∷ set_value (is_at (int_cmp t)) es (record o { batch = Some batch })))) test
      ∙ accepted_next e es id t o batch (e.1.id == id) (accepted_there es id t last o batch rise.2) is (subst (λ b. cond b (Some e.1) (lookup (is_at (int_cmp t)) es) ≡ Some o) test at)

  -- ---- dropped

  dropped_next : (e : ℤ × Entry A B) (es : List (ℤ × Entry A B)) (id : ℕ) (t : ℤ) (b : Bool) → (time_in id (posted es) ≡ Some t → posted (remove_entry (is_at (int_cmp t)) es) ≡ without id (posted es))
      → cond b (Some e.0) (time_in id (posted es)) ≡ Some t
      → posted (cond b es (e ∷ remove_entry (is_at (int_cmp t)) es)) ≡ cond b (posted es) (commit_at e ∷ without id (posted es))
  dropped_next e es id t true more is = refl
  dropped_next e es id t false more is = ap (λ cs. commit_at e ∷ cs) (more is)

  pub dropped_there : (es : List (ℤ × Entry A B)) (id : ℕ) (t last : ℤ) → RiseTo last (posted es) → time_in id (posted es) ≡ Some t → posted (remove_entry (is_at (int_cmp t)) es) ≡ without id (posted es)
  dropped_there [] id t last rise is = refl
  dropped_there (e ∷ es) id t last rise is =
      ap (λ b. posted (cond b es (e ∷ remove_entry (is_at (int_cmp t)) es))) (test_is e es id t last rise is)
      ∙ dropped_next e es id t (e.1.id == id) (dropped_there es id t last rise.2) is

  -- ---- prepared

  -- an entry at a later time comes behind all others
  pub put_behind : (es : List (ℤ × Entry A B)) (t last : ℤ) (o : Entry A B) → RiseTo last (posted es) → last <ℤ t → posted (insert_entry int_cmp es t o) ≡ posted es ++ commit_at (t, o) ∷ []
  put_behind [] t last o rise later = refl
  put_behind (e ∷ es) t last o rise later =
      let first = rise.0 in
      ap (λ r. posted (match_ordering r ((t, o) ∷ e ∷ es) ((e.0, o) ∷ es) (e ∷ insert_entry int_cmp es t o))) (time_after t e.0 (omega (arith, ints)))
      ∙ ap (λ cs. commit_at e ∷ cs) (put_behind es t last o rise.2 later)

  abbrev pub posted_as : List (Commit A B) → ℤ → Posted A B
  posted_as cs last = record { commits = cs; last = last }

  pub prepared_there : (es new : List (ℤ × Entry A B)) (last time : ℤ) (id : ℕ) (asked : A) → RiseTo last (posted es) → new ≡ insert_entry int_cmp es time (record { id = id; asked = asked; batch = None }) → time ≡ last +ℤ pos 1
      → posted_as (posted new) time ≡ prepared (posted_as (posted es) last) id asked
  prepared_there es new last time id asked rise put is =
      let more : Commit A B = record { time = time; id = id; asked = asked; batch = None } in
      let behind : posted new ≡ posted es ++ more ∷ [] = ap posted put ∙ put_behind es time last (record { id = id; asked = asked; batch = None }) rise (omega (arith, ints)) in
      ap (λ cs. posted_as cs time) behind ∙ ap (λ t. record { commits = posted es ++ record { time = t; id = id; asked = asked; batch = None } ∷ []; last = t }) is
