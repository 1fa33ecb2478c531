-- The commits that have a time and aren't released, and the times of a board.
--
--     5 accepted, 6 pending, 7 accepted, last 8       5 can be released, and 7 waits for 6, since a reader of 7 has to see 6 too
-- (v1 reference, "Commit": `commitTime`.)
use Rattle.std.specs.Prelude.{◌≡◌, ℕ, ℤ, pos, ◌+ℤ◌, ◌-ℤ◌, Bool, false, not, ◌&&◌, ◌==◌, int_le, int_lt, is_none, List, [], ◌∷◌, ◌++◌, map, Option, Some, None, refl, if◌then◌else◌}
use Rattle.std.specs.Option.{option_map, option_map_or}
use Rattle.std.specs.Coded.{Coded, code_by, coded×, coded_ℕ, coded_ℤ, coded_list, coded_option}
use Rattle.fs_board.specs.declared.entry.Entry.{Entry}

pub record Commit (A B : Type 0) : Type 0 where
  pub time : ℤ
  pub id : ℕ
  -- what it has from the beginning
  pub asked : A
  -- what it brings, once it is accepted. It is pending before that
  pub batch : Option B

pub record Posted (A B : Type 0) : Type 0 where
  -- by rising time
  pub commits : List (Commit A B)
  -- the greatest time that was issued
  pub last : ℤ

module _ {A B : Type 0} where
  -- they are stored as the tuples of their parts
  abbrev pub commit_code : Coded A → Coded B → Coded (Commit A B)
  commit_code asked batch =
      code_by (ℤ × (ℕ × (A × Option B))) (coded× coded_ℤ (coded× coded_ℕ (coded× asked (coded_option batch))))
      (λ c. (c.time, (c.id, (c.asked, c.batch))))
      (λ t. record { time = t.0; id = t.1.0; asked = t.1.1.0; batch = t.1.1.1 })
      (λ _. refl)

  abbrev pub posted_code : Coded A → Coded B → Coded (Posted A B)
  posted_code asked batch =
      code_by (List (Commit A B) × ℤ) (coded× (coded_list (commit_code asked batch)) coded_ℤ)
      (λ p. (p.commits, p.last))
      (λ t. record { commits = t.0; last = t.1 })
      (λ _. refl)

  abbrev pub is_pending : Commit A B → Bool
  is_pending c = is_none c.batch

  -- the commits of these entries by times
  abbrev pub commit_at : ℤ × Entry A B → Commit A B
  commit_at e = record { time = e.0; id = e.1.id; asked = e.1.asked; batch = e.1.batch }

  abbrev pub posted : List (ℤ × Entry A B) → List (Commit A B)
  posted es = map commit_at es

  -- ---- by its id

  -- the time of the commit of an id
  abbrev pub time_in : ℕ → List (Commit A B) → Option ℤ
  time_in id [] = None
  time_in id (c ∷ cs) = if c.id == id then Some c.time else time_in id cs

  -- no commit has it
  abbrev pub HasNo : ℕ → List (Commit A B) → Type 0
  HasNo id cs = time_in id cs ≡ None

  -- what the commit of an id has from the beginning
  abbrev pub asked_in : ℕ → List (Commit A B) → Option A
  asked_in id [] = None
  asked_in id (c ∷ cs) = if c.id == id then Some c.asked else asked_in id cs

  -- whether the commit of an id is pending
  abbrev pub pending_in : ℕ → List (Commit A B) → Bool
  pending_in id [] = false
  pending_in id (c ∷ cs) = if c.id == id then is_pending c else pending_in id cs

  -- what the commit of an id has, if it is pending
  abbrev pub asked_pending : ℕ → List (Commit A B) → Option A
  asked_pending id cs = if pending_in id cs then asked_in id cs else None

  -- with what it brings at the commit of an id
  abbrev pub accepted_with : ℕ → B → List (Commit A B) → List (Commit A B)
  accepted_with id batch [] = []
  accepted_with id batch (c ∷ cs) = if c.id == id then record c { batch = Some batch } ∷ cs else c ∷ accepted_with id batch cs

  -- without the commit of an id
  abbrev pub without : ℕ → List (Commit A B) → List (Commit A B)
  without id [] = []
  without id (c ∷ cs) = if c.id == id then cs else c ∷ without id cs

  -- ---- the last time

  -- a commit is pending at the time after the last
  abbrev pub prepared : Posted A B → ℕ → A → Posted A B
  prepared p id asked =
      record { commits = p.commits ++ record { time = p.last +ℤ pos 1; id = id; asked = asked; batch = None } ∷ []; last = p.last +ℤ pos 1 }

  -- the clock goes on to a moment
  abbrev pub ticked : Posted A B → ℤ → Posted A B
  ticked p now = record p { last = if int_lt p.last now then now else p.last }

  -- ---- what is released

  -- the time up to which none is pending: one below the first that is, or the last that was issued
  abbrev pub free_to : ℤ → List (Commit A B) → ℤ
  free_to last [] = last
  free_to last (c ∷ cs) = if is_pending c then c.time -ℤ pos 1 else free_to last cs

  -- the pending commit of the least time
  abbrev pub next_pending_in : List (Commit A B) → Option ℕ
  next_pending_in [] = None
  next_pending_in (c ∷ cs) = if is_pending c then Some c.id else next_pending_in cs

  -- it is accepted, at this time or before
  abbrev pub is_ready : ℤ → Commit A B → Bool
  is_ready to c = not (is_pending c) && int_le c.time to

  -- the time of the first commit and what it has and brings, if it is accepted: then none before it is pending
  abbrev pub ready : List (Commit A B) → Option (ℤ × A × B)
  ready [] = None
  ready (c ∷ cs) = option_map (λ batch. (c.time, c.asked, batch)) c.batch

  -- what is left once that is handed out
  abbrev pub rest_of : List (Commit A B) → List (Commit A B)
  rest_of [] = []
  rest_of (c ∷ cs) = if is_pending c then c ∷ cs else cs

  -- what the accepted commits have and bring before which none is pending
  abbrev pub all_ready : List (Commit A B) → List (A × B)
  all_ready [] = []
  all_ready (c ∷ cs) = option_map_or (λ batch. (c.asked, batch) ∷ all_ready cs) c.batch []

  -- that of one, where there is one alone
  abbrev pub only_ready : List (A × B) → Option (A × B)
  only_ready [] = None
  only_ready (r ∷ []) = Some r
  only_ready (r ∷ s ∷ rs) = None
