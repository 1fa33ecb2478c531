-- The commits on the board, as those that aren't in the history.
use Rattle.std.proofs.Common.{◌≡◌, ℕ, ◌+◌, ◌≤◌, ℤ, Bool, true, false, cond, List, [], ◌∷◌, ◌++◌, length, Option, Some, None, refl, length-append, sym, ap, ◌∙◌, subst, suc, arith}
use Rattle.std.specs.Prelude.{pos, ◌-ℤ◌, ◌==◌, ◌&&◌, IsSome, is_none, is_some, sum_by}
use Rattle.std.specs.List.{AllByRecursion}
use Rattle.std.specs.Option.{option_map}
use Rattle.std.proofs.lemmas.Bool.{eqb-true}
use Rattle.std.proofs.lemmas.List.{map-append}
use Rattle.std.proofs.lemmas.List.Sums.{sum_by-cons, sum_by_push}
use Rattle.fs_board.specs.Board.{Commit, HasNo, accepted_with, asked_in, asked_pending, free_to as board_free_to, next_pending_in, pending_in as board_pending, time_in, without}
use Rattle.fs_board.specs.Rising.{Differ}
use Rattle.fs_board.proofs.Keeping.{not_behind, not_there}
use Rattle.fs_history.specs.Bytes.{batch_size}
use Rattle.fs_machine.specs.declared.unreleased.Unreleased.{Unreleased}
use Rattle.fs_machine.specs.IdsAreDrawn.{times_in}
use Rattle.fs_machine.specs.Past.{batches, is_pending}
use Rattle.fs_machine.specs.Pending.{next_in}
use Rattle.fs_machine.specs.Release.{free_to}
use Rattle.fs_machine.specs.Settle.{accepted_in, dropped_from, pending_in}
use Rattle.fs_write.specs.Batch.{Docs}
use Rattle.fs_past.specs.declared.accepted.Accepted.{Accepted}
use Rattle.fs_past.specs.Kept.{Stands, all_unreleased, bytes_of, unreleased_of}

-- on the board
abbrev pub Posted1 : Type 0
Posted1 = Commit Unreleased Accepted

-- a commit with its results, or none
abbrev pub with_brought : Unreleased → Option Accepted → Unreleased
with_brought u o = record u { results = option_map (λ a. a.results) o }

-- the results that it has of old are none
pub with_none : (u : Unreleased) → u.results ≡ None → with_brought u None ≡ u
with_none u is = ap (λ r. record u { results = r }) (sym is)

-- ---- the pending commit of a number

-- what a search for it finds, where the board has it pending or not
abbrev pub Found : Bool → Option Unreleased → Option Unreleased → Type 0
Found true asked found = (u : Unreleased) × (asked ≡ Some u) × (found ≡ Some u)
Found false asked found = found ≡ None

number_test : (n m id : ℕ) (b : Bool) → n ≡ m → (m == id) ≡ b → (n == id) ≡ b
number_test n m id b same is = ap (λ k. k == id) same ∙ is

-- none has a number
none_is_it : (docs : Docs) (cs : List Posted1) (id : ℕ) → AllByRecursion (Stands docs) cs → HasNo id cs → pending_in id (all_unreleased cs) ≡ None
none_is_it docs [] id stand none = refl
none_is_it docs (c ∷ cs) id stand none =
    let other = number_test c.asked.batch.id c.id id false stand.0.id (not_there (c.id == id) c.time (time_in id cs) none) in
    rw other (none_is_it docs cs id stand.1 (not_behind (c.id == id) c.time (time_in id cs) none))

found_here : (u : Unreleased) (o : Option Accepted) (id : ℕ) (us : List Unreleased) (t : Bool) → t ≡ true → u.results ≡ None → pending_in id us ≡ None
    → Found (is_none o) (Some u) (cond (t && is_pending (with_brought u o)) (Some (with_brought u o)) (pending_in id us))
found_here u None id us true is none rest = (u, refl, ap Some (with_none u none))
found_here u (Some a) id us true is none rest = rest
found_here u o id us false is none rest = absurd (cc)

found_later : (u : Unreleased) (o : Option Unreleased) (b c t : Bool) (rest : Option Unreleased) → t ≡ false → Found b o rest → Found b o (cond (t && c) (Some u) rest)
found_later u o b c true rest is found = absurd (cc)
found_later u o b c false rest is found = found

found_next : (docs : Docs) (c : Posted1) (cs : List Posted1) (id : ℕ) (b : Bool) → (c.id == id) ≡ b → Stands docs c → AllByRecursion (Stands docs) cs → HasNo c.id cs
    → Found (board_pending id cs) (asked_in id cs) (pending_in id (all_unreleased cs))
    → Found (cond b (is_none c.batch) (board_pending id cs)) (cond b (Some c.asked) (asked_in id cs)) (pending_in id (all_unreleased (c ∷ cs)))
found_next docs c cs id true is stands stand none more =
    let none' = subst (λ n. HasNo n cs) (eqb-true c.id id is) none in
    found_here c.asked c.batch id (all_unreleased cs) (c.asked.batch.id == id) (number_test c.asked.batch.id c.id id true stands.id is) stands.pending (none_is_it docs cs id stand none')
found_next docs c cs id false is stands stand none more =
    found_later (unreleased_of c) (asked_in id cs) (board_pending id cs) (is_pending (unreleased_of c)) (c.asked.batch.id == id) (pending_in id (all_unreleased cs)) (number_test c.asked.batch.id c.id id false stands.id is) more

pub found_on_board : (docs : Docs) (cs : List Posted1) (id : ℕ) → AllByRecursion (Stands docs) cs → Differ cs → Found (board_pending id cs) (asked_in id cs) (pending_in id (all_unreleased cs))
found_on_board docs [] id stand differ = refl
found_on_board docs (c ∷ cs) id stand differ = found_next docs c cs id (c.id == id) refl stand.0 stand.1 differ.0 (found_on_board docs cs id stand.1 differ.1)

told_some : (b : Bool) (asked found : Option Unreleased) → Found b asked found → b ≡ is_some found
told_some true asked found f = sym (ap is_some f.2)
told_some false asked found f = sym (ap is_some f)

told_pending : (b : Bool) (asked found : Option Unreleased) → Found b asked found → cond b asked None ≡ found
told_pending true asked found f = f.1 ∙ sym f.2
told_pending false asked found f = sym f

told_true : (b : Bool) (asked found : Option Unreleased) → Found b asked found → true ≡ b → asked ≡ found
told_true true asked found f is = f.1 ∙ sym f.2
told_true false asked found f is = absurd (cc)

some_is : (found : Option Unreleased) → IsSome found → is_some found ≡ true
some_is None is = absurd (cc)
some_is (Some u) is = refl

module _ (docs : Docs) (cs : List Posted1) (id : ℕ) (stand : AllByRecursion (Stands docs) cs) (differ : Differ cs) where
  pub is_pending_there : board_pending id cs ≡ is_some (pending_in id (all_unreleased cs))
  is_pending_there = told_some (board_pending id cs) (asked_in id cs) (pending_in id (all_unreleased cs)) (found_on_board docs cs id stand differ)

  pub asked_there : true ≡ board_pending id cs → asked_in id cs ≡ pending_in id (all_unreleased cs)
  asked_there is = told_true (board_pending id cs) (asked_in id cs) (pending_in id (all_unreleased cs)) (found_on_board docs cs id stand differ) is

  pub asked_pending_there : asked_pending id cs ≡ pending_in id (all_unreleased cs)
  asked_pending_there = told_pending (board_pending id cs) (asked_in id cs) (pending_in id (all_unreleased cs)) (found_on_board docs cs id stand differ)

  pub pending_there : IsSome (pending_in id (all_unreleased cs)) → board_pending id cs ≡ true
  pending_there some = is_pending_there ∙ some_is (pending_in id (all_unreleased cs)) some

-- ---- the first one that is pending

next_next : (u : Unreleased) (n : ℕ) (o : Option Accepted) (rest : Option ℕ) (us : List Unreleased) → u.batch.id ≡ n → rest ≡ next_in us
    → cond (is_none o) (Some n) rest ≡ cond (is_pending (with_brought u o)) (Some u.batch.id) (next_in us)
next_next u n None rest us same more = ap Some (sym same)
next_next u n (Some a) rest us same more = more

pub next_there : (docs : Docs) (cs : List Posted1) → AllByRecursion (Stands docs) cs → next_pending_in cs ≡ next_in (all_unreleased cs)
next_there docs [] stand = refl
next_there docs (c ∷ cs) stand = next_next c.asked c.id c.batch (next_pending_in cs) (all_unreleased cs) stand.0.id (next_there docs cs stand.1)

free_next : (u : Unreleased) (t : ℤ) (o : Option Accepted) (rest : ℤ) (last : ℤ) (us : List Unreleased) → u.batch.time ≡ t → rest ≡ free_to last us
    → cond (is_none o) (t -ℤ pos 1) rest ≡ cond (is_pending (with_brought u o)) (u.batch.time -ℤ pos 1) (free_to last us)
free_next u t None rest last us same more = ap (λ x. x -ℤ pos 1) (sym same)
free_next u t (Some a) rest last us same more = more

pub free_there : (docs : Docs) (last : ℤ) (cs : List Posted1) → AllByRecursion (Stands docs) cs → board_free_to last cs ≡ free_to last (all_unreleased cs)
free_there docs last [] stand = refl
free_there docs last (c ∷ cs) stand = free_next c.asked c.time c.batch (board_free_to last cs) last (all_unreleased cs) stand.0.time (free_there docs last cs stand.1)

-- ---- a new one

pub count_by : (b : Bool) (rest : ℕ) → cond b 1 0 + rest ≡ 0 → (b ≡ false) × (rest ≡ 0)
count_by true rest none = absurd (omega arith)
count_by false rest none = (refl, omega arith)

pub fresh_there : (docs : Docs) (cs : List Posted1) (id : ℕ) → AllByRecursion (Stands docs) cs → times_in id (batches (all_unreleased cs)) ≡ 0 → HasNo id cs
fresh_there docs [] id stand none = refl
fresh_there docs (c ∷ cs) id stand none =
    let both = count_by (c.asked.batch.id == id) (times_in id (batches (all_unreleased cs))) none in
    let other = number_test c.id c.asked.batch.id id false (sym stand.0.id) both.0 in
    rw other (fresh_there docs cs id stand.1 both.1)

pub all_more : (P : Posted1 → Type 0) (cs : List Posted1) (c : Posted1) → AllByRecursion P cs → P c → AllByRecursion P (cs ++ c ∷ [])
all_more P [] c all it = (it, tt)
all_more P (d ∷ cs) c all it = (all.0, all_more P cs c all.1 it)

-- ---- one is accepted

-- with what it brings at the first of a number that the machine takes to be pending
accepted_here : (u : Unreleased) (o : Option Accepted) (id : ℕ) (a : Accepted) (us : List Unreleased) (t : Bool) → t ≡ true → is_none o ≡ true
    → with_brought u (Some a) ∷ us ≡ cond (t && is_pending (with_brought u o)) (record (with_brought u o) { results = Some a.results } ∷ us) (with_brought u o ∷ accepted_in id a.results us)
accepted_here u None id a us true is pending = refl
accepted_here u (Some b) id a us true is pending = absurd (cc)
accepted_here u o id a us false is pending = absurd (cc)

accepted_later : (u : Unreleased) (c t : Bool) (id : ℕ) (a : Accepted) (us there : List Unreleased) → t ≡ false → there ≡ accepted_in id a.results us
    → u ∷ there ≡ cond (t && c) (record u { results = Some a.results } ∷ us) (u ∷ accepted_in id a.results us)
accepted_later u c true id a us there is more = absurd (cc)
accepted_later u c false id a us there is more = ap (λ x. u ∷ x) more

accepted_next : (docs : Docs) (c : Posted1) (cs : List Posted1) (id : ℕ) (a : Accepted) (b : Bool) → (c.id == id) ≡ b → Stands docs c → cond b (is_none c.batch) (board_pending id cs) ≡ true
    → (board_pending id cs ≡ true → all_unreleased (accepted_with id a cs) ≡ accepted_in id a.results (all_unreleased cs))
    → all_unreleased (cond b (record c { batch = Some a } ∷ cs) (c ∷ accepted_with id a cs)) ≡ accepted_in id a.results (all_unreleased (c ∷ cs))
accepted_next docs c cs id a true is stands pending more =
    accepted_here c.asked c.batch id a (all_unreleased cs) (c.asked.batch.id == id) (number_test c.asked.batch.id c.id id true stands.id is) pending
accepted_next docs c cs id a false is stands pending more =
    accepted_later (unreleased_of c) (is_pending (unreleased_of c)) (c.asked.batch.id == id) id a (all_unreleased cs) (all_unreleased (accepted_with id a cs))
    (number_test c.asked.batch.id c.id id false stands.id is) (more pending)

pub accepted_there : (docs : Docs) (cs : List Posted1) (id : ℕ) (a : Accepted) → AllByRecursion (Stands docs) cs → board_pending id cs ≡ true
    → all_unreleased (accepted_with id a cs) ≡ accepted_in id a.results (all_unreleased cs)
accepted_there docs [] id a stand pending = absurd (cc)
accepted_there docs (c ∷ cs) id a stand pending = accepted_next docs c cs id a (c.id == id) refl stand.0 pending (accepted_there docs cs id a stand.1)

-- all stand still, if it stands with what it brings
stand_next : (docs : Docs) (c : Posted1) (cs more : List Posted1) (id : ℕ) (a : Accepted) (b : Bool) (u : Unreleased) → cond b (Some c.asked) (asked_in id cs) ≡ Some u → Stands docs c → AllByRecursion (Stands docs) cs
    → (b ≡ true → c.asked ≡ u → Stands docs (record c { batch = Some a })) → (asked_in id cs ≡ Some u → AllByRecursion (Stands docs) more)
    → AllByRecursion (Stands docs) (cond b (record c { batch = Some a } ∷ cs) (c ∷ more))
stand_next docs c cs more id a true u is stands stand here rest = let same : c.asked ≡ u = cc in (here refl same, stand)
stand_next docs c cs more id a false u is stands stand here rest = (stands, rest is)

pub stand_accepted : (docs : Docs) (cs : List Posted1) (id : ℕ) (a : Accepted) (u : Unreleased) → AllByRecursion (Stands docs) cs → asked_in id cs ≡ Some u
    → ((c : Posted1) → Stands docs c → c.asked ≡ u → Stands docs (record c { batch = Some a })) → AllByRecursion (Stands docs) (accepted_with id a cs)
stand_accepted docs [] id a u stand is here = tt
stand_accepted docs (c ∷ cs) id a u stand is here =
    stand_next docs c cs (accepted_with id a cs) id a (c.id == id) u is stand.0 stand.1 (λ b same. here c stand.0 same) (λ rest. stand_accepted docs cs id a u stand.1 rest here)

length_next : (c : Posted1) (cs more : List Posted1) (a : Accepted) (b : Bool) → length more ≡ length cs → length (cond b (record c { batch = Some a } ∷ cs) (c ∷ more)) ≡ length (c ∷ cs)
length_next c cs more a true same = refl
length_next c cs more a false same = ap (λ n. suc n) same

pub length_accepted : (cs : List Posted1) (id : ℕ) (a : Accepted) → length (accepted_with id a cs) ≡ length cs
length_accepted [] id a = refl
length_accepted (c ∷ cs) id a = length_next c cs (accepted_with id a cs) a (c.id == id) (length_accepted cs id a)

-- ---- one is dropped

dropped_here : (u : Unreleased) (o : Option Accepted) (id : ℕ) (us : List Unreleased) (t : Bool) → t ≡ true → is_none o ≡ true
    → us ≡ cond (t && is_pending (with_brought u o)) us (with_brought u o ∷ dropped_from id us)
dropped_here u None id us true is pending = refl
dropped_here u (Some b) id us true is pending = absurd (cc)
dropped_here u o id us false is pending = absurd (cc)

dropped_later : (u : Unreleased) (c t : Bool) (id : ℕ) (us there : List Unreleased) → t ≡ false → there ≡ dropped_from id us → u ∷ there ≡ cond (t && c) us (u ∷ dropped_from id us)
dropped_later u c true id us there is more = absurd (cc)
dropped_later u c false id us there is more = ap (λ x. u ∷ x) more

dropped_next : (docs : Docs) (c : Posted1) (cs : List Posted1) (id : ℕ) (b : Bool) → (c.id == id) ≡ b → Stands docs c → cond b (is_none c.batch) (board_pending id cs) ≡ true
    → (board_pending id cs ≡ true → all_unreleased (without id cs) ≡ dropped_from id (all_unreleased cs))
    → all_unreleased (cond b cs (c ∷ without id cs)) ≡ dropped_from id (all_unreleased (c ∷ cs))
dropped_next docs c cs id true is stands pending more =
    dropped_here c.asked c.batch id (all_unreleased cs) (c.asked.batch.id == id) (number_test c.asked.batch.id c.id id true stands.id is) pending
dropped_next docs c cs id false is stands pending more =
    dropped_later (unreleased_of c) (is_pending (unreleased_of c)) (c.asked.batch.id == id) id (all_unreleased cs) (all_unreleased (without id cs))
    (number_test c.asked.batch.id c.id id false stands.id is) (more pending)

pub dropped_there : (docs : Docs) (cs : List Posted1) (id : ℕ) → AllByRecursion (Stands docs) cs → board_pending id cs ≡ true → all_unreleased (without id cs) ≡ dropped_from id (all_unreleased cs)
dropped_there docs [] id stand pending = absurd (cc)
dropped_there docs (c ∷ cs) id stand pending = dropped_next docs c cs id (c.id == id) refl stand.0 pending (dropped_there docs cs id stand.1)

all_dropped_next : (P : Posted1 → Type 0) (c : Posted1) (cs more : List Posted1) (b : Bool) → P c → AllByRecursion P cs → AllByRecursion P more → AllByRecursion P (cond b cs (c ∷ more))
all_dropped_next P c cs more true here all rest = all
all_dropped_next P c cs more false here all rest = (here, rest)

pub all_dropped : (P : Posted1 → Type 0) (cs : List Posted1) (id : ℕ) → AllByRecursion P cs → AllByRecursion P (without id cs)
all_dropped P [] id all = tt
all_dropped P (c ∷ cs) id all = all_dropped_next P c cs (without id cs) (c.id == id) all.0 all.1 (all_dropped P cs id all.1)

fewer_next : (c : Posted1) (cs more : List Posted1) (b : Bool) → length more ≤ length cs → length (cond b cs (c ∷ more)) ≤ length (c ∷ cs)
fewer_next c cs more true fewer = omega arith
fewer_next c cs more false fewer = omega arith

pub fewer_dropped : (cs : List Posted1) (id : ℕ) → length (without id cs) ≤ length cs
fewer_dropped [] id = omega arith
fewer_dropped (c ∷ cs) id = fewer_next c cs (without id cs) (c.id == id) (fewer_dropped cs id)

-- ---- what they count

pub bytes_more : (c : Posted1) (cs : List Posted1) → bytes_of (c ∷ cs) ≡ batch_size c.asked.batch + bytes_of cs
bytes_more c cs = sum_by-cons (λ (u : Unreleased). batch_size u.batch) (unreleased_of c) (all_unreleased cs)

same_bytes_next : (c : Posted1) (cs more : List Posted1) (a : Accepted) (b : Bool) → bytes_of more ≡ bytes_of cs → bytes_of (cond b (record c { batch = Some a } ∷ cs) (c ∷ more)) ≡ bytes_of (c ∷ cs)
same_bytes_next c cs more a true same = bytes_more (record c { batch = Some a }) cs ∙ sym (bytes_more c cs)
same_bytes_next c cs more a false same = bytes_more c more ∙ ap (λ n. batch_size c.asked.batch + n) same ∙ sym (bytes_more c cs)

pub bytes_accepted : (cs : List Posted1) (id : ℕ) (a : Accepted) → bytes_of (accepted_with id a cs) ≡ bytes_of cs
bytes_accepted [] id a = refl
bytes_accepted (c ∷ cs) id a = same_bytes_next c cs (accepted_with id a cs) a (c.id == id) (bytes_accepted cs id a)

less_next : (c : Posted1) (cs more : List Posted1) (u : Unreleased) (b : Bool) (asked : Option Unreleased) → cond b (Some c.asked) asked ≡ Some u → (asked ≡ Some u → bytes_of cs ≡ batch_size u.batch + bytes_of more)
    → bytes_of (c ∷ cs) ≡ batch_size u.batch + bytes_of (cond b cs (c ∷ more))
less_next c cs more u true asked is rest = let same : c.asked ≡ u = cc in bytes_more c cs ∙ ap (λ (v : Unreleased). batch_size v.batch + bytes_of cs) same
less_next c cs more u false asked is rest =
    let a = bytes_more c cs in let b = bytes_more c more in let r = rest is in omega arith

pub bytes_dropped : (cs : List Posted1) (id : ℕ) (u : Unreleased) → asked_in id cs ≡ Some u → bytes_of cs ≡ batch_size u.batch + bytes_of (without id cs)
bytes_dropped [] id u is = absurd (cc)
bytes_dropped (c ∷ cs) id u is = less_next c cs (without id cs) u (c.id == id) (asked_in id cs) is (bytes_dropped cs id u)

-- with one more
module _ (c : Posted1) (u : Unreleased) (is : unreleased_of c ≡ u) (cs : List Posted1) where
  pub unreleased_more : all_unreleased (cs ++ c ∷ []) ≡ all_unreleased cs ++ u ∷ []
  unreleased_more = map-append unreleased_of cs (c ∷ []) ∙ ap (λ v. all_unreleased cs ++ v ∷ []) is

  pub bytes_and_more : bytes_of (cs ++ c ∷ []) ≡ bytes_of cs + batch_size u.batch
  bytes_and_more = ap (sum_by (λ (v : Unreleased). batch_size v.batch)) unreleased_more ∙ sum_by_push (λ (v : Unreleased). batch_size v.batch) (all_unreleased cs) u

  pub length_more : length (cs ++ c ∷ []) ≡ length cs + 1
  length_more = length-append cs (c ∷ [])
