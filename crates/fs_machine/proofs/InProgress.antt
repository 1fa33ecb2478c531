-- The batches that a stream has in progress, as a commit or a request more comes, and others are accepted or withdrawn.
use Rattle.std.proofs.Common.{◌≡◌, ℕ, Bool, true, false, cond, List, [], ◌∷◌, ◌++◌, map, Option, Some, None, length, refl, sym, ap, ◌∙◌, arith}
use Rattle.std.specs.Prelude.{◌==◌, ◌&&◌, is_none, not}
use Rattle.std.specs.List.{filter}
use Rattle.std.proofs.lemmas.List.{length-append, length-map, map-append}
use Rattle.std.proofs.lemmas.List.Elements.{filter-append}
use Rattle.fs_write.specs.declared.write.Write.{Write}
use Rattle.fs_write.specs.declared.write_result.WriteResult.{WriteResult}
use Rattle.fs_machine.specs.Commit.{past_prepared}
use Rattle.fs_machine.specs.Leave.{is_own, of_others}
use Rattle.fs_machine.specs.Past.{Past}
use Rattle.fs_machine.specs.Settle.{accepted_in, is_it}
use Rattle.fs_machine.specs.StreamLaws.{writes_of}
use Rattle.fs_machine.specs.StreamsHold.{answers, is_for, of_stream, tally, under_way, waiting_for}
use Rattle.fs_machine.specs.declared.parked_request.ParkedRequest.{ParkedRequest}
use Rattle.fs_machine.specs.declared.unreleased.Unreleased.{Unreleased}
use Rattle.fs_machine.proofs.Tallies.{passing_count}

-- by their writes
abbrev pub Batches : Type 0
Batches = List (List Write)

-- those that are commits, those that wait to be, and both
abbrev pub pending_writes : ℕ → List Unreleased → Batches
pending_writes n us = map (λ u. u.batch.writes) (of_stream n us)

abbrev pub waiting_writes : ℕ → List ParkedRequest → Batches
waiting_writes n rs = map (λ r. writes_of r.envelope.request) (waiting_for n rs)

abbrev pub going : ℕ → Past → List ParkedRequest → Batches
going n p rs = pending_writes n p.unreleased ++ waiting_writes n rs

pub pending_count : (n : ℕ) (us : List Unreleased) → length (pending_writes n us) ≡ tally (λ u. answers n u.asker) us
pending_count n us = length-map (of_stream n us) (λ u. u.batch.writes) ∙ passing_count (λ (u : Unreleased). answers n u.asker) us

pub waiting_count : (n : ℕ) (rs : List ParkedRequest) → length (waiting_writes n rs) ≡ tally (λ r. is_for n r.stream) rs
waiting_count n rs = length-map (waiting_for n rs) (λ r. writes_of r.envelope.request) ∙ passing_count (λ (r : ParkedRequest). is_for n r.stream) rs

pub going_count : (n : ℕ) (p : Past) (rs : List ParkedRequest) → length (going n p rs) ≡ under_way n p rs
going_count n p rs =
    let both = length-append (pending_writes n p.unreleased) (waiting_writes n rs) in
    let pending = pending_count n p.unreleased in
    let waiting = waiting_count n rs in
    omega (arith, both, pending, waiting)

-- ---- one more

pub passed_more : {X Y : Type 0} (p : X → Bool) (f : X → Y) (xs : List X) (x : X) → map f (filter p (xs ++ x ∷ [])) ≡ map f (filter p xs) ++ cond (p x) (f x ∷ []) []
passed_more {X} {Y} p f xs x = ap (map f) (filter-append p xs (x ∷ [])) ∙ map-append f (filter p xs) (filter p (x ∷ [])) ∙ ap (λ ys. map f (filter p xs) ++ ys) (by_test (p x)) where
  by_test : (b : Bool) → map f (cond b (x ∷ []) []) ≡ cond b (f x ∷ []) []
  by_test true = refl
  by_test false = refl

pub pending_more : (n : ℕ) (p : Past) (u : Unreleased) (b : Bool) → answers n u.asker ≡ b → pending_writes n (past_prepared p u).unreleased ≡ pending_writes n p.unreleased ++ cond b (u.batch.writes ∷ []) []
pending_more n p u b is = passed_more (λ (u : Unreleased). answers n u.asker) (λ u. u.batch.writes) p.unreleased u ∙ ap (λ b. pending_writes n p.unreleased ++ cond b (u.batch.writes ∷ []) []) is

-- ---- lists that stay

accepted_next : (n id : ℕ) (results : List WriteResult) (u : Unreleased) (us : List Unreleased) (b : Bool) → pending_writes n (accepted_in id results us) ≡ pending_writes n us
    → pending_writes n (cond b (record u { results = Some results } ∷ us) (u ∷ accepted_in id results us)) ≡ pending_writes n (u ∷ us)
accepted_next n id results u us true more = by_test (answers n u.asker) where
  by_test : (b : Bool) → map (λ (u : Unreleased). u.batch.writes) (cond b (record u { results = Some results } ∷ of_stream n us) (of_stream n us)) ≡ map (λ (u : Unreleased). u.batch.writes) (cond b (u ∷ of_stream n us) (of_stream n us))
  by_test true = refl
  by_test false = refl
accepted_next n id results u us false more = by_test (answers n u.asker) where
  by_test : (b : Bool) → map (λ (u : Unreleased). u.batch.writes) (cond b (u ∷ of_stream n (accepted_in id results us)) (of_stream n (accepted_in id results us))) ≡ map (λ (u : Unreleased). u.batch.writes) (cond b (u ∷ of_stream n us) (of_stream n us))
  by_test true = ap (λ xs. u.batch.writes ∷ xs) more
  by_test false = more

pub writes_accepted : (n id : ℕ) (results : List WriteResult) (us : List Unreleased) → pending_writes n (accepted_in id results us) ≡ pending_writes n us
writes_accepted n id results [] = refl
writes_accepted n id results (u ∷ us) = accepted_next n id results u us (is_it id u) (writes_accepted n id results us)

own_is_none : (n : ℕ) (stream : Option ℕ) (b : Bool) → (b && is_none stream) ≡ true → is_for n stream ≡ false
own_is_none n None b is = refl
own_is_none n (Some k) true is = absurd (cc)
own_is_none n (Some k) false is = absurd (cc)

others_next : (n session : ℕ) (r : ParkedRequest) (rs : List ParkedRequest) (b : Bool) → is_own session r ≡ b → waiting_for n (of_others session rs) ≡ waiting_for n rs
    → waiting_for n (cond (not b) (r ∷ of_others session rs) (of_others session rs)) ≡ waiting_for n (r ∷ rs)
others_next n session r rs true is more = more ∙ ap (λ b. cond b (r ∷ waiting_for n rs) (waiting_for n rs)) (sym (own_is_none n r.stream (r.session == session) is))
others_next n session r rs false is more = ap (λ xs. cond (is_for n r.stream) (r ∷ xs) xs) more

waiting_others : (n session : ℕ) (rs : List ParkedRequest) → waiting_for n (of_others session rs) ≡ waiting_for n rs
waiting_others n session [] = refl
waiting_others n session (r ∷ rs) = others_next n session r rs (is_own session r) refl (waiting_others n session rs)

pub writes_others : (n session : ℕ) (rs : List ParkedRequest) → waiting_writes n (of_others session rs) ≡ waiting_writes n rs
writes_others n session rs = ap (map (λ r. writes_of r.envelope.request)) (waiting_others n session rs)
