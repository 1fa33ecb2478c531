-- A commit that is pending, and alone: settling it leaves none under way, and one session is told once.
use Rattle.std.proofs.Common.{◌≡◌, ℕ, ◌≤ℤ◌, true, cond, List, [], ◌∷◌, Some, None, Result, Ok, Err, refl, sym, ap, ◌∙◌, subst}
use Rattle.std.specs.FinMap.{entries}
use Rattle.std.specs.Prelude.{◌==◌, is_none, map, not, option_map}
use Rattle.std.proofs.lemmas.Bool.{and_from, eq-eqb}
use Rattle.fs_request.specs.Refused.{refused}
use Rattle.fs_request.specs.declared.message.Message.{Message}
use Rattle.fs_request.specs.declared.message.Message.TheVariants as message
use Rattle.fs_pairs.specs.Pairs.{key_of}
use Rattle.fs_status.specs.declared.refusal.Refusal.{Refusal}
use Rattle.fs_stream.specs.declared.kept.Kept.{Kept}
use Rattle.fs_write.specs.Batch.{Docs}
use Rattle.fs_write.specs.declared.write_result.WriteResult.{WriteResult}
use Rattle.fs_machine.specs.Past.{is_pending}
use Rattle.fs_machine.specs.Pending.{next_in, next_pending}
use Rattle.fs_machine.specs.Release.{all_answered, answered_to, as_committed, freed, free_to, is_freed, kept_back, released}
use Rattle.fs_machine.specs.Sessions.{delivered}
use Rattle.fs_machine.specs.Settle.{accepted_in, decided_if, decided_with, dropped_from, is_it, outcome_of, pending_in, pending_of, refused_to, settled}
use Rattle.fs_machine.specs.State.{Machine}
use Rattle.fs_machine.specs.Stream.{batch_finished, desk_of, kept_of, kept_refused, response_of, told_if}
use Rattle.fs_machine.specs.UnreleasedRise.{RiseFrom, UnreleasedRise}
use Rattle.fs_machine.specs.declared.asker.Asker.{Asker}
use Rattle.fs_machine.specs.declared.asker.Asker.TheVariants.{Session, Stream}
use Rattle.fs_machine.specs.declared.committed.Committed.{Committed}
use Rattle.fs_machine.specs.declared.session.Session.{Session as OpenSession}
use Rattle.fs_machine.specs.declared.unreleased.Unreleased.{Unreleased}
use Rattle.fs_machine.proofs.Moved.{accepted_goes}
use Rattle.fs_replay.proofs.Drained.{delivering}

-- the session that is told: that which asked, or the owner of the stream
abbrev pub IsAnswered : Machine → Asker → ℕ → Type 0
IsAnswered m (Session session request) k = session ≡ k
IsAnswered m (Stream n) k = key_of n (entries m.streams.owners) ≡ Some k

-- the settling of a commit told it this, and left none under way
pub record Told (m : Machine) (k : ℕ) (n : Machine) : Type 0 where
  pub message : Message
  pub is : n ≡ delivering (record m { past = n.past; streams = n.streams }) k message
  pub none : n.past.unreleased ≡ []

-- one message more for it
abbrev OneMore : Machine → ℕ → List OpenSession → Type 0
OneMore m k ss = (message : Message) × (ss ≡ delivered k message m.sessions)

finished_more : (m : Machine) (k n : ℕ) (kept : Kept) → key_of n (entries m.streams.owners) ≡ Some k → OneMore m k (batch_finished n kept (desk_of m)).1
finished_more m k n kept owns = (
  response_of n kept,
  ap (λ o. told_if (option_map (λ session. record { session = session; message = response_of n kept }) o) m.sessions) owns,
)

answered_more : (m : Machine) (k : ℕ) (c : Committed) (of : Asker) → IsAnswered m of k → OneMore m k (answered_to c of (desk_of m)).1
answered_more m k c (Session session request) is = (message.Commit request c.time c.results, ap (λ j. delivered j (message.Commit request c.time c.results) m.sessions) is)
answered_more m k c (Stream n) owns = finished_more m k n (kept_of m.streams n c) owns

refused_more : (m : Machine) (k : ℕ) (refusal : Refusal) (of : Asker) → IsAnswered m of k → OneMore m k (refused_to of refusal (desk_of m)).1
refused_more m k refusal (Session session request) is = (refused request refusal, ap (λ j. delivered j (refused request refusal) m.sessions) is)
refused_more m k refusal (Stream n) owns = finished_more m k n (kept_refused m.streams n refusal) owns

module _ (m : Machine) (u : Unreleased) (alone : m.past.unreleased ≡ u ∷ []) (pending : u.results ≡ None) (above : UnreleasedRise m.past) where
  is_itself : is_it u.batch.id u ≡ true
  is_itself = and_from (u.batch.id == u.batch.id) (is_pending u) (eq-eqb u.batch.id u.batch.id refl) (ap is_none pending)

  found : pending_of m.past u.batch.id ≡ Some u
  found = ap (pending_in u.batch.id) alone ∙ ap (λ b. cond b (Some u) None) is_itself

  by_last : u.batch.time ≤ℤ m.past.last
  by_last = let rise : RiseFrom m.past.released m.past.last (u ∷ []) = subst (RiseFrom m.past.released m.past.last) alone above in rise.1

  -- with its results
  abbrev accepted : List WriteResult → Unreleased
  accepted results = record u { results = Some results }

  accepted_only : (results : List WriteResult) → accepted_in u.batch.id results m.past.unreleased ≡ accepted results ∷ []
  accepted_only results = ap (accepted_in u.batch.id results) alone ∙ ap (λ b. cond b (accepted results ∷ []) (u ∷ [])) is_itself

  dropped_only : dropped_from u.batch.id m.past.unreleased ≡ []
  dropped_only = ap (dropped_from u.batch.id) alone ∙ ap (λ b. cond b [] (u ∷ [])) is_itself

  goes : (results : List WriteResult) → is_freed m.past.last (accepted results) ≡ true
  goes results = accepted_goes m.past.last (accepted results) refl by_last

  freed_only : (results : List WriteResult) → freed m.past.last (accepted results ∷ []) ≡ accepted results ∷ []
  freed_only results = ap (λ b. cond b (accepted results ∷ []) []) (goes results)

  kept_none : (results : List WriteResult) → kept_back m.past.last (accepted results ∷ []) ≡ []
  kept_none results = ap (λ b. cond (not b) (accepted results ∷ []) []) (goes results)

  -- what a release lets out of these commits
  abbrev answers_of : List Unreleased → List Committed
  answers_of us = map as_committed (freed (free_to m.past.last us) us)

  module _ (k : ℕ) (answered : IsAnswered m u.asker k) where
    told_by : (r : Result (Docs × List WriteResult) Refusal) → Told m k (released (decided_with m u r))
    told_by (Ok done) =
        let only = accepted_only done.1 in
        let n = released (decided_with m u (Ok done)) in
        let c = as_committed (accepted done.1) in
        let more = answered_more m k c u.asker answered in
        let told : answers_of (accepted_in u.batch.id done.1 m.past.unreleased) ≡ c ∷ [] = ap answers_of only ∙ ap (map as_committed) (freed_only done.1) in
        let sessions : n.sessions ≡ delivered k more.0 m.sessions = ap (λ cs. (all_answered cs (desk_of m)).1) told ∙ more.1 in
        record {
          message = more.0;
          is = ap (λ (ss : List OpenSession). record m { past = n.past; streams = n.streams; sessions = ss }) sessions;
          none = ap (λ us. kept_back (free_to m.past.last us) us) only ∙ kept_none done.1;
        }
    told_by (Err refusal) =
        let n = released (decided_with m u (Err refusal)) in
        let d = refused_to u.asker refusal (desk_of m) in
        let more = refused_more m k refusal u.asker answered in
        let sessions : n.sessions ≡ delivered k more.0 m.sessions = ap (λ us. (all_answered (answers_of us) d).1) dropped_only ∙ more.1 in
        record {
          message = more.0;
          is = ap (λ (ss : List OpenSession). record m { past = n.past; streams = n.streams; sessions = ss }) sessions;
          none = ap (λ us. kept_back (free_to m.past.last us) us) dropped_only;
        }

    pub told_once : Told m k (settled m u.batch.id)
    told_once = subst (λ it. Told m k (released (decided_if m it))) (sym found) (told_by (outcome_of m.past u))

  -- and it is the next
  pub is_next : next_pending m.past ≡ Some u.batch.id
  is_next = ap next_in alone ∙ ap (λ b. cond b (Some u.batch.id) None) (ap is_none pending)
