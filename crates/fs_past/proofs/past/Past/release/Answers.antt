use Rattle.std.proofs.Common.{[], ◌∷◌, ◌++◌, sym, ap, ◌∙◌, subst}
use Rattle.fs_machine.specs.Release.{past_released}
use Rattle.fs_store.specs.Fits.{Fits}
use Rattle.fs_store.specs.Room.{HasRoomFor}
use Rattle.fs_store.specs.Shows.{Shows}
use Rattle.fs_store.specs.Stored.{Stored, absorbed}
use Rattle.fs_history.specs.History.{whole}
use Rattle.fs_past.specs.Bringing.{BringsMore}
use Rattle.fs_past.specs.Kept.{changes_of, past_of}
use Rattle.fs_store.specs.Next.{next_release}
use Rattle.fs_past.proofs.Keeping.{after_release, brings_more, fits_board, go_on_board, kept_released, numbered_board}
use Rattle.fs_past.proofs.Rooms.{room_for_ready}
use Rattle.fs_past.proofs.past.Past.release.Goals as goal

pub let_in-requires-clause-times : goal.let_in-requires-clause-times
let_in-requires-clause-times c = let s = c.self.inside in go_on_board s.journal s.board s.holds s.store.stored s.moment s.waiting c.self.invariant

pub let_in-requires-clause-numbered : goal.let_in-requires-clause-numbered
let_in-requires-clause-numbered c = let s = c.self.inside in numbered_board s.journal s.board s.holds s.store.stored s.moment s.waiting c.self.invariant c.released-to.ensures.rising.ids

pub let_in-requires-2-clause-times : goal.let_in-requires-2-clause-times
let_in-requires-2-clause-times c = let s = c.self.inside in go_on_board s.journal s.board s.holds s.store.stored s.moment s.waiting c.self.invariant

pub let_in-requires-2-clause-numbered : goal.let_in-requires-2-clause-numbered
let_in-requires-2-clause-numbered c = let s = c.self.inside in numbered_board s.journal s.board s.holds s.store.stored s.moment s.waiting c.self.invariant c.released-to.ensures.rising.ids

-- ---- one commit with one change

pub absorb_one-requires-clause-fits : goal.absorb_one-requires-clause-fits
absorb_one-requires-clause-fits c =
    let s = c.self.inside in
    fits_board s.journal s.board s.holds s.store.stored s.moment s.waiting c.self.invariant c.histories_are_lawful.ensures.last_changes c.released-to.result (c.in-Some.commit.now ∷ []) c.released-to.ensures.value (sym c.in-Some.ensures.alone)

pub invariant_of-self-in-Some : goal.invariant_of-self-in-Some
invariant_of-self-in-Some c =
    let s = c.self.inside in
    let to = c.released-to.result in
    let cs = c.in-Some.commit.now ∷ [] in
    kept_released s.journal s.board s.holds s.store.stored s.moment s.waiting c.self.invariant c.histories_are_lawful.ensures.last_changes to cs c.released-to.ensures.value (sym c.in-Some.ensures.alone)
    c.let_in.new.journal c.let_in.new.board c.absorb_one.new.self.stored c.let_in.new.waiting c.let_in.ensures.history c.let_in.ensures.board c.in_ok-absorb_one.ensures.value
    c.in_ok-absorb_one.ensures.shows c.let_in.ensures.room c.let_in.new.holds c.let_in.ensures.held c.let_in.ensures.waiting

pub returns-in-Some-clause-ok : goal.returns-in-Some-clause-ok
returns-in-Some-clause-ok c =
    let s = c.self.inside in
    let to = c.released-to.result in
    let cs = c.in-Some.commit.now ∷ [] in
    after_release s.journal s.board s.holds s.store.stored s.moment s.waiting c.self.invariant c.histories_are_lawful.ensures.last_changes to cs c.released-to.ensures.value (sym c.in-Some.ensures.alone)
    c.let_in.new.journal c.let_in.new.board c.absorb_one.new.self.stored c.let_in.new.waiting c.let_in.ensures.history c.let_in.ensures.board c.in_ok-absorb_one.ensures.value
    ∙ ap past_released c.self.view_is

-- ---- and any others

pub bring-requires-clause-fits : goal.bring-requires-clause-fits
bring-requires-clause-fits c =
    let s = c.self.inside in
    let cs = changes_of s.board.commits in
    let all = c.of.ensures ∙ c.let_in-2.ensures.changes ∙ ap (λ ds. ds ++ cs) c.in_ok-changes-2.ensures.none in
    subst (λ (t : Stored). Fits t (next_release t c.released-to.result c.of.result)) (sym c.in_ok-changes-2.ensures.same)
    (fits_board s.journal s.board s.holds s.store.stored s.moment s.waiting c.self.invariant c.histories_are_lawful.ensures.last_changes c.released-to.result c.of.result c.released-to.ensures.value all)

pub bring-requires-clause-room : goal.bring-requires-clause-room
bring-requires-clause-room c =
    let s = c.self.inside in
    let cs = changes_of s.board.commits in
    let all = c.of.ensures ∙ c.let_in-2.ensures.changes ∙ ap (λ ds. ds ++ cs) c.in_ok-changes-2.ensures.none in
    subst (HasRoomFor c.make_room.new.store.room) (sym all)
    (room_for_ready (whole s.journal.history) s.board.commits c.make_room.new.store.room c.self.invariant.stand c.self.invariant.facts.names c.in_ok-changes-2.ensures.room)

pub invariant_of-self-2 : goal.invariant_of-self-2
invariant_of-self-2 c =
    let s = c.self.inside in
    let to = c.released-to.result in
    let cs = changes_of s.board.commits in
    let all = c.of.ensures ∙ c.let_in-2.ensures.changes ∙ ap (λ ds. ds ++ cs) c.in_ok-changes-2.ensures.none in
    let same = c.in_ok-changes-2.ensures.same in
    let brought = c.bring.ensures.value ∙ ap (λ (t : Stored). absorbed t (next_release t to c.of.result)) same in
    kept_released s.journal s.board s.holds s.store.stored s.moment s.waiting c.self.invariant c.histories_are_lawful.ensures.last_changes to c.of.result c.released-to.ensures.value all
    c.let_in-2.new.journal c.let_in-2.new.board c.bring.new.store.stored c.let_in-2.new.waiting c.let_in-2.ensures.history c.let_in-2.ensures.board brought
    (λ h k shows brings. c.bring.ensures.shows h k (subst (λ (t : Stored). Shows h t) (sym same) shows) brings) c.let_in-2.ensures.room c.let_in-2.new.holds c.let_in-2.ensures.held c.let_in-2.ensures.waiting

pub returns-clause-ok : goal.returns-clause-ok
returns-clause-ok c =
    let s = c.self.inside in
    let to = c.released-to.result in
    let cs = changes_of s.board.commits in
    let all = c.of.ensures ∙ c.let_in-2.ensures.changes ∙ ap (λ ds. ds ++ cs) c.in_ok-changes-2.ensures.none in
    let brought = c.bring.ensures.value ∙ ap (λ (t : Stored). absorbed t (next_release t to c.of.result)) c.in_ok-changes-2.ensures.same in
    after_release s.journal s.board s.holds s.store.stored s.moment s.waiting c.self.invariant c.histories_are_lawful.ensures.last_changes to c.of.result c.released-to.ensures.value all
    c.let_in-2.new.journal c.let_in-2.new.board c.bring.new.store.stored c.let_in-2.new.waiting c.let_in-2.ensures.history c.let_in-2.ensures.board brought
    ∙ ap past_released c.self.view_is

-- ---- what they bring

pub returns-in-Some-clause-brings : goal.returns-in-Some-clause-brings
returns-in-Some-clause-brings c =
    let s = c.self.inside in
    let to = c.released-to.result in
    let cs = c.in-Some.commit.now ∷ [] in
    subst (λ p. BringsMore p (past_of c.let_in.new.journal.history c.let_in.new.board c.absorb_one.new.self.stored s.moment)) c.self.view_is
    (brings_more s.journal s.board s.holds s.store.stored s.moment s.waiting c.self.invariant c.histories_are_lawful.ensures.last_changes to cs c.released-to.ensures.value (sym c.in-Some.ensures.alone)
    c.let_in.new.journal c.let_in.new.board c.absorb_one.new.self.stored c.let_in.new.waiting c.let_in.ensures.history c.let_in.ensures.board c.in_ok-absorb_one.ensures.value)

pub returns-clause-brings : goal.returns-clause-brings
returns-clause-brings c =
    let s = c.self.inside in
    let to = c.released-to.result in
    let cs = changes_of s.board.commits in
    let all = c.of.ensures ∙ c.let_in-2.ensures.changes ∙ ap (λ ds. ds ++ cs) c.in_ok-changes-2.ensures.none in
    let brought = c.bring.ensures.value ∙ ap (λ (t : Stored). absorbed t (next_release t to c.of.result)) c.in_ok-changes-2.ensures.same in
    subst (λ p. BringsMore p (past_of c.let_in-2.new.journal.history c.let_in-2.new.board c.bring.new.store.stored s.moment)) c.self.view_is
    (brings_more s.journal s.board s.holds s.store.stored s.moment s.waiting c.self.invariant c.histories_are_lawful.ensures.last_changes to c.of.result c.released-to.ensures.value all
    c.let_in-2.new.journal c.let_in-2.new.board c.bring.new.store.stored c.let_in-2.new.waiting c.let_in-2.ensures.history c.let_in-2.ensures.board brought)
