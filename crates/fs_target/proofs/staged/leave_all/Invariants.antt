use Rattle.std.proofs.Common.{◌≡◌, ℤ, drop}
use Rattle.std.specs.Prelude.{IsTrue}
use Rattle.std.specs.FinMap.{get}
use Rattle.fs_path.specs.declared.name.DocName.{DocName}
use Rattle.fs_target.specs.Places.{HavePlaces, docs_in, is_until}
use Rattle.fs_target.specs.Room.{AreInOrder}
use Rattle.fs_target.specs.Staged.{behind, gone_over, up_to}
use Rattle.fs_target.proofs.staged.leave_all.Given as goal

-- those that are still to be gone over
abbrev pub invariant-loop-i : goal.invariant-loop-i
invariant-loop-i l = record {
  gone : gone_over (up_to l.time (drop l.i l.staged)) (docs_in l.places) ≡ gone_over (up_to l.time l.initial.staged) (docs_in l.initial.places);
  places : HavePlaces l.places (up_to l.time (drop l.i l.staged));
  kept : (name : DocName) (t : ℤ) → IsTrue (is_until t (get l.initial.places name)) → IsTrue (is_until t (get l.places name));
  behind : behind l.time l.staged ≡ behind l.time l.initial.staged;
  order : AreInOrder l.initial.staged → AreInOrder l.staged;
}
