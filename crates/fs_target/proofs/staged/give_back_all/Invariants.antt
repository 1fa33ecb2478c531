use Rattle.std.proofs.Common.{◌≡◌, ℤ}
use Rattle.std.specs.Prelude.{IsTrue, int_lt}
use Rattle.std.specs.FinMap.{get}
use Rattle.fs_path.specs.declared.name.DocName.{DocName}
use Rattle.fs_target.specs.Places.{docs_in, is_until}
use Rattle.fs_target.proofs.staged.give_back_all.Given as goal

abbrev pub invariant-loop-event : goal.invariant-loop-event
invariant-loop-event l = record {
  docs : docs_in l.places ≡ docs_in l.initial.places;
  kept : (name : DocName) (t : ℤ) → IsTrue (int_lt l.time t) → IsTrue (is_until t (get l.initial.places name)) → IsTrue (is_until t (get l.places name));
}
