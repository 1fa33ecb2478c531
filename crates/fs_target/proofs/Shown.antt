-- The view of a target is told by the documents that it listens to.
use Rattle.std.proofs.Common.{◌≡◌, Bool, true, false, refl}
use Rattle.fs_write.specs.Batch.{AreNamed, Docs}
use Rattle.fs_query.specs.Fits.{fits}
use Rattle.fs_query.specs.Laws.{AnswersFit, SomeAnswer}
use Rattle.fs_query.specs.declared.target.Target.{Target}
use Rattle.fs_query.specs.declared.target.Target.TheVariants as target
use Rattle.fs_match.specs.Followed.{docs_fitting}
use Rattle.fs_match.specs.Laws.{FittingByName}
use Rattle.fs_listen.specs.View.{is_listened, is_whole_query, view}
use Rattle.fs_listen.proofs.Shown.{view_fitting, view_whole}
use Rattle.fs_target.specs.Kept.{shown_of, shown_of_all}

-- of a target, what is shown of the documents that it listens to is its view
pub shown_is_view : SomeAnswer → AnswersFit → FittingByName → (docs : Docs) → AreNamed docs → (t : Target) → shown_of t (docs_fitting (is_listened t) docs) ≡ view t docs
shown_is_view some_answer answers_fit by_fitting docs named (target.Documents names) = refl
shown_is_view some_answer answers_fit by_fitting docs named (target.Query q) = by_test (is_whole_query q) refl where
  by_test : (whole : Bool) → is_whole_query q ≡ whole → shown_of_all whole (target.Query q) (docs_fitting (fits q) docs) ≡ view (target.Query q) docs
  by_test true is = view_whole docs named some_answer answers_fit by_fitting q is
  by_test false is = view_fitting docs named some_answer answers_fit by_fitting q
