-- What holds of every run of a server holds wherever the events of a script are cut.
use Rattle.std.proofs.Common.{◌≡◌, ℕ, ℤ, true, List, [], ◌∷◌, ◌++◌, Err, Some, sym, ap, ◌∙◌, subst}
use Rattle.fs_machine.specs.AnswersStand.{IsRightIn, PreparedStands, RefusalsStand, ResultsStand}
use Rattle.fs_machine.specs.Causes.{AbortsNameTheirCause, WaitsNameTheirCause}
use Rattle.fs_machine.specs.CommitsOnce.{RequestsCommitOnce}
use Rattle.fs_machine.specs.Event.{Event, after, asking, deciding, step}
use Rattle.fs_machine.specs.Facts.{Facts}
use Rattle.fs_machine.specs.FrontLaws.{ConsistentAtEachRaise}
use Rattle.fs_machine.specs.Given.{MessagesAreTaken}
use Rattle.fs_machine.specs.Laws.{AlwaysKept}
use Rattle.fs_machine.specs.ListenLaws.{CurrentIsToldOnce, LoadsComeFirst, VersionsRise}
use Rattle.fs_machine.specs.NotBothCommit.{IsCommitOf, NotBothCommit}
use Rattle.fs_machine.specs.RaiseLaws.{QuietUnlessReady, RaisedOnceDue, RaisedWhenReady}
use Rattle.fs_machine.specs.ReadLaws.{ReadsAreTrue, TimesOfReadsStay}
use Rattle.fs_machine.specs.ResetLaws.{ResetsAreOfLostLoads, ResetsFollowCompaction}
use Rattle.fs_machine.specs.State.{Machine}
use Rattle.fs_machine.specs.StreamLaws.{AcknowledgedIsCommitted, AtMostOncePerToken, BatchesOnceInOrder, KeptHasTheLastToken, OwnersAreTold, RepeatsAreAnsweredAlike, RepeatsAreTold}
use Rattle.fs_machine.specs.declared.config.Config.{Config}
use Rattle.fs_machine.specs.declared.limits.Limits.{Limits}
use Rattle.fs_txn.specs.Transactions.{txn_of}
use Rattle.fs_history.specs.History.{before}
use Rattle.fs_write.specs.Batch.{batch}
use Rattle.fs_replay.specs.Run.{server_after}
use Rattle.fs_replay.specs.Step.{start}
use Rattle.fs_replay.specs.Throughout.{AnswersThroughout, ListenersThroughout, StreamsThroughout, first_server}
use Rattle.fs_replay.proofs.Leading.{after_both}

module _ (kept : AlwaysKept) (config : Config) (limits : Limits) where
  abbrev first : Machine
  first = first_server config limits

  -- what always stands at the start, and after some events
  begins : Facts first
  begins = kept config limits (start config limits).moment []

  there : (front : List Event) → Facts (server_after config limits front)
  there front = kept config limits (start config limits).moment front

  module _ (aborts : AbortsNameTheirCause) (waits : WaitsNameTheirCause) (one : NotBothCommit) (reads : ReadsAreTrue) (times : TimesOfReadsStay) (prepared : PreparedStands) (results : ResultsStand)
      (refusals : RefusalsStand) (lines : List (List ℕ)) where
    pub answers_throughout : AnswersThroughout config limits lines
    answers_throughout = record {
      asked_aborted = λ front back cut. (aborts (server_after config limits front)).0;
      retried_aborted = λ front back cut. (aborts (server_after config limits front)).1;
      only_aborted = λ front back cut. (aborts (server_after config limits front)).2;
      asked_held = λ front back cut. (waits (server_after config limits front)).0;
      retried_held = λ front back cut. (waits (server_after config limits front)).1;
      not_both = λ front back a b t u x y cut apart open_a open_b is_a is_b touches touched.
          let m = server_after config limits front in
          let ends = after_both first front back in
          one m back a b t u x y (there front) apart open_a open_b (subst (λ (n : Machine). IsCommitOf n.past a x) ends is_a) (subst (λ (n : Machine). IsCommitOf n.past b y) ends is_b) touches touched;
      asked_reads = λ front back cut. (reads (server_after config limits front) (there front)).0;
      retried_reads = λ front back cut. (reads (server_after config limits front) (there front)).1;
      only_reads = λ front back cut. (reads (server_after config limits front) (there front)).2;
      read_times = λ front mid back session e database options id t cut asks told found.
          let m = server_after config limits front in
          let ends = after_both first front (asking session e ∷ mid) in
          times m session e database options id mid t (there front) asks told (ap (λ (n : Machine). txn_of id n.txns.open) (sym ends) ∙ found);
      asked_pending = λ front back cut. (prepared (server_after config limits front) (there front)).0;
      retried_pending = λ front back cut. (prepared (server_after config limits front) (there front)).1;
      stays_pending = λ front back cut. (prepared (server_after config limits front) (there front)).2;
      results = λ front back u cut has. results first front [] u begins has;
      refusals = λ front mid back id u refusal cut pending refused.
          let m = server_after config limits front in
          let ends = after_both first front (deciding id ∷ mid) in
          ap (λ (n : Machine). batch (before n.past.history u.batch.time) u.batch.writes u.batch.time) ends ∙ refusals m id u refusal mid (there front) pending refused;
    }

  module _ (once : BatchesOnceInOrder) (per_token : AtMostOncePerToken) (acknowledged : AcknowledgedIsCommitted) (repeats : RepeatsAreAnsweredAlike) (tokens : KeptHasTheLastToken) (repeat_told : RepeatsAreTold) (requests_once : RequestsCommitOnce)
      (owners : OwnersAreTold) (messages : MessagesAreTaken) (lines : List (List ℕ)) where
    pub streams_throughout : StreamsThroughout config limits lines
    streams_throughout = record {
      once = λ front back n cut. once config limits (start config limits).moment front n;
      per_token = λ front back n token cut. per_token config limits (start config limits).moment front n token;
      acknowledged = λ front back n d time cut has is. acknowledged first front [] n d time begins has is;
      repeats = λ front back n cut. repeats config limits (start config limits).moment front n;
      tokens = λ front back n cut. tokens config limits (start config limits).moment front n;
      repeat_told = λ front back session n kept e database token writes cut owns keeps next is none. repeat_told (server_after config limits front) session n kept e database token writes owns keeps next is none;
      requests_once = λ front back cut. requests_once first front;
      owners = λ front back e n session cut is. owners (server_after config limits front) e n session (there front) is;
      messages = λ front back session cut. messages first front session begins;
    }

  module _ (each_cut : ConsistentAtEachRaise) (raised : RaisedWhenReady) (due : RaisedOnceDue) (quiet : QuietUnlessReady) (resets : ResetsAreOfLostLoads) (compacted : ResetsFollowCompaction) (currents : CurrentIsToldOnce)
      (positions : LoadsComeFirst) (versions : VersionsRise) (lines : List (List ℕ)) where
    pub listeners_throughout : ListenersThroughout config limits lines
    listeners_throughout = record {
      each_cut = λ front back session said rest time token cut told. each_cut config limits (start config limits).moment front session said rest time token told;
      raised = λ front back session cut is ready. raised (server_after config limits front) session is ready;
      due = λ front back session time cut is room together late. due (server_after config limits front) session time is room together late;
      quiet = λ front back session other cut none. quiet (server_after config limits front) session other none;
      resets = λ front back e session id cut. resets (server_after config limits front) e session id (there front);
      compacted = λ front back e session id target cut found late has. compacted config limits (start config limits).moment front e session id target found late has;
      currents = λ front back session cut is. currents config limits (start config limits).moment front session is;
      positions = λ front back session id l cut is found. positions config limits (start config limits).moment front session id l is found;
      versions = λ front back session name cut is. versions config limits (start config limits).moment front session name is;
    }
