-- The status of each reason, and the write that it names.
use Rattle.std.specs.Prelude.{ℕ, Option, Some, None}
use Rattle.fs_status.specs.declared.code.Code.{Code}
use Rattle.fs_status.specs.declared.code.Code.TheVariants.{InvalidArgument, FailedPrecondition, NotFound, AlreadyExists, Aborted, ResourceExhausted, Unimplemented, OutOfMemory}
use Rattle.fs_status.specs.declared.reason.Reason.{Reason}
use Rattle.fs_status.specs.declared.reason.Reason.TheVariants.{Rule, Missing, Exists, OtherTime, DeepAfter, LargeAfter, NoDocument, TooOld, TooNew, NotOpen, Expired, ReadOnly, Conflict, TokenLength, TokenMark, TokenTime, TokenAhead, TargetInUse, TargetUnknown, NoStream, StreamUnknown, NotOwner, SecondStream, Stale, Ahead, AtLimit, Method, Line, Memory}

abbrev pub code_of : Reason → Code
code_of (Rule rule place) = InvalidArgument
code_of (Missing write) = NotFound
code_of (Exists write) = AlreadyExists
code_of (OtherTime write time) = FailedPrecondition
code_of (DeepAfter write) = InvalidArgument
code_of (LargeAfter write bytes) = InvalidArgument
code_of (NoDocument time) = NotFound
code_of (TooOld time floor) = FailedPrecondition
code_of (TooNew time released) = InvalidArgument
code_of (NotOpen n) = InvalidArgument
code_of (Expired n since now) = InvalidArgument
code_of (ReadOnly n) = InvalidArgument
code_of (Conflict n) = Aborted
code_of (TokenLength n) = InvalidArgument
code_of TokenMark = InvalidArgument
code_of TokenTime = InvalidArgument
code_of (TokenAhead time released) = InvalidArgument
code_of (TargetInUse n) = InvalidArgument
code_of (TargetUnknown n) = InvalidArgument
code_of NoStream = InvalidArgument
code_of (StreamUnknown n) = InvalidArgument
code_of NotOwner = InvalidArgument
code_of SecondStream = InvalidArgument
code_of (Stale token next) = InvalidArgument
code_of (Ahead token next) = InvalidArgument
code_of (AtLimit name number) = ResourceExhausted
code_of (Method name) = Unimplemented
code_of (Line line) = InvalidArgument
code_of Memory = OutOfMemory

-- the write that a reason names, counted from 0
abbrev pub index_of : Reason → Option ℕ
index_of (Missing write) = Some write
index_of (Exists write) = Some write
index_of (OtherTime write time) = Some write
index_of (DeepAfter write) = Some write
index_of (LargeAfter write bytes) = Some write
index_of _ = None
