-- The statuses of refusals: their numbers in HTTP and in gRPC, and their names (google.rpc.Code). The numbers of
-- `OUT_OF_MEMORY` are this project's own.
use Rattle.std.specs.Prelude.{ℕ, List, codes}
use Rattle.fs_status.specs.declared.code.Code.{Code}
use Rattle.fs_status.specs.declared.code.Code.TheVariants.{InvalidArgument, FailedPrecondition, NotFound, AlreadyExists, Aborted, ResourceExhausted, Unimplemented, OutOfMemory}

abbrev pub http_of : Code → ℕ
http_of InvalidArgument = 400
http_of FailedPrecondition = 400
http_of NotFound = 404
http_of AlreadyExists = 409
http_of Aborted = 409
http_of ResourceExhausted = 429
http_of Unimplemented = 501
http_of OutOfMemory = 507

abbrev pub rpc_of : Code → ℕ
rpc_of InvalidArgument = 3
rpc_of FailedPrecondition = 9
rpc_of NotFound = 5
rpc_of AlreadyExists = 6
rpc_of Aborted = 10
rpc_of ResourceExhausted = 8
rpc_of Unimplemented = 12
rpc_of OutOfMemory = 100

abbrev pub status_text : Code → List ℕ
status_text InvalidArgument = codes "INVALID_ARGUMENT"
status_text FailedPrecondition = codes "FAILED_PRECONDITION"
status_text NotFound = codes "NOT_FOUND"
status_text AlreadyExists = codes "ALREADY_EXISTS"
status_text Aborted = codes "ABORTED"
status_text ResourceExhausted = codes "RESOURCE_EXHAUSTED"
status_text Unimplemented = codes "UNIMPLEMENTED"
status_text OutOfMemory = codes "OUT_OF_MEMORY"
