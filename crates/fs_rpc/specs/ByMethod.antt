-- What a method asks for, by its name. One that isn't built is told, whatever its content.
use Rattle.std.specs.Prelude.{ℕ, List, Result, Err, codes, if◌then◌else◌}
use Rattle.std.specs.Str.{bytes_eq}
use Rattle.serde_json.specs.Data.{Data}
use Rattle.fs_path.specs.declared.name.Root.{Root}
use Rattle.fs_json.specs.declared.bad.Bad.{Bad}
use Rattle.fs_json.specs.declared.bad.Bad.TheVariants.{Method}
use Rattle.fs_rpc.specs.ReadStreams.{stream_request_at}
use Rattle.fs_rpc.specs.ReadTargets.{listen_request_at}
use Rattle.fs_rpc.specs.Requests.{batch_get_at, begin_at, commit_at, get_at, rollback_at, run_query_at}
use Rattle.fs_request.specs.declared.request.Request.{Request}

abbrev pub request_at : Root → List ℕ → Data → Result Request Bad
request_at root method d =
    if bytes_eq method (codes "commit") then commit_at root d method
    else if bytes_eq method (codes "getDocument") then get_at root d method
    else if bytes_eq method (codes "batchGetDocuments") then batch_get_at root d method
    else if bytes_eq method (codes "runQuery") then run_query_at root d method
    else if bytes_eq method (codes "beginTransaction") then begin_at root d method
    else if bytes_eq method (codes "rollback") then rollback_at root d method
    else if bytes_eq method (codes "listen") then listen_request_at root d method
    else if bytes_eq method (codes "write") then stream_request_at root d method
    else Err (Method method)
