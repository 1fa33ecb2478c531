use Rattle.std.proofs.Common.{ap}
use Rattle.fs_json.specs.Time.{moment_at}
use Rattle.fs_time.proofs.RoundTrip.{time_of-time_text}
use Rattle.fs_valjson.proofs.push.times_are_held.Goals as goal

pub returns : goal.returns
returns c = λ place. ap (moment_at place) (time_of-time_text c.args.time c.get.ensures.range)
