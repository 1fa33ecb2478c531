-- How much of what was played is seen: all but the events of the server.
use Rattle.std.proofs.Common.{[]}
use Rattle.fs_replay.specs.Played.{Played}

abbrev pub shown : Played → Played
shown p = record p { events = [] }
