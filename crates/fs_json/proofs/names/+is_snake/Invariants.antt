use Rattle.std.proofs.Common.{length}
use Rattle.fs_json.proofs.names.+is_snake.Given as goal

abbrev pub decreases-is_snake : goal.decreases-is_snake
decreases-is_snake l = length l.name.now
