-- Configurations that a server may have.
use Rattle.fs_path.specs.Scope.{AreShards}
use Rattle.fs_machine.specs.declared.config.Config.{Config}

abbrev pub IsAllowed : Config → Type 0
IsAllowed config = AreShards config.shards
