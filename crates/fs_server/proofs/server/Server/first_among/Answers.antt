use Rattle.std.proofs.Common.{map, ap, ◌∙◌}
use Rattle.fs_write.specs.WrittenName.{written_name}
use Rattle.fs_machine.specs.Behind.{least}
use Rattle.fs_machine.specs.Conflict.{others, readers_of}
use Rattle.fs_machine.specs.State.{Machine}
use Rattle.fs_server.proofs.Readers.{least_reader}
use Rattle.fs_server.proofs.server.Server.first_among.Goals as goal

pub returns : goal.returns
returns c =
    let s = c.self.inside in
    least_reader s.txns c.args.writes.now c.in_ok-names.names c.args.but c.held_by.result (c.in_ok-names.ensures ∙ ap (map written_name) c.as_slice.ensures) c.held_by.ensures
    ∙ ap (λ (m : Machine). least (readers_of (others c.args.but m.txns.open) c.args.writes.now)) c.self.view_is
