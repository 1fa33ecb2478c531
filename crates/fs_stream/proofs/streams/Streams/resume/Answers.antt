use Rattle.fs_stream.proofs.Standing.{may_resume}
use Rattle.fs_stream.proofs.streams.Streams.resume.Goals as goal

pub hand-requires : goal.hand-requires
hand-requires c = let may = may_resume c.args.session c.args.stream c.args.token c.args.self.now c.in-Ok.resumed c.in-Ok.ensures.ok in record { opened = may.0; alone = may.1 }
