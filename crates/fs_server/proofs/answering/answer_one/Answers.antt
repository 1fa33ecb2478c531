use Rattle.fs_server.proofs.Responses.{answerable_counts}
use Rattle.fs_server.proofs.answering.answer_one.Goals as goal

pub committed-kept-requires : goal.committed-kept-requires
committed-kept-requires c = answerable_counts c.args.streams.now c.args.commit c.in-Stream.stream c.in-Stream.is c.requires
