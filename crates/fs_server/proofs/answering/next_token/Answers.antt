use Rattle.std.proofs.Common.{rules, suc, sym, ap}
use Rattle.fs_server.proofs.Responses.{unopened}
use Rattle.fs_server.proofs.answering.next_token.Goals as goal

pub returns-in-None : goal.returns-in-None
returns-in-None c = let none = c.get.ensures.none.0 (search rules) in sym (ap suc (unopened c.args.stream c.args.streams.now none))
