use Rattle.fs_rpc.proofs.listen_write.push_content.Goals as goal

pub returns-in-Deleted-clause-tokens : goal.returns-in-Deleted-clause-tokens
returns-in-Deleted-clause-tokens c = rw c.in-Deleted.is c.push_gone.ensures.tokens

pub returns-in-Removed-clause-tokens : goal.returns-in-Removed-clause-tokens
returns-in-Removed-clause-tokens c = rw c.in-Removed.is c.push_gone-in-Removed.ensures.tokens

pub returns-in-Deleted-clause-held : goal.returns-in-Deleted-clause-held
returns-in-Deleted-clause-held c = rw c.in-Deleted.is c.push_gone.ensures.held

pub returns-in-Removed-clause-held : goal.returns-in-Removed-clause-held
returns-in-Removed-clause-held c = rw c.in-Removed.is c.push_gone-in-Removed.ensures.held
