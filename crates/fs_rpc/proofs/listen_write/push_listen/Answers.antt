use Rattle.std.proofs.Common.{◌≡◌, codes, OnOk, subst}
use Rattle.fs_rpc.specs.ListenJson.{listen_json}
use Rattle.fs_rpc.proofs.Listened.{one_alone}
use Rattle.fs_rpc.proofs.listen_write.push_listen.Goals as goal

pub returns-clause-tokens : goal.returns-clause-tokens
returns-clause-tokens c =
    subst (λ ts. OnOk c.push_told.result (c.push_told.new.line.tokens ≡ ts))
    (one_alone c.args.line.now.tokens c.key.new.self.tokens (codes "listen") (listen_json c.args.told.now) c.in_ok-key.ensures.ok) c.push_told.ensures.tokens
