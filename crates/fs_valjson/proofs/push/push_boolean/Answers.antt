use Rattle.std.proofs.Common.{◌≡◌, OnOk, refl, subst}
use Rattle.fs_valjson.proofs.Pushed.{two_around}
use Rattle.fs_valjson.proofs.push.push_boolean.Goals as goal

pub returns-clause-tokens : goal.returns-clause-tokens
returns-clause-tokens c =
    subst (λ ts. OnOk c.end_object.result (c.end_object.new.self.tokens ≡ ts))
    (two_around c.args.line.now.tokens _ _ c.boolean.new.self.tokens _ _ _ _ _ c.in_ok-begin_object.ensures.ok c.in_ok-key.ensures.ok c.in_ok-boolean.ensures.ok refl) c.end_object.ensures.ok
