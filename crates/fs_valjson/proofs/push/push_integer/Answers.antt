use Rattle.std.proofs.Common.{◌≡◌, ◌++◌, [], ◌∷◌, OnOk, refl, rules, subst}
use Rattle.std.specs.Fmt.{signed_decimal}
use Rattle.json.specs.Token.{string}
use Rattle.fs_valjson.proofs.Pushed.{two_around}
use Rattle.fs_json.proofs.Writings.{on_ok_always}
use Rattle.fs_json.proofs.Written.{integer_in_text-signed_decimal}
use Rattle.fs_valjson.proofs.push.push_integer.Goals as goal

pub returns-clause-tokens : goal.returns-clause-tokens
returns-clause-tokens c =
    let quoted : c.quoted_i64.new.self.tokens ≡ c.key.new.self.tokens ++ string (signed_decimal c.args.n) ∷ [] = search rules in
    subst (λ ts. OnOk c.end_object.result (c.end_object.new.self.tokens ≡ ts))
    (two_around c.args.line.now.tokens _ _ c.quoted_i64.new.self.tokens _ _ _ _ _ c.in_ok-begin_object.ensures.ok c.in_ok-key.ensures.ok quoted refl) c.end_object.ensures.ok

pub returns-clause-held : goal.returns-clause-held
returns-clause-held c = on_ok_always c.end_object.result (integer_in_text-signed_decimal c.args.n c.ranges.n.sfits)
