use Rattle.std.proofs.Common.{◌≡◌, ◌+◌, suc, [], ◌∷◌, ◌++◌, length, sym, ap, ◌∙◌, subst, arith}
use Rattle.std.specs.FinMap.{insert}
use Rattle.fs_stream.specs.Stands.{Stands}
use Rattle.fs_stream.specs.Streams.{Streams, fresh}
use Rattle.fs_stream.proofs.Standing.{stands_opened}
use Rattle.fs_stream.proofs.streams.Streams.open.Goals as goal

pub invariant_of-self-2 : goal.invariant_of-self-2
invariant_of-self-2 c =
    let s = c.self.inside in
    let m : Streams = record { opened = s.opened.items; owners = s.owners; limit = s.limit } in
    let items : c.push_reserved.new.self.items ≡ s.opened.items ++ fresh ∷ [] =
    c.push_reserved.ensures.items ∙ ap (λ xs. xs ++ c.new.result ∷ []) c.in_ok-reserve.ensures.items ∙ ap (λ x. s.opened.items ++ x ∷ []) c.new.ensures in
    let number : c.len.result + 1 ≡ suc (length s.opened.items) = omega (arith, c.len.ensures) in
    let owners : c.insert.new.self ≡ insert s.owners c.args.session (suc (length s.opened.items)) = c.in_ok-insert.ensures.ok ∙ ap (insert s.owners c.args.session) number in
    subst (λ xs. Stands (record { opened = xs; owners = c.insert.new.self; limit = s.limit })) (sym items)
    (subst (λ o. Stands (record { opened = s.opened.items ++ fresh ∷ []; owners = o; limit = s.limit })) (sym owners) (stands_opened c.args.session m c.self.invariant))
