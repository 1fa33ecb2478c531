use Rattle.std.proofs.Common.{◌≡◌, sym, ap, ◌∙◌}
use Rattle.fs_locks.specs.Holds.{lesser_of}
use Rattle.fs_machine.specs.Behind.{least, writing_same}
use Rattle.fs_machine.specs.Conflict.{others, plain_behind, readers_of}
use Rattle.fs_machine.specs.State.{Machine}
use Rattle.fs_past.proofs.LeastNumber.{least_both}
use Rattle.fs_server.proofs.Fresh.{all_others, nobodys}
use Rattle.fs_server.proofs.server.Server.plain_behind.Goals as goal

pub returns-in_ok-reader-in-Pessimistic : goal.returns-in_ok-reader-in-Pessimistic
returns-in_ok-reader-in-Pessimistic c =
    let m = c.args.self.now in
    let s = c.self.inside in
    let ws = c.args.writes.now in
    let nobody = c.nobody.result in
    let none = (nobodys s.past s.txns s.waiting s.numbers.ids nobody c.self.invariant.drawn c.nobody.ensures).1 in
    let all : others nobody m.txns.open ≡ m.txns.open = ap (λ (n : Machine). others nobody n.txns.open) (sym c.self.view_is) ∙ all_others nobody s.txns.open none ∙ ap (λ (n : Machine). n.txns.open) c.self.view_is in
    let reader = c.in_ok-reader-in-Pessimistic.ensures ∙ ap (λ ts. least (readers_of ts ws)) all in
    c.lesser.ensures
    ∙ (λ i. lesser_of (c.behind-writer.ensures i) (reader i))
    ∙ sym (least_both (writing_same m.past.unreleased ws) (readers_of m.txns.open ws))
    ∙ ap (λ mode. plain_behind mode m.past m.txns.open ws) (sym c.in-Pessimistic.is ∙ ap (λ (n : Machine). n.config.mode) c.self.view_is)
