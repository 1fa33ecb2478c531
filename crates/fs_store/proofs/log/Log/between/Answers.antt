use Rattle.std.proofs.Common.{◌-◌, drop, sym, ap, ◌∙◌, take}
use Rattle.fs_store.specs.Logged.{Logged}
use Rattle.fs_store.proofs.Ordered.{between_is}
use Rattle.fs_store.proofs.log.Log.between.Goals as goal

pub returns : goal.returns
returns c =
    let m = c.count_by-start.result in
    let n = c.count_by.result in
    let e = c.end_from-end.result in
    let wide = c.end_from-end.ensures.wide in
    let narrow = c.end_from-end.ensures.narrow in
    ap (λ ns. take (e - m) (drop m ns)) (c.as_slice.ensures.value ∙ ap (λ (x : Logged). x.entries) c.self.view_is)
    ∙ sym (between_is c.args.self.now.entries c.args.from c.args.to m n e c.count_by-start.ensures.split c.count_by.ensures.split wide narrow)
