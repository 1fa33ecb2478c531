use Rattle.std.proofs.Common.{◌-◌, get_or, sym, ap, ◌∙◌, arith}
use Rattle.fs_history.specs.declared.version.Version.{Version}
use Rattle.fs_versions.specs.Chained.{Chained}
use Rattle.fs_versions.proofs.ChainLaws.{shown_none, shown_last}
use Rattle.fs_versions.proofs.chain.Chain.shown.Goals as goal

pub returns-then-count-eq0 : goal.returns-then-count-eq0
returns-then-count-eq0 c = sym (shown_none c.args.self.now.versions c.args.time c.count_by-count.result c.count_by-count.ensures (omega arith))

pub returns : goal.returns
returns c =
    let n = c.count_by-count.result in
    let v = c.index.result.now in
    let there = c.index.ensures ∙ ap (λ (x : Chained). get_or x.versions (n - 1) v) c.self.view_is in
    c.as_ref.ensures.value ∙ ap (λ (x : Version). x.after) there ∙ sym (shown_last c.args.self.now.versions c.args.time n c.count_by-count.ensures (omega arith) v)
