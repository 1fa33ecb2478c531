use Rattle.std.proofs.Common.{◌≡◌, ◌-◌, false, Option, Some, None, get_or, is_some, refl, sym, ap, ◌∙◌, arith}
use Rattle.fs_value.specs.declared.document.Document.{Document}
use Rattle.fs_history.specs.declared.version.Version.{Version}
use Rattle.fs_versions.specs.Chained.{Chained}
use Rattle.fs_versions.proofs.ChainLaws.{cut_none, cut_gone, cut_kept}
use Rattle.fs_versions.proofs.chain.Chain.count_gone.Goals as goal
use Rattle.fs_versions.proofs.chain.Chain.count_gone.Goals.{else-count-gt0-via-then-count-gt0+else-is_some, else-count-gt0-via-else-count-gt0}

is_none_by : (o : Option Document) → is_some o ≡ false → o ≡ None
is_none_by None is = refl
is_none_by (Some d) is = absurd (cc)

pub returns-then-is_some-clause-others : goal.returns-then-is_some-clause-others
returns-then-is_some-clause-others c =
    let n = c.count_by-count.result in
    let v = c.index.result.now in
    let there = c.index.ensures ∙ ap (λ (x : Chained). get_or x.versions (n - 1) v) c.self.view_is in
    cut_kept c.args.self.now.versions c.args.floor n c.count_by-count.ensures (omega arith) v
    (ap (λ (x : Version). is_some x.after) (sym there) ∙ sym c.is_some.ensures ∙ c.if-is_some.true)

pub returns-clause-others : goal.returns-clause-others
returns-clause-others c =
    let n = c.count_by-count.result in
    elim c.else-count-gt0.branch [
      | else-count-gt0-via-then-count-gt0+else-is_some w ↦
          let v = w.index.result.now in
          let there = w.index.ensures ∙ ap (λ (x : Chained). get_or x.versions (n - 1) v) c.self.view_is in
          cut_gone c.args.self.now.versions c.args.floor n c.count_by-count.ensures (omega arith) v
          (ap (λ (x : Version). x.after) (sym there) ∙ is_none_by v.after (sym w.is_some.ensures ∙ w.if-is_some.false))
      | else-count-gt0-via-else-count-gt0 w ↦ cut_none c.args.self.now.versions c.args.floor n c.count_by-count.ensures (omega arith)
    ]
