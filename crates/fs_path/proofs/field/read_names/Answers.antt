use Rattle.std.proofs.Common.{◌≡◌, ◌<◌, ◌++◌, length, ◌-◌, false, refl, arith, take, drop, string_bytes, get_or, subst, ap, sym, ◌∙◌}
use Rattle.std.proofs.lemmas.Str.{IsCharBoundary-start, IsCharBoundary-after_ascii}
use Rattle.std.specs.Str.{IsCharBoundary}
use Rattle.fs_path.specs.FieldReader.{gathered, takes}
use Rattle.fs_path.proofs.Readings.{taken, marked, marks_ascii}
use Rattle.fs_path.proofs.field.read_names.Goals as goal
use Rattle.fs_path.proofs.field.read_names.Goals.{then-not-takes+in_ok-gather, else-not-takes}

pub loop-at-init : goal.loop-at-init
loop-at-init c = record {
  rest = rw (c.new-names.ensures, c.new-name.ensures.bytes) refl;
  from = omega arith;
  cut = IsCharBoundary-start c.args.text.now c.utf8.text;
}

pub loop-at-preserved : goal.loop-at-preserved
loop-at-preserved c =
    let text = c.args.text.now in
    let at = c.loop-at.at in
    let b = get_or c.as_bytes-bytes.result.now at 0 in
    let byte : b ≡ get_or text at 0 = ap (λ t. get_or t at 0) c.as_bytes-bytes.ensures.value in
    let within : at < length text = subst (λ n. at < n) (ap length c.as_bytes-bytes.ensures.value) c.loop-at-test.true in
    let stage = c.loop-at.stage in
    let next = c.in-Some.next in
    let names = c.loop-at.names in
    let front = string_bytes c.loop-at.name in
    elim c.if-not-takes.branch [
      | then-not-takes+in_ok-gather w ↦
          let marks : takes stage next ≡ false = sym c.takes.ensures ∙ w.if-not-takes.true in
          let narrow : get_or text at 0 < 128 = subst (λ x. x < 128) byte (marks_ascii stage next b marks c.in-Some.ensures) in
          let gather : gathered next names (front ++ take (at - c.loop-at.from) (drop c.loop-at.from text)) ≡ record { stage = next; names = w.gather.new.names; name = string_bytes w.gather.new.name } =
          ap (λ x. gathered next names (front ++ x)) (sym w.range.ensures.value) ∙ w.in_ok-gather.ensures in
          record {
            rest = rw (w.names-is, w.name-is, w.from-is) (marked stage next names w.gather.new.names front text (string_bytes w.gather.new.name) c.loop-at.from at b within byte c.in-Some.ensures marks gather ∙ c.loop-at.invariant.rest);
            from = omega arith;
            cut = subst (λ n. IsCharBoundary text n) (sym w.from-is) (IsCharBoundary-after_ascii text at c.utf8.text within narrow);
          }
      | else-not-takes w ↦
          record {
            rest = rw (w.names-is, w.name-is, w.from-is) (taken stage next names front text c.loop-at.from at b c.loop-at.invariant.from within byte c.in-Some.ensures (sym c.takes.ensures ∙ w.if-not-takes.false) ∙ c.loop-at.invariant.rest);
            from = omega arith;
            cut = subst (λ n. IsCharBoundary text n) (sym w.from-is) c.loop-at.invariant.cut;
          }
    ]
