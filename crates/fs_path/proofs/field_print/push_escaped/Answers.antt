use Rattle.std.proofs.Common.{◌≡◌, ◌<◌, ◌++◌, ◌∷◌, [], ◌+◌, ◌-◌, refl, arith, true, false, ◌||◌, eqb, take, drop, length, string_bytes, get_or, ap, sym, subst, ◌∙◌}
use Rattle.std.proofs.lemmas.Str.{IsCharBoundary-start, IsCharBoundary-before_ascii}
use Rattle.std.specs.Str.{IsCharBoundary}
use Rattle.fs_path.proofs.Escapes.{itself, behind_slash, narrow}
use Rattle.fs_path.proofs.field_print.push_escaped.Goals as goal
use Rattle.fs_path.proofs.field_print.push_escaped.Goals.{then-is_marked+in_ok-push_str+in_ok-push_str-2, else-is_marked}

pub loop-at-init : goal.loop-at-init
loop-at-init c = record {
  so_far = refl;
  from = omega arith;
  cut = IsCharBoundary-start c.args.name.now c.utf8.name;
}

pub loop-at-preserved : goal.loop-at-preserved
loop-at-preserved c =
    let name = c.args.name.now in
    let at = c.loop-at.at in
    let b = get_or c.as_bytes-bytes.result.now at 0 in
    let byte : b ≡ get_or name at 0 = ap (λ t. get_or t at 0) c.as_bytes-bytes.ensures.value in
    let within : at < length name = omega arith in
    let slice = take (at - c.loop-at.from) (drop c.loop-at.from name) in
    let old = string_bytes c.args.text.now in
    let front = string_bytes c.loop-at.text in
    elim c.if-is_marked.branch [
      | then-is_marked+in_ok-push_str+in_ok-push_str-2 w ↦
          let mark : (eqb b 96 || eqb b 92) ≡ true = sym c.is_marked.ensures ∙ w.if-is_marked.true in
          let text : (front ++ slice) ++ 92 ∷ [] ≡ string_bytes c.if-is_marked.text =
          sym (ap string_bytes w.text-is ∙ (w.in_ok-push_str-2.ensures.bytes ∙ ap (λ x. x ++ 92 ∷ []) (w.in_ok-push_str.ensures.bytes ∙ ap (λ x. front ++ x) w.range.ensures.value))) in
          let from : at ≡ c.if-is_marked.from = sym w.from-is in
          let ascii : get_or name at 0 < 128 = subst (λ x. x < 128) byte (narrow b mark) in
          record {
            so_far = ap (λ x. x ++ take (at + 1 - c.if-is_marked.from) (drop c.if-is_marked.from name)) (sym text)
                ∙ (ap (λ n. ((front ++ slice) ++ 92 ∷ []) ++ take (at + 1 - n) (drop n name)) (sym from)
                ∙ behind_slash front old name c.loop-at.from at b within byte mark c.loop-at.invariant.so_far);
            from = omega arith;
            cut = subst (λ n. IsCharBoundary name n) from (IsCharBoundary-before_ascii name at within ascii);
          }
      | else-is_marked w ↦
          let no_mark : (eqb b 96 || eqb b 92) ≡ false = sym c.is_marked.ensures ∙ w.if-is_marked.false in
          let from : c.loop-at.from ≡ c.if-is_marked.from = sym w.from-is in
          record {
            so_far = ap (λ x. string_bytes x ++ take (at + 1 - c.if-is_marked.from) (drop c.if-is_marked.from name)) w.text-is
                ∙ (ap (λ n. front ++ take (at + 1 - n) (drop n name)) (sym from)
                ∙ itself front old name c.loop-at.from at b c.loop-at.invariant.from within byte no_mark c.loop-at.invariant.so_far);
            from = omega arith;
            cut = subst (λ n. IsCharBoundary name n) from c.loop-at.invariant.cut;
          }
    ]
