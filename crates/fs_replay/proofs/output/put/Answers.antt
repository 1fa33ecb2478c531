use Rattle.std.proofs.Common.{◌≡◌, ℕ, ◌-◌, ◌==◌, true, List, ◌++◌, length, take, drop, sym, ap, ◌∙◌, append_assoc, arith, length-drop}
use Rattle.std.proofs.lemmas.List.{take-append-drop, take_all}
use Rattle.fs_replay.proofs.Flow.{gained_more, gained_front, nothing_behind}
use Rattle.fs_replay.proofs.output.put.Goals as goal

-- the rest of the piece after a part of it was given
after_part : (front rest : List ℕ) (n : ℕ) → front ++ rest ≡ (front ++ take n rest) ++ take (length rest - n) (drop n rest)
after_part front rest n =
    ap (λ r. front ++ r) (sym (take-append-drop n rest)) ∙ sym (append_assoc front (take n rest) (drop n rest)) ∙ ap (λ r. (front ++ take n rest) ++ r) (sym (take_all (length rest - n) (drop n rest) (omega (arith, length-drop n rest))))

pub loop-rest-preserved : goal.loop-rest-preserved
loop-rest-preserved g c =
    let inv = c.loop-rest.invariant in
    let rest = c.loop-rest.rest.now in
    let n = c.in-Bytes.count in (
      inv.0 ++ take n rest,
      record {
        piece = inv.1.piece ∙ after_part inv.0 rest n;
        gained = gained_more _ _ _ inv.0 (take n rest) inv.1.gained c.in-Bytes.ensures.writes;
        faults = c.in-Bytes.ensures.no_fault (λ e. cc) ∙ inv.1.faults;
        unasked = λ none.
            let gone = nothing_behind inv.0 rest _ (sym inv.1.piece) none in
            let empty : c.is_empty.result ≡ true = c.is_empty.ensures ∙ ap (λ r. length r == 0) gone in
            absurd (cc);
      },
    )

pub returns-in-Failed-clause-part : goal.returns-in-Failed-clause-part
returns-in-Failed-clause-part g c =
    let inv = c.loop-rest.invariant in
    gained_front _ _ _ inv.0 c.loop-rest.rest.now _ inv.1.gained inv.1.piece c.in-Failed.ensures.writes
