use Rattle.std.proofs.Common.{◌≡◌, ◌-◌, ◌<◌, ◌++◌, ℕ, List, length, take, drop, sym, ap, ◌∙◌, arith, length-drop}
use Rattle.std.proofs.Math.Seq.{take-append_seam}
use Rattle.fs_txn.specs.declared.expired.Expired.{Expired}
use Rattle.fs_txn.specs.Expiry.{last_of, remembered}
use Rattle.fs_txn.proofs.expired.forget_first.Goals as goal

-- the last of a list are in front, and the others are cut off
turned : (es : List Expired) → remembered < length es → take remembered (drop (length es - remembered) es ++ take (length es - remembered) es) ≡ last_of es
turned es more =
    let some : length (drop (length es - remembered) es) ≡ remembered = omega (arith, length-drop (length es - remembered) es) in
    ap (λ n. take n (drop (length es - remembered) es ++ take (length es - remembered) es)) (sym some) ∙ take-append_seam (drop (length es - remembered) es) (take (length es - remembered) es)

pub returns-then-len-gt-REMEMBERED-clause-items : goal.returns-then-len-gt-REMEMBERED-clause-items
returns-then-len-gt-REMEMBERED-clause-items c =
    let es = c.args.expired.now.items in
    let more : remembered < length es = omega arith in
    let by : c.len-then-len-gt-REMEMBERED.result - remembered ≡ length es - remembered = omega arith in
    c.truncate.ensures.items ∙ ap (take remembered) (c.rotate_left.ensures.items ∙ ap (λ (n : ℕ). drop n es ++ take n es) by) ∙ turned es more
