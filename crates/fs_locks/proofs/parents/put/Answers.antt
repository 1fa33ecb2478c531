use Rattle.std.proofs.Common.{rules, List, ℕ, Some, [], sym, ap, ◌∙◌, subst}
use Rattle.std.specs.Prelude.{◌≡◌, ◌||◌, ◌&&◌, ◌==◌, unwrap_or}
use Rattle.std.proofs.lemmas.Result.{on_err_weaker, on_ok_weaker}
use Rattle.fs_path.specs.TextOrder.{text_eq}
use Rattle.fs_locks.specs.Spots.{ids_under}
use Rattle.fs_locks.specs.Tree.{has}
use Rattle.fs_locks.proofs.TextMaps.{TextPuts, ids_more, ids_same, puts_key, puts_text}
use Rattle.fs_locks.proofs.parents.put.Goals as goal

pub returns-in-Some-clause-ok : goal.returns-in-Some-clause-ok
returns-in-Some-clause-ok c =
    let path = c.args.path.now in
    let old = c.args.tree.now in
    let ids = c.insert.new.self in
    let new = c.get_mut.follows.lender ids in
    let there : ids_under old path ≡ c.in-Some.holders.now = ap (λ o. unwrap_or o []) (sym c.in-Some.ensures.value) in
    on_ok_weaker {P = (i : ℕ) → has i ids ≡ (i == c.args.id || has i c.in-Some.holders.now)} {Q = (i : ℕ) (t : List ℕ) → has i (ids_under new t) ≡ ((text_eq path t && i == c.args.id) || has i (ids_under old t))} c.insert.result
    (λ more. ids_more old new path c.args.id ids (puts_text path old new (Some ids) (search rules)) (λ i. more i ∙ ap (λ (js : List ℕ). i == c.args.id || has i js) (sym there))) c.insert.ensures.ok

pub returns-in-Some-clause-err : goal.returns-in-Some-clause-err
returns-in-Some-clause-err c =
    let path = c.args.path.now in
    let old = c.args.tree.now in
    let ids = c.insert.new.self in
    let new = c.get_mut.follows.lender ids in
    let there : ids_under old path ≡ c.in-Some.holders.now = ap (λ o. unwrap_or o []) (sym c.in-Some.ensures.value) in
    on_err_weaker {P = ids ≡ c.in-Some.holders.now} {Q = (i : ℕ) (t : List ℕ) → has i (ids_under new t) ≡ has i (ids_under old t)} c.insert.result
    (λ same. ids_same old new path c.args.id ids (puts_text path old new (Some ids) (search rules)) (same ∙ sym there)) c.insert.ensures.err

pub returns-in_ok-insert-in-None-2-clause-ok : goal.returns-in_ok-insert-in-None-2-clause-ok
returns-in_ok-insert-in-None-2-clause-ok c =
    let path = c.args.path.now in
    let old = c.args.tree.now in
    let mid = c.get_mut.follows.lender-at-none in
    let ids = c.insert-in-None.new.self in
    let new = c.insert-in-None-2.new.self in
    let stays : mid ≡ old = search rules in
    let puts : TextPuts mid new path (Some ids) =
    puts_key c.in_ok-from_str-in-None.field-0 path mid new (Some ids) c.in_ok-from_str-in-None.ensures.ok c.in_ok-insert-in-None-2.ensures.updates in
    ids_more old new path c.args.id ids (subst (λ m. TextPuts m new path (Some ids)) stays puts)
    (λ i. c.in_ok-insert-in-None.ensures.ok i ∙ ap (λ (js : List ℕ). i == c.args.id || has i js) (c.new-first.ensures ∙ ap (λ o. unwrap_or o []) c.in-None.ensures.value))
