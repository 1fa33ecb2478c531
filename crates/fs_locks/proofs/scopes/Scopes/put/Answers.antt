use Rattle.std.proofs.Common.{rules, List, ℕ, Option, Some, ap, ◌∙◌, subst}
use Rattle.std.specs.Prelude.{◌≡◌, ◌||◌, ◌&&◌, ◌==◌}
use Rattle.std.specs.BTreeMap.{get_by_text}
use Rattle.std.specs.Option.{option_copied}
use Rattle.std.proofs.lemmas.Result.{on_err_weaker, on_ok_weaker}
use Rattle.fs_path.specs.TextOrder.{text_eq}
use Rattle.fs_locks.specs.Paths.{path_eq}
use Rattle.fs_locks.specs.Spots.{under}
use Rattle.fs_locks.specs.Tree.{has}
use Rattle.fs_locks.proofs.TextMaps.{TextPuts, below, puts_key, puts_text, scopes_more, scopes_same}
use Rattle.fs_locks.proofs.scopes.Scopes.put.Goals as goal

pub returns-in-Some-clause-ok : goal.returns-in-Some-clause-ok
returns-in-Some-clause-ok c =
    let name = c.args.name.now in
    let path = option_copied c.args.path in
    let old = c.args.self.now.by_id in
    let was = c.in-Some.parents.now in
    let parents = c.put.new.self in
    let new = c.get_mut.follows.lender parents in
    on_ok_weaker {P = (i : ℕ) (t : Option (List ℕ)) → has i (under parents t) ≡ ((path_eq path t && i == c.args.id) || has i (under was t))} {Q = (x : List ℕ) (t : Option (List ℕ)) (i : ℕ) → below i t (get_by_text new x) ≡ (((text_eq name x && path_eq path t) && i == c.args.id) || below i t (get_by_text old x))} c.put.result
    (λ more.
    scopes_more old new name path c.args.id parents (puts_text name old new (Some parents) (search rules))
    (λ i t. more i t ∙ ap (λ o. (path_eq path t && i == c.args.id) || below i t o) c.in-Some.ensures.value)) c.put.ensures.ok

pub returns-in-Some-clause-err : goal.returns-in-Some-clause-err
returns-in-Some-clause-err c =
    let name = c.args.name.now in
    let path = option_copied c.args.path in
    let old = c.args.self.now.by_id in
    let was = c.in-Some.parents.now in
    let parents = c.put.new.self in
    let new = c.get_mut.follows.lender parents in
    on_err_weaker {P = (i : ℕ) (t : Option (List ℕ)) → has i (under parents t) ≡ has i (under was t)} {Q = (x : List ℕ) (t : Option (List ℕ)) (i : ℕ) → below i t (get_by_text new x) ≡ below i t (get_by_text old x)} c.put.result
    (λ same. scopes_same old new name path c.args.id parents (puts_text name old new (Some parents) (search rules)) (λ i t. same i t ∙ ap (below i t) c.in-Some.ensures.value)) c.put.ensures.err

pub returns-in_ok-insert-in-None-clause-ok : goal.returns-in_ok-insert-in-None-clause-ok
returns-in_ok-insert-in-None-clause-ok c =
    let name = c.args.name.now in
    let path = option_copied c.args.path in
    let old = c.args.self.now.by_id in
    let mid = c.get_mut.follows.lender-at-none in
    let parents = c.put-in-None.new.self in
    let new = c.insert.new.self in
    let stays : mid ≡ old = search rules in
    let puts : TextPuts mid new name (Some parents) =
    puts_key c.in_ok-from_str-in-None.field-0 name mid new (Some parents) c.in_ok-from_str-in-None.ensures.ok c.in_ok-insert-in-None.ensures.updates in
    scopes_more old new name path c.args.id parents (subst (λ m. TextPuts m new name (Some parents)) stays puts)
    (λ i t.
    c.in_ok-put-in-None.ensures.ok i t
    ∙ ap (λ b. (path_eq path t && i == c.args.id) || b) (c.new-first.ensures i t ∙ ap (below i t) c.in-None.ensures.value))
