use Rattle.std.proofs.Common.{rules, ◌≡◌, ◌<◌, List, [], length, map, replicate, sym, ◌∙◌, arith}
use Rattle.std.proofs.lemmas.List.{ext_get_or, get_or-map, get_or-replicate, length-map, length-replicate}
use Rattle.fs_store.specs.declared.log.Log.{Log}
use Rattle.fs_store.specs.declared.noted.Noted.{Noted}
use Rattle.fs_store.proofs.logs.Logs.new.Goals as goal

entries_of : Log → List Noted
entries_of l = l.entries

pub returns-clause-none : goal.returns-clause-none
unfolding entries_of
returns-clause-none c =
    let ys = c.from_fn.result in
    let items = c.from_fn.ensures.items in
    let d : Log = record { entries = []; room = 0 } in
    let long : length (map entries_of ys) ≡ 16 = length-map ys entries_of ∙ items.long in
    ext_get_or [] (map entries_of ys) (replicate 16 []) (long ∙ sym (length-replicate {A = List Noted} 16 []))
    (λ k within.
    let short : k < 16 = omega (arith, long) in
    let here : k < length ys = omega (arith, items.long) in
    let called = items.at k d short in
    get_or-map entries_of ys k d [] here ∙ (search rules) ∙ sym (get_or-replicate {A = List Noted} 16 k [] [] short))
