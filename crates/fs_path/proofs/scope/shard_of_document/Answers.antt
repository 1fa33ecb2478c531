use Rattle.std.proofs.Common.{◌≡◌, ◌-◌, ◌%◌, ◌<◌, List, [], ◌∷◌, ℕ, length, get_or, sum, refl, sym, ap, ◌∙◌, subst, arith}
use Rattle.std.proofs.Math.Nat.{mod-eq_of_lt}
use Rattle.std.proofs.lemmas.Option.{get_or_from_slice_get}
use Rattle.fs_path.proofs.scope.shard_of_document.Goals as goal

none_there : (ids : List (List ℕ)) → length ids ≡ 0 → get_or ids (length ids - 2) [] ≡ []
none_there [] is = refl
none_there (id ∷ ids) is = absurd (omega (arith, is))

pub returns-then-count-eq0-clause-value : goal.returns-then-count-eq0-clause-value
returns-then-count-eq0-clause-value c =
    let shards = c.args.shards in
    let ids = c.args.name.now.ids in
    let some : 0 < shards = omega (arith, c.requires.some) in
    sym (ap (λ id. sum id % shards) (none_there ids (omega arith)) ∙ mod-eq_of_lt some)

pub returns-clause-value : goal.returns-clause-value
returns-clause-value c =
    let ids = c.args.name.now.ids in
    let at : c.saturating_sub.result ≡ length ids - 2 = omega arith in
    c.shard_of_bytes.ensures.value
    ∙ ap (λ id. sum id % c.args.shards) (c.as_bytes.ensures.value ∙ sym (get_or_from_slice_get ids c.saturating_sub.result c.id.result.now [] c.id.ensures))
    ∙ ap (λ k. sum (get_or ids k []) % c.args.shards) at
