use Rattle.std.proofs.Common.{◌≡◌, refl, rules, sym, subst}
use Rattle.std.specs.Prelude.{alloc_error}
use Rattle.fs_target.specs.Entries.{IsKeptOut}
use Rattle.fs_target.specs.declared.error.TargetError.TheVariants as error
use Rattle.fs_target.proofs.awake.make_way.Goals as goal

pub returns-in-Err-clause-err : goal.returns-in-Err-clause-err
returns-in-Err-clause-err c = λ shards raised. subst (λ o. IsKeptOut o c.in-Err.refusal) (sym (c.in-Err.ensures.err shards raised)) refl

pub returns-in-Err-add-clause-err : goal.returns-in-Err-add-clause-err
returns-in-Err-add-clause-err c = λ shards raised.
    let memory : error.Memory c.in-Err-add.error ≡ error.Memory alloc_error = search rules in
    subst (λ o. IsKeptOut o (error.Memory c.in-Err-add.error)) (sym (c.in-Ok.ensures.ok shards raised)) memory
