use Rattle.std.proofs.Common.{◌<◌, ◌≤◌, length, map, sym, subst}
use Rattle.std.proofs.lemmas.List.{length-map}
use Rattle.fs_target.specs.Entries.{IsAbsentAt, IsThereAt}
use Rattle.fs_target.specs.Seen.{seen}
use Rattle.fs_target.proofs.Asked.{not_refused, refused_in_use, refused_many}
use Rattle.fs_target.proofs.awake.place_for.Goals as goal

pub returns-then-entries-limit-clause-err : goal.returns-then-entries-limit-clause-err
returns-then-entries-limit-clause-err c = λ shards raised.
    let ss = map seen c.args.entries.now in
    refused_many shards c.args.limit raised c.args.id ss c.requires (subst (λ n. c.args.limit ≤ n) (sym (length-map c.args.entries.now seen)) c.if-entries-limit.true)

pub returns-in-Ok-clause-err : goal.returns-in-Ok-clause-err
returns-in-Ok-clause-err c = λ shards raised.
    let ss = map seen c.args.entries.now in
    let low : length ss < c.args.limit = subst (λ n. n < c.args.limit) (sym (length-map c.args.entries.now seen)) c.if-entries-limit.false in
    let at : IsThereAt c.args.id ss c.in-Ok.field-0 = subst (λ k. IsThereAt k ss c.in-Ok.field-0) c.from.ensures c.in-Ok.ensures in
    refused_in_use shards c.args.limit raised c.args.id ss c.requires low c.in-Ok.field-0 at

pub returns-in-Err-clause-ok : goal.returns-in-Err-clause-ok
returns-in-Err-clause-ok c = λ shards raised.
    let ss = map seen c.args.entries.now in
    let low : length ss < c.args.limit = subst (λ n. n < c.args.limit) (sym (length-map c.args.entries.now seen)) c.if-entries-limit.false in
    let at : IsAbsentAt c.args.id ss c.in-Err.i = subst (λ k. IsAbsentAt k ss c.in-Err.i) c.from.ensures c.in-Err.ensures in
    not_refused shards c.args.limit raised c.args.id ss c.requires low c.in-Err.i at
