use Rattle.std.proofs.Common.{◌≡◌, Result, Ok, Err, List, map, ◌∙◌, subst, Bor}
use Rattle.std.specs.Prelude.{IfOk}
use Rattle.std.specs.FinMap.{empty, values}
use Rattle.fs_value.specs.declared.document.Document.{Document}
use Rattle.fs_write.specs.Batch.{AreNamed, Docs}
use Rattle.fs_query.specs.Answer.{IsAnswer}
use Rattle.fs_listen.specs.View.{view}
use Rattle.fs_query.specs.declared.target.Target.TheVariants as target
use Rattle.fs_target.specs.Places.{all_put, docs_in}
use Rattle.fs_target.proofs.Standing.{Placed}
use Rattle.fs_target.proofs.Viewing.{answer_put}
use Rattle.fs_target.proofs.answered.answered.Goals as goal

ok_so : {A E : Type 0} (r : Result A E) (P Q : A → Type 0) → ((a : A) → P a → Q a) → IfOk r P → IfOk r Q
ok_so (Ok a) P Q so holds = so a holds
ok_so (Err e) P Q so holds = tt

pub returns : goal.returns
returns c =
    let q = c.args.query.now in
    let ds = c.in_ok-answer_among.field-0 in
    let laws = c.answers_are_lawful.ensures in
    let lent = map (λ (d : Bor Document). d.now) c.args.docs.now in
    ok_so c.of.result (λ (p : Placed). docs_in p ≡ all_put ds empty) (λ (p : Placed). (all : Docs) → lent ≡ values all → AreNamed all → docs_in p ≡ view (target.Query q) all)
    (λ p put all is named. put ∙ answer_put q all named laws.one laws.some laws.fit ds (subst (λ (docs : List Document). IsAnswer q docs ds) is c.in_ok-answer_among.ensures))
    c.of.ensures
