use Rattle.std.proofs.Common.{rules, ◌≡◌, ◌++◌, [], length, append_assoc, sym, ap, ◌∙◌, subst, arith}
use Rattle.std.specs.Vec.Iter.{into_iter_items}
use Rattle.std.proofs.lemmas.List.{nil_from_length}
use Rattle.fs_server.specs.Answering.{AreAnswerable, replies_of, responses_of}
use Rattle.fs_server.proofs.Responses.{answerable_first, answerable_rest}
use Rattle.fs_server.proofs.answering.answers.Goals as goal

pub answer_one-requires : goal.answer_one-requires
answer_one-requires c =
    let l = c.loop-commit in
    answerable_first c.args.streams.now c.in-Some.commit (into_iter_items c.next.new.self) (subst (AreAnswerable c.args.streams.now) c.in-Some.ensures.steps.0 l.invariant.may)

pub loop-commit-init : goal.loop-commit-init
loop-commit-init c = record {
  told = ap (λ rs. rs ++ replies_of c.args.streams.now (into_iter_items c.into_iter-commit-iterator.result)) c.new-replies.ensures.items;
  kept = ap (λ rs. rs ++ responses_of c.args.streams.now (into_iter_items c.into_iter-commit-iterator.result)) c.new-responses.ensures.items;
  may = subst (AreAnswerable c.args.streams.now) (sym c.into_iter-commit-iterator.ensures.into_iter_gives.0) c.requires;
  count = search rules;
}

pub loop-commit-preserved : goal.loop-commit-preserved
loop-commit-preserved c =
    let l = c.loop-commit in
    let rest = into_iter_items c.next.new.self in
    let steps = c.in-Some.ensures.steps in
    record {
      told =
          ap (λ rs. rs ++ replies_of c.args.streams.now rest) c.in_ok-answer_one.ensures.told ∙ append_assoc l.replies.items _ _
          ∙ ap (λ cs. l.replies.items ++ replies_of c.args.streams.now cs) (sym steps.0) ∙ l.invariant.told;
      kept =
          ap (λ rs. rs ++ responses_of c.args.streams.now rest) c.in_ok-answer_one.ensures.kept ∙ append_assoc l.responses.items _ _
          ∙ ap (λ cs. l.responses.items ++ responses_of c.args.streams.now cs) (sym steps.0) ∙ l.invariant.kept;
      may = answerable_rest c.args.streams.now c.in-Some.commit rest (subst (AreAnswerable c.args.streams.now) steps.0 l.invariant.may);
      count = omega (arith, ap length steps.0, steps.1, l.invariant.count);
    }

pub returns-clause-told : goal.returns-clause-told
returns-clause-told c =
    let l = c.loop-commit in
    let none : into_iter_items l.commit-iterator ≡ [] = nil_from_length _ (sym l.invariant.count ∙ c.in-None.ensures.steps.0) in
    let whole : l.replies.items ≡ l.replies.items ++ [] = search rules in
    whole ∙ ap (λ cs. l.replies.items ++ replies_of c.args.streams.now cs) (sym none) ∙ l.invariant.told ∙ ap (replies_of c.args.streams.now) c.into_iter-commit-iterator.ensures.into_iter_gives.0

pub returns-clause-kept : goal.returns-clause-kept
returns-clause-kept c =
    let l = c.loop-commit in
    let none : into_iter_items l.commit-iterator ≡ [] = nil_from_length _ (sym l.invariant.count ∙ c.in-None.ensures.steps.0) in
    let whole : l.responses.items ≡ l.responses.items ++ [] = search rules in
    whole ∙ ap (λ cs. l.responses.items ++ responses_of c.args.streams.now cs) (sym none) ∙ l.invariant.kept ∙ ap (responses_of c.args.streams.now) c.into_iter-commit-iterator.ensures.into_iter_gives.0
