use Rattle.std.proofs.Common.{◌≡◌, List, [], ◌∷◌, ◌||◌, rules, refl, sym, ap, ◌∙◌}
use Rattle.std.specs.List.{list_any}
use Rattle.std.proofs.lemmas.Iterator.{YieldsList-from_slice}
use Rattle.std.proofs.lemmas.Iterator.Consumers.{YieldsList-from_deque}
use Rattle.std.proofs.lemmas.Iterator.Search.{any_from_yields_List}
use Rattle.std.proofs.lemmas.List.Folds.{list_any-append}
use Rattle.fs_path.specs.declared.name.DocName.{DocName}
use Rattle.fs_write.specs.WrittenName.{is_written}
use Rattle.fs_queue.specs.Queue.{batches, is_named}
use Rattle.fs_queue.specs.declared.batch.Acknowledged.{Acknowledged}
use Rattle.fs_queue.specs.declared.batch.LocalBatch.{LocalBatch}
use Rattle.fs_queue.proofs.Laying.{batches_of}
use Rattle.fs_queue.proofs.queue.Queue.touches.Goals as goal
use Rattle.fs_queue.proofs.queue.Queue.touches.Goals.{After-any}

in_done : (name : DocName) (done : List Acknowledged) → is_named name (batches_of done) ≡ list_any (λ (a : Acknowledged). is_written name a.batch.writes) done
in_done name [] = refl
in_done name (a ∷ done) = ap (λ b. is_written name a.batch.writes || b) (in_done name done)

named_done : (c : After-any) → c.any.result ≡ is_named c.args.name.now (batches_of c.self.inside.acknowledged.items)
named_done c =
    any_from_yields_List (λ (a : Acknowledged). is_written c.args.name.now a.batch.writes) _ _ _ c.any.ensures.ran
    (YieldsList-from_slice c.self.inside.acknowledged.items (c.iter.ensures.rest ∙ c.deref.ensures.value)) (λ a b f' k. search rules)
    ∙ sym (in_done c.args.name.now c.self.inside.acknowledged.items)

-- in those that are acknowledged, or in the others
in_either : (c : After-any) → (c.any.result || is_named c.args.name.now c.self.inside.unanswered.items) ≡ is_named c.args.name.now (batches c.args.self.now)
in_either c =
    let name = c.args.name.now in
    ap (λ b. b || is_named name c.self.inside.unanswered.items) (named_done c)
    ∙ sym (list_any-append (λ (b : LocalBatch). is_written name b.writes) (batches_of c.self.inside.acknowledged.items) c.self.inside.unanswered.items)
    ∙ ap (λ q. is_named name (batches q)) c.self.view_is

pub returns-then-any : goal.returns-then-any
returns-then-any c =
    c.if-any.true
    ∙ sym (ap (λ b. b || is_named c.args.name.now c.self.inside.unanswered.items) c.if-any.true)
    ∙ in_either (goal.at.returns-then-any c).After-any

pub returns-else-any : goal.returns-else-any
returns-else-any c =
    let waiting = c.self.inside.unanswered.items in
    any_from_yields_List (λ (b : LocalBatch). is_written c.args.name.now b.writes) _ _ _ c.any-else-any.ensures.ran
    (YieldsList-from_deque waiting c.iter-else-any.ensures.rest) (λ b r f' k. search rules)
    ∙ sym (ap (λ b. b || is_named c.args.name.now waiting) c.if-any.false)
    ∙ in_either (goal.at.returns-else-any c).After-any
