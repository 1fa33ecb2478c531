use Rattle.std.proofs.Common.{◌≡◌, ℕ, ◌+◌, List, [], ◌∷◌, ◌++◌, take, sym, ap, ◌∙◌, append_assoc, arith}
use Rattle.std.proofs.lemmas.List.{append-nil, take_more}
use Rattle.fs_request.specs.declared.message.Message.{Message}
use Rattle.fs_replay.specs.Outboxes.{message_line, message_lines}
use Rattle.fs_replay.proofs.reply.say_all.Goals as goal

-- one message more
lines_more : (name : List ℕ) (ms : List Message) (m : Message) → message_lines name (ms ++ m ∷ []) ≡ message_lines name ms ++ message_line name m
lines_more name [] m = append-nil (message_line name m)
lines_more name (x ∷ ms) m = ap (λ t. message_line name x ++ t) (lines_more name ms m) ∙ sym (append_assoc (message_line name x) (message_lines name ms) (message_line name m))

pub loop-message-preserved : goal.loop-message-preserved
loop-message-preserved c =
    let name = c.args.session.now in
    let ms = c.args.messages.now in
    let i = c.loop-message.message-index in
    let m = c.message-item.result in
    let more : take (i + 1) ms ≡ take i ms ++ m ∷ [] = take_more ms i m (omega arith) ∙ ap (λ (x : Message). take i ms ++ x ∷ []) (sym c.message-item.is) in
    c.in_ok-say.ensures
    ∙ ap (λ o. o ++ message_line name m) c.loop-message.invariant
    ∙ append_assoc c.args.out.now.items (message_lines name (take i ms)) (message_line name m)
    ∙ ap (λ t. c.args.out.now.items ++ t) (sym (lines_more name (take i ms) m) ∙ ap (message_lines name) (sym more))
