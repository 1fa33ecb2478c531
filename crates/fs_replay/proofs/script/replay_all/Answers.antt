use Rattle.std.proofs.Common.{◌≡◌, [], length, sym, ap, subst, ◌∙◌, inl, ◌⊎◌}
use Rattle.std.specs.Bool.{OnTrue, OnFalse}
use Rattle.fs_edge.specs.declared.status.Status.TheVariants as status
use Rattle.fs_replay.specs.Run.{Wrote}
use Rattle.fs_replay.specs.Step.{start}
use Rattle.fs_replay.specs.Gathering.{status_of}
use Rattle.fs_replay.specs.Moved.{Gained, GainedFront}
use Rattle.fs_replay.specs.Transcript.{played, transcript}
use Rattle.fs_replay.specs.Limits.{longest_input}
use Rattle.fs_path.proofs.Results.{at_err}
use Rattle.fs_replay.proofs.Ending.{if_taken, if_all_taken, front_of_transcript, wrote_here, ended_whole, ended_full}
use Rattle.fs_replay.proofs.Written.{played_nothing}
use Rattle.fs_replay.proofs.script.replay_all.Goals as goal

pub returns-in_err-play-clause-err : goal.returns-in_err-play-clause-err
returns-in_err-play-clause-err g c =
    let a = g.K.Sink.given c.args.sink.now in
    let b = g.K.Sink.given c.play.new.sink in
    let bytes = c.in_ok-input.input.bytes.items in
    let part = front_of_transcript c.args.config c.args.limits a b c.is_whole.result c.deref.result.now c.in_err-play.ensures.err in
    at_err _ (if_taken _ _ bytes (λ taken. GainedFront a b (transcript c.args.config c.args.limits taken)) c.in_ok-input.ensures.taken (subst (λ s. GainedFront a b (transcript c.args.config c.args.limits s)) c.deref.ensures.value part))

pub returns-then-not-branch-clause-written : goal.returns-then-not-branch-clause-written
returns-then-not-branch-clause-written g c =
    let a = g.K.Sink.given c.args.sink.now in
    let b = g.K.Sink.given c.play.new.sink in
    let bytes = c.in_ok-input.input.bytes.items in
    let failed = subst (λ done. OnFalse done (GainedFront a b (played c.is_whole.result (start c.args.config c.args.limits) 1 c.deref.result.now))) c.if-not-branch.true c.in_ok-play.ensures.failed in
    let part = front_of_transcript c.args.config c.args.limits a b c.is_whole.result c.deref.result.now failed in
    if_taken _ _ bytes (λ taken. GainedFront a b (transcript c.args.config c.args.limits taken)) c.in_ok-input.ensures.taken (subst (λ s. GainedFront a b (transcript c.args.config c.args.limits s)) c.deref.ensures.value part)

pub returns-in_err-play-clause-unasked : goal.returns-in_err-play-clause-unasked
returns-in_err-play-clause-unasked g c =
    if_taken _ _ c.in_ok-input.input.bytes.items (λ taken. transcript c.args.config c.args.limits taken ≡ [] → c.play.new.sink ≡ c.args.sink.now) c.in_ok-input.ensures.taken
    (λ none. c.in_err-play.ensures.unasked (played_nothing c.args.config c.args.limits c.is_whole.result c.deref.result.now (ap (transcript c.args.config c.args.limits) c.deref.ensures.value ∙ none)))

pub returns-then-not-branch-clause-unasked : goal.returns-then-not-branch-clause-unasked
returns-then-not-branch-clause-unasked g c =
    if_taken _ _ c.in_ok-input.input.bytes.items (λ taken. transcript c.args.config c.args.limits taken ≡ [] → c.play.new.sink ≡ c.args.sink.now) c.in_ok-input.ensures.taken
    (λ none. c.in_ok-play.ensures.unasked (played_nothing c.args.config c.args.limits c.is_whole.result c.deref.result.now (ap (transcript c.args.config c.args.limits) c.deref.ensures.value ∙ none)))

pub returns-clause-unasked : goal.returns-clause-unasked
returns-clause-unasked g c =
    if_taken _ _ c.in_ok-input.input.bytes.items (λ taken. transcript c.args.config c.args.limits taken ≡ [] → c.play.new.sink ≡ c.args.sink.now) c.in_ok-input.ensures.taken
    (λ none. c.in_ok-play.ensures.unasked (played_nothing c.args.config c.args.limits c.is_whole.result c.deref.result.now (ap (transcript c.args.config c.args.limits) c.deref.ensures.value ∙ none)))

pub returns-clause-written : goal.returns-clause-written
returns-clause-written g c =
    let a = g.K.Sink.given c.args.sink.now in
    let b = g.K.Sink.given c.play.new.sink in
    let bytes = c.in_ok-input.input.bytes.items in
    let gained = subst (λ done. OnTrue done (Gained a b (played c.is_whole.result (start c.args.config c.args.limits) 1 c.deref.result.now))) c.if-not-branch.false c.in_ok-play.ensures.played in
    if_taken _ _ bytes (λ taken. Wrote c.args.config c.args.limits c.status.result taken a b) c.in_ok-input.ensures.taken
    (wrote_here c.args.config c.args.limits c.in_ok-input.input.stop c.is_whole.result c.status.result a b c.deref.result.now bytes c.is_whole.ensures c.status.ensures c.deref.ensures.value gained)

pub returns-clause-transcript : goal.returns-clause-transcript
returns-clause-transcript g c = λ ok.
    let a = g.K.Sink.given c.args.sink.now in
    let b = g.K.Sink.given c.play.new.sink in
    let bytes = c.in_ok-input.input.bytes.items in
    let gained = subst (λ done. OnTrue done (Gained a b (played c.is_whole.result (start c.args.config c.args.limits) 1 c.deref.result.now))) c.if-not-branch.false c.in_ok-play.ensures.played in
    let wrote = wrote_here c.args.config c.args.limits c.in_ok-input.input.stop c.is_whole.result c.status.result a b c.deref.result.now bytes c.is_whole.ensures c.status.ensures c.deref.ensures.value gained in
    let ended = ended_whole c.in_ok-input.input.stop (sym c.status.ensures ∙ ok) in
    if_all_taken _ _ bytes (λ script. Gained a b (transcript c.args.config c.args.limits script)) c.in_ok-input.ensures.taken (c.in_ok-input.ensures.end ended) (subst (λ s. Wrote c.args.config c.args.limits s bytes a b) ok wrote)

pub returns-clause-limit : goal.returns-clause-limit
returns-clause-limit g c = λ limit.
    let full = ended_full c.in_ok-input.input.stop (sym c.status.ensures ∙ limit) in
    if_taken _ _ c.in_ok-input.input.bytes.items (λ taken. length taken ≡ longest_input) c.in_ok-input.ensures.taken (c.in_ok-input.ensures.full.0 full)

pub returns-clause-limit_told : goal.returns-clause-limit_told
returns-clause-limit_told g c =
    if_taken _ _ c.in_ok-input.input.bytes.items (λ taken. length taken ≡ longest_input → (c.status.result ≡ status.InputLimit) ⊎ (c.status.result ≡ status.WriteFault)) c.in_ok-input.ensures.taken
    (λ long. inl (c.status.ensures ∙ ap status_of (c.in_ok-input.ensures.full.1 long)))
