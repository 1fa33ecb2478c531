use Rattle.std.proofs.Common.{◌≡◌, ◌∙◌, [], IfSome, sym, ap, subst}
use Rattle.fs_machine.specs.declared.config.Config.{Config}
use Rattle.fs_machine.specs.declared.limits.Limits.{Limits}
use Rattle.fs_machine.specs.Limits.{greatest}
use Rattle.fs_replay.specs.Moved.{IfTaken, Gained}
use Rattle.fs_replay.specs.Run.{Wrote}
use Rattle.fs_replay.specs.Transcript.{lines_of, transcript}
use Rattle.fsemu.specs.Words.{config_of}
use Rattle.fsemu.proofs.Allowed.{greatest_allowed}
use Rattle.fsemu.proofs.run.run.Goals as goal

-- what holds by what was handed on holds by what was asked for
handed_on : (P : Config → Limits → Type 0) (asked config : Config) (limits : Limits) → asked ≡ config → limits ≡ greatest → P config limits → P asked greatest
handed_on P asked config limits same all is = subst (λ config. P config greatest) (sym same) (subst (P config) all is)

pub returns-in-Ok-clause-transcript : goal.returns-in-Ok-clause-transcript
returns-in-Ok-clause-transcript g c = λ ok options is.
    let only = rw c.in-Ok-Some.field-0-is at c.in-Ok-Some.ensures.only in
    handed_on (λ config limits. IfSome (g.S.Source.left c.args.source.now) (λ script.
    Gained (g.K.Sink.given c.args.sink.now) (g.K.Sink.given c.replay.new.sink) (transcript config limits script))) _ _ _
    (ap config_of (only options is) ∙ sym c.in-Ok.ensures) c.greatest.ensures (c.replay.ensures.transcript ok)

pub returns-in-Ok-clause-written : goal.returns-in-Ok-clause-written
returns-in-Ok-clause-written g c = λ options is.
    let only = rw c.in-Ok-Some.field-0-is at c.in-Ok-Some.ensures.only in
    handed_on (λ config limits. IfTaken (g.S.Source.left c.args.source.now) (g.S.Source.left c.replay.new.source) (λ taken.
    Wrote config limits c.replay.result taken (g.K.Sink.given c.args.sink.now) (g.K.Sink.given c.replay.new.sink))) _ _ _
    (ap config_of (only options is) ∙ sym c.in-Ok.ensures) c.greatest.ensures c.replay.ensures.written

pub returns-in-Ok-clause-unasked : goal.returns-in-Ok-clause-unasked
returns-in-Ok-clause-unasked g c = λ options is.
    let only = rw c.in-Ok-Some.field-0-is at c.in-Ok-Some.ensures.only in
    handed_on (λ config limits. IfTaken (g.S.Source.left c.args.source.now) (g.S.Source.left c.replay.new.source) (λ taken.
    transcript config limits taken ≡ [] → c.replay.new.sink ≡ c.args.sink.now)) _ _ _
    (ap config_of (only options is) ∙ sym c.in-Ok.ensures) c.greatest.ensures c.replay.ensures.unasked

pub returns-in-Err-clause-lines : goal.returns-in-Err-clause-lines
returns-in-Err-clause-lines g c = λ options is taken rest before after. c.scripts_are_lawful.ensures.lines_are_events (config_of options) greatest (lines_of taken)

pub returns-then-not-is_agreed-clause-lines : goal.returns-then-not-is_agreed-clause-lines
returns-then-not-is_agreed-clause-lines g c = λ options is taken rest before after. c.scripts_are_lawful.ensures.lines_are_events (config_of options) greatest (lines_of taken)

pub returns-in-Ok-clause-lines : goal.returns-in-Ok-clause-lines
returns-in-Ok-clause-lines g c = λ options is taken rest before after. c.scripts_are_lawful.ensures.lines_are_events (config_of options) greatest (lines_of taken)

pub returns-in-Err-config-clause-lines : goal.returns-in-Err-config-clause-lines
returns-in-Err-config-clause-lines g c = λ options is taken rest before after. c.scripts_are_lawful.ensures.lines_are_events (config_of options) greatest (lines_of taken)

pub returns-in-Err-clause-kept : goal.returns-in-Err-clause-kept
returns-in-Err-clause-kept g c = λ options is taken rest before after. c.scripts_are_lawful.ensures.runs_kept (config_of options) greatest (lines_of taken)

pub returns-then-not-is_agreed-clause-kept : goal.returns-then-not-is_agreed-clause-kept
returns-then-not-is_agreed-clause-kept g c = λ options is taken rest before after. c.scripts_are_lawful.ensures.runs_kept (config_of options) greatest (lines_of taken)

pub returns-in-Ok-clause-kept : goal.returns-in-Ok-clause-kept
returns-in-Ok-clause-kept g c = λ options is taken rest before after. c.scripts_are_lawful.ensures.runs_kept (config_of options) greatest (lines_of taken)

pub returns-in-Err-config-clause-kept : goal.returns-in-Err-config-clause-kept
returns-in-Err-config-clause-kept g c = λ options is taken rest before after. c.scripts_are_lawful.ensures.runs_kept (config_of options) greatest (lines_of taken)

pub returns-in-Err-clause-serial : goal.returns-in-Err-clause-serial
returns-in-Err-clause-serial g c = λ options is taken rest before after. c.scripts_are_lawful.ensures.runs_are_serial (config_of options) greatest (lines_of taken)

pub returns-then-not-is_agreed-clause-serial : goal.returns-then-not-is_agreed-clause-serial
returns-then-not-is_agreed-clause-serial g c = λ options is taken rest before after. c.scripts_are_lawful.ensures.runs_are_serial (config_of options) greatest (lines_of taken)

pub returns-in-Ok-clause-serial : goal.returns-in-Ok-clause-serial
returns-in-Ok-clause-serial g c = λ options is taken rest before after. c.scripts_are_lawful.ensures.runs_are_serial (config_of options) greatest (lines_of taken)

pub returns-in-Err-config-clause-serial : goal.returns-in-Err-config-clause-serial
returns-in-Err-config-clause-serial g c = λ options is taken rest before after. c.scripts_are_lawful.ensures.runs_are_serial (config_of options) greatest (lines_of taken)

pub returns-in-Err-clause-grows : goal.returns-in-Err-clause-grows
returns-in-Err-clause-grows g c = λ options is taken rest before after. c.scripts_are_lawful.ensures.runs_grow (config_of options) greatest (lines_of taken)

pub returns-then-not-is_agreed-clause-grows : goal.returns-then-not-is_agreed-clause-grows
returns-then-not-is_agreed-clause-grows g c = λ options is taken rest before after. c.scripts_are_lawful.ensures.runs_grow (config_of options) greatest (lines_of taken)

pub returns-in-Ok-clause-grows : goal.returns-in-Ok-clause-grows
returns-in-Ok-clause-grows g c = λ options is taken rest before after. c.scripts_are_lawful.ensures.runs_grow (config_of options) greatest (lines_of taken)

pub returns-in-Err-config-clause-grows : goal.returns-in-Err-config-clause-grows
returns-in-Err-config-clause-grows g c = λ options is taken rest before after. c.scripts_are_lawful.ensures.runs_grow (config_of options) greatest (lines_of taken)

pub returns-in-Err-clause-cuts : goal.returns-in-Err-clause-cuts
returns-in-Err-clause-cuts g c = λ options is taken rest before after. c.scripts_are_lawful.ensures.runs_cut (config_of options) greatest (lines_of taken) greatest_allowed

pub returns-then-not-is_agreed-clause-cuts : goal.returns-then-not-is_agreed-clause-cuts
returns-then-not-is_agreed-clause-cuts g c = λ options is taken rest before after. c.scripts_are_lawful.ensures.runs_cut (config_of options) greatest (lines_of taken) greatest_allowed

pub returns-in-Ok-clause-cuts : goal.returns-in-Ok-clause-cuts
returns-in-Ok-clause-cuts g c = λ options is taken rest before after. c.scripts_are_lawful.ensures.runs_cut (config_of options) greatest (lines_of taken) greatest_allowed

pub returns-in-Err-config-clause-cuts : goal.returns-in-Err-config-clause-cuts
returns-in-Err-config-clause-cuts g c = λ options is taken rest before after. c.scripts_are_lawful.ensures.runs_cut (config_of options) greatest (lines_of taken) greatest_allowed

pub returns-in-Err-clause-raised : goal.returns-in-Err-clause-raised
returns-in-Err-clause-raised g c = λ options is taken rest before after. c.scripts_are_lawful.ensures.runs_raised (config_of options) greatest (lines_of taken) greatest_allowed

pub returns-then-not-is_agreed-clause-raised : goal.returns-then-not-is_agreed-clause-raised
returns-then-not-is_agreed-clause-raised g c = λ options is taken rest before after. c.scripts_are_lawful.ensures.runs_raised (config_of options) greatest (lines_of taken) greatest_allowed

pub returns-in-Ok-clause-raised : goal.returns-in-Ok-clause-raised
returns-in-Ok-clause-raised g c = λ options is taken rest before after. c.scripts_are_lawful.ensures.runs_raised (config_of options) greatest (lines_of taken) greatest_allowed

pub returns-in-Err-config-clause-raised : goal.returns-in-Err-config-clause-raised
returns-in-Err-config-clause-raised g c = λ options is taken rest before after. c.scripts_are_lawful.ensures.runs_raised (config_of options) greatest (lines_of taken) greatest_allowed

pub returns-in-Err-clause-answers : goal.returns-in-Err-clause-answers
returns-in-Err-clause-answers g c = λ options is taken rest before after. c.scripts_are_lawful.ensures.runs_answer (config_of options) greatest (lines_of taken)

pub returns-then-not-is_agreed-clause-answers : goal.returns-then-not-is_agreed-clause-answers
returns-then-not-is_agreed-clause-answers g c = λ options is taken rest before after. c.scripts_are_lawful.ensures.runs_answer (config_of options) greatest (lines_of taken)

pub returns-in-Ok-clause-answers : goal.returns-in-Ok-clause-answers
returns-in-Ok-clause-answers g c = λ options is taken rest before after. c.scripts_are_lawful.ensures.runs_answer (config_of options) greatest (lines_of taken)

pub returns-in-Err-config-clause-answers : goal.returns-in-Err-config-clause-answers
returns-in-Err-config-clause-answers g c = λ options is taken rest before after. c.scripts_are_lawful.ensures.runs_answer (config_of options) greatest (lines_of taken)

pub returns-in-Err-clause-streams : goal.returns-in-Err-clause-streams
returns-in-Err-clause-streams g c = λ options is taken rest before after. c.scripts_are_lawful.ensures.runs_stream (config_of options) greatest (lines_of taken)

pub returns-then-not-is_agreed-clause-streams : goal.returns-then-not-is_agreed-clause-streams
returns-then-not-is_agreed-clause-streams g c = λ options is taken rest before after. c.scripts_are_lawful.ensures.runs_stream (config_of options) greatest (lines_of taken)

pub returns-in-Ok-clause-streams : goal.returns-in-Ok-clause-streams
returns-in-Ok-clause-streams g c = λ options is taken rest before after. c.scripts_are_lawful.ensures.runs_stream (config_of options) greatest (lines_of taken)

pub returns-in-Err-config-clause-streams : goal.returns-in-Err-config-clause-streams
returns-in-Err-config-clause-streams g c = λ options is taken rest before after. c.scripts_are_lawful.ensures.runs_stream (config_of options) greatest (lines_of taken)

pub returns-in-Err-clause-listeners : goal.returns-in-Err-clause-listeners
returns-in-Err-clause-listeners g c = λ options is taken rest before after. c.scripts_are_lawful.ensures.runs_listen (config_of options) greatest (lines_of taken)

pub returns-then-not-is_agreed-clause-listeners : goal.returns-then-not-is_agreed-clause-listeners
returns-then-not-is_agreed-clause-listeners g c = λ options is taken rest before after. c.scripts_are_lawful.ensures.runs_listen (config_of options) greatest (lines_of taken)

pub returns-in-Ok-clause-listeners : goal.returns-in-Ok-clause-listeners
returns-in-Ok-clause-listeners g c = λ options is taken rest before after. c.scripts_are_lawful.ensures.runs_listen (config_of options) greatest (lines_of taken)

pub returns-in-Err-config-clause-listeners : goal.returns-in-Err-config-clause-listeners
returns-in-Err-config-clause-listeners g c = λ options is taken rest before after. c.scripts_are_lawful.ensures.runs_listen (config_of options) greatest (lines_of taken)
