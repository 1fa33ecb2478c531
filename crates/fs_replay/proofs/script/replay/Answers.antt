use Rattle.fs_replay.specs.Transcript.{lines_of}
use Rattle.fs_replay.proofs.script.replay.Goals as goal

pub returns-in-Ok-clause-lines : goal.returns-in-Ok-clause-lines
returns-in-Ok-clause-lines g c = λ taken rest before after. c.scripts_are_lawful.ensures.lines_are_events c.args.config c.args.limits (lines_of taken)

pub returns-in-Err-clause-lines : goal.returns-in-Err-clause-lines
returns-in-Err-clause-lines g c = λ taken rest before after. c.scripts_are_lawful.ensures.lines_are_events c.args.config c.args.limits (lines_of taken)

pub returns-in-Ok-clause-kept : goal.returns-in-Ok-clause-kept
returns-in-Ok-clause-kept g c = λ taken rest before after. c.scripts_are_lawful.ensures.runs_kept c.args.config c.args.limits (lines_of taken)

pub returns-in-Err-clause-kept : goal.returns-in-Err-clause-kept
returns-in-Err-clause-kept g c = λ taken rest before after. c.scripts_are_lawful.ensures.runs_kept c.args.config c.args.limits (lines_of taken)

pub returns-in-Ok-clause-serial : goal.returns-in-Ok-clause-serial
returns-in-Ok-clause-serial g c = λ taken rest before after. c.scripts_are_lawful.ensures.runs_are_serial c.args.config c.args.limits (lines_of taken)

pub returns-in-Err-clause-serial : goal.returns-in-Err-clause-serial
returns-in-Err-clause-serial g c = λ taken rest before after. c.scripts_are_lawful.ensures.runs_are_serial c.args.config c.args.limits (lines_of taken)

pub returns-in-Ok-clause-grows : goal.returns-in-Ok-clause-grows
returns-in-Ok-clause-grows g c = λ taken rest before after. c.scripts_are_lawful.ensures.runs_grow c.args.config c.args.limits (lines_of taken)

pub returns-in-Err-clause-grows : goal.returns-in-Err-clause-grows
returns-in-Err-clause-grows g c = λ taken rest before after. c.scripts_are_lawful.ensures.runs_grow c.args.config c.args.limits (lines_of taken)

pub returns-in-Ok-clause-cuts : goal.returns-in-Ok-clause-cuts
returns-in-Ok-clause-cuts g c = λ taken rest before after. c.scripts_are_lawful.ensures.runs_cut c.args.config c.args.limits (lines_of taken) c.requires.limits

pub returns-in-Err-clause-cuts : goal.returns-in-Err-clause-cuts
returns-in-Err-clause-cuts g c = λ taken rest before after. c.scripts_are_lawful.ensures.runs_cut c.args.config c.args.limits (lines_of taken) c.requires.limits

pub returns-in-Ok-clause-raised : goal.returns-in-Ok-clause-raised
returns-in-Ok-clause-raised g c = λ taken rest before after. c.scripts_are_lawful.ensures.runs_raised c.args.config c.args.limits (lines_of taken) c.requires.limits

pub returns-in-Err-clause-raised : goal.returns-in-Err-clause-raised
returns-in-Err-clause-raised g c = λ taken rest before after. c.scripts_are_lawful.ensures.runs_raised c.args.config c.args.limits (lines_of taken) c.requires.limits

pub returns-in-Ok-clause-answers : goal.returns-in-Ok-clause-answers
returns-in-Ok-clause-answers g c = λ taken rest before after. c.scripts_are_lawful.ensures.runs_answer c.args.config c.args.limits (lines_of taken)

pub returns-in-Err-clause-answers : goal.returns-in-Err-clause-answers
returns-in-Err-clause-answers g c = λ taken rest before after. c.scripts_are_lawful.ensures.runs_answer c.args.config c.args.limits (lines_of taken)

pub returns-in-Ok-clause-streams : goal.returns-in-Ok-clause-streams
returns-in-Ok-clause-streams g c = λ taken rest before after. c.scripts_are_lawful.ensures.runs_stream c.args.config c.args.limits (lines_of taken)

pub returns-in-Err-clause-streams : goal.returns-in-Err-clause-streams
returns-in-Err-clause-streams g c = λ taken rest before after. c.scripts_are_lawful.ensures.runs_stream c.args.config c.args.limits (lines_of taken)

pub returns-in-Ok-clause-listeners : goal.returns-in-Ok-clause-listeners
returns-in-Ok-clause-listeners g c = λ taken rest before after. c.scripts_are_lawful.ensures.runs_listen c.args.config c.args.limits (lines_of taken)

pub returns-in-Err-clause-listeners : goal.returns-in-Err-clause-listeners
returns-in-Err-clause-listeners g c = λ taken rest before after. c.scripts_are_lawful.ensures.runs_listen c.args.config c.args.limits (lines_of taken)
