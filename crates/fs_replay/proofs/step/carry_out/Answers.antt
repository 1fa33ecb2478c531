use Rattle.std.proofs.Common.{◌≡◌, ap, ◌∙◌}
use Rattle.std.proofs.lemmas.Result.{on_ok_weaker}
use Rattle.fs_path.specs.declared.name.Root.{Root}
use Rattle.fs_replay.specs.Line.{line_of}
use Rattle.fs_replay.specs.Played.{Plays}
use Rattle.fs_replay.specs.Step.{line_played}
use Rattle.fs_replay.proofs.Carried.{carried_output, carried_state}
use Rattle.fs_replay.proofs.step.carry_out.Goals as goal

pub returns-clause-output : goal.returns-clause-output
returns-clause-output c =
    let s = c.args.state.now in
    let bytes = c.args.line.now in
    let read = c.in_ok-read.read in
    let is : read ≡ line_of s.server.config.root bytes = c.in_ok-read.ensures ∙ ap (λ (root : Root). line_of root bytes) c.root.ensures in
    on_ok_weaker c.carry_out_read.result
    (λ (plays : Plays (line_played s c.args.number read) c.carry_out_read.new.state c.args.out.now.items c.carry_out_read.new.out.items).
    carried_output s c.carry_out_read.new.state c.args.number bytes c.args.out.now.items c.carry_out_read.new.out.items read is plays) c.carry_out_read.ensures

pub returns-clause-state : goal.returns-clause-state
returns-clause-state c =
    let s = c.args.state.now in
    let bytes = c.args.line.now in
    let read = c.in_ok-read.read in
    let is : read ≡ line_of s.server.config.root bytes = c.in_ok-read.ensures ∙ ap (λ (root : Root). line_of root bytes) c.root.ensures in
    on_ok_weaker c.carry_out_read.result
    (λ (plays : Plays (line_played s c.args.number read) c.carry_out_read.new.state c.args.out.now.items c.carry_out_read.new.out.items).
    carried_state s c.carry_out_read.new.state c.args.number bytes c.args.out.now.items c.carry_out_read.new.out.items read is plays) c.carry_out_read.ensures
