use Rattle.fs_replay.proofs.Current.{runs_raised}
use Rattle.fs_replay.proofs.Lawful.{last_newline, lines_grow, lines_keep, lines_serial, no_line, nobody_keeps, one_line, one_line_where_none_waits, past_unmoved, shows_what_stands, starts_between, stays_between, times_rise}
use Rattle.fs_replay.proofs.Leading.{lines_are_events, runs_cut, runs_grow, runs_kept, runs_serial}
use Rattle.fs_replay.proofs.Throughout.{answers_throughout, listeners_throughout, streams_throughout}
use Rattle.fs_replay.proofs.laws.scripts_are_lawful.Goals as goal

pub returns : goal.returns
returns c =
    let unwritten = c.batches_are_lawful.ensures.unwritten in
    let grow = c.machines_are_lawful.ensures.grows in
    let kept = c.machines_are_lawful.ensures.kept in
    record {
      starts = starts_between kept;
      between = stays_between;
      nobody_waits = nobody_keeps;
      grows = lines_grow grow;
      serial = lines_serial;
      lines_are_events = lines_are_events;
      runs_kept = runs_kept kept;
      runs_grow = runs_grow kept grow;
      runs_are_serial = runs_serial c.machines_are_lawful.ensures.serial;
      runs_cut = runs_cut c.machines_are_lawful.ensures.cuts c.machines_are_lawful.ensures.times;
      runs_raised = runs_raised kept c.machines_are_lawful.ensures.served;
      runs_answer = λ config limits lines.
          let m = c.machines_are_lawful.ensures in
          answers_throughout kept config limits m.told_aborted m.told_held m.not_both m.reads m.read_times m.prepared m.results m.refusals lines;
      runs_stream = λ config limits lines.
          let m = c.machines_are_lawful.ensures in
          streams_throughout kept config limits m.batches_once m.once_per_token m.acknowledged m.repeats m.kept_token m.repeat_told m.requests_once m.owners_told m.messages lines;
      runs_listen = λ config limits lines.
          let m = c.machines_are_lawful.ensures in
          listeners_throughout kept config limits m.each_cut m.raised m.due m.quiet m.resets m.compacted m.currents m.positions m.versions lines;
      unmoved = past_unmoved;
      rise = times_rise;
      kept = lines_keep unwritten;
      one_line = one_line;
      at_once = one_line_where_none_waits;
      no_line = no_line;
      shown = shows_what_stands;
      newline = last_newline;
    }
