use Rattle.std.proofs.Common.{◌++◌, ap, ◌∙◌, arith}
use Rattle.fs_path.proofs.Results.{at_err}
use Rattle.fs_replay.proofs.Flow.{gained_as_front, gained_front_more, gained_more, gained_whole, gained_front_whole, nothing_behind, nothing_between, on_true, on_false}
use Rattle.fs_replay.proofs.Written.{told_line, told_given}
use Rattle.fs_replay.proofs.play.play_on.Goals as goal

pub returns-in_err-carry_out-clause-err : goal.returns-in_err-carry_out-clause-err
returns-in_err-carry_out-clause-err g c =
    let inv = c.lines.invariant in
    at_err _ (gained_as_front _ _ inv.0 _ _ inv.1.gained inv.1.told)

pub returns-in_err-carry_last-clause-err : goal.returns-in_err-carry_last-clause-err
returns-in_err-carry_last-clause-err g c =
    let inv = c.lines.invariant in
    at_err _ (gained_as_front _ _ inv.0 _ _ inv.1.gained inv.1.told)

pub returns-then-not-pass_on-clause-failed : goal.returns-then-not-pass_on-clause-failed
returns-then-not-pass_on-clause-failed g c =
    let inv = c.lines.invariant in
    let made = c.in_ok-carry_out.ensures in
    let told = told_line c.args.whole c.lines.state c.carry_out.new.state c.lines.number inv.0 c.lines.out.items c.carry_out.new.out.items c.lines.rest.now c.in-Some.line.now c.in-Some.after.now _ inv.1.told c.in-Some.ensures.cut made.output made.state in
    gained_front_more _ _ _ inv.0 c.carry_out.new.out.items _ _ inv.1.gained c.if-not-pass_on.ensures.failed told

pub returns-then-not-pass_on-clause-unasked : goal.returns-then-not-pass_on-clause-unasked
returns-then-not-pass_on-clause-unasked g c = λ none.
    let inv = c.lines.invariant in
    let made = c.in_ok-carry_out.ensures in
    let told = told_line c.args.whole c.lines.state c.carry_out.new.state c.lines.number inv.0 c.lines.out.items c.carry_out.new.out.items c.lines.rest.now c.in-Some.line.now c.in-Some.after.now _ inv.1.told c.in-Some.ensures.cut made.output made.state in
    c.pass_on.ensures.unasked (nothing_between inv.0 c.carry_out.new.out.items _ _ told none) ∙ inv.1.unasked none

pub lines-preserved : goal.lines-preserved
lines-preserved g c =
    let inv = c.lines.invariant in
    let made = c.in_ok-carry_out.ensures in
    let told = told_line c.args.whole c.lines.state c.carry_out.new.state c.lines.number inv.0 c.lines.out.items c.carry_out.new.out.items c.lines.rest.now c.in-Some.line.now c.in-Some.after.now _ inv.1.told c.in-Some.ensures.cut made.output made.state in
    let passed = c.if-not-pass_on.ensures.passed in (
      inv.0 ++ passed.0,
      record {
        gained = gained_more _ _ _ inv.0 passed.0 inv.1.gained passed.1;
        told = told_given inv.0 passed.0 c.carry_out.new.out.items c.pass_on.new.out.items _ _ told passed.2;
        count = omega (arith, inv.1.count, c.in-Some.ensures.shorter);
        faults = c.if-not-pass_on.ensures.no_fault ∙ inv.1.faults;
        unasked = λ none. c.pass_on.ensures.unasked (nothing_between inv.0 c.carry_out.new.out.items _ _ told none) ∙ inv.1.unasked none;
      },
    )

pub returns-clause-played : goal.returns-clause-played
returns-clause-played g c =
    let inv = c.lines.invariant in
    on_true c.put.result (λ last. gained_whole _ _ _ inv.0 c.deref.result.now _ inv.1.gained (ap (λ p. inv.0 ++ p) (c.deref.ensures.value ∙ c.in_ok-carry_last.ensures) ∙ inv.1.told) last) c.put.ensures.whole

pub returns-clause-unasked : goal.returns-clause-unasked
returns-clause-unasked g c = λ none.
    let inv = c.lines.invariant in
    let last = nothing_behind inv.0 c.deref.result.now _ (ap (λ p. inv.0 ++ p) (c.deref.ensures.value ∙ c.in_ok-carry_last.ensures) ∙ inv.1.told) none in
    c.put.ensures.unasked last ∙ inv.1.unasked none

pub returns-clause-failed : goal.returns-clause-failed
returns-clause-failed g c =
    let inv = c.lines.invariant in
    on_false c.put.result (λ last. gained_front_whole _ _ _ inv.0 c.deref.result.now _ inv.1.gained (ap (λ p. inv.0 ++ p) (c.deref.ensures.value ∙ c.in_ok-carry_last.ensures) ∙ inv.1.told) last) c.put.ensures.part
