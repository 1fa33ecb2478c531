use Rattle.std.proofs.Common.{rules, ◌≡◌, ◌<ℤ◌, ◌≤ℤ◌, ℤ, pos, ◌+ℤ◌, None, sym, ap, ◌∙◌, subst, arith}
use Rattle.std.proofs.lemmas.Int.{ints}
use Rattle.fs_time.proofs.Moments.{moment_range}
use Rattle.fs_time.specs.Moment.{first_moment, IsMoment}
use Rattle.fs_board.specs.Board.{Posted, time_in, prepared, posted}
use Rattle.fs_board.specs.Held.{IsKept}
use Rattle.fs_board.specs.declared.entry.Entry.{Entry}
use Rattle.fs_board.proofs.Places.{put_behind, prepared_there}
use Rattle.fs_board.proofs.Keeping.{kept_prepared, kept_back}
use Rattle.fs_board.proofs.board.Board.prepare.Goals as goal

next_later : (last n time : ℤ) → n ≡ last → time ≡ n +ℤ pos 1 → last <ℤ time
next_later last n time same is = omega (arith, ints)

next_late : (last n time : ℤ) → n ≡ last → time ≡ n +ℤ pos 1 → first_moment ≤ℤ n → first_moment <ℤ time
next_late last n time same is from = omega (arith, ints)

is_next : (last n time : ℤ) → n ≡ last → time ≡ n +ℤ pos 1 → time ≡ last +ℤ pos 1
is_next last n time same is = is ∙ ap (λ t. t +ℤ pos 1) same

pub invariant_of-self-in-Err : goal.invariant_of-self-in-Err
invariant_of-self-in-Err g c =
    let es = c.self.inside.by_time.entries in
    let none = ap (λ (p : Posted g.row.A.Denot g.row.B.Denot). time_in c.args.id p.commits) c.self.view_is ∙ c.requires in
    subst (λ cs. IsKept cs c.remove.new.self.entries c.self.inside.last) (sym (ap posted c.in-Err.ensures.err))
    (kept_back (posted es) c.self.inside.times.entries c.insert.new.self.entries c.remove.new.self.entries c.self.inside.last c.args.id c.in-Some.time none
    c.in_ok-insert.ensures.updates.0 c.remove.ensures.updates.0 c.self.invariant)

pub invariant_of-self-2 : goal.invariant_of-self-2
invariant_of-self-2 g c =
    let es = c.self.inside.by_time.entries in
    let last = c.self.inside.last in
    let time = c.in-Some.time in
    let o : Entry g.row.A.Denot g.row.B.Denot = record { id = c.args.id; asked = c.args.asked; batch = None } in
    let none = ap (λ (p : Posted g.row.A.Denot g.row.B.Denot). time_in c.args.id p.commits) c.self.view_is ∙ c.requires in
    let value : time ≡ c.get.result +ℤ pos 1 = search rules in
    let later = next_later last c.get.result time c.get.ensures.value value in
    let late = next_late last c.get.result time c.get.ensures.value value (moment_range c.get.result (subst IsMoment (sym c.get.ensures.value) c.get.ensures.range)).0 in
    subst (λ cs. IsKept cs c.insert.new.self.entries time) (sym (ap posted c.in_default-insert.ensures.entries ∙ put_behind es time last o c.self.invariant.rise later))
    (kept_prepared (posted es) c.self.inside.times.entries c.insert.new.self.entries last (record { time = time; id = c.args.id; asked = c.args.asked; batch = None }) later late none c.in_ok-insert.ensures.updates.0 c.self.invariant)

pub returns-clause-ok : goal.returns-clause-ok
returns-clause-ok g c =
    let value : c.in-Some.time ≡ c.get.result +ℤ pos 1 = search rules in
    prepared_there c.self.inside.by_time.entries c.insert-2.new.self.entries c.self.inside.last c.in-Some.time c.args.id c.args.asked c.self.invariant.rise c.in_default-insert.ensures.entries
    (is_next c.self.inside.last c.get.result c.in-Some.time c.get.ensures.value value)
    ∙ ap (λ (p : Posted g.row.A.Denot g.row.B.Denot). prepared p c.args.id c.args.asked) c.self.view_is
