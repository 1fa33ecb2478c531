use Rattle.std.proofs.Common.{rules, ◌≡◌, true, Option, Some, None, MutBor, sym, ap, ◌∙◌, subst}
use Rattle.std.specs.Prelude.{is_some}
use Rattle.std.specs.BTreeMap.{is_at}
use Rattle.std.specs.Map.{lookup, set_value}
use Rattle.std.specs.Option.{option_copied_mut}
use Rattle.std.specs.Ordering.{int_cmp}
use Rattle.fs_board.specs.Board.{Posted, time_in, accepted_with, posted}
use Rattle.fs_board.specs.Held.{IsKept}
use Rattle.fs_board.specs.declared.entry.Entry.{Entry}
use Rattle.fs_board.proofs.Places.{has_time, found_there, accepted_there}
use Rattle.fs_board.proofs.Keeping.{kept_accepted}
use Rattle.fs_board.proofs.board.Board.accept.Goals as goal

is_lent : {X : Type 0} (o : Option (MutBor X)) → is_some (option_copied_mut o) ≡ true → is_some o ≡ true
is_lent None e = e
is_lent (Some x) e = e

pub unwrap-time-requires : goal.unwrap-time-requires
unwrap-time-requires g c =
    subst (λ o. is_some o ≡ true) (sym c.time_of.ensures) (has_time c.args.self.now.commits c.args.id c.requires)

pub unwrap-requires : goal.unwrap-requires
unwrap-requires g c =
    let es = c.self.inside.by_time.entries in
    let is = ap (λ (p : Posted g.row.A.Denot g.row.B.Denot). time_in c.args.id p.commits) c.self.view_is ∙ sym c.time_of.ensures ∙ c.unwrap-time.ensures in
    is_lent c.get_mut.result
    (subst (λ o. is_some o ≡ true) (sym c.get_mut.ensures.value) (found_there es c.args.id c.unwrap-time.result c.self.inside.last c.self.invariant.rise is))

pub invariant_of-self : goal.invariant_of-self
invariant_of-self g c =
    let es = c.self.inside.by_time.entries in
    let id = c.args.id in
    let t = c.unwrap-time.result in
    let o = c.unwrap.result.now in
    let w : Entry g.row.A.Denot g.row.B.Denot = record { id = o.id; asked = o.asked; batch = Some c.args.batch } in
    let is = ap (λ (p : Posted g.row.A.Denot g.row.B.Denot). time_in id p.commits) c.self.view_is ∙ sym c.time_of.ensures ∙ c.unwrap-time.ensures in
    let at : lookup (is_at (int_cmp t)) es ≡ Some o = sym c.get_mut.ensures.value ∙ ap option_copied_mut c.unwrap.ensures in
    let set : (c.get_mut.follows.lender w).entries ≡ set_value (is_at (int_cmp t)) es w = search rules in
    subst (λ cs. IsKept cs c.self.inside.times.entries c.self.inside.last)
    (sym (ap posted set ∙ accepted_there es id t c.self.inside.last o c.args.batch c.self.invariant.rise is at))
    (kept_accepted (posted es) c.self.inside.times.entries c.self.inside.last id c.args.batch c.self.invariant)

pub returns : goal.returns
returns g c =
    let es = c.self.inside.by_time.entries in
    let id = c.args.id in
    let t = c.unwrap-time.result in
    let o = c.unwrap.result.now in
    let w : Entry g.row.A.Denot g.row.B.Denot = record { id = o.id; asked = o.asked; batch = Some c.args.batch } in
    let is = ap (λ (p : Posted g.row.A.Denot g.row.B.Denot). time_in id p.commits) c.self.view_is ∙ sym c.time_of.ensures ∙ c.unwrap-time.ensures in
    let at : lookup (is_at (int_cmp t)) es ≡ Some o = sym c.get_mut.ensures.value ∙ ap option_copied_mut c.unwrap.ensures in
    let set : (c.get_mut.follows.lender w).entries ≡ set_value (is_at (int_cmp t)) es w = search rules in
    ap (λ cs. record { commits = cs; last = c.self.inside.last }) (ap posted set ∙ accepted_there es id t c.self.inside.last o c.args.batch c.self.invariant.rise is at)
    ∙ ap (λ (p : Posted g.row.A.Denot g.row.B.Denot). record { commits = accepted_with id c.args.batch p.commits; last = p.last }) c.self.view_is
