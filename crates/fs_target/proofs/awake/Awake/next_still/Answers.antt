use Rattle.std.proofs.Common.{◌≡◌, List, None, Option, ℤ, map, refl, sym, ap, ◌∙◌, subst}
use Rattle.std.specs.List.{AllByRecursion}
use Rattle.fs_listen.specs.Cuts.{base}
use Rattle.fs_target.specs.Seen.{listening_of, seen}
use Rattle.fs_target.specs.Still.{WillBe, WillStand, all_joined, in_all, nones}
use Rattle.fs_target.specs.declared.entry.Entry.{Entry}
use Rattle.fs_target.specs.declared.still.Still.{Still}
use Rattle.fs_target.proofs.Cutting.{base_of}
use Rattle.fs_target.proofs.InShards.{itself_all}
use Rattle.fs_target.proofs.awake.Awake.next_still.Goals as goal

pub returns-then-all_will_be : goal.returns-then-all_will_be
returns-then-all_will_be c =
    let es = c.self.inside.entries.items in
    let ps = c.in_ok-positions.positions.items in
    let s : Still = record { positions = c.in_ok-positions.positions; base = c.base-base.result } in
    let are : ps ≡ all_joined (nones ps) (map seen es) = c.in_ok-positions.ensures ∙ ap (λ (ds : List Entry). all_joined (nones ps) (map seen ds)) c.as_slice.ensures.value in
    subst (WillStand c.args.time s) c.self.view_is
    (record {
      each =
          subst (λ (qs : List (Option ℤ)). AllByRecursion (WillBe c.args.time qs) (map seen es)) c.as_slice-4.ensures.value
          (subst (λ (ds : List Entry). AllByRecursion (WillBe c.args.time c.as_slice-4.result.now) (map seen ds)) c.as_slice-3.ensures.value (c.if-all_will_be.ensures refl));
      of = record {
        had = ap (λ qs. in_all qs ps) (sym are) ∙ itself_all ps;
        base =
            c.base-base.ensures
            ∙ ap (λ (ds : List Entry). base (listening_of None (map seen ds))) c.as_slice-2.ensures.value
            ∙ base_of None es c.self.invariant.1.0;
        rise = c.self.invariant.1.0;
      };
    })
