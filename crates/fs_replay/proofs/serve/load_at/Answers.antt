use Rattle.std.proofs.Common.{◌≡◌, ℕ, List, [], Option, None, get_or, sym, ap, ◌∙◌, subst}
use Rattle.std.specs.FinMap.{entries}
use Rattle.fs_listen.specs.Cuts.{first_loading}
use Rattle.fs_machine.specs.Listen.{listening_of}
use Rattle.fs_replay.specs.Played.{Plays}
use Rattle.fs_replay.specs.Settling.{loads_of, loads_one}
use Rattle.fs_replay.specs.declared.directory.Named.{Named}
use Rattle.fs_replay.specs.declared.state.State.{State}
use Rattle.fs_replay.proofs.Playing.{Goes, goes_to}
use Rattle.fs_replay.proofs.Serving.{fewer_left, next_load, none_left, named_at}
use Rattle.fs_replay.proofs.serve.load_at.Goals as goal

-- the first that isn't loaded, by the number of a session
first_of : State → ℕ → Option ℕ
first_of s number = first_loading (entries (listening_of s.server number).targets)

-- its targets at a place of the directory
abbrev Loads : State → ℕ → State → List ℕ → List ℕ → Named → Type 0
Loads s id t before after n = Plays (loads_one n id s) t before after

pub targets-preserved : goal.targets-preserved
unfolding first_of
targets-preserved c =
    let s = c.targets.state in
    let t = c.load_one.new.state in
    let ns = c.args.state.now.directory in
    let place = c.args.place in
    let id = c.in-Some.target in
    let now = c.targets.out.items in
    let next = c.load_one.new.out.items in
    let inv = c.targets.invariant in
    let plays : (n : Named) → Loads s id t now next (get_or ns place n) = λ n. subst (λ ms. Loads s id t now next (get_or ms place n)) inv.same (c.in_ok-load_one.ensures n) in
    let none : Named = record { name = []; number = 0 } in
    record {
      goes = λ n.
          let here = named_at c.as_slice.result.now ns place c.index-as_slice-place.result n c.as_slice.ensures c.requires in
          let first = ap (λ (m : Named). first_of s m.number) (sym here) ∙ sym c.unloaded.ensures ∙ c.in-Some.is in
          next_load (loads_of (get_or ns place n) c.args.state.now) c.args.out.now.items now next (get_or ns place n) id s t first (inv.goes n) (plays n);
      same = ap (λ (x : State). x.directory) (plays none).state ∙ inv.same;
    }

pub targets-smaller : goal.targets-smaller
unfolding first_of
targets-smaller c =
    let s = c.targets.state in
    let t = c.load_one.new.state in
    let ns = c.args.state.now.directory in
    let place = c.args.place in
    let id = c.in-Some.target in
    let now = c.targets.out.items in
    let next = c.load_one.new.out.items in
    let n = get_or c.as_slice.result.now place c.index-as_slice-place.result in
    let here = named_at c.as_slice.result.now ns place c.index-as_slice-place.result n c.as_slice.ensures c.requires in
    let loads : Loads s id t now next (get_or ns place n) = subst (λ ms. Loads s id t now next (get_or ms place n)) c.targets.invariant.same (c.in_ok-load_one.ensures n) in
    fewer_left n id s t now next (sym c.unloaded.ensures ∙ c.in-Some.is) (subst (Loads s id t now next) (sym here) loads)

pub returns : goal.returns
unfolding first_of
returns c = λ n.
    let s = c.targets.state in
    let ns = c.args.state.now.directory in
    let place = c.args.place in
    let here = named_at c.as_slice.result.now ns place c.index-as_slice-place.result n c.as_slice.ensures c.requires in
    let first : first_of s (get_or ns place n).number ≡ None = ap (λ (m : Named). first_of s m.number) (sym here) ∙ sym c.unloaded.ensures ∙ c.in_default.is in
    let all = loads_of (get_or ns place n) c.args.state.now in
    let rest = subst (Goes all c.args.out.now.items c.targets.out.items) (none_left (get_or ns place n) s first) (c.targets.invariant.goes n) in
    goes_to all c.args.out.now.items c.targets.out.items s rest
