use Rattle.std.proofs.Common.{ℤ, ◌<ℤ◌, [], ◌∷◌, refl, sym, ap, ◌∙◌, subst}
use Rattle.std.specs.FinMap.{FinMap}
use Rattle.std.specs.Prelude.{List}
use Rattle.fs_history.specs.declared.version.Version.{Version}
use Rattle.fs_path.proofs.Results.{at_err}
use Rattle.fs_path.specs.NameOrder.{name_cmp}
use Rattle.fs_versions.specs.Chain.{extended}
use Rattle.fs_versions.specs.Chains.{Installs, chain_of, installed}
use Rattle.fs_versions.specs.Room.{Versioned}
use Rattle.fs_versions.specs.Sound.{chains_of}
use Rattle.fs_versions.proofs.Installing.{ends_before, ends_more, ends_same, installed_view, shows_more}
use Rattle.fs_versions.proofs.TreeLaws.{change_at, one_rises}
use Rattle.fs_versions.proofs.Views.{chain_get, same_view}
use Rattle.fs_versions.proofs.versions.Versions.install_one.Goals as goal

pub install_one-requires : goal.install_one-requires
install_one-requires c =
    ends_before c.self.inside.chains.entries c.self.inside.last c.args.time c.self.invariant
    (subst (λ (t : ℤ). t <ℤ c.args.time) (sym (ap (λ (v : Versioned). v.chains.last) c.self.view_is)) c.requires.later) c.args.change.now.name

pub invariant_of-self : goal.invariant_of-self
invariant_of-self c = ends_same c.self.inside.chains.entries c.install_one.new.chains.entries c.self.inside.last c.self.invariant c.in_err-install_one.ensures.err

pub returns-in_err-install_one-clause-err : goal.returns-in_err-install_one-clause-err
returns-in_err-install_one-clause-err c =
    at_err c.from_residual.result
    (ap (λ (m : FinMap name_cmp (List Version)). record { by_name = m; floor = c.self.inside.floor; last = c.self.inside.last })
    (same_view c.self.inside.chains.entries c.install_one.new.chains.entries c.in_err-install_one.ensures.err)
    ∙ ap (λ (v : Versioned). v.chains) c.self.view_is)

pub invariant_of-self-2 : goal.invariant_of-self-2
invariant_of-self-2 c =
    ends_more c.self.inside.chains.entries c.install_one.new.chains.entries (c.args.change.now ∷ []) c.self.inside.last c.args.time c.self.invariant
    (subst (λ (t : ℤ). t <ℤ c.args.time) (sym (ap (λ (v : Versioned). v.chains.last) c.self.view_is)) c.requires.later)
    c.in_ok-install_one.ensures.ok

pub returns-clause-value : goal.returns-clause-value
returns-clause-value c =
    ap (λ (m : FinMap name_cmp (List Version)). record { by_name = m; floor = c.self.inside.floor; last = c.args.time })
    (installed_view c.self.inside.chains.entries c.install_one.new.chains.entries (c.args.change.now ∷ []) c.args.time (one_rises c.args.change.now) c.in_ok-install_one.ensures.ok)
    ∙ ap (λ (v : Versioned). installed v.chains (c.args.change.now ∷ []) c.args.time) c.self.view_is

pub returns-clause-shows : goal.returns-clause-shows
returns-clause-shows c = λ h b shows same changes.
    let old = c.self.inside.chains.entries in
    let new = c.install_one.new.chains.entries in
    let cs = c.args.change.now ∷ [] in
    let installs : Installs c.args.self.now.chains (record { by_name = chains_of new; floor = c.self.inside.floor; last = c.args.time }) cs c.args.time = record {
      floor = ap (λ (v : Versioned). v.chains.floor) c.self.view_is;
      last = refl;
      chains = λ q.
          chain_get new q
          ∙ c.in_ok-install_one.ensures.ok q
          ∙ ap (extended c.args.time (change_at q cs)) (sym (chain_get old q) ∙ ap (λ (v : Versioned). chain_of v.chains q) c.self.view_is);
    } in
    shows_more c.args.self.now.chains _ cs c.args.time installs c.requires.above_floor c.requires.later h b shows same changes
    c.histories_are_lawful.ensures.chain c.histories_are_lawful.ensures.newest
