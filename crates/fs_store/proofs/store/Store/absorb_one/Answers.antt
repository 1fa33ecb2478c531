use Rattle.std.proofs.Common.{◌≡◌, [], ◌∷◌, length, get_or, sym, ap, ◌∙◌, subst, arith}
use Rattle.std.specs.Prelude.{List, ℕ, ℤ}
use Rattle.fs_history.specs.History.{whole}
use Rattle.fs_history.specs.declared.batch.Batch.{Batch}
use Rattle.fs_versions.specs.Chains.{Chains, installed}
use Rattle.fs_versions.specs.Shows.{Shows as VersionsShow}
use Rattle.fs_write.specs.Batch.{AreChanges}
use Rattle.fs_write.specs.declared.change.Change.{Change}
use Rattle.fs_history.specs.Brings.{IsCommit}
use Rattle.fs_store.specs.Fits.{Fits}
use Rattle.fs_store.specs.Held.{IsHeld}
use Rattle.fs_store.specs.Next.{next_release}
use Rattle.fs_store.specs.Room.{Housed}
use Rattle.fs_store.specs.Shows.{Shows}
use Rattle.fs_path.specs.Scope.{AreShards}
use Rattle.fs_store.specs.Logs.{AllBy, Noticed, with_all_noted, with_noted}
use Rattle.fs_store.specs.Noted.{all_noted}
use Rattle.fs_store.specs.Stored.{Stored, absorbed}
use Rattle.fs_store.proofs.Holding.{held_absorbed, shows_absorbed}
use Rattle.fs_store.proofs.store.Store.absorb_one.Goals as goal

only : (cs : List Change) (c : Change) → length cs ≡ 1 → c ≡ get_or cs 0 c → cs ≡ c ∷ []
only [] c one is = absurd (cc)
only (d ∷ []) c one is = ap (λ (x : Change). x ∷ []) (sym is)
only (d ∷ e ∷ cs) c one is = absurd (omega (arith, one))

-- what the one change of a commit leaves in the logs
one_noted : (shards : ℕ) (logs : Noticed) (t : ℤ) (id : ℕ) (cs : List Change) (c : Change) → cs ≡ c ∷ []
    → with_noted shards logs (record { time = t; id = id; name = c.name }) ≡ with_all_noted shards logs (all_noted (record { time = t; id = id; changes = cs } ∷ []))
one_noted shards logs t id cs c one = ap (λ ds. with_all_noted shards logs (all_noted (record { time = t; id = id; changes = ds } ∷ []))) (sym one)

pub invariant_of-self-2 : goal.invariant_of-self-2
invariant_of-self-2 c =
    let s : Stored = record { chains = c.self.inside.versions.chains; absorbed = c.self.inside.absorbed; shards = c.self.inside.logs.shards; logs = c.self.inside.logs.logs } in
    let commit = c.args.commit.now in
    let one = only c.args.commit.now.changes c.index-as_slice-0.result c.requires.one (c.index-as_slice-0.is ∙ ap (λ cs. get_or cs 0 c.index-as_slice-0.result) c.as_slice.ensures) in
    let release = next_release s c.args.to (commit ∷ []) in
    let fits = subst (λ (h : Housed). Fits h.stored (next_release h.stored c.args.to (commit ∷ []))) (sym c.self.view_is) c.requires.fits in
    let made = c.in_ok-install_one.ensures.value ∙ ap (λ cs. installed s.chains cs commit.time) (sym one) in (
      subst (λ (v : Chains). IsHeld v c.args.to) (sym made) (held_absorbed s release c.self.invariant.0 fits),
      record {
        are = subst AreShards (sym (c.note.ensures.shards ∙ c.reserve.ensures.shards)) c.self.invariant.1.are;
        by = subst (λ (v : Chains). AllBy c.note.new.self.logs v.last) (sym made) c.note.ensures.by;
      },
    )

pub returns-clause-shows : goal.returns-clause-shows
returns-clause-shows c = λ h k shows brings.
    let s : Stored = record { chains = c.self.inside.versions.chains; absorbed = c.self.inside.absorbed; shards = c.self.inside.logs.shards; logs = c.self.inside.logs.logs } in
    let commit = c.args.commit.now in
    let one = only c.args.commit.now.changes c.index-as_slice-0.result c.requires.one (c.index-as_slice-0.is ∙ ap (λ cs. get_or cs 0 c.index-as_slice-0.result) c.as_slice.ensures) in
    let release = next_release s c.args.to (commit ∷ []) in
    let fits = subst (λ (t : Housed). Fits t.stored (next_release t.stored c.args.to (commit ∷ []))) (sym c.self.view_is) c.requires.fits in
    let seen = subst (λ (t : Housed). Shows h t.stored) (sym c.self.view_is) shows in
    let b = brings.0 in
    let is : IsCommit h b commit = brings.1 in
    let left = c.in_ok-install_one.ensures.shows h b seen.versions is.time (subst (AreChanges (whole h) (whole (b ∷ h))) one is.changes) in
    let made = c.in_ok-install_one.ensures.value ∙ ap (λ cs. installed s.chains cs commit.time) (sym one) in
    let versions = subst (λ (g : List Batch). VersionsShow g (installed s.chains commit.changes commit.time)) (sym brings.2) (subst (VersionsShow (b ∷ h)) made left) in
    let then : Stored = record { chains = c.install_one.new.self.chains; absorbed = c.args.to; shards = c.note.new.self.shards; logs = c.note.new.self.logs } in
    let noted = c.note.ensures.logs
    ∙ (λ i. with_noted (c.reserve.ensures.shards i) (c.reserve.ensures.same i) (record { time = commit.time; id = commit.id; name = c.in_ok-name.ensures i }))
    ∙ one_noted s.shards s.logs commit.time commit.id commit.changes c.index-as_slice-0.result one in
    let same : then ≡ absorbed s release = λ i. record { chains = made i; absorbed = c.args.to; shards = (c.note.ensures.shards ∙ c.reserve.ensures.shards) i; logs = noted i } in
    subst (Shows k) (sym same) (shows_absorbed s release c.self.invariant.0 fits h k c.self.invariant.1.are seen brings versions)
