use Rattle.std.proofs.Common.{◌≤ℤ◌, ℤ, List, sym, subst}
use Rattle.std.specs.Prelude.{int_lt}
use Rattle.std.proofs.lemmas.List.Elements.{All-filter, All-map, All-weaker}
use Rattle.fs_store.specs.Logged.{AreBy, noted_after}
use Rattle.fs_path.specs.Scope.{AreShards}
use Rattle.fs_store.specs.Logs.{AllBy, Noticed, all_cut}
use Rattle.fs_store.specs.Room.{Housed}
use Rattle.fs_store.specs.Shows.{AreOf, Shows}
use Rattle.fs_store.specs.Stored.{Stored}
use Rattle.fs_store.specs.declared.noted.Noted.{Noted}
use Rattle.fs_store.proofs.Holding.{held_cut}
use Rattle.fs_store.proofs.Logging.{are_cut}
use Rattle.fs_store.proofs.store.Store.compact.Goals as goal

-- what is left isn't later than what was there
cut_by : (floor last : ℤ) (logs : Noticed) → AllBy logs last → AllBy (all_cut floor logs) last
cut_by floor last logs by =
    All-map (λ (ns : List Noted). AreBy ns last) (noted_after floor) logs
    (All-weaker (λ (ns : List Noted). AreBy ns last) (λ (ns : List Noted). AreBy (noted_after floor ns) last)
    (λ ns all. All-filter (λ (n : Noted). int_lt floor n.time) (λ (n : Noted). n.time ≤ℤ last) ns all) logs by)

pub invariant_of-self : goal.invariant_of-self
invariant_of-self c = (
  held_cut c.self.inside.versions.chains c.compact.new.self.chains c.args.floor c.self.inside.absorbed c.self.invariant.0 c.compact.ensures.cut
      (subst (λ (h : Housed). c.args.floor ≤ℤ h.stored.absorbed) (sym c.self.view_is) c.requires.to),
  record {
    are = subst AreShards (sym c.cut.ensures.shards) c.self.invariant.1.are;
    by = subst (λ t. AllBy c.cut.new.self.logs t) (sym c.compact.ensures.cut.last)
        (subst (λ logs. AllBy logs c.self.inside.versions.chains.last) (sym c.cut.ensures.logs) (cut_by c.args.floor c.self.inside.versions.chains.last c.self.inside.logs.logs c.self.invariant.1.by));
  },
)

pub returns-clause-shows : goal.returns-clause-shows
returns-clause-shows c = λ h shows.
    let s : Stored = record { chains = c.self.inside.versions.chains; absorbed = c.self.inside.absorbed; shards = c.self.inside.logs.shards; logs = c.self.inside.logs.logs } in
    let seen = subst (λ (t : Housed). Shows h t.stored) (sym c.self.view_is) shows in
    let low = subst (λ (t : Housed). t.stored.chains.floor ≤ℤ c.args.floor) (sym c.self.view_is) c.requires.from in
    let cut = are_cut s.shards s.chains.floor c.args.floor seen.commits s.logs c.self.invariant.1.are low seen.logs in
    record {
      versions = c.compact.ensures.shows h seen.versions;
      ends = seen.ends;
      commits = seen.commits;
      brought = seen.brought;
      logs = subst (λ t. AreOf c.cut.new.self.shards t seen.commits c.cut.new.self.logs) (sym c.compact.ensures.cut.to)
          (subst (λ n. AreOf n c.args.floor seen.commits c.cut.new.self.logs) (sym c.cut.ensures.shards)
          (subst (AreOf s.shards c.args.floor seen.commits) (sym c.cut.ensures.logs) cut));
    }
