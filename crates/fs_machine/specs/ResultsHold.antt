-- Always: an accepted commit that isn't released has the results that its writes have on what the history leaves.
use Rattle.std.specs.Prelude.{◌≡◌, ⊤, List, Option, Some, None, Ok}
use Rattle.std.specs.List.{AllByRecursion}
use Rattle.fs_write.specs.Batch.{Docs, batch}
use Rattle.fs_write.specs.declared.write_result.WriteResult.{WriteResult}
use Rattle.fs_history.specs.History.{whole}
use Rattle.fs_history.specs.declared.batch.Batch.{Batch}
use Rattle.fs_machine.specs.Past.{Past}
use Rattle.fs_machine.specs.declared.unreleased.Unreleased.{Unreleased}

abbrev pub AreResultsOf : Docs → Batch → Option (List WriteResult) → Type 0
AreResultsOf docs b None = ⊤
AreResultsOf docs b (Some results) = (after : Docs) × (batch docs b.writes b.time ≡ Ok (after, results))

abbrev pub HasResults : Docs → Unreleased → Type 0
HasResults docs u = AreResultsOf docs u.batch u.results

abbrev pub ResultsHold : Past → Type 0
ResultsHold p = AllByRecursion (HasResults (whole p.history)) p.unreleased
