use Rattle.std.proofs.Common.{List, ◌++◌, sym, ap, ◌∙◌}
use Rattle.std.specs.Borrow.{Bor}
use Rattle.std.specs.FinMap.{get}
use Rattle.std.proofs.lemmas.List.{append-nil}
use Rattle.fs_path.specs.declared.name.DocName.{DocName}
use Rattle.fs_cache.specs.Cached.{documents}
use Rattle.fs_queue.specs.Overlay.{laid, overlay}
use Rattle.fs_path.proofs.NamesOnce.{names_at}
use Rattle.fs_client.proofs.OverlayNamed.{overlay_named}
use Rattle.fs_client.proofs.StandingAt.{standing_at, standing_values}
use Rattle.fs_client.proofs.shown.named.Goals as goal

pub returns : goal.returns
returns c = λ bs is.
    let docs = documents c.args.cache.now in
    let there = λ (name : DocName). laid (get c.args.left.now name) (get docs name) in
    let found = c.loop-name.docs in
    let sorted = c.in_ok-sorted.sorted.keys in
    let names = c.in_ok-sorted.ensures in
    sym (append-nil found)
    ∙ ap (λ (left : List (Bor DocName)). found ++ standing_at there (names_at left)) (sym c.in-None.ensures.steps.0)
    ∙ c.loop-name.invariant
    ∙ ap (λ (all : List (Bor DocName)). standing_at there (names_at all)) c.into_iter-name-iterator.ensures.into_iter_gives.0
    ∙ ap (λ at. standing_at at (names_at sorted)) (λ i name. is.shown name i)
    ∙ standing_values (overlay docs bs) (overlay_named bs docs c.documents_are_named.ensures) c.args.names.now (names_at sorted) names.rise names.same
