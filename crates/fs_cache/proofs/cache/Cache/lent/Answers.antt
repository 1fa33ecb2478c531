use Rattle.std.proofs.Common.{◌≡◌, ◌++◌, map, sym, ap, ◌∙◌, subst, Bor}
use Rattle.std.specs.Prelude.{IsTrue}
use Rattle.std.specs.FinMap.{is_sorted, values}
use Rattle.std.proofs.lemmas.List.{append-nil}
use Rattle.fs_path.specs.NameOrder.{name_cmp}
use Rattle.fs_value.specs.Named.{by_name}
use Rattle.fs_value.specs.declared.document.Document.{Document}
use Rattle.fs_value.proofs.Rising.{rising_entries}
use Rattle.fs_cache.specs.Cached.{Cached, documents, documents_of}
use Rattle.fs_cache.specs.Places.{standing_in}
use Rattle.fs_cache.proofs.Showing.{documents_rise, shown, shown_standing}
use Rattle.fs_cache.proofs.cache.Cache.lent.Goals as goal

all_lent : (c : goal.In-None) → map (λ (d : Bor Document). d.now) c.loop-place.lent.items ≡ values (documents_of (standing_in c.self.inside.taken.entries))
all_lent c =
    let lent = map (λ (d : Bor Document). d.now) c.loop-place.lent.items in
    let places = c.self.inside.taken.entries in
    let items = c.values-place-items.ensures in
    sym (append-nil lent)
    ∙ ap (λ ps. lent ++ shown ps) (sym c.in-None.ensures.steps.0)
    ∙ c.loop-place.invariant
    ∙ ap shown (c.into_iter-place-iterator.ensures.into_iter_gives ∙ items.rest)
    ∙ shown_standing places (rising_entries name_cmp places items.ordered)

pub returns-clause-value : goal.returns-clause-value
returns-clause-value c = all_lent c ∙ ap (λ (v : Cached). values (documents v)) c.self.view_is

pub returns-clause-rise : goal.returns-clause-rise
returns-clause-rise c =
    subst (λ ds. IsTrue (is_sorted name_cmp (by_name ds))) (sym (all_lent c)) (documents_rise (standing_in c.self.inside.taken.entries) c.self.invariant.taken_named)
