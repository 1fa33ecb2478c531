use Rattle.std.proofs.Common.{sym, ap, ◌∙◌}
use Rattle.std.specs.FinMap.{get}
use Rattle.std.specs.Option.{option_map}
use Rattle.fs_cache.specs.Cached.{Cached, documents}
use Rattle.fs_cache.specs.Places.{standing_in}
use Rattle.fs_cache.specs.declared.cached.CachedDocument.{CachedDocument}
use Rattle.fs_cache.proofs.Showing.{get-documents_of}
use Rattle.fs_cache.proofs.cache.Cache.get.Goals as goal

pub returns-in-Some-clause-value : goal.returns-in-Some-clause-value
returns-in-Some-clause-value c =
    let name = c.args.name.now in
    ap (option_map (λ (d : CachedDocument). d.document)) c.in-Some.ensures
    ∙ sym (get-documents_of (standing_in c.self.inside.taken.entries) name)
    ∙ ap (λ (v : Cached). get (documents v) name) c.self.view_is

pub returns-in-None-clause-value : goal.returns-in-None-clause-value
returns-in-None-clause-value c =
    let name = c.args.name.now in
    ap (option_map (λ (d : CachedDocument). d.document)) c.in-None.ensures
    ∙ sym (get-documents_of (standing_in c.self.inside.taken.entries) name)
    ∙ ap (λ (v : Cached). get (documents v) name) c.self.view_is
