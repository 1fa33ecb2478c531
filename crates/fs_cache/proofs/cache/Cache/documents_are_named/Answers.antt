use Rattle.std.proofs.Common.{◌≡◌, subst}
use Rattle.std.specs.Prelude.{IfSome}
use Rattle.std.specs.FinMap.{get}
use Rattle.fs_cache.specs.Cached.{Cached, documents}
use Rattle.fs_cache.specs.Places.{standing_in}
use Rattle.fs_cache.proofs.Showing.{documents_named}
use Rattle.fs_cache.proofs.cache.Cache.documents_are_named.Goals as goal

pub returns : goal.returns
returns c = λ name.
    subst (λ (v : Cached). IfSome (get (documents v) name) (λ d. d.name ≡ name)) c.self.view_is
    (documents_named (standing_in c.self.inside.taken.entries) c.self.invariant.taken_named name)
