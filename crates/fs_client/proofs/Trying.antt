-- What always stands of a client where it takes a message of targets or fails to, for want of memory.
use Rattle.std.proofs.Common.{◌≡◌, ℕ, ℤ, List, Result, Ok, Err, OnErr, OnOk, sym, subst}
use Rattle.fs_path.specs.declared.name.DocName.{DocName}
use Rattle.fs_value.specs.declared.document.Document.{Document}
use Rattle.fs_query.specs.declared.listen.ListenMessage.TheVariants as message
use Rattle.fs_cache.specs.Cached.{Cached, all_left_by, at_name, changed_for, left_by}
use Rattle.fs_local.proofs.Standing.{stands_told}
use Rattle.fs_local.specs.Stands.{Stands}
use Rattle.fs_local.specs.State.{Client}
use Rattle.fs_local.specs.Told.{own}

-- the documents are those that were made, or as they were
tried : {T E : Type 0} (r : Result T E) (c : Client) (made new : Cached) → Stands c → Stands (record c { cache = made }) → OnOk r (new ≡ made) → OnErr r (new ≡ c.cache) → Stands (record c { cache = new })
tried (Ok v) c made new before after ok err = subst (λ cache. Stands (record c { cache = cache })) (sym ok) after
tried (Err e) c made new before after ok err = subst (λ cache. Stands (record c { cache = cache })) (sym err) before

-- some targets have no document any longer
pub tried_left : {T E : Type 0} (r : Result T E) (c : Client) (ids gone : List ℕ) (new : Cached) → Stands c → own c.targets ids ≡ gone
    → OnOk r (new ≡ record c.cache { staged = all_left_by gone c.cache.staged }) → OnErr r (new ≡ c.cache) → Stands (record c { cache = new })
tried_left r c ids gone new stands are ok err =
    tried r c (record c.cache { staged = all_left_by gone c.cache.staged }) new stands
    (subst (λ gone. Stands (record c { cache = record c.cache { staged = all_left_by gone c.cache.staged } })) are (stands_told c stands (message.Reset ids)))
    ok err

-- the document of a name is gone for some targets
pub tried_left_at : {T E : Type 0} (r : Result T E) (c : Client) (name : DocName) (time : ℤ) (left gone : List ℕ) (new : Cached) → Stands c → own c.targets left ≡ gone
    → OnOk r (new ≡ record c.cache { staged = at_name c.cache.staged name (left_by gone) }) → OnErr r (new ≡ c.cache) → Stands (record c { cache = new })
tried_left_at r c name time left gone new stands are ok err =
    tried r c (record c.cache { staged = at_name c.cache.staged name (left_by gone) }) new stands
    (subst (λ gone. Stands (record c { cache = record c.cache { staged = at_name c.cache.staged name (left_by gone) } })) are (stands_told c stands (message.Removed name time left)))
    ok err

-- a document is another for some targets, and gone for others
pub tried_changed : {T E : Type 0} (r : Result T E) (c : Client) (d : Document) (ids left now gone : List ℕ) (new : Cached) → Stands c → own c.targets ids ≡ now → own c.targets left ≡ gone
    → OnOk r (new ≡ record c.cache { staged = at_name c.cache.staged d.name (changed_for d now gone) }) → OnErr r (new ≡ c.cache) → Stands (record c { cache = new })
tried_changed r c d ids left now gone new stands have lose ok err =
    tried r c (record c.cache { staged = at_name c.cache.staged d.name (changed_for d now gone) }) new stands
    (subst (λ now. Stands (record c { cache = record c.cache { staged = at_name c.cache.staged d.name (changed_for d now gone) } })) have
    (subst (λ gone. Stands (record c { cache = record c.cache { staged = at_name c.cache.staged d.name (changed_for d (own c.targets ids) gone) } })) lose
    (stands_told c stands (message.Changed d ids left))))
    ok err
