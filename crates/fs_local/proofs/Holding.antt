-- A client has documents only of targets that it listens to, and each of one at least: each change of the documents and of the targets keeps this.
use Rattle.std.proofs.Common.{◌≡◌, ◌⊎◌, inl, inr, ℕ, Bool, true, false, cond, ◌||◌, List, [], ◌∷◌, ◌++◌, Option, Some, None, refl, sym, ap, ◌∙◌, subst}
use Rattle.std.specs.Prelude.{IfSome, ◌==◌, not, is_some, ℤ}
use Rattle.std.specs.FinMap.{FinMap, get, get-empty, get-remove, len}
use Rattle.std.specs.Ordering.{nat_cmp}
use Rattle.std.proofs.lemmas.Bool.{and_parts, not-true, or_cases}
use Rattle.std.proofs.lemmas.Cmp.{nat_cmp_total}
use Rattle.fs_path.specs.NameOrder.{name_cmp, name_eq}
use Rattle.fs_path.specs.declared.name.DocName.{DocName}
use Rattle.fs_value.specs.declared.document.Document.{Document}
use Rattle.fs_query.specs.declared.listen.Cause.{Cause}
use Rattle.fs_query.specs.declared.listen.ListenMessage.{ListenMessage}
use Rattle.fs_query.specs.declared.listen.ListenMessage.TheVariants as message
use Rattle.fs_cache.specs.Cached.{Cached, Had, all_left_by, changed, changed_for, forgotten, is_number, left_by, none_cached, of_targets, taken_at, targets_of, thrown, told, with_cached, without}
use Rattle.fs_cache.specs.declared.cached.CachedDocument.{CachedDocument}
use Rattle.fs_local.specs.Answered.{snapshot_by}
use Rattle.fs_local.specs.Stands.{AreOfListened, Holds, IsOfListened}
use Rattle.fs_local.specs.State.{Targets, none_listened}
use Rattle.fs_local.specs.Told.{all_forgotten, own, own_part, refused_targets}
use Rattle.fs_local.specs.Unlisten.{without_target}
use Rattle.fs_local.specs.declared.listened.Listened.{Listened}
use Rattle.fs_cache.proofs.Laid.{get-with_cached}
use Rattle.fs_cache.proofs.Leaving.{get-all_left_by}
use Rattle.fs_local.proofs.TargetsAt.{get_refused}
use Rattle.fs_local.proofs.Numbers.{in_append, in_own, in_own_listened, in_without, tied_is}

-- ---- one document

abbrev Listens : FinMap nat_cmp Listened → ℕ → Type 0
Listens listened id = is_some (get listened id) ≡ true

-- one of some targets, each of which is listened to
of_targets_of : (listened : FinMap nat_cmp Listened) (d : Document) (ids : List ℕ) (e : CachedDocument) → ((id : ℕ) → is_number ids id ≡ true → Listens listened id) → of_targets d ids ≡ Some e → IsOfListened listened e
of_targets_of listened d [] e each is = absurd (cc)
of_targets_of listened d (t ∷ ts) e each is =
    let same : record { document = d; targets = t ∷ ts } ≡ e = cc in
    subst (IsOfListened listened) same (record { some = λ none. absurd (cc); all = each })

-- what some targets left, of which the others are listened to still
left_of : (gone : List ℕ) (listened fewer : FinMap nat_cmp Listened) (o : Option CachedDocument) (e : CachedDocument) → ((id : ℕ) → is_number gone id ≡ false → Listens listened id → Listens fewer id)
    → IfSome o (IsOfListened listened) → left_by gone o ≡ Some e → IsOfListened fewer e
left_of gone listened fewer None e stays of is = absurd (cc)
left_of gone listened fewer (Some d) e stays of is =
    of_targets_of fewer d.document (without gone d.targets) e
    (λ id has. let both = and_parts (is_number d.targets id) (not (is_number gone id)) (sym (in_without gone d.targets id) ∙ has) in stays id (not-true (is_number gone id) both.1) (of.all id both.0))
    is

of_had : (listened : FinMap nat_cmp Listened) (o : Option CachedDocument) (id : ℕ) → IfSome o (IsOfListened listened) → is_number (targets_of o) id ≡ true → Listens listened id
of_had listened None id of has = absurd (cc)
of_had listened (Some d) id of has = of.all id has

changed_of : (listened : FinMap nat_cmp Listened) (d : Document) (ids gone : List ℕ) (o : Option CachedDocument) (e : CachedDocument) → ((id : ℕ) → is_number ids id ≡ true → Listens listened id)
    → IfSome o (IsOfListened listened) → changed_for d ids gone o ≡ Some e → IsOfListened listened e
changed_of listened d [] gone o e own of is = left_of gone listened listened o e (λ id out has. has) of is
changed_of listened d (t ∷ ts) gone o e own of is =
    let rest = without (gone ++ t ∷ ts) (targets_of o) in
    of_targets_of listened d (rest ++ t ∷ ts) e (λ id has. by_place id (or_cases (is_number rest id) (is_number (t ∷ ts) id) (sym (in_append rest (t ∷ ts) id) ∙ has))) is
  where
    by_place : (id : ℕ) → (is_number (without (gone ++ t ∷ ts) (targets_of o)) id ≡ true) ⊎ (is_number (t ∷ ts) id ≡ true) → Listens listened id
    by_place id (inl has) = of_had listened o id of (and_parts (is_number (targets_of o) id) (not (is_number (gone ++ t ∷ ts) id)) (sym (in_without (gone ++ t ∷ ts) (targets_of o) id) ∙ has)).0
    by_place id (inr has) = own id has

-- ---- all documents

module _ (listened : FinMap nat_cmp Listened) (docs : Had) (of : AreOfListened listened docs) where
  of_got : (name : DocName) (o : Option CachedDocument) → get docs name ≡ o → IfSome o (IsOfListened listened)
  of_got name None is = tt
  of_got name (Some d) is = of name d is

  pub of_more : (more : FinMap nat_cmp Listened) → ((id : ℕ) → Listens listened id → Listens more id) → AreOfListened more docs
  of_more more within name d found = record { some = (of name d found).some; all = λ id has. within id ((of name d found).all id has) }

  all_left_of : (gone : List ℕ) (fewer : FinMap nat_cmp Listened) → ((id : ℕ) → is_number gone id ≡ false → Listens listened id → Listens fewer id) → AreOfListened fewer (all_left_by gone docs)
  all_left_of gone fewer stays name e found = left_of gone listened fewer (get docs name) e stays (of_got name (get docs name) refl) (sym (get-all_left_by gone docs name) ∙ found)

  put_of : (name : DocName) (o : Option CachedDocument) → ((e : CachedDocument) → o ≡ Some e → IsOfListened listened e) → AreOfListened listened (with_cached docs name o)
  put_of name o put q e found = by_test (name_eq q name) (sym (get-with_cached docs name o q) ∙ found) where
    by_test : (same : Bool) → cond same o (get docs q) ≡ Some e → IsOfListened listened e
    by_test true is = put e is
    by_test false is = of q e is

  left_at : (name : DocName) (gone : List ℕ) → AreOfListened listened (with_cached docs name (left_by gone (get docs name)))
  left_at name gone = put_of name (left_by gone (get docs name)) (λ e is. left_of gone listened listened (get docs name) e (λ id out has. has) (of_got name (get docs name) refl) is)

  changed_at : (d : Document) (ids gone : List ℕ) → ((id : ℕ) → is_number ids id ≡ true → Listens listened id) → AreOfListened listened (with_cached docs d.name (changed_for d ids gone (get docs d.name)))
  changed_at d ids gone own = put_of d.name (changed_for d ids gone (get docs d.name)) (λ e is. changed_of listened d ids gone (get docs d.name) e own (of_got d.name (get docs d.name) refl) is)

  all_stay : (gone : List ℕ) → AreOfListened listened (all_left_by gone docs)
  all_stay gone = all_left_of gone listened (λ id out has. has)

-- what is told of the targets that are listened to
told_of : (ts : Targets) (m : ListenMessage) (docs : Had) → AreOfListened ts.listened docs → AreOfListened ts.listened (told (own_part ts m) docs)
told_of ts (message.Add ids) docs of = of
told_of ts (message.Remove ids cause) docs of = all_stay ts.listened docs of (own ts ids)
told_of ts (message.Reset ids) docs of = all_stay ts.listened docs of (own ts ids)
told_of ts (message.Current ids time token) docs of = of
told_of ts (message.NoChange time token) docs of = of
told_of ts (message.Changed d ids left) docs of = changed_at ts.listened docs of d (own ts ids) (own ts left) (λ id has. (and_parts (is_number ids id) (is_some (get ts.listened id)) (sym (in_own ts ids id) ∙ has)).1)
told_of ts (message.Deleted name time left) docs of = left_at ts.listened docs of name (own ts left)
told_of ts (message.Removed name time left) docs of = left_at ts.listened docs of name (own ts left)

-- ---- the documents and the targets

none_of : (listened : FinMap nat_cmp Listened) → AreOfListened listened none_cached.taken
none_of listened name d found = absurd (let none : None ≡ Some d = sym (get-empty name_cmp name) ∙ found in cc)

pub holds_none : (limit : ℕ) → Holds none_cached (none_listened limit)
holds_none limit = record { taken = none_of (none_listened limit).listened; staged = none_of (none_listened limit).listened }

module _ (cache : Cached) (ts : Targets) (holds : Holds cache ts) where
  pub holds_more : (more : Targets) → ((id : ℕ) → Listens ts.listened id → Listens more.listened id) → Holds cache more
  holds_more more within = record { taken = of_more ts.listened cache.taken holds.taken more.listened within; staged = of_more ts.listened cache.staged holds.staged more.listened within }

  pub holds_taken : (time : ℤ) → Holds (taken_at time cache) ts
  holds_taken time = record { taken = holds.staged; staged = holds.staged }

  pub holds_thrown : Holds (thrown cache) ts
  holds_thrown = record { taken = holds.taken; staged = holds.taken }

  pub holds_settled : (time : ℤ) → Holds (snapshot_by time ts cache) ts
  holds_settled time = by_test (len ts.listened == 0) where
    by_test : (none : Bool) → Holds (cond none (taken_at time cache) cache) ts
    by_test true = holds_taken time
    by_test false = holds

  pub holds_told : (m : ListenMessage) → Holds (changed (own_part ts m) cache) ts
  holds_told m = record { taken = holds.taken; staged = told_of ts m cache.staged holds.staged }

  pub holds_forgotten : (id : ℕ) → Holds (forgotten id cache) (without_target id ts)
  holds_forgotten id = record { taken = all_left_of ts.listened cache.taken holds.taken (id ∷ []) (without_target id ts).listened stays; staged = all_left_of ts.listened cache.staged holds.staged (id ∷ []) (without_target id ts).listened stays } where
    stays : (q : ℕ) → is_number (id ∷ []) q ≡ false → Listens ts.listened q → Listens (without_target id ts).listened q
    stays q out has = by_test (q == id) refl out where
      by_test : (same : Bool) → (q == id) ≡ same → (same || false) ≡ false → Listens (without_target id ts).listened q
      by_test true is none = absurd (cc)
      by_test false is none = ap is_some (get-remove nat_cmp_total ts.listened id q ∙ ap (λ b. cond b None (get ts.listened q)) (tied_is q id ∙ is)) ∙ has

holds_fewer : (gone : List ℕ) (cache : Cached) (ts fewer : Targets) → Holds cache ts → ((id : ℕ) → is_number gone id ≡ false → Listens ts.listened id → Listens fewer.listened id) → Holds (all_forgotten gone cache) fewer
holds_fewer [] cache ts fewer holds stays = holds_more cache ts holds fewer (λ id has. stays id refl has)
holds_fewer (k ∷ gone) cache ts fewer holds stays =
    holds_fewer gone (forgotten k cache) (without_target k ts) fewer (holds_forgotten cache ts holds k) (λ id out has. by_test id out (id == k) refl (sym (without_it id) ∙ has))
  where
    without_it : (id : ℕ) → is_some (get (without_target k ts).listened id) ≡ is_some (cond (id == k) None (get ts.listened id))
    without_it id = ap is_some (get-remove nat_cmp_total ts.listened k id ∙ ap (λ b. cond b None (get ts.listened id)) (tied_is id k))

    by_test : (id : ℕ) → is_number gone id ≡ false → (same : Bool) → (id == k) ≡ same → is_some (cond same None (get ts.listened id)) ≡ true → Listens fewer.listened id
    by_test id out true is has = absurd (cc)
    by_test id out false is has = stays id (ap (λ b. b || is_number gone id) is ∙ out) has

-- those that are forgotten leave the snapshot's time
pub same_snapshot : (gone : List ℕ) (cache : Cached) → (all_forgotten gone cache).snapshot ≡ cache.snapshot
same_snapshot [] cache = refl
same_snapshot (k ∷ gone) cache = same_snapshot gone (forgotten k cache)

pub holds_refused : (ids : List ℕ) (cause : Cause) (cache : Cached) (ts : Targets) → Holds cache ts → Holds (all_forgotten (own ts ids) cache) (refused_targets ids cause ts)
holds_refused ids cause cache ts holds = holds_fewer (own ts ids) cache ts (refused_targets ids cause ts) holds (λ id out has. ap is_some (get_refused ids cause ts id ∙ ap (λ b. cond b None (get ts.listened id)) (not_among id out has)) ∙ has) where
  not_among : (id : ℕ) → is_number (own ts ids) id ≡ false → Listens ts.listened id → is_number ids id ≡ false
  not_among id out has = sym (in_own_listened ts ids id has) ∙ out
