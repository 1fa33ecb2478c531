-- What a client has staged of a target at a name after one message is what whoever reads the target's messages has then.
use Rattle.std.proofs.Common.{◌≡◌, ◌⊎◌, inl, inr, ℕ, ℤ, Bool, true, false, cond, ◌||◌, List, [], ◌∷◌, Option, Some, None, refl, sym, ap, ◌∙◌}
use Rattle.std.specs.Prelude.{◌&&◌, ◌==◌, is_some}
use Rattle.std.specs.FinMap.{get}
use Rattle.std.proofs.lemmas.Bool.{false_from_ne_true}
use Rattle.fs_path.specs.NameOrder.{name_eq, name_is, name_itself}
use Rattle.fs_path.specs.declared.name.DocName.{DocName}
use Rattle.fs_value.specs.declared.document.Document.{Document}
use Rattle.fs_query.specs.declared.listen.Cause.{Cause}
use Rattle.fs_query.specs.declared.listen.ListenMessage.{ListenMessage}
use Rattle.fs_query.specs.declared.listen.ListenMessage.TheVariants as message
use Rattle.fs_listen.specs.Gathered.{heard, is_in}
use Rattle.fs_cache.specs.Cached.{Cached, Had, all_left_by, at_name, changed_for, forgotten, is_number, left_by}
use Rattle.fs_local.specs.Gathered.{IsLeft, IsNamedIn, Tells, TellsWhether, had_by, had_of, staged_by}
use Rattle.fs_local.specs.Raise.{may_raise, now_shown, raised, told_unchanged}
use Rattle.fs_local.specs.State.{Client, Targets}
use Rattle.fs_local.specs.Told.{all_forgotten, own, told, told_removed}
use Rattle.fs_cache.proofs.Laid.{get-with_cached}
use Rattle.fs_cache.proofs.Leaving.{get-all_left_by}
use Rattle.fs_local.proofs.HadOf.{changed_named, changed_others, had_left}
use Rattle.fs_local.proofs.Numbers.{in_own_listened}
use Rattle.fs_local.proofs.TargetsAt.{get_refused, some_current, some_each}

-- ---- the documents of a name

module _ (id : ℕ) (name : DocName) (ts : Targets) (there : is_some (get ts.listened id) ≡ true) (docs : Had) where
  had_all_left : (ids : List ℕ) → had_by id name (all_left_by (own ts ids) docs) ≡ cond (is_in id ids) None (had_by id name docs)
  had_all_left ids =
      ap (had_of id) (get-all_left_by (own ts ids) docs name)
      ∙ had_left id (own ts ids) (get docs name)
      ∙ ap (λ b. cond b None (had_by id name docs)) (in_own_listened ts ids id there)

  had_left_at : (other : DocName) (left : List ℕ) → had_by id name (at_name docs other (left_by (own ts left))) ≡ cond (name_eq name other && is_in id left) None (had_by id name docs)
  had_left_at other left = ap (had_of id) (get-with_cached docs other (left_by (own ts left) (get docs other)) name) ∙ by_test (name_eq name other) refl where
    by_test : (same : Bool) → name_eq name other ≡ same → had_of id (cond same (left_by (own ts left) (get docs other)) (get docs name)) ≡ cond (same && is_in id left) None (had_by id name docs)
    by_test true ties =
        had_left id (own ts left) (get docs other)
        ∙ ap (λ b. cond b None (had_by id other docs)) (in_own_listened ts left id there)
        ∙ ap (λ n. cond (is_in id left) None (had_by id n docs)) (sym (name_is name other ties))
    by_test false ties = refl

  module _ (d : Document) (ids left : List ℕ) where
    abbrev docs_changed : Had
    docs_changed = at_name docs d.name (changed_for d (own ts ids) (own ts left))

    -- what whoever reads the change has then
    abbrev read_changed : Option Document
    read_changed = cond (name_eq name d.name) (cond (is_in id ids) (Some d) (cond (is_in id left) None (had_by id name docs))) (had_by id name docs)

    had_changed : had_by id name docs_changed ≡ had_of id (cond (name_eq name d.name) (changed_for d (own ts ids) (own ts left) (get docs d.name)) (get docs name))
    had_changed = ap (had_of id) (get-with_cached docs d.name (changed_for d (own ts ids) (own ts left) (get docs d.name)) name)

    whether_changed : is_some (had_by id name docs_changed) ≡ is_some read_changed
    whether_changed = ap is_some had_changed ∙ by_test (name_eq name d.name) refl where
      by_named : (named : Bool) → is_number ids id ≡ named
          → is_some (had_of id (changed_for d (own ts ids) (own ts left) (get docs d.name))) ≡ is_some (cond named (Some d) (cond (is_in id left) None (had_by id d.name docs)))
      by_named true is = ap is_some (changed_named id d (own ts ids) (own ts left) (get docs d.name) (in_own_listened ts ids id there ∙ is))
      by_named false is =
          changed_others id d (own ts ids) (own ts left) (get docs d.name) (in_own_listened ts ids id there ∙ is)
          ∙ ap (λ b. is_some (cond b None (had_by id d.name docs))) (in_own_listened ts left id there)

      by_test : (same : Bool) → name_eq name d.name ≡ same → is_some (had_of id (cond same (changed_for d (own ts ids) (own ts left) (get docs d.name)) (get docs name)))
          ≡ is_some (cond same (cond (is_in id ids) (Some d) (cond (is_in id left) None (had_by id name docs))) (had_by id name docs))
      by_test true ties =
          by_named (is_number ids id) refl ∙ ap (λ n. is_some (cond (is_in id ids) (Some d) (cond (is_in id left) None (had_by id n docs)))) (sym (name_is name d.name ties))
      by_test false ties = refl

    -- where a target that has the document is named
    told_changed : IsNamedIn id name (had_by id name docs) (message.Changed d ids left) → had_by id name docs_changed ≡ read_changed
    told_changed all = by_test (name_eq name d.name) refl whether_changed where
      none_of : (o : Option Document) → is_some o ≡ false → o ≡ None
      none_of None is = refl
      none_of (Some e) is = absurd (cc)

      -- it has none where it isn't named, or it left
      none_unnamed : (o : Option Document) → (is_some o ≡ true → (is_number ids id ≡ true) ⊎ (is_number left id ≡ true)) → is_number ids id ≡ false → (leaves : Bool) → is_number left id ≡ leaves → cond leaves None o ≡ None
      none_unnamed o named unnamed true is = refl
      none_unnamed None named unnamed false is = refl
      none_unnamed (Some e) named unnamed false is = absurd (elim (named refl) [ inl at ↦ (let both : true ≡ false = sym at ∙ unnamed in cc) | inr at ↦ (let both : true ≡ false = sym at ∙ is in cc) ])

      by_named : name ≡ d.name → (named : Bool) → is_number ids id ≡ named → is_some (had_by id name docs_changed) ≡ is_some (cond named (Some d) (cond (is_in id left) None (had_by id name docs)))
          → had_by id name docs_changed ≡ cond named (Some d) (cond (is_in id left) None (had_by id name docs))
      by_named same true is whether =
          had_changed
          ∙ ap (λ b. had_of id (cond b (changed_for d (own ts ids) (own ts left) (get docs d.name)) (get docs name))) (ap (name_eq name) (sym same) ∙ name_itself name)
          ∙ changed_named id d (own ts ids) (own ts left) (get docs d.name) (in_own_listened ts ids id there ∙ is)
      by_named same false is whether =
          let none = none_unnamed (had_by id name docs) (all (sym same)) is (is_number left id) refl in
          none_of (had_by id name docs_changed) (whether ∙ ap is_some none) ∙ sym none

      by_test : (same : Bool) → name_eq name d.name ≡ same
          → is_some (had_by id name docs_changed) ≡ is_some (cond same (cond (is_in id ids) (Some d) (cond (is_in id left) None (had_by id name docs))) (had_by id name docs))
          → had_by id name docs_changed ≡ cond same (cond (is_in id ids) (Some d) (cond (is_in id left) None (had_by id name docs))) (had_by id name docs)
      by_test true ties whether = by_named (name_is name d.name ties) (is_number ids id) refl whether
      by_test false ties whether = had_changed ∙ ap (λ b. had_of id (cond b (changed_for d (own ts ids) (own ts left) (get docs d.name)) (get docs name))) ties

-- ---- of a client, one message

forgotten_others : (id : ℕ) (name : DocName) (gone : List ℕ) (cache : Cached) → is_number gone id ≡ false → had_by id name (all_forgotten gone cache).staged ≡ had_by id name cache.staged
forgotten_others id name [] cache out = refl
forgotten_others id name (k ∷ gone) cache out = by_test (forgotten_others id name gone (forgotten k cache)) (id == k) refl out where
  by_test : (is_number gone id ≡ false → had_by id name (all_forgotten gone (forgotten k cache)).staged ≡ had_by id name (forgotten k cache).staged) → (same : Bool) → (id == k) ≡ same → (same || is_number gone id) ≡ false
      → had_by id name (all_forgotten gone (forgotten k cache)).staged ≡ had_by id name cache.staged
  by_test again true is none = absurd (cc)
  by_test again false is none =
      again none
      ∙ ap (had_of id) (get-all_left_by (k ∷ []) cache.staged name)
      ∙ had_left id (k ∷ []) (get cache.staged name)
      ∙ ap (λ b. cond (b || false) None (had_by id name cache.staged)) is

module _ (id : ℕ) (name : DocName) (c : Client) (there : is_some (get c.targets.listened id) ≡ true) where
  removed_told : (ids : List ℕ) (cause : Option Cause) → IsLeft id (message.Remove ids cause) → staged_by id name (told_removed ids cause c) ≡ cond (is_in id ids) None (staged_by id name c)
  removed_told ids None left = had_all_left id name c.targets there c.cache.staged ids
  removed_told ids (Some cause) left =
      let out = false_from_ne_true (is_number ids id) left in
      forgotten_others id name (own c.targets ids) c.cache (in_own_listened c.targets ids id there ∙ out) ∙ ap (λ b. cond b None (staged_by id name c)) (sym out)

  unchanged_told : (time : ℤ) (token : List ℕ) → staged_by id name (told_unchanged time token c) ≡ staged_by id name c
  unchanged_told time token = by_test (may_raise time c) where
    by_test : (may : Bool) → staged_by id name (cond may (raised time token c) c) ≡ staged_by id name c
    by_test true = refl
    by_test false = refl

  -- what is told of documents, and of the targets that have them
  pub staged_told : (start : Option Document) (m : ListenMessage) → Tells id name start m c → staged_by id name (told m c) ≡ heard id name start m (staged_by id name c)
  staged_told start (message.Add ids) tells = by_test (is_in id ids) refl where
    by_test : (added : Bool) → is_in id ids ≡ added → staged_by id name c ≡ cond added start (staged_by id name c)
    by_test true is = tells.added is
    by_test false is = refl
  staged_told start (message.Remove ids cause) tells = removed_told ids cause tells.left
  staged_told start (message.Reset ids) tells = had_all_left id name c.targets there c.cache.staged ids
  staged_told start (message.Current ids time token) tells = refl
  staged_told start (message.NoChange time token) tells = unchanged_told time token
  staged_told start (message.Changed d ids left) tells = told_changed id name c.targets there c.cache.staged d ids left tells.all
  staged_told start (message.Deleted other time left) tells = had_left_at id name c.targets there c.cache.staged other left
  staged_told start (message.Removed other time left) tells = had_left_at id name c.targets there c.cache.staged other left

  pub whether_told : (start : Option Document) (m : ListenMessage) → TellsWhether id name start m c → is_some (staged_by id name (told m c)) ≡ is_some (heard id name start m (staged_by id name c))
  whether_told start (message.Add ids) tells = by_test (is_in id ids) refl where
    by_test : (added : Bool) → is_in id ids ≡ added → is_some (staged_by id name c) ≡ is_some (cond added start (staged_by id name c))
    by_test true is = tells.added is
    by_test false is = refl
  whether_told start (message.Remove ids cause) tells = ap is_some (removed_told ids cause tells.left)
  whether_told start (message.Reset ids) tells = ap is_some (had_all_left id name c.targets there c.cache.staged ids)
  whether_told start (message.Current ids time token) tells = refl
  whether_told start (message.NoChange time token) tells = ap is_some (unchanged_told time token)
  whether_told start (message.Changed d ids left) tells = whether_changed id name c.targets there c.cache.staged d ids left
  whether_told start (message.Deleted other time left) tells = ap is_some (had_left_at id name c.targets there c.cache.staged other left)
  whether_told start (message.Removed other time left) tells = ap is_some (had_left_at id name c.targets there c.cache.staged other left)

  -- a target that isn't refused is listened to still
  listened_removed : (ids : List ℕ) (cause : Option Cause) → IsLeft id (message.Remove ids cause) → is_some (get (told_removed ids cause c).targets.listened id) ≡ true
  listened_removed ids None left = there
  listened_removed ids (Some cause) left = ap is_some (get_refused ids cause c.targets id ∙ ap (λ b. cond b None (get c.targets.listened id)) (false_from_ne_true (is_number ids id) left)) ∙ there

  listened_unchanged : (time : ℤ) (token : List ℕ) → is_some (get (told_unchanged time token c).targets.listened id) ≡ true
  listened_unchanged time token = by_test (may_raise time c) where
    by_test : (may : Bool) → is_some (get (cond may (raised time token c) c).targets.listened id) ≡ true
    by_test true = some_each now_shown c.targets id there
    by_test false = there

  pub listened_still : (m : ListenMessage) → IsLeft id m → is_some (get (told m c).targets.listened id) ≡ true
  listened_still (message.Add ids) left = there
  listened_still (message.Remove ids cause) left = listened_removed ids cause left
  listened_still (message.Reset ids) left = there
  listened_still (message.Current ids time token) left = some_current ids c.targets id ∙ there
  listened_still (message.NoChange time token) left = listened_unchanged time token
  listened_still (message.Changed d ids gone) left = there
  listened_still (message.Deleted other time gone) left = there
  listened_still (message.Removed other time gone) left = there
