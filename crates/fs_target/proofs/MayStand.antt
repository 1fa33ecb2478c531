-- Targets of which it is not known whether they stand still: by what may stand for their positions.
use Rattle.std.proofs.Common.{◌≡◌, ℕ, ℤ, true, false, List, [], ◌∷◌, map, length, get_or, Option, Some, None, Result, Ok, Err, refl, sym, ap, ◌∙◌, subst}
use Rattle.std.specs.Prelude.{IfSome, OnOk, is_some}
use Rattle.std.specs.FinMap.{get, keys, len}
use Rattle.std.specs.Option.{option_and_then, option_map}
use Rattle.std.proofs.lemmas.List.{length-map}
use Rattle.fs_token.specs.Token.{token_of}
use Rattle.fs_query.specs.declared.listen.ListenMessage.TheVariants as message
use Rattle.fs_listen.specs.Cuts.{is_loaded}
use Rattle.fs_listen.specs.Listening.{Listened, Loaded, with_loaded}
use Rattle.fs_target.specs.Entries.{gone_to}
use Rattle.fs_target.specs.Held.{position_in, position_of, raised_at}
use Rattle.fs_target.specs.Prepared.{ArePrepared, AreReady, Prepared, held_in}
use Rattle.fs_target.specs.Raise.{kept_told}
use Rattle.fs_target.specs.Seen.{seen}
use Rattle.fs_target.specs.Still.{AreStill, IsNextStill, as_awake, entry_at, in_all, in_own, listened_at, seen_at, standing}
use Rattle.fs_target.specs.declared.still.Next.{Next}
use Rattle.fs_target.specs.declared.still.Still.{Still}
use Rattle.fs_target.proofs.Asked.{ids_are, len_is}
use Rattle.fs_target.proofs.InShards.{at_all}
use Rattle.fs_target.proofs.Stands.{all_seen, ids_same, kept_same, listened_is, rises_at}
use Rattle.fs_target.proofs.StandsOn.{next_are, next_held, still_next, still_prepared, still_raised, still_told}

-- ---- by what may stand for the positions

-- what contracts see, where it is known whether they stand still
pub shown_still : (o : Option Still) (s : Still) (m v : Prepared) → o ≡ Some s → as_awake o m ≡ v → standing s.positions.items m ≡ v
shown_still o s m v is shown = ap (λ p. as_awake p m) (sym is) ∙ shown

pub shown_awake : (o : Option Still) (m v : Prepared) → o ≡ None → as_awake o m ≡ v → m ≡ v
shown_awake o m v is shown = ap (λ p. as_awake p m) (sym is) ∙ shown

pub are_still : (o : Option Still) (s : Still) (m : Prepared) → o ≡ Some s → IfSome o (λ t. AreStill t m) → AreStill s m
are_still o s m is are = subst (λ p. IfSome p (λ t. AreStill t m)) is are

module _ (m : Prepared) where
  -- what is asked of one target, and is the same at all positions
  pub asked_same : {X : Type 0} (g : Option Listened → X) → ((positions : List (Option ℤ)) (x : Option Listened) → g (option_map (listened_at positions) x) ≡ g x) → (o : Option Still) (id : ℕ)
      → g (get (held_in m).listening.targets id) ≡ g (get (held_in (as_awake o m)).listening.targets id)
  asked_same g same None id = refl
  asked_same g same (Some s) id =
      sym (ap g (listened_is s.positions.items m.raised m.entries id) ∙ same s.positions.items (get (held_in m).listening.targets id))

  pub kept_shown : (o : Option Still) → (held_in m).kept ≡ (held_in (as_awake o m)).kept
  kept_shown None = refl
  kept_shown (Some s) = sym (kept_same s.positions.items m.entries)

  pub keys_shown : (o : Option Still) → IfSome o (λ s. AreStill s m) → keys (held_in m).listening.targets ≡ keys (held_in (as_awake o m)).listening.targets
  keys_shown None are = refl
  keys_shown (Some s) are =
      let stood = map (entry_at s.positions.items) m.entries in
      sym (ids_are m.raised (map seen m.entries) are.of.rise)
      ∙ sym (ids_same s.positions.items m.entries)
      ∙ ids_are m.raised (map seen stood) (rises_at s.positions.items m.entries are.of.rise)

  pub len_shown : (o : Option Still) → IfSome o (λ s. AreStill s m) → len (held_in m).listening.targets ≡ len (held_in (as_awake o m)).listening.targets
  len_shown None are = refl
  len_shown (Some s) are =
      let ss = map seen m.entries in
      let ts = map seen (map (entry_at s.positions.items) m.entries) in
      let same : length ss ≡ length ts = sym (ap length (all_seen s.positions.items m.entries) ∙ length-map ss (seen_at s.positions.items)) in
      len_is m.shards m.limit m.raised 0 ss are.of.rise
      ∙ same
      ∙ sym (len_is m.shards m.limit m.raised 0 ts (rises_at s.positions.items m.entries are.of.rise))

  -- a position
  position_of_all : (ps : List (Option ℤ)) (shard : ℕ) (x : Option Listened) → position_in shard (option_map (listened_at ps) x) ≡ in_own (position_in shard x) (get_or ps shard None)
  position_of_all ps shard None = refl
  position_of_all ps shard (Some l) = one l.loaded where
    one : (o : Option Loaded) → position_of shard (with_loaded (λ (k : Loaded). record k { positions = in_all k.positions ps }) o) ≡ in_own (position_of shard o) (get_or ps shard None)
    one None = refl
    one (Some k) = at_all k.positions ps shard

  pub position_still : (ps : List (Option ℤ)) (shard id : ℕ)
      → position_in shard (get (held_in (standing ps m)).listening.targets id) ≡ in_own (position_in shard (get (held_in m).listening.targets id)) (get_or ps shard None)
  position_still ps shard id = ap (position_in shard) (listened_is ps m.raised m.entries id) ∙ position_of_all ps shard (get (held_in m).listening.targets id)

  pub position_none : (o : Option Still) (shard id : ℕ) → position_in shard (get (held_in m).listening.targets id) ≡ None
      → position_in shard (get (held_in (as_awake o m)).listening.targets id) ≡ None
  position_none None shard id none = none
  position_none (Some s) shard id none = position_still s.positions.items shard id ∙ ap (λ p. in_own p (get_or s.positions.items shard None)) none

  -- where they are known to stand still
  pub raised_by : (o : Option Still) (time : ℤ) → is_some o ≡ true → IfSome o (λ s. AreStill s m)
      → held_in (as_awake o (record m { raised = Some time })) ≡ raised_at time (held_in (as_awake o m))
  raised_by None time is are = absurd (cc)
  raised_by (Some s) time is are = still_raised s m are time

  pub told_by : (o : Option Still) (time : ℤ) → is_some o ≡ true → IfSome o (λ s. AreStill s m)
      → kept_told time (held_in (as_awake o m)) ≡ message.NoChange time (token_of time) ∷ []
  told_by None time is are = absurd (cc)
  told_by (Some s) time is are = still_told s m are time

  pub ready_by : (o : Option Still) (time : ℤ) → is_some o ≡ true → IfSome o (λ s. AreStill s m) → AreReady time (as_awake o m)
  ready_by None time is are = absurd (cc)
  ready_by (Some s) time is are = still_next s.positions.items time m.entries are.each

  pub prepared_by : (o : Option Still) (shard : ℕ) → is_some o ≡ true → ArePrepared shard [] (as_awake o m)
  prepared_by None shard is = absurd (cc)
  prepared_by (Some s) shard is = still_prepared s.positions.items shard m.entries

pub shown_none : (o : Option Still) (m v : Prepared) → is_some o ≡ false → as_awake o m ≡ v → m ≡ v
shown_none None m v is shown = shown
shown_none (Some s) m v is shown = absurd (cc)

-- ---- what is the same at all positions

module _ (ps : List (Option ℤ)) where
  pub target_same : (x : Option Listened) → option_map (λ (l : Listened). l.target) (option_map (listened_at ps) x) ≡ option_map (λ (l : Listened). l.target) x
  target_same None = refl
  target_same (Some l) = refl

  pub token_same : (x : Option Listened) → option_and_then (λ (l : Listened). l.token) (option_map (listened_at ps) x) ≡ option_and_then (λ (l : Listened). l.token) x
  token_same None = refl
  token_same (Some l) = refl

  pub loaded_same : (x : Option Listened) → option_map (λ (l : Listened). is_loaded l.loaded) (option_map (listened_at ps) x) ≡ option_map (λ (l : Listened). is_loaded l.loaded) x
  loaded_same None = refl
  loaded_same (Some l) = ap (λ b. Some b) (one l.loaded) where
    one : (o : Option Loaded) → is_loaded (with_loaded (λ (k : Loaded). record k { positions = in_all k.positions ps }) o) ≡ is_loaded o
    one None = refl
    one (Some k) = refl

-- ---- what they go to

module _ (next : Option Next) (time : ℤ) (m w : Prepared) (is : IfSome next (λ n. IsNextStill n m)) (goes : map seen w.entries ≡ map (gone_to time) m.entries) where
  next_is : (s : Still) → next ≡ Some (record { time = time; still = s }) → IsNextStill (record { time = time; still = s }) m
  next_is s at = subst (λ o. IfSome o (λ n. IsNextStill n m)) at is

  pub still_then : (o : Option Still) → IfSome o (λ s. next ≡ Some (record { time = time; still = s })) → IfSome o (λ s. AreStill s w)
  still_then None at = tt
  still_then (Some s) at = next_are (record { time = time; still = s }) m w (next_is s at) goes

  pub held_then : (o : Option Still) → IfSome o (λ s. next ≡ Some (record { time = time; still = s })) → held_in (as_awake o w) ≡ held_in w
  held_then None at = refl
  held_then (Some s) at = next_held (record { time = time; still = s }) m w (next_is s at) goes

-- of a result that is there
pub on_ok : {A E : Type 0} (r : Result A E) {P : Type 0} → P → OnOk r P
on_ok (Ok a) is = is
on_ok (Err e) is = tt
