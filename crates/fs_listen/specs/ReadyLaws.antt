-- When a session can be raised: once its targets are all loaded and together at a time that is due. Without these a session that is never
-- raised would keep all other laws.
--
--     target 1 is at 3 and 5, target 2 at 4      they are together at 3
--     it was last raised at 2                    3 is due
--     it was last raised at 3                    3 is due only for a target that isn't current yet
use Rattle.std.specs.Prelude.{◌≡◌, ℕ, ℤ, ◌≤ℤ◌, ◌<ℤ◌, ◌⊎◌, IfSome, true, false, Some}
use Rattle.std.specs.FinMap.{get}
use Rattle.std.specs.List.{AllByRecursion, Contains}
use Rattle.fs_listen.specs.Cuts.{cut, is_current, is_loaded, is_ready, load_time, positions_of}
use Rattle.fs_listen.specs.Listening.{Listened, Listening}
use Rattle.fs_listen.specs.declared.cut.Cut.TheVariants.{At}

-- all of them are loaded, none has a position before the time, and one has one at it
pub record AreTogether (s : Listening) (time : ℤ) : Type 0 where
  pub loaded : (id : ℕ) (l : Listened) → get s.targets id ≡ Some l → is_loaded l.loaded ≡ true
  pub from : (id : ℕ) (l : Listened) → get s.targets id ≡ Some l → AllByRecursion (λ o. IfSome o (λ position. time ≤ℤ position)) (positions_of l.loaded)
  pub id : ℕ
  pub target : Listened
  pub there : get s.targets id ≡ Some target
  pub position : Contains (positions_of target.loaded) (Some time)

-- the time is later than the last raise, or a target isn't current yet
abbrev pub IsNews : Listening → ℤ → Type 0
IsNews s time = IfSome s.raised (λ t. t <ℤ time) ⊎ ((id : ℕ) × (l : Listened) × (get s.targets id ≡ Some l) × (is_current l.loaded ≡ false))

-- that is so, and the time isn't before the last raise, what a token shows, or a load
pub record IsDue (s : Listening) (time : ℤ) : Type 0 where
  pub raised : IfSome s.raised (λ t. t ≤ℤ time)
  pub resumed : (id : ℕ) (l : Listened) → get s.targets id ≡ Some l → IfSome l.token (λ t. t ≤ℤ time)
  pub loaded : (id : ℕ) (l : Listened) → get s.targets id ≡ Some l → IfSome (load_time l.loaded) (λ t. t ≤ℤ time)
  pub news : IsNews s time

-- targets are together at their least position
abbrev pub TogetherAtTheLeast : Type 0
TogetherAtTheLeast = (s : Listening) (time : ℤ) → AreTogether s time → cut s ≡ At time

-- and a session is ready once that is due
abbrev pub ReadyOnceDue : Type 0
ReadyOnceDue = (s : Listening) (time : ℤ) → cut s ≡ At time → IsDue s time → is_ready s ≡ true
