-- Always: what open sessions listen to is theirs, and of times that can be told: each time that was raised to, is shown by a token, was
-- loaded at or is a position is released, and no position is before what can be read. A number is that of one target, and was given.
use Rattle.std.specs.Prelude.{◌≡◌, ◌≢◌, ℕ, ◌≤◌, ℤ, ◌≤ℤ◌, ⊤, IfSome, List, [], ◌∷◌, Option, Some, map}
use Rattle.std.specs.FinMap.{get}
use Rattle.std.specs.List.{AllByRecursion}
use Rattle.fs_listen.specs.Listening.{Loaded, Listened, Listening}
use Rattle.fs_machine.specs.Listeners.{Listener}
use Rattle.fs_machine.specs.Past.{Past}
use Rattle.fs_machine.specs.declared.session.Session.{Session}

-- a position can be read
abbrev pub IsPosition : Past → Option ℤ → Type 0
IsPosition p o = IfSome o (λ t. (p.floor ≤ℤ t) × (t ≤ℤ p.released))

abbrev pub LoadHolds : Past → Loaded → Type 0
LoadHolds p d = (d.time ≤ℤ p.released) × AllByRecursion (IsPosition p) d.positions

abbrev pub TargetHolds : Past → Listened → Type 0
TargetHolds p l = IfSome l.token (λ t. t ≤ℤ p.released) × IfSome l.loaded (LoadHolds p)

pub record ListeningHolds (p : Past) (s : Listening) : Type 0 where
  pub raised : IfSome s.raised (λ t. t ≤ℤ p.released)
  pub targets : (id : ℕ) (l : Listened) → get s.targets id ≡ Some l → TargetHolds p l

-- ---- numbers

-- each target has one, which was given, and no other target of the session has it
pub record NumbersHold (last : ℕ) (l : Listener) : Type 0 where
  pub there : (id : ℕ) (t : Listened) → get l.listening.targets id ≡ Some t → (n : ℕ) × (get l.numbers id ≡ Some n)
  pub given : (id n : ℕ) → get l.numbers id ≡ Some n → n ≤ last
  pub one : (id other n : ℕ) → get l.numbers id ≡ Some n → get l.numbers other ≡ Some n → id ≡ other

-- two sessions have none in common
abbrev pub NumbersDiffer : Listener → Listener → Type 0
NumbersDiffer a b = (id other n : ℕ) → get a.numbers id ≡ Some n → get b.numbers other ≢ Some n

abbrev pub AllDiffer : List Listener → Type 0
AllDiffer [] = ⊤
AllDiffer (l ∷ ls) = AllByRecursion (NumbersDiffer l) ls × AllDiffer ls

-- ---- all of them

pub record ListenersHold (p : Past) (ss : List Session) (ls : List Listener) (given : ℕ) : Type 0 where
  -- there is one for each session that is open, in their order
  pub listed : map (λ (l : Listener). l.session) ls ≡ map (λ (s : Session). s.number) ss
  pub times : AllByRecursion (λ (l : Listener). ListeningHolds p l.listening) ls
  pub numbers : AllByRecursion (NumbersHold given) ls
  pub differ : AllDiffer ls
