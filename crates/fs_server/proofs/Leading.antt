-- Where a load leads, by whether the target is there and loaded, and by whether it is refused.
use Rattle.std.proofs.Common.{◌≡◌, ℕ, ℤ, Bool, true, false, cond, Option, Some, None, refl, sym, ap, ◌∙◌, subst}
use Rattle.std.specs.Prelude.{unwrap_or}
use Rattle.std.specs.FinMap.{get}
use Rattle.std.specs.Option.{option_map}
use Rattle.fs_status.specs.declared.refusal.Refusal.{Refusal}
use Rattle.fs_listen.specs.Cuts.{is_loaded}
use Rattle.fs_listen.specs.Listening.{Listened, Loaded}
use Rattle.fs_listen.specs.Runs.{is_lost}
use Rattle.fs_machine.specs.Facts.{Facts}
use Rattle.fs_machine.specs.Listen.{listening_of}
use Rattle.fs_machine.specs.Load.{load_refusal, loaded, loaded_unless, loaded_with, refusal_at}
use Rattle.fs_machine.specs.State.{Machine}
use Rattle.fs_machine.proofs.Listening.{listening_holds, loads_at}
use Rattle.fs_server.specs.Loading.{IsFree, IsFreeAt}

-- whether it is loaded, if it is there
abbrev pub loaded_if : Option Listened → Option Bool
loaded_if o = option_map (λ (l : Listened). is_loaded l.loaded) o

module _ (m : Machine) (session target : ℕ) (at_time : Option ℤ) where
  abbrev found : Option Listened
  found = get (listening_of m session).targets target

  refused_by : (o : Option Listened) (r : Option Refusal) (refusal : Refusal) → Some refusal ≡ r → m ≡ loaded_unless m session target at_time o r
  refused_by None r refusal is = refl
  refused_by (Some l) None refusal is = absurd (cc)
  refused_by (Some l) (Some other) refusal is = refl

  pub state_refused : (refusal : Refusal) → Some refusal ≡ load_refusal m session target at_time → m ≡ loaded m session target at_time
  state_refused refusal is = refused_by found (load_refusal m session target at_time) refusal is

  none_by : (o : Option Listened) (r : Option Refusal) → None ≡ loaded_if o → m ≡ loaded_unless m session target at_time o r
  none_by None r is = refl
  none_by (Some l) r is = absurd (cc)

  -- it isn't there
  pub state_none : None ≡ loaded_if found → m ≡ loaded m session target at_time
  state_none is = none_by found (load_refusal m session target at_time) is

  there_by : (o : Option Listened) (r : Option Refusal) → Some true ≡ loaded_if o → m ≡ loaded_unless m session target at_time o r
  there_by None r is = absurd (cc)
  there_by (Some l) (Some refusal) is = refl
  there_by (Some l) None is =
      let there : true ≡ is_loaded l.loaded = cc in
      ap (λ b. cond b m (loaded_with m session target (unwrap_or at_time m.past.released) (is_lost m.past.floor l.token))) there

  -- it is loaded
  pub state_there : Some true ≡ loaded_if found → m ≡ loaded m session target at_time
  state_there is = there_by found (load_refusal m session target at_time) is

  goes_by : (o : Option Listened) (r : Option Refusal) → Some false ≡ loaded_if o → None ≡ r → (n : Machine)
      → ((l : Listened) → o ≡ Some l → n ≡ loaded_with m session target (unwrap_or at_time m.past.released) (is_lost m.past.floor l.token)) → n ≡ loaded_unless m session target at_time o r
  goes_by None r is none n goes = absurd (cc)
  goes_by (Some l) (Some refusal) is none n goes = absurd (cc)
  goes_by (Some l) None is none n goes =
      let there : false ≡ is_loaded l.loaded = cc in
      goes l refl ∙ ap (λ b. cond b m (loaded_with m session target (unwrap_or at_time m.past.released) (is_lost m.past.floor l.token))) there

  -- it isn't, and nothing stands in the way
  pub state_loading : Some false ≡ loaded_if found → None ≡ load_refusal m session target at_time → (n : Machine) (time : ℤ) → time ≡ unwrap_or at_time m.past.released
      → ((l : Listened) → found ≡ Some l → n ≡ loaded_with m session target time (is_lost m.past.floor l.token)) → n ≡ loaded m session target at_time
  state_loading is none n time asks goes =
      goes_by found (load_refusal m session target at_time) is none n
      (λ l there. goes l there ∙ ap (λ t. loaded_with m session target t (is_lost m.past.floor l.token)) asks)

-- ---- when it may be loaded

not_loaded : (o : Option Loaded) → false ≡ is_loaded o → o ≡ None
not_loaded None is = refl
not_loaded (Some l) is = absurd (cc)

module _ (m : Machine) (facts : Facts m) (session target : ℕ) (at_time : Option ℤ) where
  free_by : (o : Option Listened) → get (listening_of m session).targets target ≡ o → None ≡ refusal_at m.past target at_time o → Some false ≡ loaded_if o
      → IsFreeAt m.past.floor m.past.released (unwrap_or at_time m.past.released) o
  free_by None is none loading = absurd (cc)
  free_by (Some l) is none loading =
      let there : false ≡ is_loaded l.loaded = cc in
      let both = loads_at m.past target at_time l facts.past.floor (sym none) (sym there) in
      let holds = listening_holds m.past session m.listeners facts.listeners.times in
      (not_loaded l.loaded there, both.0, both.1, (holds.targets target l is).0)

  pub may_load : (time : ℤ) → time ≡ unwrap_or at_time m.past.released → Some false ≡ loaded_if (get (listening_of m session).targets target) → None ≡ load_refusal m session target at_time
      → IsFree m session target time
  may_load time asks loading none =
      subst (λ t. IsFree m session target t) (sym asks) (free_by (get (listening_of m session).targets target) refl none loading)
