-- A load does nothing, or loads a target at a time; and a raise does nothing, or raises a session to how far its targets are together.
use Rattle.std.proofs.Common.{◌≡◌, ℕ, ℤ, Bool, true, false, cond, List, [], ◌∷◌, map, Option, Some, None, refl, sym, ap, ◌∙◌}
use Rattle.std.specs.Prelude.{◌==◌, unwrap_or}
use Rattle.std.specs.FinMap.{get}
use Rattle.fs_status.specs.declared.refusal.Refusal.{Refusal}
use Rattle.fs_listen.specs.Cuts.{is_loaded, is_ready}
use Rattle.fs_listen.specs.Listening.{Listened, Listening, loaded as loaded_in, matched as matched_in, raised_to}
use Rattle.fs_listen.specs.Runs.{is_lost}
use Rattle.fs_listen.specs.declared.cut.Cut.{Cut}
use Rattle.fs_listen.specs.declared.cut.Cut.TheVariants.{At, Loading, NoTarget}
use Rattle.fs_machine.specs.Compact.{earlier}
use Rattle.fs_machine.specs.Listen.{listening_of}
use Rattle.fs_machine.specs.Listeners.{Listener, listening_in, with_listening}
use Rattle.fs_machine.specs.Load.{load_refusal, loaded, loaded_unless, loaded_with}
use Rattle.fs_machine.specs.Raise.{cut_of, raised, raised_at, raised_to_time}
use Rattle.fs_machine.specs.Refusing.{outbox_is_full}
use Rattle.fs_machine.specs.State.{Machine}
use Rattle.fs_replay.specs.declared.state.State.{State}
use Rattle.fs_replay.proofs.Kept.{KeepsServing}
use Rattle.fs_replay.proofs.Known.{apart}

module _ (K : Machine → Type 0) (m : Machine) (session : ℕ) (stays : K m) where
  load_if : (target : ℕ) (time : ℤ) (reset there : Bool) → K (loaded_with m session target time reset) → K (cond there m (loaded_with m session target time reset))
  load_if target time reset true loads = stays
  load_if target time reset false loads = loads

  load_unless : (target : ℕ) (at : Option ℤ) (found : Option Listened) (refusal : Option Refusal) → ((time : ℤ) (reset : Bool) → K (loaded_with m session target time reset))
      → K (loaded_unless m session target at found refusal)
  load_unless target at None refusal loads = stays
  load_unless target at (Some l) (Some refusal) loads = stays
  load_unless target at (Some l) None loads =
      let time = unwrap_or at m.past.released in
      let reset = is_lost m.past.floor l.token in
      load_if target time reset (is_loaded l.loaded) (loads time reset)

  pub loaded_holds : (target : ℕ) (at : Option ℤ) → ((time : ℤ) (reset : Bool) → K (loaded_with m session target time reset)) → K (loaded m session target at)
  loaded_holds target at loads = load_unless target at (get (listening_of m session).targets target) (load_refusal m session target at) loads

  raise_to : (to : Cut) → cut_of m session ≡ to → ((time : ℤ) → cut_of m session ≡ At time → K (raised_to_time m session time)) → K (raised_at m session to)
  raise_to (At time) is raises = raises time is
  raise_to (Loading id) is raises = stays
  raise_to NoTarget is raises = stays

  raise_if : (full ready : Bool) → ((time : ℤ) → cut_of m session ≡ At time → K (raised_to_time m session time)) → K (cond full m (cond ready (raised_at m session (cut_of m session)) m))
  raise_if true ready raises = stays
  raise_if false true raises = raise_to (cut_of m session) refl raises
  raise_if false false raises = stays

  pub raised_holds : ((time : ℤ) → cut_of m session ≡ At time → K (raised_to_time m session time)) → K (raised m session)
  raised_holds raises = raise_if (outbox_is_full m session) (is_ready (listening_of m session)) raises

-- ---- what holds of what a session listens to

module _ (P : Listening → Type 0) (change : Listening → Listening) (keeps : (l : Listening) → P l → P (change l)) where
  first_holds : (there : Bool) (a b : Listening) → P (cond there a b) → P (cond there (change a) b)
  first_holds true a b p = keeps a p
  first_holds false a b p = p

  rest_holds : (there : Bool) (a b c : Listening) → (P b → P c) → P (cond there a b) → P (cond there a c)
  rest_holds true a b c more p = p
  rest_holds false a b c more p = more p

  both_hold : (there : Bool) (a b c : Listening) → (P b → P c) → P (cond there a b) → P (cond there (change a) c)
  both_hold true a b c more p = keeps a p
  both_hold false a b c more p = more p

  with_next : (l : Listener) (ls rest : List Listener) (of : ℕ) (here : Bool) → (P (listening_in of ls) → P (listening_in of rest)) → P (listening_in of (l ∷ ls))
      → P (listening_in of (cond here (record l { listening = change l.listening } ∷ ls) (l ∷ rest)))
  with_next l ls rest of true more p = first_holds (l.session == of) l.listening (listening_in of ls) p
  with_next l ls rest of false more p = rest_holds (l.session == of) l.listening (listening_in of ls) (listening_in of rest) more p

  -- where it is changed for a session
  pub with_holds : (ls : List Listener) (session of : ℕ) → P (listening_in of ls) → P (listening_in of (with_listening session change ls))
  with_holds [] session of p = p
  with_holds (l ∷ ls) session of p = with_next l ls (with_listening session change ls) of (l.session == session) (with_holds ls session of) p

  -- and for all of them
  pub all_hold : (ls : List Listener) (of : ℕ) → P (listening_in of ls) → P (listening_in of (map (λ (l : Listener). record l { listening = change l.listening }) ls))
  all_hold [] of p = p
  all_hold (l ∷ ls) of p =
      both_hold (l.session == of) l.listening (listening_in of ls) (listening_in of (map (λ (k : Listener). record k { listening = change k.listening }) ls)) (all_hold ls of) p

-- what is kept by a load, a match and a raise
pub record KeepsListening (P : Listening → Type 0) : Type 0 where
  pub by_load : (shards id : ℕ) (time : ℤ) (reset : Bool) (l : Listening) → P l → P (loaded_in shards id time reset l)
  pub by_match : (shard : ℕ) (to : ℤ) (l : Listening) → P l → P (matched_in shard to l)
  pub by_raise : (time : ℤ) (l : Listening) → P l → P (raised_to time l)

abbrev pub HoldsOf : (Listening → Type 0) → ℕ → State → Type 0
HoldsOf P session s = P (listening_of s.server session)

pub keeps_listening : (P : Listening → Type 0) (session : ℕ) → KeepsListening P → KeepsServing (HoldsOf P session)
keeps_listening P session keeps = record {
  by_taking = λ s number p. p;
  by_loading = λ s number target at p.
      loaded_holds (λ m. P (listening_of m session)) s.server number p target at (λ time reset.
      with_holds P (loaded_in s.server.config.shards target time reset) (keeps.by_load s.server.config.shards target time reset) s.server.listeners number session p);
  by_matching = λ s shard to p. let time = earlier to s.server.past.released in all_hold P (matched_in shard time) (keeps.by_match shard time) s.server.listeners session p;
  by_raising = λ s number p.
      raised_holds (λ m. P (listening_of m session)) s.server number p (λ time is. with_holds P (raised_to time) (keeps.by_raise time) s.server.listeners number session p);
}

-- nor does a load or a raise of another session change it
pub with_other : (change : Listening → Listening) (ls : List Listener) (session of : ℕ) → (of == session) ≡ false → listening_in of (with_listening session change ls) ≡ listening_in of ls
with_other change [] session of other = refl
with_other change (l ∷ ls) session of other = by_test (with_other change ls session of other) (l.session == session) refl where
  by_test : listening_in of (with_listening session change ls) ≡ listening_in of ls → (here : Bool) → (l.session == session) ≡ here
      → listening_in of (cond here (record l { listening = change l.listening } ∷ ls) (l ∷ with_listening session change ls)) ≡ cond (l.session == of) l.listening (listening_in of ls)
  by_test more true is =
      let elsewhere = apart l.session session of is other in
      ap (λ b. cond b (change l.listening) (listening_in of ls)) elsewhere ∙ sym (ap (λ b. cond b l.listening (listening_in of ls)) elsewhere)
  by_test more false is = ap (cond (l.session == of) l.listening) more
