-- What a session that is raised is told: its outbox has it behind what was there.
use Rattle.std.proofs.Common.{◌≡◌, ℕ, ℤ, Bool, true, false, cond, List, [], ◌∷◌, ◌++◌, map, Some, None, refl, sym, subst}
use Rattle.std.specs.Prelude.{IfSome, ◌==◌}
use Rattle.std.proofs.lemmas.Bool.{eqb-true}
use Rattle.fs_history.specs.declared.batch.Batch.{Batch}
use Rattle.fs_listen.specs.Raised.{stands_at}
use Rattle.fs_request.specs.declared.message.Message.TheVariants as message
use Rattle.fs_target.specs.Laws.{with_deleted}
use Rattle.fs_target.specs.Raise.{kept_told}
use Rattle.fs_machine.specs.Sessions.{with_outbox}
use Rattle.fs_machine.specs.declared.session.Session.{Session}
use Rattle.fs_sessions.specs.Heard.{Heard, heard_in}

-- what a session was told, of sessions before and then
abbrev pub IsTold : List Batch → ℤ → ℕ → List Session → List Session → Heard → Type 0
IsTold h time session ss new heard = new ≡ with_outbox session (λ ms. ms ++ map message.Listen (map (with_deleted (stands_at h time)) (kept_told time heard.held))) ss

session_one : (session : ℕ) (h : Heard) (hs : List Heard) (found : Heard) (same : Bool) → (h.session == session) ≡ same → (heard_in session hs ≡ Some found → found.session ≡ session)
    → cond same (Some h) (heard_in session hs) ≡ Some found → found.session ≡ session
session_one session h hs found true is rest there = let one : h ≡ found = cc in subst (λ (k : Heard). k.session ≡ session) one (eqb-true h.session session is)
session_one session h hs found false is rest there = rest there

-- the one that is found is the session's
session_found : (session : ℕ) (hs : List Heard) (found : Heard) → heard_in session hs ≡ Some found → found.session ≡ session
session_found session [] found is = absurd (cc)
session_found session (h ∷ hs) found is = session_one session h hs found (h.session == session) refl (session_found session hs found) is

module _ (h : List Batch) (time : ℤ) (session : ℕ) (ss new : List Session) (hs : List Heard) where
  pub told_found : (one : Heard) → Some one ≡ heard_in session hs → IsTold h time one.session ss new one → IfSome (heard_in session hs) (IsTold h time session ss new)
  told_found one found told =
      subst (λ o. IfSome o (IsTold h time session ss new)) found (subst (λ k. IsTold h time k ss new one) (session_found session hs one (sym found)) told)

  pub told_nobody : None ≡ heard_in session hs → IfSome (heard_in session hs) (IsTold h time session ss new)
  told_nobody none = subst (λ o. IfSome o (IsTold h time session ss new)) none tt
