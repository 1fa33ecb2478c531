-- What the sessions that are open listen to. Each target that is added gets a number, counted from 1 over all sessions and never given
-- again, so that what was matched for one that is gone by then isn't told to another that has its id.
--
--     sessions 0 and 2 are open; 0 adds target 1, then 2 adds 1 and 4, then 0 removes 1 and adds it again
--     0     listens to 1, which is number 4
--     2     listens to 1 and 4, which are numbers 2 and 3
-- (v1 reference, "Listen".)
use Rattle.std.specs.Prelude.{ℕ, ◌==◌, List, [], ◌∷◌, refl, if◌then◌else◌}
use Rattle.std.specs.Coded.{Coded, code_by, coded×, coded_ℕ}
use Rattle.std.specs.FinMap.{FinMap, code, empty}
use Rattle.std.specs.Ordering.{nat_cmp}
use Rattle.fs_listen.specs.Codes.{listening_code}
use Rattle.fs_listen.specs.Listening.{Listening, none_listened}

pub record Listener : Type 0 where
  -- the number of the session
  pub session : ℕ
  pub listening : Listening
  -- those of its targets, by their ids
  pub numbers : FinMap nat_cmp ℕ

abbrev pub listener_code : Coded Listener
listener_code =
    code_by (ℕ × (Listening × FinMap nat_cmp ℕ)) (coded× coded_ℕ (coded× listening_code (code coded_ℕ coded_ℕ)))
    (λ l. (l.session, (l.listening, l.numbers))) (λ p. record { session = p.0; listening = p.1.0; numbers = p.1.1 }) (λ _. refl)

-- a session that listens to nothing
abbrev pub unlistening : ℕ → Listener
unlistening session = record { session = session; listening = none_listened; numbers = empty }

-- what a session listens to; nothing, where it isn't open
abbrev pub listening_in : ℕ → List Listener → Listening
listening_in session [] = none_listened
listening_in session (l ∷ ls) = if l.session == session then l.listening else listening_in session ls

-- with another for a session, if it is open
abbrev pub with_listener : ℕ → (Listener → Listener) → List Listener → List Listener
with_listener session change [] = []
with_listener session change (l ∷ ls) = if l.session == session then change l ∷ ls else l ∷ with_listener session change ls

abbrev pub with_listening : ℕ → (Listening → Listening) → List Listener → List Listener
with_listening session change ls = with_listener session (λ l. record l { listening = change l.listening }) ls

-- without it
abbrev pub unheard : ℕ → List Listener → List Listener
unheard session [] = []
unheard session (l ∷ ls) = if l.session == session then ls else l ∷ unheard session ls
