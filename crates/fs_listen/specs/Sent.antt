-- What a raise sends: what is told of the names, then that new targets are current, then that nothing else changed up to the time. The last
-- two carry the token that resumes from there.
use Rattle.std.specs.Prelude.{ℕ, ℤ, Bool, not, List, [], ◌∷◌, ◌++◌, map}
use Rattle.std.specs.FinMap.{entries}
use Rattle.std.specs.List.{filter}
use Rattle.fs_path.specs.declared.name.DocName.{DocName}
use Rattle.fs_token.specs.Token.{token_of}
use Rattle.fs_query.specs.declared.listen.ListenMessage.{ListenMessage}
use Rattle.fs_query.specs.declared.listen.ListenMessage.TheVariants as message
use Rattle.fs_listen.specs.Cuts.{is_current}
use Rattle.fs_listen.specs.Listening.{Listened, Listening}
use Rattle.fs_listen.specs.Told.{Views, told}

-- the targets that it makes current
abbrev pub new_targets : Listening → List ℕ
new_targets s = map (λ (e : ℕ × Listened). e.0) (filter (λ (e : ℕ × Listened). not (is_current e.1.loaded)) (entries s.targets))

abbrev pub current_from : ℤ → List ℕ → List ListenMessage
current_from time [] = []
current_from time (id ∷ ids) = message.Current (id ∷ ids) time (token_of time) ∷ []

-- by whether a document of a name stands then, and by the views of the targets
abbrev pub sent : (DocName → Bool) → ℤ → Listening → List Views → List ListenMessage
sent stands time s vs = told stands time vs ++ (current_from time (new_targets s) ++ message.NoChange time (token_of time) ∷ [])
