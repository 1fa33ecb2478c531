-- What a link may hear and send.
use Rattle.std.specs.Prelude.{◌≡◌, ℕ, List, [], ◌∷◌, ◌++◌, Option, Some, None, option_map, MatchOption, Bool, true, false, ◌&&◌}
use Rattle.fs_edge.specs.declared.link.Heard.{Heard}
use Rattle.fs_edge.specs.declared.link.Heard.TheVariants.{Message, Quiet, Closed, Failed}
use Rattle.fs_edge.specs.declared.link.Sent.{Sent}
use Rattle.fs_edge.specs.declared.link.Sent.TheVariants as sent

-- what a link that tells will hear next
pub data Hearing : Type 0 where
  message : List ℕ → Hearing
  quiet : Hearing
  closed : Hearing

-- the link is closed where the close is next, and where nothing is left
abbrev pub IsClosed : List Hearing → Type 0
IsClosed [] = Unit {0}
IsClosed (message text ∷ rest) = ⊥
IsClosed (quiet ∷ rest) = ⊥
IsClosed (closed ∷ rest) = Unit {0}

-- A message, a quiet moment or the close comes exactly where it is next. A closed link stays closed, and a failure
-- leaves what will be heard as it was.
abbrev pub Hears : Heard → Option (List Hearing) → Option (List Hearing) → Type 0
Hears (Message text) before after = before ≡ option_map (λ rest. message text ∷ rest) after
Hears Quiet before after = before ≡ option_map (λ rest. quiet ∷ rest) after
Hears Closed before after = MatchOption before (after ≡ None) (λ hearings. IsClosed hearings × (after ≡ Some hearings))
Hears Failed before after = after ≡ before

-- A message that was sent stands after those before it. A failure sends nothing.
abbrev pub Sends : Sent → List ℕ → Option (List (List ℕ)) → Option (List (List ℕ)) → Type 0
Sends sent.Done text before after = after ≡ option_map (λ texts. texts ++ text ∷ []) before
Sends sent.Failed text before after = after ≡ before

-- what was told to a link in memory; a failure has no place there
abbrev pub hearing_of : Heard → Hearing
hearing_of (Message text) = message text
hearing_of Quiet = quiet
hearing_of Closed = closed
hearing_of Failed = closed

abbrev pub hearings_of : List Heard → List Hearing
hearings_of [] = []
hearings_of (heard ∷ more) = hearing_of heard ∷ hearings_of more

abbrev pub not_failed : Heard → Bool
not_failed (Message text) = true
not_failed Quiet = true
not_failed Closed = true
not_failed Failed = false

abbrev pub none_fails : List Heard → Bool
none_fails [] = true
none_fails (heard ∷ more) = not_failed heard && none_fails more
