-- What concerns none of a session's targets is no event of any of them.
use Rattle.std.proofs.Common.{◌≡◌, ◌+◌, ◌<◌, ℕ, ℤ, Bool, true, false, cond, List, [], ◌∷◌, ◌++◌, drop, get_or, length, Option, Some, None, refl, sym, ap, ◌∙◌, subst}
use Rattle.std.specs.Prelude.{int_lt}
use Rattle.std.specs.FinMap.{entries, get}
use Rattle.std.specs.List.{AllByRecursion, cons_option, filter_map, flat_map}
use Rattle.std.proofs.lemmas.List.{drop_more}
use Rattle.fs_value.specs.declared.document.Document.{Document}
use Rattle.fs_write.specs.declared.change.Change.{Change}
use Rattle.fs_write.specs.declared.timed_change.TimedChange.{TimedChange}
use Rattle.fs_listen.specs.Listening.{Listened}
use Rattle.fs_listen.specs.View.{is_listened}
use Rattle.fs_match.specs.Event.{event_between, fitting}
use Rattle.fs_target.specs.Held.{position_in}
use Rattle.fs_target.specs.Keeps.{event_of, told_as}
use Rattle.fs_sessions.specs.Heard.{Heard}
use Rattle.fs_sessions.specs.Matched.{AreNoMatter, IsNoMatter, IsUnlistened, commit_events, ear_events, events_from, events_to, numbered_events, target_events}

module _ (h : Heard) (id : ℕ) (l : Listened) (found : get h.held.listening.targets id ≡ Some l) (number : ℕ) where
  none_fits : (o : Option Document) → IsUnlistened h.held o → fitting (is_listened l.target) o ≡ None
  none_fits None un = refl
  none_fits (Some d) un = ap (λ b. cond b (Some d) None) (un id l d found refl)

  no_event : (time : ℤ) (c : Change) → IsNoMatter h.held c → event_of number l.target time c ≡ None
  no_event time c un = λ i. told_as number time c (event_between (none_fits c.before un.0 i) (none_fits c.after un.1 i))

  no_events : (time : ℤ) (cs : List Change) → AllByRecursion (IsNoMatter h.held) cs → filter_map (event_of number l.target time) cs ≡ []
  no_events time [] un = refl
  no_events time (c ∷ cs) un = ap (λ o. cons_option o (filter_map (event_of number l.target time) cs)) (no_event time c un.0) ∙ no_events time cs un.1

  none_behind : (from : ℤ) (c : TimedChange) → AllByRecursion (IsNoMatter h.held) c.changes → commit_events number l.target from c ≡ []
  none_behind from c un = by_test (int_lt from c.time) where
    by_test : (behind : Bool) → cond behind (filter_map (event_of number l.target c.time) c.changes) [] ≡ []
    by_test true = no_events c.time c.changes un
    by_test false = refl

  none_of : (from : ℤ) (cs : List TimedChange) → AreNoMatter h.held cs → target_events number l.target from cs ≡ []
  none_of from [] un = refl
  none_of from (c ∷ cs) un = ap (λ es. es ++ target_events number l.target from cs) (none_behind from c un.0) ∙ none_of from cs un.1

  none_from : (o : Option ℤ) (cs : List TimedChange) → AreNoMatter h.held cs → events_from number l.target o cs ≡ []
  none_from None cs un = refl
  none_from (Some from) cs un = none_of from cs un

module _ (h : Heard) (shard : ℕ) (cs : List TimedChange) (un : AreNoMatter h.held cs) where
  none_to : (id number : ℕ) (o : Option Listened) → get h.held.listening.targets id ≡ o → events_to shard number cs o ≡ []
  none_to id number None is = refl
  none_to id number (Some l) is = none_from h id l is number (position_in shard (Some l)) cs un

  none_in : (es : List (ℕ × ℕ)) → flat_map (numbered_events shard cs h) es ≡ []
  none_in [] = refl
  none_in (e ∷ es) = ap (λ xs. xs ++ flat_map (numbered_events shard cs h) es) (none_to e.0 e.1 (get h.held.listening.targets e.0) refl) ∙ none_in es

  -- of a session
  pub no_matter : ear_events shard cs h ≡ []
  no_matter = none_in (entries h.numbers)

-- ---- loops that look at each

-- what holds of one more, and of those that are left, holds of all
pub holds_on : {X : Type 0} (P : X → Type 0) (xs : List X) (i : ℕ) (x : X) → i < length xs → x ≡ get_or xs i x → P x → (AllByRecursion P (drop i xs) → AllByRecursion P xs)
    → AllByRecursion P (drop (i + 1) xs) → AllByRecursion P xs
holds_on P xs i x within is holds all rest = all (subst (AllByRecursion P) (sym (drop_more xs i x within)) (subst P is holds, rest))
