-- How a client keeps its targets and its link. (Only private clauses cite this.)
use Rattle.std.specs.Prelude.{◌≡◌, ◌<◌, ◌^◌, ◌&&◌, ℕ, Bool, true, is_some, List, [], ◌∷◌, Option, Some, None, if◌then◌else◌}
use Rattle.std.specs.FinMap.{FinMap, from_entries, get, remove}
use Rattle.std.specs.List.{list_any}
use Rattle.std.specs.Ordering.{eq_by_cmp, nat_cmp}
use Rattle.fs_query.specs.declared.listen.Cause.{Cause}
use Rattle.fs_local.specs.State.{Link}
use Rattle.fs_local.specs.declared.listened.Listened.{Listened}
use Rattle.fs_client.specs.declared.hand.Link.{Link as KeptLink}

-- their ids are such as JSON holds
abbrev pub AreSmall : FinMap nat_cmp Listened → Type 0
AreSmall targets = (id : ℕ) → is_some (get targets id) ≡ true → id < 2 ^ 31

abbrev pub link_of : Option KeptLink → Option Link
link_of None = None
link_of (Some l) = Some (record { greeted = l.greeted; raised = l.raised })

-- ---- targets that were refused

abbrev pub among : ℕ → List ℕ → Bool
among q ids = list_any (eq_by_cmp nat_cmp q) ids

abbrev pub without_all : List ℕ → FinMap nat_cmp Listened → FinMap nat_cmp Listened
without_all [] targets = targets
without_all (id ∷ ids) targets = without_all ids (remove targets id)

-- the cause of each that is listened to, and else the one of before
abbrev pub caused_one : FinMap nat_cmp Listened → List ℕ → Cause → Option Cause → ℕ → Option Cause
caused_one targets ids cause before q = if among q ids && is_some (get targets q) then Some cause else before

abbrev pub caused : FinMap nat_cmp Listened → List ℕ → Cause → List (ℕ × Cause) → ℕ → Option Cause
caused targets ids cause es q = caused_one targets ids cause (get (from_entries {R = nat_cmp} es) q) q
