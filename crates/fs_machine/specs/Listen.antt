-- A session begins to listen to a target, or ends it. A target that is added is told so at once, and isn't loaded yet. One that is refused
-- is told to be removed, with the cause, unless the session listens to another of its id, or the request breaks a rule or asks for what isn't
-- built; then the request is refused, as it is where there is no target to be removed.
--
--     target 1 is added             ADD 1
--     target 1 again                target 1 in use
--     target 2 with 11 bytes        REMOVE 2 with the cause that a token of 11 bytes is none
--     target 2 that selects fields  method select
--     target 1 is removed           REMOVE 1
--     and once more                 target 1 unknown
-- (v1 reference, `ListenRequest`, `Target`, `TargetChange`.)
use Rattle.std.specs.Prelude.{ℕ, ◌+◌, ℤ, pos, negsuc, int_lt, nat_le, Bool, true, false, List, [], ◌∷◌, Option, Some, None, Result, Ok, Err, codes, is_some, if◌then◌else◌, option_map}
use Rattle.std.specs.FinMap.{get, insert, len, remove}
use Rattle.std.specs.Option.{option_map_or}
use Rattle.fs_path.specs.Place.{member_place}
use Rattle.fs_path.specs.declared.place.Rule.TheVariants.{Q}
use Rattle.fs_query.specs.Asked.{Asked}
use Rattle.fs_query.specs.Rules.{rule_of_query}
use Rattle.fs_query.specs.declared.listen.Cause.{Cause}
use Rattle.fs_query.specs.declared.listen.ListenMessage.TheVariants as listen
use Rattle.fs_query.specs.declared.target.Target.{Target}
use Rattle.fs_query.specs.declared.target.Target.TheVariants as target
use Rattle.fs_request.specs.declared.message.Message.TheVariants as message
use Rattle.fs_status.specs.Message.{message_text}
use Rattle.fs_status.specs.Refusal.{refusal_of}
use Rattle.fs_status.specs.Status.{rpc_of}
use Rattle.fs_status.specs.declared.reason.Reason.{Reason}
use Rattle.fs_status.specs.declared.reason.Reason.TheVariants as reasons
use Rattle.fs_status.specs.declared.refusal.Refusal.{Refusal}
use Rattle.fs_token.specs.Token.{time_in}
use Rattle.fs_token.specs.declared.error.TokenError.{TokenError}
use Rattle.fs_token.specs.declared.error.TokenError.TheVariants.{BadLength, BadMark, BadTime}
use Rattle.fs_listen.specs.Listening.{Listening, added, removed}
use Rattle.fs_machine.specs.Commit.{unless_closed}
use Rattle.fs_machine.specs.Listeners.{listening_in, with_listener}
use Rattle.fs_machine.specs.Refusing.{outbox_refusal, passed}
use Rattle.fs_machine.specs.State.{Machine}
use Rattle.fs_machine.specs.declared.answer.Answer.{Answer}
use Rattle.fs_machine.specs.declared.answer.Answer.TheVariants.{Reply, Refused}

-- what a session listens to
abbrev pub listening_of : Machine → ℕ → Listening
listening_of m session = listening_in session m.listeners

abbrev pub has_target : Machine → ℕ → ℕ → Bool
has_target m session id = is_some (get (listening_of m session).targets id)

-- ---- rules and limits

-- what isn't built: a listener's query has no `select` and skips nothing. The first of the two is named; JSON never brings either
abbrev pub unbuilt_name : Asked → Option (List ℕ)
unbuilt_name q = if is_some q.select then Some (codes "select") else if int_lt (pos 0) q.offset then Some (codes "offset") else None

abbrev pub unless_unbuilt : Option (List ℕ) → Option Refusal → Option Refusal
unless_unbuilt (Some name) others = Some (refusal_of (reasons.Method name))
unless_unbuilt None others = others

-- the query of a target that breaks a rule is refused at its place; one that was read from JSON breaks none
abbrev pub target_query_place : List ℕ
target_query_place = member_place (member_place (member_place (codes "listen") (codes "addTarget")) (codes "query")) (codes "structuredQuery")

abbrev pub rule_refusal : Asked → Option Refusal
rule_refusal q = option_map (λ rule. refusal_of (reasons.Rule (Q rule.number rule.count) target_query_place)) (rule_of_query q)

abbrev pub target_refusal : Target → Option Refusal
target_refusal (target.Query q) = unless_unbuilt (unbuilt_name q) (rule_refusal q)
target_refusal (target.Documents names) = None

-- as many targets as may be, or there is no number left
abbrev pub targets_refusal : Machine → ℕ → Option Refusal → Option Refusal
targets_refusal m session others =
    passed (nat_le m.limits.targets (len (listening_of m session).targets)) (codes "targets") m.limits.targets
    (passed (nat_le m.limits.ids m.numbers.targets) (codes "ids") m.limits.ids others)

-- ---- resume tokens

abbrev pub token_reason : TokenError → Reason
token_reason (BadLength n) = reasons.TokenLength n
token_reason BadMark = reasons.TokenMark
token_reason BadTime = reasons.TokenTime

-- why a session isn't resumed from where bytes show; no later time than what is released was ever told
abbrev pub shown_refusal : ℤ → Result ℤ TokenError → Option Refusal
shown_refusal released (Ok time) = if int_lt released time then Some (refusal_of (reasons.TokenAhead time released)) else None
shown_refusal released (Err e) = Some (refusal_of (token_reason e))

abbrev pub token_refusal : Machine → Option (List ℕ) → Option Refusal
token_refusal m token = option_map_or (λ bytes. shown_refusal m.past.released (time_in bytes)) token None

-- the time that a token shows
abbrev pub time_shown : Result ℤ TokenError → Option ℤ
time_shown (Ok time) = Some time
time_shown (Err e) = None

abbrev pub token_time : Option (List ℕ) → Option ℤ
token_time None = None
token_time (Some bytes) = time_shown (time_in bytes)

-- ---- why a request isn't carried out: rules come first, then limits, the id, and the token

abbrev pub unless_used : Bool → ℕ → Option Refusal → Option Refusal
unless_used used id others = if used then Some (refusal_of (reasons.TargetInUse id)) else others

abbrev pub adding_refusal : Machine → ℕ → ℕ → Target → Option (List ℕ) → Option Refusal
adding_refusal m session id t token =
    unless_closed (target_refusal t) (outbox_refusal m session (targets_refusal m session (unless_used (has_target m session id) id (token_refusal m token))))

-- a number below 0 is that of no target
abbrev pub is_target : Machine → ℕ → ℤ → Bool
is_target m session (pos id) = has_target m session id
is_target m session (negsuc id) = false

abbrev pub removing_refusal : Machine → ℕ → ℤ → Option Refusal
removing_refusal m session id = outbox_refusal m session (if is_target m session id then None else Some (refusal_of (reasons.TargetUnknown id)))

-- ---- carried out

-- the next number is its
abbrev pub with_target : Machine → ℕ → ℕ → Target → Option ℤ → Machine
with_target m session id t token = record m {
  listeners = with_listener session (λ l. record l { listening = added id t token l.listening; numbers = insert l.numbers id (m.numbers.targets + 1) }) m.listeners;
  numbers = record m.numbers { targets = m.numbers.targets + 1 };
}

abbrev pub without_id : Machine → ℕ → ℕ → Machine
without_id m session id = record m {
  listeners = with_listener session (λ l. record l { listening = removed id l.listening; numbers = remove l.numbers id }) m.listeners;
}

abbrev pub without_target : Machine → ℕ → ℤ → Machine
without_target m session (pos id) = without_id m session id
without_target m session (negsuc id) = m

-- ---- answered

abbrev pub cause_of : Refusal → Cause
cause_of refusal = record { code = rpc_of refusal.code; message = message_text refusal.reason }

-- one that breaks a rule, or asks for what isn't built, isn't told as a target's
abbrev pub is_plain : Reason → Bool
is_plain (reasons.Rule rule place) = true
is_plain (reasons.Method name) = true
is_plain _ = false

-- a target that isn't added
abbrev pub unadded_answer : Machine → ℕ → ℕ → Refusal → Answer
unadded_answer m session id refusal =
    if is_plain refusal.reason then Refused refusal
    else if has_target m session id then Refused refusal
    else Reply (message.Listen (listen.Remove (id ∷ []) (Some (cause_of refusal))))

abbrev pub added_answer : ℕ → Answer
added_answer id = Reply (message.Listen (listen.Add (id ∷ [])))

abbrev pub removed_answer : ℤ → Answer
removed_answer (pos id) = Reply (message.Listen (listen.Remove (id ∷ []) None))
removed_answer (negsuc id) = Refused (refusal_of (reasons.TargetUnknown (negsuc id)))
