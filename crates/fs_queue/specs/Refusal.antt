-- Why a client doesn't take a batch: as many as may be aren't covered, or no number is left; then the number of its writes; then the first
-- of its writes that breaks a rule, by the least that it breaks.
use Rattle.std.specs.Prelude.{ℕ, suc, nat_le, nat_lt, ◌+◌, ◌||◌, ◌==◌, Bool, List, [], ◌∷◌, Option, Some, None, length, if◌then◌else◌}
use Rattle.fs_write.specs.Limits.{most_writes}
use Rattle.fs_write.specs.Rules.{rule_of_write}
use Rattle.fs_write.specs.declared.write.Write.{Write}
use Rattle.fs_queue.specs.Queue.{Queue}
use Rattle.fs_queue.specs.declared.error.QueueError.{QueueError}
use Rattle.fs_queue.specs.declared.error.QueueError.TheVariants as error

-- the last number that a batch may have
abbrev pub last_number : ℕ
last_number = 18446744073709551615

abbrev pub is_full : Queue → Bool
is_full q = nat_le q.limit (length q.acknowledged + length q.unanswered) || nat_le last_number q.given

-- of writes from a number on
abbrev pub broken_by : Option ℕ → ℕ → Option QueueError → Option QueueError
broken_by (Some rule) number rest = Some (error.Rule rule number)
broken_by None number rest = rest

abbrev pub broken_from : ℕ → List Write → Option QueueError
broken_from number [] = None
broken_from number (w ∷ ws) = broken_by (rule_of_write w) number (broken_from (suc number) ws)

-- whatever its writes are
abbrev pub count_refusal : List Write → Queue → Option QueueError
count_refusal ws q =
    if is_full q then Some (error.Full q.limit)
    else if length ws == 0 || nat_lt most_writes (length ws) then Some (error.Count (length ws))
    else None

abbrev pub or_broken : List Write → Option QueueError → Option QueueError
or_broken ws (Some e) = Some e
or_broken ws None = broken_from 0 ws

abbrev pub push_refusal : List Write → Queue → Option QueueError
push_refusal ws q = or_broken ws (count_refusal ws q)
