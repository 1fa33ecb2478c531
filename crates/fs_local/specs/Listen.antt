-- A client listens to a target. Of several refusals the id comes first, then the number of targets, then the rules of its query.
use Rattle.std.specs.Prelude.{ℕ, nat_le, false, Option, Some, None, option_map, if◌then◌else◌}
use Rattle.std.specs.FinMap.{insert, len}
use Rattle.fs_query.specs.Rules.{rule_of_query}
use Rattle.fs_query.specs.declared.rule.QueryRule.{QueryRule}
use Rattle.fs_query.specs.declared.target.Target.{Target}
use Rattle.fs_query.specs.declared.target.Target.TheVariants as target
use Rattle.fs_local.specs.Ask.{add_request, asking}
use Rattle.fs_local.specs.State.{Client, Targets}
use Rattle.fs_local.specs.declared.error.ClientError.{ClientError}
use Rattle.fs_local.specs.declared.error.ClientError.TheVariants as error

abbrev pub rule_of_target : Target → Option QueryRule
rule_of_target (target.Query q) = rule_of_query q
rule_of_target (target.Documents names) = None

abbrev pub place_refusal : ℕ → Targets → Option ClientError
place_refusal id ts =
    if nat_le id ts.last then Some (error.NotRising id ts.last)
    else if nat_le ts.limit (len ts.listened) then Some (error.TooMany ts.limit)
    else None

abbrev pub or_rule : Target → Option ClientError → Option ClientError
or_rule t (Some e) = Some e
or_rule t None = option_map error.Rule (rule_of_target t)

abbrev pub listen_refusal : ℕ → Target → Client → Option ClientError
listen_refusal id t c = or_rule t (place_refusal id c.targets)

abbrev pub with_target : ℕ → Target → Targets → Targets
with_target id t ts = record ts { listened = insert ts.listened id (record { target = t; shown = false; current = false }); last = id }

abbrev pub listened : ℕ → Target → Client → Client
listened id t c = record c { targets = with_target id t c.targets; hand = asking (add_request c.root id t None) c.hand }
