-- Options that were written are such as a server may have.
use Rattle.std.proofs.Common.{List, [], ◌∷◌, ℕ, refl, sym, subst, arith}
use Rattle.std.specs.List.{fold}
use Rattle.fs_machine.specs.Limits.{greatest, AreAllowed as LimitsAllowed}
use Rattle.fsemu.specs.declared.options.Options.{Options}
use Rattle.fsemu.specs.Words.{Setting, project, concurrency, shards, IsValue, AreWritten, with_setting, default_options, AreAllowed, IsReplay}

with_one : (o : Options) (s : Setting) (text : List ℕ) → IsValue s text → AreAllowed o → AreAllowed (with_setting o s)
with_one o (project name) text is allowed = record { project = is.1; some = allowed.some; few = allowed.few }
with_one o (concurrency mode) text is allowed = record { project = allowed.project; some = allowed.some; few = allowed.few }
with_one o (shards n) text (number, value, some, few) allowed = record { project = allowed.project; some = some; few = few }

with_all : (o : Options) (settings : List Setting) (words : List (List ℕ)) → AreWritten settings words → AreAllowed o → AreAllowed (fold with_setting o settings)
with_all o [] words written allowed = allowed
with_all o (s ∷ more) words (own, rest, is, (value, fits, form), later) allowed = with_all (with_setting o s) more rest later (with_one o s value fits allowed)

pub all_allowed : (words : List (List ℕ)) (o : Options) → IsReplay words o → AreAllowed o
all_allowed words o is =
    let first : AreAllowed default_options = record { project = refl; some = omega arith; few = omega arith } in
    subst AreAllowed (sym is.asked) (with_all default_options is.settings is.rest is.written first)

-- and so are the greatest limits
pub greatest_allowed : LimitsAllowed greatest
greatest_allowed = record {
  writes = omega arith;
  outbox = omega arith;
  sessions = omega arith;
  targets = omega arith;
  transactions = omega arith;
  streams = omega arith;
  queue = omega arith;
  clients = omega arith;
  parked = omega arith;
  batches = omega arith;
  journal = omega arith;
  reads = omega arith;
  ids = omega arith;
  time = omega arith;
}
