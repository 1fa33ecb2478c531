-- The refusal for a reason.
use Rattle.std.specs.Prelude.{ℕ, List, Some, None}
use Rattle.fs_status.specs.declared.reason.Reason.{Reason}
use Rattle.fs_status.specs.declared.reason.Reason.TheVariants.{AtLimit, Conflict}
use Rattle.fs_status.specs.declared.refusal.Refusal.{Refusal}
use Rattle.fs_status.specs.Reason.{code_of, index_of}

-- with the reason's status, the write that it names, and nothing else
abbrev pub refusal_of : Reason → Refusal
refusal_of reason = record { code = code_of reason; reason = reason; index = index_of reason; conflict = None; limit = None }

-- a request that would pass a limit: its refusal names the limit too
abbrev pub at_limit : List ℕ → ℕ → Refusal
at_limit name number = record {
  code = code_of (AtLimit name number);
  reason = AtLimit name number;
  index = None;
  conflict = None;
  limit = Some (record { name = name; number = number });
}

-- a transaction that is aborted: its refusal names what it conflicts with too
abbrev pub conflict_with : ℕ → Refusal
conflict_with id = record { code = code_of (Conflict id); reason = Conflict id; index = None; conflict = Some id; limit = None }
