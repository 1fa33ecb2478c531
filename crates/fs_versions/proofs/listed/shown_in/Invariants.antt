use Rattle.std.proofs.Common.{◌≡◌, ◌++◌, map}
use Rattle.std.specs.List.{filter}
use Rattle.fs_path.specs.Scope.{covers}
use Rattle.fs_versions.specs.Listed.{all_shown}
use Rattle.fs_versions.specs.Sound.{lists_of}
use Rattle.fs_versions.proofs.listed.shown_in.Given as goal

-- the documents so far, and then those of the chains that are left, are the whole
abbrev pub invariant-loop-name : goal.invariant-loop-name
invariant-loop-name l =
    map (λ d. d.now) l.documents.items ++ all_shown l.time (lists_of (filter (λ e. covers l.scope e.0) l.name-iterator))
    ≡ all_shown l.time (lists_of (filter (λ e. covers l.scope e.0) l.initial.name-iterator))
