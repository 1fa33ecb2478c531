use Rattle.std.specs.Ordering.{nat_cmp}
use Rattle.std.proofs.Common.{rules}
use Rattle.std.proofs.lemmas.Fn.{always_returns_same}
use Rattle.fs_target.proofs.Entries.{searched}
use Rattle.fs_target.specs.declared.entry.Entry.{Entry}
use Rattle.fs_target.proofs.entry.place_of.Goals as goal

pub returns : goal.returns
returns c =
    let ties = c.binary_search_by.ensures.position (λ (e : Entry). nat_cmp e.id c.args.id) (always_returns_same _ _ _ (λ a r f called. search rules)) in
    searched c.args.id c.args.entries.now c.binary_search_by.result c.requires c.binary_search_by.ensures.bound ties
