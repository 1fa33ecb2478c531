use Rattle.std.proofs.Common.{◌≡◌, rules}
use Rattle.std.specs.Ordering.{is_lt}
use Rattle.std.proofs.lemmas.Fn.{always_returns_same}
use Rattle.std.proofs.lemmas.List.Sorted.{All-permutation, IsPermutation-map, ranks_by}
use Rattle.fs_query.specs.Found.{IsKeyed, keyed_cmp}
use Rattle.fs_query.proofs.Keyed.{keyed_total, keyed_sorted}
use Rattle.fs_query.proofs.found.sort_found.Goals as goal

pub returns-clause-same : goal.returns-clause-same
returns-clause-same c = IsPermutation-map (λ f. f.document.now) c.args.found.now.items c.sort_by.new.self.items c.sort_by.ensures.permutation

pub returns-clause-keyed : goal.returns-clause-keyed
returns-clause-keyed c = All-permutation (IsKeyed c.args.orders.now) c.args.found.now.items c.sort_by.new.self.items c.sort_by.ensures.permutation c.requires

pub returns-clause-rise : goal.returns-clause-rise
returns-clause-rise c =
    let os = c.args.orders.now in
    let all = All-permutation (IsKeyed os) c.args.found.now.items c.sort_by.new.self.items c.sort_by.ensures.permutation c.requires in
    keyed_sorted os c.sort_by.new.self.items all
    (c.in_ok-sort_by.ensures.sorted (λ a b. is_lt (keyed_cmp os a b)) (ranks_by (keyed_total os) (λ a. a)) (always_returns_same _ (λ a r. is_lt r ≡ is_lt (keyed_cmp os a.0.now a.1.0.now)) _ (λ a r f' called. search rules)))
