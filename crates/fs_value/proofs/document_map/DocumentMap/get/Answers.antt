use Rattle.std.proofs.Common.{◌≡◌, ap, sym, ◌∙◌, subst, Bor}
use Rattle.std.specs.Prelude.{Option, Some, None, IfSome, option_copied}
use Rattle.std.specs.FinMap.{get}
use Rattle.fs_path.specs.NameOrder.{name_cmp_total}
use Rattle.fs_value.specs.declared.document.Document.{Document}
use Rattle.fs_value.proofs.Named.{found_named}
use Rattle.fs_value.proofs.Tree.{get_tree}
use Rattle.fs_value.proofs.document_map.DocumentMap.get.Goals as goal

of_lent : (P : Document → Type 0) (found : Option (Bor Document)) → IfSome (option_copied found) P → IfSome found (λ d. P d.now)
of_lent P None holds = tt
of_lent P (Some d) holds = holds

pub returns-clause-value : goal.returns-clause-value
returns-clause-value c = c.get.ensures.value ∙ get_tree name_cmp_total c.self.inside.documents.entries c.args.name.now ∙ ap (λ m. get m c.args.name.now) c.self.view_is

pub returns-clause-named : goal.returns-clause-named
returns-clause-named c =
    of_lent (λ d. d.name ≡ c.args.name.now) c.get.result
    (subst (λ found. IfSome found (λ d. d.name ≡ c.args.name.now)) (sym c.get.ensures.value) (found_named c.self.inside.documents.entries c.args.name.now c.self.invariant))
