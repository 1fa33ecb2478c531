use Rattle.std.proofs.Common.{◌≡◌, Option, Some, None, ◌∙◌, subst, sym, Bor}
use Rattle.std.specs.Prelude.{IfSome, option_copied}
use Rattle.fs_value.specs.declared.document.Document.{Document}
use Rattle.fs_write.specs.Batch.{Bears}
use Rattle.fs_write.proofs.Stages.{get-docs}
use Rattle.fs_queue.proofs.Named.{listed_named}
use Rattle.fs_queue.proofs.shelf.ListedShelf.find.Goals as goal

of_lent : (P : Document → Type 0) (found : Option (Bor Document)) → IfSome (option_copied found) P → IfSome found (λ d. P d.now)
of_lent P None holds = tt
of_lent P (Some d) holds = holds

pub returns-clause-value : goal.returns-clause-value
returns-clause-value c = c.find.ensures ∙ get-docs c.args.self.now.docs.now c.args.name.now c.args.self.now.rise

pub returns-clause-named : goal.returns-clause-named
returns-clause-named c =
    of_lent (λ d. d.name ≡ c.args.name.now) c.find.result
    (subst (λ o. Bears o c.args.name.now) (sym (returns-clause-value c)) (listed_named c.args.self.now.docs.now c.args.self.now.rise c.args.name.now))
