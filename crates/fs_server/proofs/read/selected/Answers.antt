use Rattle.std.proofs.Common.{◌≡◌, List, [], ◌∷◌, None, map, refl, sym, ap, ◌∙◌}
use Rattle.fs_value.specs.declared.document.Document.{Document}
use Rattle.fs_machine.specs.Read.{masked}
use Rattle.fs_server.proofs.read.selected.Goals as goal

all_fields : (ds : List Document) → ds ≡ map (masked None) ds
all_fields [] = refl
all_fields (d ∷ ds) = ap (λ rest. d ∷ rest) (all_fields ds)

pub returns-in-None : goal.returns-in-None
returns-in-None c = all_fields c.args.found ∙ ap (λ select. map (masked select) c.args.found) (sym c.in-None.is)
