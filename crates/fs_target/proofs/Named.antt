-- Documents that bear the names of their events.
use Rattle.std.proofs.Common.{◌≡◌, true, List, [], ◌∷◌, Option, Some, None, refl, sym, ap, ◌∙◌}
use Rattle.std.specs.Prelude.{◌&&◌, IfSome}
use Rattle.std.specs.Cmp.{first_so, second_so}
use Rattle.std.specs.List.{AllByRecursion, list_all}
use Rattle.fs_path.specs.NameOrder.{name_eq, name_is, name_itself}
use Rattle.fs_value.specs.declared.document.Document.{Document}
use Rattle.fs_target.specs.Staged.{IsNamed, is_named, match_name}
use Rattle.fs_target.specs.declared.event.TimedEvent.{TimedEvent}

one_named : (e : TimedEvent) → is_named e ≡ true → IsNamed e
one_named e is = by_document e.after is where
  by_document : (o : Option Document) → match_name e.name o ≡ true → IfSome o (λ d. d.name ≡ e.name)
  by_document None same = tt
  by_document (Some d) same = name_is d.name e.name same

one_tells : (e : TimedEvent) → IsNamed e → is_named e ≡ true
one_tells e named = by_document e.after named where
  by_document : (o : Option Document) → IfSome o (λ d. d.name ≡ e.name) → match_name e.name o ≡ true
  by_document None same = refl
  by_document (Some d) same = ap (name_eq d.name) (sym same) ∙ name_itself d.name

pub all_named : (es : List TimedEvent) → list_all is_named es ≡ true → AllByRecursion IsNamed es
all_named [] is = tt
all_named (e ∷ es) is = (one_named e (first_so (is_named e) _ is), all_named es (second_so (is_named e) _ is))

pub all_tell : (es : List TimedEvent) → AllByRecursion IsNamed es → list_all is_named es ≡ true
all_tell [] named = refl
all_tell (e ∷ es) named = λ i. one_tells e named.0 i && all_tell es named.1 i
