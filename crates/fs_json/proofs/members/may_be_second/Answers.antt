use Rattle.std.proofs.Common.{sym, ◌∙◌, ap}
use Rattle.fs_json.proofs.Spellings.{has_low_line, none_second, on_false}
use Rattle.fs_json.proofs.members.may_be_second.Goals as goal

pub returns : goal.returns
returns c =
    on_false c.contains.result (λ none. λ names all.
    none_second names all c.args.key.now (ap has_low_line (sym c.as_bytes.ensures.value) ∙ sym c.contains.ensures.value ∙ none))
