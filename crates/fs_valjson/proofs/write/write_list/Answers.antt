use Rattle.std.proofs.Common.{ap, ◌∙◌}
use Rattle.serde_json.specs.Data.{array}
use Rattle.serde_json.specs.Written.{has_float}
use Rattle.serde_json.proofs.Views.{view-Array}
use Rattle.fs_valjson.specs.Reading.{list_at}
use Rattle.fs_valjson.proofs.Again.{list_again}
use Rattle.fs_valjson.proofs.Floats.{list_float}
use Rattle.fs_valjson.proofs.write.write_list.Goals as goal

pub returns-clause-value : goal.returns-clause-value
returns-clause-value c = view-Array c.in_ok-write_items.field-0 ∙ ap array c.in_ok-write_items.ensures.value

pub returns-clause-no_float : goal.returns-clause-no_float
returns-clause-no_float c = ap has_float (returns-clause-value c) ∙ list_float c.args.values.now

pub returns-clause-reads_back : goal.returns-clause-reads_back
returns-clause-reads_back c = λ place names.
    ap (λ d. list_at d place) (returns-clause-value c) ∙ list_again c.args.values.now place c.in_ok-write_items.ensures.held names
