use Rattle.std.proofs.Common.{◌≡◌, ap, ◌∙◌}
use Rattle.serde_json.specs.Data.{no_members, object}
use Rattle.serde_json.specs.View.{members_view}
use Rattle.serde_json.specs.Written.{has_float}
use Rattle.serde_json.proofs.Views.{view-Object}
use Rattle.fs_writejson.specs.Rules.{write_at}
use Rattle.fs_writejson.specs.Written.{write_json}
use Rattle.fs_writejson.proofs.Again.{write_again}
use Rattle.fs_writejson.proofs.Floats.{write_float}
use Rattle.fs_writejson.proofs.Put.{write_put}
use Rattle.fs_writejson.proofs.write.write_write.Goals as goal

pub returns-clause-value : goal.returns-clause-value
unfolding write_json
returns-clause-value c =
    let w = c.args.write.now in
    let none : members_view c.new-members.result.entries ≡ no_members = ap members_view c.new-members.ensures.empty in
    view-Object c.put_condition.new.members ∙ rw (c.in_ok-put_condition.ensures.value, c.in_ok-put_transforms.ensures.value, c.in_ok-put_act.ensures.value, none)
    (ap object (write_put w.act w.transforms w.condition))

pub returns-clause-no_float : goal.returns-clause-no_float
returns-clause-no_float c = ap has_float (returns-clause-value c) ∙ write_float c.args.write.now

pub returns-clause-reads_back : goal.returns-clause-reads_back
returns-clause-reads_back c = λ root place valid.
    ap (λ d. write_at root d place) (returns-clause-value c)
    ∙ write_again root place c.args.write.now c.in_ok-put_act.ensures.held c.in_ok-put_transforms.ensures.held c.in_ok-put_condition.ensures.held valid
