use Rattle.std.proofs.Common.{◌≡◌, [], sym, ap, ◌∙◌, true≢false}
use Rattle.serde_json.specs.Data.{no_members}
use Rattle.serde_json.specs.View.{members_view}
use Rattle.fs_valjson.specs.Reading.{list_at}
use Rattle.fs_queryjson.proofs.Put.{values_put}
use Rattle.fs_queryjson.proofs.write_parts.write_values.Goals as goal

pub returns-clause-value : goal.returns-clause-value
returns-clause-value c =
    let ds = c.args.values.now in
    let none : members_view c.new-members.result.entries ≡ no_members = ap members_view c.new-members.ensures.empty in
    let some : ds ≡ [] → ⊥ = λ empty. true≢false (sym (c.is_empty.ensures.1 empty) ∙ c.if-is_empty.false) in
    c.in_ok-put.ensures.ok ∙ rw (none, c.in_ok-written.ensures.value) (values_put ds some)

pub returns-clause-held : goal.returns-clause-held
returns-clause-held c = λ place names. ap (λ d. list_at d place) (sym c.in_ok-written.ensures.value) ∙ c.in_ok-written.ensures.reads_back place names
