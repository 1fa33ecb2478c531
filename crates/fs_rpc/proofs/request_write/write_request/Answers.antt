use Rattle.std.proofs.Common.{◌≡◌, ◌≤◌, [], Some, string_bytes, sym, ap, subst, ◌∙◌}
use Rattle.serde_json.specs.Data.{depth, object}
use Rattle.serde_json.specs.Read.{max_depth, read}
use Rattle.serde_json.specs.View.{view as json}
use Rattle.serde_json.specs.Written.{compact_text, has_float}
use Rattle.serde_json.specs.declared.value.Value.{Object}
use Rattle.serde_json.proofs.Views.{view-Object}
use Rattle.fs_path.specs.declared.place.Rule.TheVariants.{G}
use Rattle.fs_json.specs.Answer.{or_fault, ◌>>=◌}
use Rattle.fs_rpc.specs.Envelope.{envelope_at, request_of}
use Rattle.fs_rpc.specs.RequestJson.{envelope_json}
use Rattle.fs_rpc.proofs.RequestAgain.{envelope_again}
use Rattle.fs_rpc.proofs.RequestFloats.{envelope_float}
use Rattle.fs_rpc.proofs.request_write.write_request.Goals as goal

pub returns-clause-text : goal.returns-clause-text
returns-clause-text c =
    let e = c.args.e.now in
    let seen : json (Object c.in_ok-members.members) ≡ envelope_json e = view-Object c.in_ok-members.members ∙ ap object c.in_ok-members.ensures.value in
    c.of.ensures ∙ c.in_ok-text.ensures.text (ap has_float seen ∙ envelope_float e c.in_ok-members.ensures.held) ∙ ap compact_text seen

pub returns-clause-again : goal.returns-clause-again
returns-clause-again c = λ root valid shallow.
    let e = c.args.e.now in
    let seen : json (Object c.in_ok-members.members) ≡ envelope_json e = view-Object c.in_ok-members.members ∙ ap object c.in_ok-members.ensures.value in
    let nests = subst (λ d. depth d ≤ max_depth) (sym seen) shallow in
    let again : read (string_bytes c.in_ok-text.text) ≡ Some (envelope_json e) = c.in_ok-text.ensures.reads_back nests ∙ ap Some seen in
    ap (request_of root) c.of.ensures ∙ ap (λ o. or_fault G [] o >>= envelope_at root) again
    ∙ envelope_again root e c.in_ok-members.ensures.held valid
