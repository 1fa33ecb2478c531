use Rattle.std.proofs.Common.{◌≡◌, ◌∙◌, string_bytes, sym, ap, rules}
use Rattle.serde_json.specs.Data.{string}
use Rattle.serde_json.specs.View.{view as json}
use Rattle.serde_json.specs.declared.value.Value.{String, the_lemmas}
use Rattle.fs_time.specs.Rfc3339.{time_of}
use Rattle.fs_json.specs.Time.{moment_at, time_at}
use Rattle.fs_json.proofs.times.write_time.Goals as goal

pub returns-clause-reads_back : goal.returns-clause-reads_back
returns-clause-reads_back c = λ place.
    let seen : json (String c.in_ok-print.field-0) ≡ string (string_bytes c.in_ok-print.field-0) = search (rules, the_lemmas) in
    ap (λ d. time_at d place) seen ∙ ap (moment_at place) c.in_ok-print.ensures.again

pub returns-clause-held : goal.returns-clause-held
returns-clause-held c = λ place. ap (moment_at place) (ap time_of (sym c.in_ok-print.ensures.text) ∙ c.in_ok-print.ensures.again)
