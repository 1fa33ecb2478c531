use Rattle.std.proofs.Common.{◌≡◌, ℕ, pos, false, List, None, Result, Ok, Err, IfOk, OnOk, sym, ap, ◌∙◌}
use Rattle.serde_json.specs.View.{view as json}
use Rattle.serde_json.specs.Written.{has_float}
use Rattle.serde_json.specs.declared.value.Value.{Value}
use Rattle.fs_query.specs.Asked.{Asked}
use Rattle.fs_path.specs.Scope.{scope_parent}
use Rattle.fs_queryjson.specs.Query.{listened_at, query_at}
use Rattle.fs_queryjson.specs.Valid.{IsValid}
use Rattle.fs_queryjson.specs.Written.{query_json}
use Rattle.fs_rpc.specs.RequestSteps.{IsQueryHeld}
use Rattle.fs_rpc.proofs.request_write.query_value.Goals as goal

-- what is written of a query is its JSON, so that has no float and is read back
held : {E : Type 0} (r : Result Value E) (q : Asked) → IfOk r (λ v. json v ≡ query_json q) → IfOk r (λ v. has_float (json v) ≡ false)
    → IfOk r (λ v. (place : List ℕ) → IsValid q → query_at (scope_parent q.scope) (json v) place ≡ Ok q)
    → IfOk r (λ v. (place : List ℕ) → IsValid q → (q.select ≡ None) × (q.offset ≡ pos 0) → listened_at (scope_parent q.scope) (json v) place ≡ Ok q) → OnOk r (IsQueryHeld q)
held (Ok v) q is none again listened = record {
  float = ap has_float (sym is) ∙ none;
  again = λ place valid. ap (λ d. query_at (scope_parent q.scope) d place) (sym is) ∙ again place valid;
  listened = λ place valid nothing. ap (λ d. listened_at (scope_parent q.scope) d place) (sym is) ∙ listened place valid nothing;
}
held (Err e) q is none again listened = record {}

pub returns-clause-held : goal.returns-clause-held
returns-clause-held c = held c.write_query.result c.args.query.now c.write_query.ensures.value c.write_query.ensures.no_float c.write_query.ensures.reads_back c.write_query.ensures.listened
