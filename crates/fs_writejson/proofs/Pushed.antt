-- The tokens of a result of a write, as they are written one after another.
use Rattle.std.proofs.Common.{◌≡◌, List, [], ◌∷◌, ◌++◌, codes, refl, sym, ap}
use Rattle.std.proofs.lemmas.List.{append-nil}
use Rattle.json.specs.Token.{key}
use Rattle.serde_json.specs.Data as json
use Rattle.fs_value.specs.Data.{Data}
use Rattle.fs_valjson.specs.Tokens.{member_tokens, tokens_of}
use Rattle.fs_valjson.specs.Writing.{list_json}
use Rattle.fs_writejson.specs.Results.{with_results}

-- results of transforms, before what stands behind them
pub transforms_first : (ds : List Data) (rest : json.Members) → member_tokens (with_results ds json.no_members) ++ member_tokens rest ≡ member_tokens (with_results ds rest)
transforms_first [] rest = refl
transforms_first (d ∷ ds) rest = ap (λ ts. key (codes "transformResults") ∷ (ts ++ member_tokens rest)) (append-nil (tokens_of (list_json (d ∷ ds))))

pub some_transforms : (ds : List Data) → (ds ≡ [] → ⊥) → key (codes "transformResults") ∷ tokens_of (list_json ds) ≡ member_tokens (with_results ds json.no_members)
some_transforms [] some = absurd (some refl)
some_transforms (d ∷ ds) some = sym (append-nil (key (codes "transformResults") ∷ tokens_of (list_json (d ∷ ds))))
