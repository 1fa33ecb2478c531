use Rattle.std.proofs.Common.{◌≡◌, [], ◌∷◌, Ok, ap, subst, sym}
use Rattle.serde_json.specs.View.{view as json}
use Rattle.fs_json.specs.Answer.{Gives, ◌>>=◌}
use Rattle.fs_json.specs.Members.{only_at, required_at}
use Rattle.fs_path.specs.Way.{place_of}
use Rattle.fs_replay.specs.Forms.{sole_at}
use Rattle.fs_replay.proofs.forms.sole.Goals as goal

pub returns : goal.returns
returns c =
    let name = c.args.name.now in
    let d = json c.args.v.now in
    let top : place_of c.method-top.result ≡ [] = c.method-top.ensures in
    let no_other : only_at (name ∷ []) d [] ≡ Ok tt = subst (λ place. only_at (name ∷ []) d place ≡ Ok tt) top c.in_ok-only.ensures in
    let is : sole_at name d ≡ required_at name d [] = ap (λ r. r >>= λ _. required_at name d []) no_other in
    subst (Gives (λ found. json found.now) c.required.result) (sym is) (subst (λ place. Gives (λ found. json found.now) c.required.result (required_at name d place)) top c.required.ensures)
