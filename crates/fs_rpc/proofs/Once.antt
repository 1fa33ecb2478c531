-- Names that are added one after another, each once.
use Rattle.std.proofs.Common.{◌≡◌, Bool, true, false, cond, List, [], ◌∷◌, ◌++◌, Result, Ok, Err, refl, sym, ap, append_assoc}
use Rattle.std.specs.List.{list_any}
use Rattle.indexmap.specs.IndexSet.{insert_key}
use Rattle.fs_path.specs.NameOrder.{name_eq}
use Rattle.fs_path.specs.declared.name.DocName.{DocName}
use Rattle.fs_json.specs.Answer.{◌>>=◌}
use Rattle.fs_json.specs.declared.bad.Bad.{Bad}
use Rattle.fs_rpc.specs.Requests.{once_after}

-- those so far, and then what the rest adds
abbrev pub with_once : List DocName → Result (List DocName) Bad → Result (List DocName) Bad
with_once seen rest = rest >>= λ ns. Ok (seen ++ once_after seen ns)

more_at : (b : Bool) (seen : List DocName) (n : DocName) (ns : List DocName)
    → seen ++ cond b (once_after seen ns) (n ∷ once_after (seen ++ n ∷ []) ns) ≡ cond b seen (seen ++ n ∷ []) ++ once_after (cond b seen (seen ++ n ∷ [])) ns
more_at true seen n ns = refl
more_at false seen n ns = sym (append_assoc seen (n ∷ []) (once_after (seen ++ n ∷ []) ns))

-- one more
pub once_more : (seen : List DocName) (n : DocName) (rest : Result (List DocName) Bad) → with_once seen (rest >>= λ ns. Ok (n ∷ ns)) ≡ with_once (insert_key name_eq seen n) rest
once_more seen n (Ok ns) = ap Ok (more_at (list_any (name_eq n) seen) seen n ns)
once_more seen n (Err bad) = refl
