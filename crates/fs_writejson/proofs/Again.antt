-- What is written of a write is read as the same write.
use Rattle.std.proofs.Common.{◌≡◌, ℕ, ◌+◌, Bool, true, List, [], ◌∷◌, map, None, Ok, codes, refl, ap, ◌∙◌}
use Rattle.std.specs.List.{AllByRecursion}
use Rattle.fs_path.specs.Place.{member_place, item_place}
use Rattle.fs_path.specs.Document.{document_text, IsDocumentOf}
use Rattle.fs_path.specs.declared.field.FieldPath.{FieldPath}
use Rattle.fs_path.specs.declared.name.Root.{Root}
use Rattle.serde_json.specs.Data as json
use Rattle.fs_value.specs.Data.{items_of, members_of}
use Rattle.fs_json.proofs.FieldPaths.{path_again}
use Rattle.fs_json.specs.Answer.{◌>>=◌}
use Rattle.fs_json.specs.Paths.{document_name_at, field_path_at, IsPathHeld}
use Rattle.fs_json.specs.Time.{time_at, time_json}
use Rattle.fs_valjson.specs.Document.{document_at, untimed, update_json}
use Rattle.fs_valjson.specs.Writing.{ItemsHaveNames, MembersHaveNames}
use Rattle.fs_write.specs.Rules.{input, operand}
use Rattle.fs_write.specs.WrittenName.{act_name}
use Rattle.fs_write.specs.declared.transform.Operation.{Operation}
use Rattle.fs_write.specs.declared.transform.Operation.TheVariants.{RequestTime, Increment, Maximum, Minimum, AppendMissing, RemoveAll}
use Rattle.fs_write.specs.declared.transform.Transform.{Transform}
use Rattle.fs_write.specs.declared.write.Act.{Act}
use Rattle.fs_write.specs.declared.write.Act.TheVariants.{Set, Merge, Delete}
use Rattle.fs_write.specs.declared.write.Precondition.{Precondition}
use Rattle.fs_write.specs.declared.write.Precondition.TheVariants as condition
use Rattle.fs_write.specs.declared.write.Write.{Write}
use Rattle.fs_writejson.specs.Held.{IsOperationHeld, IsTransformHeld, IsActHeld, IsConditionHeld}
use Rattle.fs_writejson.specs.Mask.{mask_at, mask_json, paths_json}
use Rattle.fs_writejson.specs.Transform.{together, transform_at, transform_json, transforms_at, transforms_json}
use Rattle.fs_writejson.specs.Valid.{HasNames, IsWriteOf}
use Rattle.fs_json.specs.Walk.{each_at}
use Rattle.fs_writejson.specs.Draft.{draft_at}
use Rattle.fs_writejson.specs.Rules.{permitted_at, unless_broken, write_at}
use Rattle.fs_writejson.specs.Written.{write_json}
use Rattle.fs_writejson.specs.declared.draft.Draft.{Draft}
use Rattle.fs_writejson.proofs.Least.{no_rule}

-- ---- masks

paths_again : (ps : List FieldPath) (i : ℕ) (place : List ℕ) → AllByRecursion IsPathHeld ps → each_at field_path_at (paths_json ps) i place ≡ Ok ps
paths_again [] i place held = refl
paths_again (p ∷ ps) i place held = rw (path_again p (item_place place i) held.0, paths_again ps (i + 1) place held.1) refl

pub mask_again : (ps : List FieldPath) (place : List ℕ) → AllByRecursion IsPathHeld ps → mask_at (mask_json ps) place ≡ Ok ps
mask_again [] place held = refl
mask_again (p ∷ ps) place held = paths_again (p ∷ ps) 0 (member_place place (codes "fieldPaths")) held

-- ---- transforms

one_again : (path : FieldPath) (o : Operation) (place : List ℕ) → IsPathHeld path → IsOperationHeld o → ItemsHaveNames (items_of (operand o))
    → transform_at (transform_json (record { path = path; operation = o })) place ≡ Ok (record { path = path; operation = o }, true)
unfolding transform_at
one_again path RequestTime place held done names = rw (path_again path (member_place place (codes "fieldPath")) held, done (member_place place (codes "setToServerValue")) names) refl
one_again path (Increment n) place held done names = rw (path_again path (member_place place (codes "fieldPath")) held, done (member_place place (codes "increment")) names) refl
one_again path (Maximum n) place held done names = rw (path_again path (member_place place (codes "fieldPath")) held, done (member_place place (codes "maximum")) names) refl
one_again path (Minimum n) place held done names = rw (path_again path (member_place place (codes "fieldPath")) held, done (member_place place (codes "minimum")) names) refl
one_again path (AppendMissing []) place held done names = rw (path_again path (member_place place (codes "fieldPath")) held, done (member_place place (codes "appendMissingElements")) names) refl
one_again path (AppendMissing (d ∷ ds)) place held done names = rw (path_again path (member_place place (codes "fieldPath")) held, done (member_place place (codes "appendMissingElements")) names) refl
one_again path (RemoveAll []) place held done names = rw (path_again path (member_place place (codes "fieldPath")) held, done (member_place place (codes "removeAllFromArray")) names) refl
one_again path (RemoveAll (d ∷ ds)) place held done names = rw (path_again path (member_place place (codes "fieldPath")) held, done (member_place place (codes "removeAllFromArray")) names) refl

-- each has an integer where it wants one
abbrev numeric : Transform → Transform × Bool
numeric t = (t, true)

each_again : (ts : List Transform) (i : ℕ) (place : List ℕ) → AllByRecursion IsTransformHeld ts → AllByRecursion HasNames ts
    → each_at transform_at (transforms_json ts) i place ≡ Ok (map numeric ts)
each_again [] i place held names = refl
each_again (t ∷ ts) i place held names = rw (one_again t.path t.operation (item_place place i) held.0.0 held.0.1 names.0, each_again ts (i + 1) place held.1 names.1) refl

together_again : (ts : List Transform) → together (map numeric ts) ≡ (ts, true)
together_again [] = refl
together_again (t ∷ ts) = ap (λ r. (t ∷ r.0, r.1)) (together_again ts)

transforms_again : (ts : List Transform) (place : List ℕ) → AllByRecursion IsTransformHeld ts → AllByRecursion HasNames ts
    → transforms_at (json.array (transforms_json ts)) place ≡ Ok (ts, true)
unfolding transforms_at
transforms_again ts place held names = ap (λ r. r >>= λ xs. Ok (together xs)) (each_again ts 0 place held names) ∙ ap Ok (together_again ts)

-- ---- writes

-- the parts of a write are read back where they stand in it
abbrev IsActRead : Root → List ℕ → Act → Type 0
IsActRead root place (Set name fields) = document_at root (update_json name fields) (member_place place (codes "update")) ≡ Ok (untimed name fields)
IsActRead root place (Merge name fields mask) =
    (document_at root (update_json name fields) (member_place place (codes "update")) ≡ Ok (untimed name fields))
    × (mask_at (mask_json mask) (member_place place (codes "updateMask")) ≡ Ok mask)
IsActRead root place (Delete name) = document_name_at root (json.string (document_text name)) (member_place place (codes "delete")) ≡ Ok name

abbrev AreTransformsRead : List ℕ → List Transform → Type 0
AreTransformsRead place ts = transforms_at (json.array (transforms_json ts)) (member_place place (codes "updateTransforms")) ≡ Ok (ts, true)

abbrev IsConditionRead : List ℕ → Precondition → Type 0
IsConditionRead place (condition.UpdateTime time) = time_at (time_json time) (member_place (member_place place (codes "currentDocument")) (codes "updateTime")) ≡ Ok time
IsConditionRead place _ = Unit {0}

-- a write as it is walked
abbrev drafted : Act → List Transform → Precondition → Draft
drafted act ts c = record { write = record { act = act; transforms = ts; condition = c }; idle_mask = None; is_numeric = true }

draft_again : (root : Root) (place : List ℕ) (act : Act) (ts : List Transform) (c : Precondition) → IsActRead root place act → AreTransformsRead place ts → IsConditionRead place c
    → draft_at root (write_json (record { act = act; transforms = ts; condition = c })) place ≡ Ok (drafted act ts c)
unfolding draft_at write_json update_json
draft_again root place (Set name fields) [] condition.None a t u = rw a refl
draft_again root place (Set name fields) [] (condition.Exists there) a t u = rw a refl
draft_again root place (Set name fields) [] (condition.UpdateTime time) a t u = rw (a, u) refl
draft_again root place (Set name fields) (x ∷ ts) condition.None a t u = rw (a, t) refl
draft_again root place (Set name fields) (x ∷ ts) (condition.Exists there) a t u = rw (a, t) refl
draft_again root place (Set name fields) (x ∷ ts) (condition.UpdateTime time) a t u = rw (a, t, u) refl
draft_again root place (Merge name fields mask) [] condition.None a t u = rw (a.0, a.1) refl
draft_again root place (Merge name fields mask) [] (condition.Exists there) a t u = rw (a.0, a.1) refl
draft_again root place (Merge name fields mask) [] (condition.UpdateTime time) a t u = rw (a.0, a.1, u) refl
draft_again root place (Merge name fields mask) (x ∷ ts) condition.None a t u = rw (a.0, a.1, t) refl
draft_again root place (Merge name fields mask) (x ∷ ts) (condition.Exists there) a t u = rw (a.0, a.1, t) refl
draft_again root place (Merge name fields mask) (x ∷ ts) (condition.UpdateTime time) a t u = rw (a.0, a.1, t, u) refl
draft_again root place (Delete name) [] condition.None a t u = rw a refl
draft_again root place (Delete name) [] (condition.Exists there) a t u = rw a refl
draft_again root place (Delete name) [] (condition.UpdateTime time) a t u = rw (a, u) refl
draft_again root place (Delete name) (x ∷ ts) condition.None a t u = rw (a, t) refl
draft_again root place (Delete name) (x ∷ ts) (condition.Exists there) a t u = rw (a, t) refl
draft_again root place (Delete name) (x ∷ ts) (condition.UpdateTime time) a t u = rw (a, t, u) refl

act_read : (root : Root) (place : List ℕ) (act : Act) → IsActHeld act → IsDocumentOf root (act_name act) → MembersHaveNames (members_of (input act)) → IsActRead root place act
act_read root place (Set name fields) held named names = held root (member_place place (codes "update")) named names
act_read root place (Merge name fields mask) held named names = (held.0 root (member_place place (codes "update")) named names, held.1 (member_place place (codes "updateMask")))
act_read root place (Delete name) held named names = held root (member_place place (codes "delete")) named

condition_read : (place : List ℕ) (c : Precondition) → IsConditionHeld c → IsConditionRead place c
condition_read place condition.None held = tt
condition_read place (condition.Exists there) held = tt
condition_read place (condition.UpdateTime time) held = held (member_place (member_place place (codes "currentDocument")) (codes "updateTime"))

pub write_again : (root : Root) (place : List ℕ) (w : Write) → IsActHeld w.act → AllByRecursion IsTransformHeld w.transforms → IsConditionHeld w.condition
    → IsWriteOf root w → write_at root (write_json w) place ≡ Ok w
write_again root place w act transforms condition valid =
    let draft = draft_again root place w.act w.transforms w.condition (act_read root place w.act act valid.named valid.fields)
    (transforms_again w.transforms (member_place place (codes "updateTransforms")) transforms valid.elements) (condition_read place w.condition condition) in
    ap (λ r. r >>= λ d. permitted_at d place) draft ∙ ap (λ rule. unless_broken rule place (Ok w)) (no_rule w valid.allowed)
