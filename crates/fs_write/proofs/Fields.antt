-- What an update leaves of fields.
use Rattle.std.proofs.Common.{◌≡◌, ℕ, ℤ, ◌+◌, ◌<◌, true, false, cond, List, [], ◌∷◌, ◌++◌, length, get_or, take, Option, Some, refl, sym, ap, ◌∙◌}
use Rattle.std.proofs.lemmas.List.{take_more}
use Rattle.fs_path.specs.declared.field.FieldPath.{FieldPath}
use Rattle.fs_path.specs.declared.name.DocName.{DocName}
use Rattle.fs_value.specs.Data.{Data}
use Rattle.fs_value.specs.FieldPaths.{get_fields}
use Rattle.fs_value.specs.declared.document.Document.{Document}
use Rattle.fs_write.specs.OneWrite.{document_left, merged, with_field}
use Rattle.fs_value.specs.Same.{same_fields}

module _ (before : Document) (name : DocName) (fields : List (List ℕ × Data)) (time : ℤ) where
  changed : Document
  changed = record { name = name; fields = fields; created = before.created; updated = time }

  pub left_same : same_fields before.fields fields ≡ true → document_left (Some before) name fields time ≡ before
  unfolding changed
  left_same same = ap (λ b. cond b before changed) same

  pub left_other : same_fields before.fields fields ≡ false → document_left (Some before) name fields time ≡ record { name = name; fields = fields; created = before.created; updated = time }
  unfolding changed
  left_other other = ap (λ b. cond b before changed) other

-- one more path of a mask
pub merged-push : (ps : List FieldPath) (p : FieldPath) (input fields : List (List ℕ × Data))
    → merged (ps ++ p ∷ []) input fields ≡ with_field p.parts (get_fields p.parts input) (merged ps input fields)
merged-push [] p input fields = refl
merged-push (q ∷ ps) p input fields = merged-push ps p input (with_field q.parts (get_fields q.parts input) fields)

-- one step of a walk over a mask
pub merged_more : (mask : List FieldPath) (i : ℕ) (p : FieldPath) (there : Option Data) (input first before after : List (List ℕ × Data))
    → i < length mask → p ≡ get_or mask i p → before ≡ merged (take i mask) input first → there ≡ get_fields p.parts input → after ≡ with_field p.parts there before
    → after ≡ merged (take (i + 1) mask) input first
merged_more mask i p there input first before after within is done found then =
    let one : take (i + 1) mask ≡ take i mask ++ p ∷ [] = take_more mask i p within ∙ ap (λ q. take i mask ++ q ∷ []) (sym is) in
    then
    ∙ (λ j. with_field p.parts (found j) (done j))
    ∙ sym (merged-push (take i mask) p input first)
    ∙ ap (λ ps. merged ps input first) (sym one)
