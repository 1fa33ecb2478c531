-- What is kept of versions from a floor on shows the same from there on, and has the same newest document.
use Rattle.std.proofs.Common.{◌≡◌, ℤ, ◌≤ℤ◌, Bool, true, false, cond, List, [], ◌∷◌, Option, Some, None, refl, sym, ap, ◌∙◌}
use Rattle.std.specs.Prelude.{int_le, is_none}
use Rattle.fs_time.proofs.Tests.{not_after_later}
use Rattle.fs_value.specs.declared.document.Document.{Document}
use Rattle.fs_history.specs.Versions.{newest, shown, base, kept}
use Rattle.fs_history.specs.declared.version.Version.{Version}

shown_base : (t : ℤ) (v : Version) (o : Option Document) → v.after ≡ o → int_le v.time t ≡ true → shown t (cond (is_none o) [] (v ∷ [])) ≡ o
shown_base t v None is within = refl
shown_base t v (Some d) is within = ap (λ c. cond c v.after None) within ∙ is

shown_next : (f t : ℤ) (v : Version) (vs : List Version) (b : Bool) → int_le v.time f ≡ b → f ≤ℤ t → shown t (kept f vs) ≡ shown t vs
    → shown t (cond b (base v) (v ∷ kept f vs)) ≡ shown t (v ∷ vs)
shown_next f t v vs true is within more =
    let here = not_after_later v.time f t is within in
    shown_base t v v.after refl here ∙ sym (ap (λ c. cond c v.after (shown t vs)) here)
shown_next f t v vs false is within more = ap (cond (int_le v.time t) v.after) more

pub shown_kept : (f t : ℤ) (vs : List Version) → f ≤ℤ t → shown t (kept f vs) ≡ shown t vs
shown_kept f t [] within = refl
shown_kept f t (v ∷ vs) within = shown_next f t v vs (int_le v.time f) refl within (shown_kept f t vs within)

newest_base : (v : Version) (o : Option Document) → v.after ≡ o → newest (cond (is_none o) [] (v ∷ [])) ≡ o
newest_base v None is = refl
newest_base v (Some d) is = is

newest_next : (f : ℤ) (v : Version) (vs : List Version) (b : Bool) → newest (cond b (base v) (v ∷ kept f vs)) ≡ v.after
newest_next f v vs true = newest_base v v.after refl
newest_next f v vs false = refl

pub newest_kept : (f : ℤ) (vs : List Version) → newest (kept f vs) ≡ newest vs
newest_kept f [] = refl
newest_kept f (v ∷ vs) = newest_next f v vs (int_le v.time f)
