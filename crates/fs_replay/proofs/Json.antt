-- Which lines are JSON.
use Rattle.std.proofs.Common.{◌≡◌, ℕ, Bool, true, false, List, Some, None, cond, refl, sym, ap, ◌∙◌}
use Rattle.std.proofs.lemmas.Str.{IsUtf8-from_is_utf8, is_utf8-from_IsUtf8}
use Rattle.std.specs.Str.{IsUtf8, is_utf8}
use Rattle.serde_json.specs.Data.{Data}
use Rattle.serde_json.specs.Read.{read}
use Rattle.fs_replay.specs.Line.{json_of}

pub json_found : (bytes : List ℕ) (d : Data) → IsUtf8 bytes → read bytes ≡ Some d → Some d ≡ json_of bytes
json_found bytes d text is = sym (ap (λ b. cond b (read bytes) None) (is_utf8-from_IsUtf8 bytes text) ∙ is)

missing_at : (bytes : List ℕ) (b : Bool) → is_utf8 bytes ≡ b → (IsUtf8 bytes → read bytes ≡ None) → None ≡ cond b (read bytes) None
missing_at bytes true text none = sym (none (IsUtf8-from_is_utf8 bytes text))
missing_at bytes false text none = refl

pub json_missing : (bytes : List ℕ) → (IsUtf8 bytes → read bytes ≡ None) → None ≡ json_of bytes
json_missing bytes none = missing_at bytes (is_utf8 bytes) refl none
