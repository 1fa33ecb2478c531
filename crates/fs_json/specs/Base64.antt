-- Bytes in JSON: base64 in the standard or the URL alphabet, with padding or without (proto3 JSON: `bytes`).
use Rattle.std.specs.Prelude.{◌≡◌, ◌⊎◌, ℕ, List, Option, option_and_then}
use Rattle.std.specs.Option.{option_or}
use Rattle.base64.specs.Engines.{standard, standard_no_pad, url_safe, url_safe_no_pad}
use Rattle.base64.specs.GeneralPurpose.{decoded_of, encode_of}
use Rattle.serde_json.specs.Data.{Data, string}
use Rattle.serde_json.specs.Find.{as_str}

-- a text is the base64 of these bytes, in the standard or the URL alphabet, with padding or without. Each form has
-- zeros in the bits after the last byte, and all of its padding or none.
abbrev pub IsBase64 : List ℕ → List ℕ → Type 0
IsBase64 text b =
    (text ≡ encode_of standard b) ⊎ ((text ≡ encode_of standard_no_pad b) ⊎ ((text ≡ encode_of url_safe b) ⊎ (text ≡ encode_of url_safe_no_pad b)))

-- the bytes that a text is the base64 of
unfoldable pub decoded : List ℕ → Option (List ℕ)
decoded text = option_or (decoded_of standard text) (option_or (decoded_of standard_no_pad text)
    (option_or (decoded_of url_safe text) (decoded_of url_safe_no_pad text)))

abbrev pub bytes_of : Data → Option (List ℕ)
bytes_of d = option_and_then decoded (as_str d)

-- bytes as they are written: in the standard alphabet, with padding
abbrev pub bytes_json : List ℕ → Data
bytes_json b = string (encode_of standard b)
