-- Names of fields. (Cloud Firestore documentation, "Usage and limits": constraints on field names.)
use Rattle.std.specs.Prelude.{ℕ, Bool, false, ◌&&◌, ◌||◌, List, [], ◌∷◌, length, ◌==◌, nat_le, nat_lt}
use Rattle.std.specs.List.{list_all}
use Rattle.fs_path.specs.Limits.{max_field_name}
use Rattle.fs_path.specs.Segment.{is_empty, is_reserved}

-- a to z, A to Z and the underscore
abbrev pub is_name_start : ℕ → Bool
is_name_start b = (nat_le 97 b && nat_le b 122) || (nat_le 65 b && nat_le b 90) || b == 95

-- these and the digits
abbrev pub is_name_byte : ℕ → Bool
is_name_byte b = is_name_start b || (nat_le 48 b && nat_le b 57)

-- a name that needs no backquotes
abbrev pub is_simple : List ℕ → Bool
is_simple [] = false
is_simple (b ∷ bs) = is_name_start b && list_all is_name_byte bs

-- a name that no document may have: empty, too long, or kept by Firestore for itself
abbrev pub is_bad_name : List ℕ → Bool
is_bad_name name = is_empty name || nat_lt max_field_name (length name) || is_reserved name
