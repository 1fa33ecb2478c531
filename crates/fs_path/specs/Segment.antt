-- The ids of a path: collection ids and document ids in turn, from the root down.
-- (Cloud Firestore documentation, "Usage and limits": collections, documents, and fields.)
use Rattle.std.specs.Prelude.{◌++◌, ◌≡◌, ℕ, ◌≤◌, Bool, false, ◌&&◌, ◌||◌, List, length, codes, nat_eq, nat_lt, nat_le, ◌==◌}
use Rattle.std.specs.List.{list_any, slice_split, starts_with, ends_with}
use Rattle.fs_path.specs.Limits.{max_id}
use Rattle.fs_path.specs.TextOrder.{text_eq}

-- the parts of a text between its slashes
abbrev pub segments : List ℕ → List (List ℕ)
segments text = slice_split (λ b. b == 47) text

abbrev pub has_slash : List ℕ → Bool
has_slash text = list_any (λ b. b == 47) text

abbrev pub is_empty : List ℕ → Bool
is_empty text = length text == 0

-- it matches `__.*__`
abbrev pub is_reserved : List ℕ → Bool
is_reserved text = nat_le 4 (length text) && starts_with nat_eq text (codes "__") && ends_with nat_eq text (codes "__")

-- two underscores, anything, and two underscores
abbrev pub IsReserved : List ℕ → Type 0
IsReserved text = (middle : List ℕ) × (text ≡ codes "__" ++ (middle ++ codes "__"))

-- `.` or `..`, which stand for places in a path
abbrev pub is_dots : List ℕ → Bool
is_dots text = text_eq text (codes ".") || text_eq text (codes "..")

-- longer than an id may be
abbrev pub is_long : List ℕ → Bool
is_long text = nat_lt max_id (length text)

-- what an id may be
pub record IsId (id : List ℕ) : Type 0 where
  pub some : is_empty id ≡ false
  pub whole : has_slash id ≡ false
  pub free : is_reserved id ≡ false
  pub no_dots : is_dots id ≡ false
  pub short : length id ≤ max_id

-- no collection and no document may have this id
abbrev pub is_bad_id : List ℕ → Bool
is_bad_id id = is_empty id || (has_slash id || (is_reserved id || (is_dots id || is_long id)))
