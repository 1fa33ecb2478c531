-- Only private clauses cite this: where a key stands among fields.
use Rattle.std.specs.Prelude.{◌≡◌, ℕ, ◌<◌, ◌≤◌, List, Some, None, length, insert, slice_set, slice_index_or}
use Rattle.std.specs.FinMap.{find, put}
use Rattle.fs_path.specs.TextOrder.{text_cmp}
use Rattle.fs_value.specs.Data.{Data}

-- the key stands at i: that value is found, and a new one goes there
pub record IsFoundAt (key : List ℕ) (fs : List (List ℕ × Data)) (i : ℕ) : Type 0 where
  pub within : i < length fs
  pub found : (f : List ℕ × Data) → find text_cmp key fs ≡ Some (slice_index_or fs i f).1
  pub same : (f : List ℕ × Data) → (slice_index_or fs i f).0 ≡ key
  pub puts : (d : Data) → put text_cmp key d fs ≡ slice_set fs i (key, d)

-- the key isn't there, and is to be inserted at i
pub record IsMissingAt (key : List ℕ) (fs : List (List ℕ × Data)) (i : ℕ) : Type 0 where
  pub within : i ≤ length fs
  pub missing : find text_cmp key fs ≡ None
  pub puts : (d : Data) → put text_cmp key d fs ≡ insert fs i (key, d)
