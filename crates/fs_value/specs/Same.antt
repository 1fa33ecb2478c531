-- Whether fields, and whole documents, are the same: no part of one differs from that part of the other.
--
--     c/a {n: 1}, created at 3, updated at 5      c/a {n: 1}, created at 3, updated at 5      the same
--                                                 c/a {n: 1}, created at 6, updated at 6      not: it was deleted and created anew
use Rattle.std.specs.Prelude.{ℕ, Bool, ◌&&◌, List}
use Rattle.std.specs.Ordering.{is_eq, int_cmp}
use Rattle.fs_path.specs.NameOrder.{name_eq}
use Rattle.fs_value.specs.Data.{Data, members_of}
use Rattle.fs_value.specs.ValueOrder.{members_cmp}
use Rattle.fs_value.specs.declared.document.Document.{Document}

abbrev pub same_fields : List (List ℕ × Data) → List (List ℕ × Data) → Bool
same_fields a b = is_eq (members_cmp (members_of a) (members_of b))

abbrev pub same_document : Document → Document → Bool
same_document a b =
    name_eq a.name b.name && (same_fields a.fields b.fields && (is_eq (int_cmp a.created b.created) && is_eq (int_cmp a.updated b.updated)))
