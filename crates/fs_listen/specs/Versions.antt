-- Which version of a name a message tells of: the time at which the document that it shows was last updated, or at which none is there.
-- That a document left a view tells of no version, since it may stand as it was.
--
--     c/a {n: 1}, updated at 4     4
--     c/a is deleted, at 6         6
--     c/a {n: 2}, updated at 7     7
use Rattle.std.specs.Prelude.{ℤ, List, Option, Some, None, if◌then◌else◌}
use Rattle.std.specs.List.{filter_map}
use Rattle.fs_path.specs.NameOrder.{name_eq}
use Rattle.fs_path.specs.declared.name.DocName.{DocName}
use Rattle.fs_query.specs.declared.listen.ListenMessage.{ListenMessage}
use Rattle.fs_query.specs.declared.listen.ListenMessage.TheVariants as message

abbrev pub version_in : DocName → ListenMessage → Option ℤ
version_in name (message.Changed d ids left) = if name_eq name d.name then Some d.updated else None
version_in name (message.Deleted other time left) = if name_eq name other then Some time else None
version_in name (message.Removed other time left) = None
version_in name (message.Add ids) = None
version_in name (message.Remove ids cause) = None
version_in name (message.Reset ids) = None
version_in name (message.Current ids time token) = None
version_in name (message.NoChange time token) = None

abbrev pub versions_told : DocName → List ListenMessage → List ℤ
versions_told name ms = filter_map (version_in name) ms
