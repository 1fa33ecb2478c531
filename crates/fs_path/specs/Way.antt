-- The place that a way leads to.
use Rattle.std.specs.Prelude.{ℕ, List}
use Rattle.fs_path.specs.Place.{member_place, item_place}
use Rattle.fs_path.specs.declared.way.Way.{Way, Method, Member', Item'}

abbrev pub place_of : Way → List ℕ
place_of (Method name) = name.now
place_of (Member' p before name) = member_place (place_of before) name.now
place_of (Item' p before i) = item_place (place_of before) i
