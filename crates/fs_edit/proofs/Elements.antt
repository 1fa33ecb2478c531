-- The elements of an array, as a list.
use Rattle.std.proofs.Common.{◌≡◌, List}
use Rattle.std.specs.Prelude.{Some}
use Rattle.fs_value.specs.Data.{Data, array, items_of}
use Rattle.fs_value.specs.DataLaws.{list_of-items_of}
use Rattle.fs_edit.specs.Arrays.{elements_in}

pub array_elements : (ds : List Data) → elements_in (Some (array (items_of ds))) ≡ ds
array_elements ds = list_of-items_of ds
