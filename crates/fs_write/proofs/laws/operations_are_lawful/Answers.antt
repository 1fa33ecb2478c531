use Rattle.std.proofs.Common.{refl, ap}
use Rattle.std.specs.Prelude.{◌+ℤ◌}
use Rattle.std.specs.Int.{int_max, int_min, int_div_euclid}
use Rattle.fs_value.specs.Data.{integer}
use Rattle.fs_write.specs.Operation.{millisecond}
use Rattle.fs_write.proofs.Arrays as arrays
use Rattle.fs_write.proofs.Numbers as numbers
use Rattle.fs_write.proofs.laws.operations_are_lawful.Goals as goal

pub returns : goal.returns
returns c = record {
  increment_fits = λ m n t h. ap integer (numbers.saturated_fits (m +ℤ n) h);
  increment_above = λ m n t h. ap integer (numbers.saturated_above (m +ℤ n) h);
  increment_below = λ m n t h. ap integer (numbers.saturated_below (m +ℤ n) h);
  maximum = λ m n t. (int_max m n, refl, numbers.max_one m n, numbers.max_first m n, numbers.max_second m n);
  minimum = λ m n t. (int_min m n, refl, numbers.min_one m n, numbers.min_first m n, numbers.min_second m n);
  append_keeps = arrays.append_keeps;
  append_all = arrays.append_all;
  append_only = arrays.append_only;
  append_new = λ there ds front d back. arrays.append_new front d back there ds;
  append_twice = arrays.append_twice;
  remove_gone = arrays.remove_gone;
  remove_others = arrays.remove_others;
  time_whole = λ t. (int_div_euclid t millisecond, refl);
  time_not_above = numbers.time_not_above;
  time_greatest = numbers.time_greatest;
}
