-- What a reader expects of the indexes of functions: there are 35, numbers rise with them, and each function stands at its own and nowhere else.
use Rattle.std.specs.Prelude.{◌≡◌, ℕ, ◌<◌, length}
use Rattle.function_ids.specs.FunctionIds.{function_number}
use Rattle.function_ids.specs.FunctionIndexes.{index_of, rising, function_at}
use Rattle.function_ids.specs.declared.FunctionId.{FunctionId}

pub record FunctionIndexLaws : Type 0 where
  pub thirty_five : length rising ≡ 35
  -- a higher index has a higher number
  pub numbers_rise : (i j : ℕ) → i < j → j < 35 → function_number (function_at i) < function_number (function_at j)
  -- every function has an index, and stands there
  pub index_within : (f : FunctionId) → index_of f < 35
  pub found_at_index : (f : FunctionId) → function_at (index_of f) ≡ f
  -- and at no other
  pub index_back : (i : ℕ) → i < 35 → index_of (function_at i) ≡ i
