-- Reading and writing a function number invert each other.
use Rattle.answers.specs.Inverses.{WritesBack, ReadsBack, always, Any}
use Rattle.function_ids.specs.FunctionIds.{function_number, read_function_id}

pub record FunctionIdLaws : Type 0 where
  pub writes_back : WritesBack Any read_function_id (always function_number)
  pub reads_back : ReadsBack Any (always function_number) read_function_id
