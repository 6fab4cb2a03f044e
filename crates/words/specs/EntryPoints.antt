-- An entry point's address and context, widened to 64 bits.
use Rattle.std.specs.Prelude.{ℕ}
use Rattle.words.specs.declared.entry_points.EntryPoint.{EntryPoint}
use Rattle.words.specs.declared.entry_points.EntryPoint.TheVariants.{Entry32, Entry64}

abbrev pub entry_address : EntryPoint → ℕ
entry_address (Entry32 address context) = address
entry_address (Entry64 address context) = address

abbrev pub entry_context : EntryPoint → ℕ
entry_context (Entry32 address context) = context
entry_context (Entry64 address context) = context
