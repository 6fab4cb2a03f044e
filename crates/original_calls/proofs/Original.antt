-- The law of the codec in the original format, that what it accepts has the kept words for its words; and with it demand 3 and the theorems on leftovers.
-- Assumes nothing.
use Rattle.function_ids.specs.CallTable.{whole}
use Rattle.words.specs.OriginalPowerStates.{read_original_power_state, write_original_power_state}
use Rattle.words.proofs.OriginalPowerStateLaws.{original_power_state_laws}
use Rattle.roundtrip.proofs.Demand3.{demand3}
use Rattle.roundtrip.proofs.LeftoverLaws.{leftovers}
use Rattle.roundtrip.proofs.TwoCodecs.{by_table_of_format}
use Rattle.original_calls.specs.OriginalCodec.{original, ByTableOfOriginal, Demand3OfOriginal, LeftoversOfOriginal}

pub by_table_of_original : ByTableOfOriginal
by_table_of_original = by_table_of_format read_original_power_state write_original_power_state original_power_state_laws.original_writes_back whole

pub demand3_of_original : Demand3OfOriginal
demand3_of_original = demand3 original by_table_of_original

pub leftovers_of_original : LeftoversOfOriginal
leftovers_of_original = leftovers original by_table_of_original
