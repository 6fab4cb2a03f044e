-- The reader and the writer of an original power state invert each other: the laws of the other file in one record. Assumes nothing.
use Rattle.words.specs.OriginalPowerStateLaws.{OriginalPowerStateLaws}
use Rattle.words.proofs.OriginalPowerStateWords as states

pub original_power_state_laws : OriginalPowerStateLaws
original_power_state_laws = record {
  original_writes_back = states.original_writes_back;
  original_reads_back = states.original_reads_back;
  level_above = states.level_above;
}
