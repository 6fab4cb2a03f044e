-- A power state's reader and writer invert each other, with the exception that the paper implies: the laws of the other file in one record. Assumes nothing.
use Rattle.words.specs.PowerStateLaws.{PowerStateLaws}
use Rattle.words.proofs.PowerStateWords as powerStates

pub power_state_laws : PowerStateLaws
power_state_laws = record {
  power_state_writes_back = powerStates.power_state_writes_back;
  power_state_reads_back = powerStates.power_state_reads_back;
  state_id_above = powerStates.state_id_above;
}
