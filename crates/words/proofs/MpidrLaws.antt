-- MPIDR's readers and writers invert each other, with the exceptions that the paper implies, and the masks of a register's halves are those of the
-- register: the laws of two other files in one record. Assumes nothing.
use Rattle.words.specs.MpidrLaws.{MpidrLaws}
use Rattle.words.proofs.MpidrHalves as halves
use Rattle.words.proofs.MpidrWords as mpidrs

pub mpidr_laws : MpidrLaws
mpidr_laws = record {
  mpidr32_writes_back = mpidrs.mpidr32_writes_back;
  mpidr32_reads_back = mpidrs.mpidr32_reads_back;
  mpidr64_writes_back = mpidrs.mpidr64_writes_back;
  mpidr64_reads_back = mpidrs.mpidr64_reads_back;
  aff3_zero = mpidrs.aff3_zero;
  aff3_absent = mpidrs.aff3_absent;
  mbz_halves = halves.mbz_halves;
}
