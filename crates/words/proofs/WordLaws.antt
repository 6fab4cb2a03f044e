-- Each word's reader and writer invert each other: the laws of the other file in one record. Assumes nothing.
use Rattle.words.specs.WordLaws.{WordLaws}
use Rattle.words.proofs.NumberedWords as numbered

pub word_laws : WordLaws
word_laws = record {
  off_type_writes_back = numbered.off_type_writes_back;
  off_type_reads_back = numbered.off_type_reads_back;
  mode_writes_back = numbered.mode_writes_back;
  mode_reads_back = numbered.mode_reads_back;
  hw_state_writes_back = numbered.hw_state_writes_back;
  hw_state_reads_back = numbered.hw_state_reads_back;
  feature_writes_back = numbered.feature_writes_back;
  feature_reads_back = numbered.feature_reads_back;
}
