-- Reset types' readers and writers invert each other, and no two share a word: the laws of the other file in one record. Assumes nothing.
use Rattle.words.specs.ResetTypeLaws.{ResetTypeLaws}
use Rattle.words.proofs.ResetTypeWords as resetTypes

pub reset_type_laws : ResetTypeLaws
reset_type_laws = record {
  architectural_writes_back = resetTypes.architectural_writes_back;
  architectural_reads_back = resetTypes.architectural_reads_back;
  reset_type_writes_back = resetTypes.reset_type_writes_back;
  reset_type_reads_back = resetTypes.reset_type_reads_back;
  reset_types_apart = resetTypes.reset_types_apart;
  vendor_type_above = resetTypes.vendor_type_above;
}
