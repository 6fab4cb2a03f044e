-- A version's reader and writer invert each other: the laws of the other file in one record. Assumes nothing.
use Rattle.words.specs.VersionLaws.{VersionLaws}
use Rattle.words.proofs.VersionWords as versions

pub version_laws : VersionLaws
version_laws = record {
  version_writes_back = versions.version_writes_back;
  version_reads_back = versions.version_reads_back;
}
