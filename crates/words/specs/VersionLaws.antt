-- Document 01, "Single words": what the reader of a version accepts writes back, and what its writer gives reads back.
use Rattle.std.specs.Prelude.{◌^◌, ◌<◌}
use Rattle.answers.specs.Inverses.{WritesBack, ReadsBack, Word32}
use Rattle.words.specs.Versions.{read_version, write_version}
use Rattle.words.specs.declared.versions.Version.{Version}

-- the values that the fields of a struct can have
abbrev pub Halves : Version → Type 0
Halves v = (v.major < 2 ^ 16) × (v.minor < 2 ^ 16)

pub record VersionLaws : Type 0 where
  pub version_writes_back : WritesBack Word32 read_version write_version
  pub version_reads_back : ReadsBack Halves write_version read_version
