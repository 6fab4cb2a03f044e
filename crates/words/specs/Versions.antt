-- A version is major in bits 16–30, minor in bits 0–15, bit 31 zero.
use Rattle.std.specs.Prelude.{cond, List, [], ◌∷◌, ℕ, leb, pos}
use Rattle.answers.specs.Answers.{Answer, accepted, refused}
use Rattle.bits.specs.Bits.{Field, ◌for◌, bits, put, only}
use Rattle.words.specs.declared.versions.Version.{Version}

abbrev pub major_field : Field
major_field = 16 for 15

abbrev pub minor_field : Field
minor_field = 0 for 16

abbrev pub version_fields : List Field
version_fields = minor_field ∷ major_field ∷ []

abbrev pub version_of : ℕ → ℕ → Version
version_of major minor = record { major = major; minor = minor }

unfoldable pub read_version : ℕ → Answer Version
read_version word =
    cond (only version_fields word)
    (accepted (version_of (bits major_field word) (bits minor_field word)))
    (refused 11 (pos word))

unfoldable pub write_version : Version → Answer ℕ
write_version v = cond (leb v.major 0x7fff) (accepted (put version_fields (v.minor ∷ v.major ∷ []))) (refused 16 (pos v.major))
