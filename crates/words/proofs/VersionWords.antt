-- A version's word, read and written back. Assumes nothing.
use mathlib.Core.Path.{◌≡◌, refl, sym}
use mathlib.Core.List.{List, [], ◌∷◌}
use Prim.Native.Nat.{ℕ, ◌<◌, ◌≤◌, ◌^◌}
use native.Mathlib.Omega.{arith}
use lib.IntN.{pos}
use lib.ListN.{get_or}
use borrow.Author.Tests.{le-leb, leb-true}
use Rattle.bits.specs.Bits.{bits, put}
use Rattle.bits.proofs.Picks.{if_true}
use Rattle.answers.specs.Answers.{accepted}
use Rattle.answers.specs.Inverses.{WritesBack, ReadsBack, Word32}
use Rattle.answers.proofs.Answering.{passed}
use Rattle.answers.proofs.FieldWords.{Put, fields_write, fields_read}
use Rattle.words.specs.VersionLaws.{Halves}
use Rattle.words.specs.Versions.{version_of, version_fields, major_field, read_version, write_version}
use Rattle.words.specs.declared.versions.Version.{Version}

-- the version that the values of its fields make
abbrev make : List ℕ → Version
make vs = version_of (get_or vs 1 0) (get_or vs 0 0)

pub version_writes_back : WritesBack Word32 read_version write_version
unfolding read_version write_version
version_writes_back =
    fields_write version_fields make 11 Word32 write_version
    (λ word. let l : bits major_field word ≤ 0x7fff = omega arith in sym (if_true _ _ (le-leb (bits major_field word) 0x7fff l) refl))

written : (v : Version) (word : ℕ) → Halves v → write_version v ≡ accepted word → Put version_fields make 11 v word
unfolding write_version
written v word h q =
    let o = passed _ (put version_fields (v.minor ∷ v.major ∷ [])) word 16 (pos v.major) q in
    let l = leb-true v.major 0x7fff o.0 in
    let m : v.major < 2 ^ 15 = omega arith in
    (v.minor ∷ v.major ∷ [], ((h.1, (m, tt)), (o.1, refl)))

pub version_reads_back : ReadsBack Halves write_version read_version
unfolding read_version
version_reads_back = fields_read version_fields make 11 Halves write_version tt written
