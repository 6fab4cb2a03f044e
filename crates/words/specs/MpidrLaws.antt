-- Document 01, "Single words": what each reader of MPIDR accepts writes back, and what each writer gives reads back; the exceptions that the
-- paper implies stand behind that. Document 02, Change 4: the masks of a register's halves.
use Rattle.std.specs.Prelude.{◌≡◌, ℕ, ◌^◌, ◌<◌, None, Some}
use Rattle.answers.specs.Answers.{accepted}
use Rattle.answers.specs.Inverses.{WritesBack, ReadsBack, always, Word32, Word64}
use Rattle.bits.specs.Halves.{register_of}
use Rattle.words.specs.Mpidrs.{mpidr_of, read_mpidr32, read_mpidr64, write_mpidr32, write_mpidr64, mbz_bits64, mbz_halves64}
use Rattle.words.specs.declared.mpidrs.Mpidr.{Mpidr}

-- the values that the fields of a struct can have
abbrev pub Bytes : Mpidr → Type 0
Bytes m = (m.aff0 < 2 ^ 8) × (m.aff1 < 2 ^ 8) × (m.aff2 < 2 ^ 8)

-- core addresses without affinity 3, and with it
abbrev pub Without3 : Mpidr → Type 0
Without3 m = Bytes m × (m.aff3 ≡ None)

abbrev pub With3 : Mpidr → Type 0
With3 m = Bytes m × ((byte : ℕ) × ((byte < 2 ^ 8) × (m.aff3 ≡ Some byte)))

pub record MpidrLaws : Type 0 where
  pub mpidr32_writes_back : WritesBack Word32 read_mpidr32 write_mpidr32
  pub mpidr32_reads_back : ReadsBack Without3 write_mpidr32 read_mpidr32
  pub mpidr64_writes_back : WritesBack Word64 read_mpidr64 (always write_mpidr64)
  pub mpidr64_reads_back : ReadsBack With3 (always write_mpidr64) read_mpidr64
  -- affinity 3 present and 0 reads back absent from 32 bits; absent, it reads back as 0 from 64 bits
  pub aff3_zero : (a0 a1 a2 : ℕ) → a0 < 2 ^ 8 → a1 < 2 ^ 8 → a2 < 2 ^ 8 → (word : ℕ) →
      write_mpidr32 (mpidr_of a0 a1 a2 (Some 0)) ≡ accepted word → read_mpidr32 word ≡ accepted (mpidr_of a0 a1 a2 None)
  pub aff3_absent : (a0 a1 a2 : ℕ) → a0 < 2 ^ 8 → a1 < 2 ^ 8 → a2 < 2 ^ 8 →
      read_mpidr64 (write_mpidr64 (mpidr_of a0 a1 a2 None)) ≡ accepted (mpidr_of a0 a1 a2 (Some 0))
  -- the masks of a register's halves are the two halves of MBZ_BITS_64
  pub mbz_halves : register_of mbz_halves64 ≡ mbz_bits64
