-- MPIDR: affinity 0, 1, 2 are bits 0–7, 8–15, 16–23; affinity 3 is bits 32–39 and absent in the 32-bit form. Other bits must be zero.
use Rattle.std.specs.Prelude.{cond, List, [], ◌∷◌, ℕ, ◌-◌, ◌^◌, eqb, pos, Option, None, Some}
use Rattle.answers.specs.Answers.{Answer, accepted, refused}
use Rattle.bits.specs.Bits.{Field, ◌for◌, bits, put, mask_of, only}
use Rattle.bits.specs.declared.halves.Halves.{Halves}
use Rattle.words.specs.declared.mpidrs.Mpidr.{Mpidr}

abbrev pub mpidr_of : ℕ → ℕ → ℕ → Option ℕ → Mpidr
mpidr_of a0 a1 a2 a3 = record { aff0 = a0; aff1 = a1; aff2 = a2; aff3 = a3 }

abbrev pub fields32 : List Field
fields32 = 0 for 8 ∷ 8 for 8 ∷ 16 for 8 ∷ []

abbrev pub fields64 : List Field
fields64 = 0 for 8 ∷ 8 for 8 ∷ 16 for 8 ∷ 32 for 8 ∷ []

-- the core that the affinity fields of a word name, whatever its other bits
abbrev pub mpidr32 : ℕ → Mpidr
mpidr32 word = mpidr_of (bits (0 for 8) word) (bits (8 for 8) word) (bits (16 for 8) word) None

abbrev pub mpidr64 : ℕ → Mpidr
mpidr64 word = mpidr_of (bits (0 for 8) word) (bits (8 for 8) word) (bits (16 for 8) word) (Some (bits (32 for 8) word))

-- MBZ_BITS_64, every bit of a word of 64 bits but those of the fields; and the masks of its upper and its lower half (document 02, Change 4)
abbrev pub mbz_bits64 : ℕ
mbz_bits64 = 2 ^ 64 - 1 - mask_of fields64

abbrev pub mbz_halves64 : Halves
mbz_halves64 = record { upper = 0xffffff00; lower = 0xff000000 }

unfoldable pub read_mpidr32 : ℕ → Answer Mpidr
read_mpidr32 word = cond (only fields32 word) (accepted (mpidr32 word)) (refused 3 (pos word))

unfoldable pub read_mpidr64 : ℕ → Answer Mpidr
read_mpidr64 word = cond (only fields64 word) (accepted (mpidr64 word)) (refused 4 (pos word))

-- affinity 3, 0 where it is absent
abbrev pub aff3_number : Option ℕ → ℕ
aff3_number None = 0
aff3_number (Some byte) = byte

abbrev pub low_word : Mpidr → ℕ
low_word m = put fields32 (m.aff0 ∷ m.aff1 ∷ m.aff2 ∷ [])

unfoldable pub write_mpidr32 : Mpidr → Answer ℕ
write_mpidr32 m = cond (eqb (aff3_number m.aff3) 0) (accepted (low_word m)) (refused 13 (pos (aff3_number m.aff3)))

unfoldable pub write_mpidr64 : Mpidr → ℕ
write_mpidr64 m = put fields64 (m.aff0 ∷ m.aff1 ∷ m.aff2 ∷ aff3_number m.aff3 ∷ [])
