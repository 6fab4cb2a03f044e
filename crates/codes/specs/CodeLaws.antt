-- Document 01, "Single words": readers and writers of codes invert each other, signed and in two's complement of 32 or 64 bits.
use Rattle.std.specs.Prelude.{◌≡◌, ℕ}
use Rattle.bits.specs.Signs.{signed, word_of}
use Rattle.answers.specs.Inverses.{WritesBack, ReadsBack, always, Word32, Word64, Any}
use Rattle.codes.specs.Codes.{code_number, return_number, read_error_code, read_error_code64, read_return_code, code_of_refusal}
use Rattle.codes.specs.declared.ErrorCode.{ErrorCode}
use Rattle.codes.specs.declared.ErrorCode.TheVariants.{NotSupported, InvalidParameters}

pub record CodeLaws : Type 0 where
  -- signed
  pub error_code_writes_back : WritesBack Any read_error_code (always code_number)
  pub error_code_reads_back : ReadsBack Any (always code_number) read_error_code
  pub return_code_writes_back : WritesBack Any read_return_code (always return_number)
  pub return_code_reads_back : ReadsBack Any (always return_number) read_return_code
  -- in a word of 32 bits
  pub word32_writes_back : WritesBack Word32 (λ (w : ℕ). read_error_code (signed 32 w)) (always (λ (c : ErrorCode). word_of 32 (code_number c)))
  pub word32_reads_back : ReadsBack Any (always (λ (c : ErrorCode). word_of 32 (code_number c))) (λ (w : ℕ). read_error_code (signed 32 w))
  -- in a word of 64 bits
  pub word64_writes_back : WritesBack Word64 (λ (w : ℕ). read_error_code64 (signed 64 w)) (always (λ (c : ErrorCode). word_of 64 (code_number c)))
  pub word64_reads_back : ReadsBack Any (always (λ (c : ErrorCode). word_of 64 (code_number c))) (λ (w : ℕ). read_error_code64 (signed 64 w))
  -- refusal 1 becomes −1, every other number −2: those of the log and the line (18 to 25) among them
  pub refusal_1 : code_of_refusal 1 ≡ NotSupported
  pub refusal_other : (number : ℕ) → (number ≡ 1 → ⊥) → code_of_refusal number ≡ InvalidParameters
