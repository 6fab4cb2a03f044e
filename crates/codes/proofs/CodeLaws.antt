-- Readers and writers of codes invert each other, signed and in two's complement. Assumes nothing.
use mathlib.Core.Path.{◌≡◌, refl, sym, ap, ◌∙◌}
use mathlib.Core.Bool.{true}
use Prim.Native.Nat.{ℕ, suc, ◌*◌, ◌^◌, ◌<◌, ◌≤◌}
use native.Mathlib.Omega.{arith}
use lib.Dec.{lit<}
use lib.IntN.{ℤ, pos, negsuc, nat_abs}
use lib.Signed.{mag}
use borrow.Author.Tests.{eqb-true, ne_eqb, lt-ltb}
use Rattle.bits.specs.Signs.{signed, word_of, fits_in}
use Rattle.bits.proofs.Picks.{if_true, if_false}
use Rattle.bits.proofs.TwosComplement.{sign_laws}
use Rattle.answers.specs.Answers.{Answer, accepted, refused, through}
use Rattle.answers.specs.Inverses.{WritesBack, ReadsBack, always, Any}
use Rattle.answers.proofs.Answering.{not_accepted, handed_on, at_once_or_through}
use Rattle.answers.proofs.Choosing.{chosen_number}
use Rattle.answers.proofs.Inverting.{writes_always, reads_always}
use Rattle.codes.specs.Codes.{minus, code_number, code_size, error_codes, return_number, read_error_code, read_error_code64, read_return_code}
use Rattle.codes.specs.CodeLaws.{CodeLaws}
use Rattle.codes.specs.declared.ErrorCode.{ErrorCode}
use Rattle.codes.specs.declared.ErrorCode.TheVariants.{NotSupported, InvalidParameters, Denied, AlreadyOn, OnPending, InternalFailure, NotPresent, Disabled, InvalidAddress}
use Rattle.codes.specs.declared.ReturnCode.{ReturnCode}
use Rattle.codes.specs.declared.ReturnCode.TheVariants as return

-- what the nine codes have in common: each is read from its number, and is below zero by a little
record Code (c : ErrorCode) : Type 0 where
  pub back : read_error_code (code_number c) ≡ accepted c
  pub below : code_number c ≡ minus (code_size c)
  pub small : mag (code_number c) < 9
  pub not_zero : 0 < code_size c

code : (c : ErrorCode) → Code c
unfolding read_error_code
code NotSupported = record { back = refl; below = refl; small = lit< tt; not_zero = lit< tt }
code InvalidParameters = record { back = refl; below = refl; small = lit< tt; not_zero = lit< tt }
code Denied = record { back = refl; below = refl; small = lit< tt; not_zero = lit< tt }
code AlreadyOn = record { back = refl; below = refl; small = lit< tt; not_zero = lit< tt }
code OnPending = record { back = refl; below = refl; small = lit< tt; not_zero = lit< tt }
code InternalFailure = record { back = refl; below = refl; small = lit< tt; not_zero = lit< tt }
code NotPresent = record { back = refl; below = refl; small = lit< tt; not_zero = lit< tt }
code Disabled = record { back = refl; below = refl; small = lit< tt; not_zero = lit< tt }
code InvalidAddress = record { back = refl; below = refl; small = lit< tt; not_zero = lit< tt }

code_fits : (k : ℕ) → 2 ^ 32 ≤ 2 ^ k → (c : ErrorCode) → fits_in k (code_number c) ≡ true
code_fits k wide c = let s = (code c).small in lt-ltb (mag (code_number c) * 2) (2 ^ k) (omega arith)

-- ---- signed

code_is : (z : ℤ) (c : ErrorCode) → read_error_code z ≡ accepted c → code_number c ≡ z
unfolding read_error_code
code_is (pos n) c q = not_accepted q
code_is (negsuc n) c q = (code c).below ∙ ap minus (chosen_number code_size (refused 9 (negsuc n)) (suc n) error_codes c (λ p. not_accepted p) q)

code64_is : (z : ℤ) (c : ErrorCode) → read_error_code64 z ≡ accepted c → code_number c ≡ z
unfolding read_error_code64
code64_is z c q = code_is z c (handed_on (fits_in 32 z) (read_error_code z) c 10 z q).1

code64_back : (c : ErrorCode) → read_error_code64 (code_number c) ≡ accepted c
unfolding read_error_code64
code64_back c = sym (if_true _ _ (code_fits 32 (omega arith) c) (sym (code c).back))

zero_is : (z : ℤ) → nat_abs z ≡ 0 → pos 0 ≡ z
zero_is (pos n) e = ap pos (sym e)
zero_is (negsuc n) e = absurd (omega arith)

return_is : (z : ℤ) (r : ReturnCode) → read_return_code z ≡ accepted r → return_number r ≡ z
unfolding read_return_code
return_is z r q =
    at_once_or_through _ return.Success r return.Error (read_error_code z) q
    (λ t e. ap return_number (sym e) ∙ zero_is z (eqb-true (nat_abs z) 0 t))
    (λ c p e. ap return_number (sym e) ∙ code_is z c p)

return_back : (r : ReturnCode) → read_return_code (return_number r) ≡ accepted r
unfolding read_return_code
return_back return.Success = refl
return_back (return.Error c) =
    let d = code c in
    sym (if_false _ _ (ne_eqb (code_size c) 0 (λ z. omega arith)) (sym (ap (through return.Error) d.back)))

-- ---- in a word of any width, for any reader of signed numbers: the sign fact carries it over

module _ (k : ℕ) (read : ℤ → Answer ErrorCode) where
  read_word : ℕ → Answer ErrorCode
  read_word word = read (signed (suc k) word)

  write_word : ErrorCode → ℕ
  write_word c = word_of (suc k) (code_number c)

  word_writes : ((z : ℤ) (c : ErrorCode) → read z ≡ accepted c → code_number c ≡ z) → WritesBack (λ (word : ℕ). word < 2 ^ suc k) read_word (always write_word)
  unfolding read_word write_word
  word_writes is =
      writes_always read_word write_word (λ (word : ℕ). word < 2 ^ suc k)
      (λ word c h q. ap (word_of (suc k)) (is (signed (suc k) word) c q) ∙ sign_laws.word_back (suc k) word h)

  word_reads : 2 ^ 32 ≤ 2 ^ suc k → ((c : ErrorCode) → read (code_number c) ≡ accepted c) → ReadsBack Any (always write_word) read_word
  unfolding read_word write_word
  word_reads wide back =
      reads_always read_word write_word Any
      (λ c h. ap read (sym (sign_laws.signed_back k (code_number c) (code_fits (suc k) wide c))) ∙ back c)

pub code_laws : CodeLaws
unfolding read_word write_word
code_laws = record {
  error_code_writes_back = writes_always read_error_code code_number _ (λ z c h q. code_is z c q);
  error_code_reads_back = reads_always read_error_code code_number _ (λ c h. (code c).back);
  return_code_writes_back = writes_always read_return_code return_number _ (λ z r h q. return_is z r q);
  return_code_reads_back = reads_always read_return_code return_number _ (λ r h. return_back r);
  word32_writes_back = word_writes 31 read_error_code code_is;
  word32_reads_back = word_reads 31 read_error_code (omega arith) (λ c. (code c).back);
  word64_writes_back = word_writes 63 read_error_code64 code64_is;
  word64_reads_back = word_reads 63 read_error_code64 (omega arith) code64_back;
  refusal_1 = refl;
  refusal_other = λ number h. simp (ne_eqb number 1 h);
}
