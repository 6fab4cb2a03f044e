-- Document 01, "Single words": error codes are −1 to −9, success is 0. `ErrorCode` doesn't take 0; `ReturnCode` does, and reads a signed 32-bit number only.
use Rattle.std.specs.Prelude.{cond, List, [], ◌∷◌, ℕ, eqb, ℤ, pos, neg_ℤ, nat_abs}
use Rattle.std.specs.Int.Signed.{non_neg}
use Rattle.answers.specs.Answers.{Answer, accepted, refused, choose, through}
use Rattle.answers.specs.Errors.{refusal_number}
use Rattle.bits.specs.Signs.{fits_in}
use Rattle.answers.specs.declared.Error.{Error}
use Rattle.codes.specs.declared.ErrorCode.{ErrorCode}
use Rattle.codes.specs.declared.ErrorCode.TheVariants.{NotSupported, InvalidParameters, Denied, AlreadyOn, OnPending, InternalFailure, NotPresent, Disabled, InvalidAddress}
use Rattle.codes.specs.declared.ReturnCode.{ReturnCode}
use Rattle.codes.specs.declared.ReturnCode.TheVariants as return

abbrev pub minus : ℕ → ℤ
minus n = neg_ℤ (pos n)

abbrev pub code_number : ErrorCode → ℤ
code_number NotSupported = minus 1
code_number InvalidParameters = minus 2
code_number Denied = minus 3
code_number AlreadyOn = minus 4
code_number OnPending = minus 5
code_number InternalFailure = minus 6
code_number NotPresent = minus 7
code_number Disabled = minus 8
code_number InvalidAddress = minus 9

abbrev pub error_codes : List ErrorCode
error_codes =
    NotSupported ∷ InvalidParameters ∷ Denied ∷ AlreadyOn ∷ OnPending ∷ InternalFailure ∷ NotPresent ∷ Disabled ∷ InvalidAddress ∷ []

-- how far below zero a code is
abbrev pub code_size : ErrorCode → ℕ
code_size c = nat_abs (code_number c)

unfoldable pub read_error_code : ℤ → Answer ErrorCode
read_error_code z = cond (non_neg z) (refused 9 z) (choose code_size error_codes (refused 9 z) (nat_abs z))

unfoldable pub read_error_code64 : ℤ → Answer ErrorCode
read_error_code64 z = cond (fits_in 32 z) (read_error_code z) (refused 10 z)

abbrev pub return_number : ReturnCode → ℤ
return_number return.Success = pos 0
return_number (return.Error c) = code_number c

unfoldable pub read_return_code : ℤ → Answer ReturnCode
read_return_code z = cond (eqb (nat_abs z) 0) (accepted return.Success) (through return.Error (read_error_code z))

-- refusal 1 becomes code −1, every other refusal −2: by its number, whichever operation refuses
abbrev pub code_of_refusal : ℕ → ErrorCode
code_of_refusal number = cond (eqb number 1) NotSupported InvalidParameters

abbrev pub error_code_of : Error → ErrorCode
error_code_of e = code_of_refusal (refusal_number e)
