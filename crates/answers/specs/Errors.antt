-- Document 01, "What is turned back, by operation": the number of each refusal, and the value that it carries. 26 and 27 are
-- document 02's Change 1, 31 is its Change 5.
use Rattle.std.specs.Prelude.{List, [], ◌∷◌, ℕ, ℤ, pos, nat_abs, Result}
use Rattle.answers.specs.Answers.{Answer, refused, answer_by}
use Rattle.answers.specs.Refusals.{Refusals, RefusalLaws}
use Rattle.answers.specs.declared.Error.{Error}
use Rattle.answers.specs.declared.Error.TheVariants.{UnrecognisedFunctionId, InvalidPowerState, InvalidMpidr32, InvalidMpidr64, InvalidLowerAffinityLevel, UnrecognisedSystemOff2Type, UnrecognisedSystemReset2Type, UnrecognisedSuspendMode, UnrecognisedErrorCode, OverflowingErrorCode, InvalidVersion, UnrecognisedHwState, IgnoredNonZeroAff3, MixedCallForms, InvalidStateId, InvalidMajorVersion, WrongLength, InvalidOriginalPowerState, InvalidPowerLevel, InvalidVendorType}

abbrev pub refusal_number : Error → ℕ
refusal_number (UnrecognisedFunctionId number) = 1
refusal_number (InvalidPowerState word) = 2
refusal_number (InvalidMpidr32 word) = 3
refusal_number (InvalidMpidr64 word) = 4
refusal_number (InvalidLowerAffinityLevel level) = 5
refusal_number (UnrecognisedSystemOff2Type word) = 6
refusal_number (UnrecognisedSystemReset2Type word) = 7
refusal_number (UnrecognisedSuspendMode word) = 8
refusal_number (UnrecognisedErrorCode code) = 9
refusal_number (OverflowingErrorCode code) = 10
refusal_number (InvalidVersion word) = 11
refusal_number (UnrecognisedHwState word) = 12
refusal_number (IgnoredNonZeroAff3 byte) = 13
refusal_number MixedCallForms = 14
refusal_number (InvalidStateId id) = 15
refusal_number (InvalidMajorVersion major) = 16
refusal_number (WrongLength count) = 17
refusal_number (InvalidOriginalPowerState word) = 26
refusal_number (InvalidPowerLevel level) = 27
refusal_number (InvalidVendorType vendor_type) = 31

-- the value carried, as a signed number: refusals 9 and 10 carry a signed one
abbrev pub refusal_value : Error → ℤ
refusal_value (UnrecognisedFunctionId number) = pos number
refusal_value (InvalidPowerState word) = pos word
refusal_value (InvalidMpidr32 word) = pos word
refusal_value (InvalidMpidr64 word) = pos word
refusal_value (InvalidLowerAffinityLevel level) = pos level
refusal_value (UnrecognisedSystemOff2Type word) = pos word
refusal_value (UnrecognisedSystemReset2Type word) = pos word
refusal_value (UnrecognisedSuspendMode word) = pos word
refusal_value (UnrecognisedErrorCode code) = code
refusal_value (OverflowingErrorCode code) = code
refusal_value (InvalidVersion word) = pos word
refusal_value (UnrecognisedHwState word) = pos word
refusal_value (IgnoredNonZeroAff3 byte) = pos byte
refusal_value MixedCallForms = pos 0
refusal_value (InvalidStateId id) = pos id
refusal_value (InvalidMajorVersion major) = pos major
refusal_value (WrongLength count) = pos count
refusal_value (InvalidOriginalPowerState word) = pos word
refusal_value (InvalidPowerLevel level) = pos level
refusal_value (InvalidVendorType vendor_type) = pos vendor_type

abbrev pub refusal : {A : Type 0} → Error → Answer A
refusal e = refused (refusal_number e) (refusal_value e)

-- what an operation of the codec gave
abbrev pub answered : {A : Type 0} → Result A Error → Answer A
answered result = answer_by refusal result

-- all of them, each with the value that it would carry
abbrev pub error_cases : ℤ → List Error
error_cases value =
    UnrecognisedFunctionId (nat_abs value) ∷
    InvalidPowerState (nat_abs value) ∷
    InvalidMpidr32 (nat_abs value) ∷
    InvalidMpidr64 (nat_abs value) ∷
    InvalidLowerAffinityLevel (nat_abs value) ∷
    UnrecognisedSystemOff2Type (nat_abs value) ∷
    UnrecognisedSystemReset2Type (nat_abs value) ∷
    UnrecognisedSuspendMode (nat_abs value) ∷
    UnrecognisedErrorCode value ∷
    OverflowingErrorCode value ∷
    InvalidVersion (nat_abs value) ∷
    UnrecognisedHwState (nat_abs value) ∷
    IgnoredNonZeroAff3 (nat_abs value) ∷
    MixedCallForms ∷
    InvalidStateId (nat_abs value) ∷
    InvalidMajorVersion (nat_abs value) ∷
    WrongLength (nat_abs value) ∷
    InvalidOriginalPowerState (nat_abs value) ∷
    InvalidPowerLevel (nat_abs value) ∷
    InvalidVendorType (nat_abs value) ∷
    []

abbrev pub codec_refusals : Refusals
codec_refusals = record { Refusal = Error; number = refusal_number; value = refusal_value; cases = error_cases }

-- proved in proofs/Refusals.antt
abbrev pub ErrorLaws : Type 0
ErrorLaws = RefusalLaws codec_refusals
