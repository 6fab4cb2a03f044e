-- Document 01, "Registers and words to try": the cases marked M, as one statement about the definitions.
use Rattle.std.specs.Prelude.{◌≡◌, true, List, [], ◌∷◌, ℕ, pos, Some}
use Rattle.bits.specs.Signs.{signed, word_of}
use Rattle.answers.specs.Answers.{accepted, refused}
use Rattle.codes.specs.Codes.{code_number, read_error_code, read_error_code64}
use Rattle.codes.specs.declared.ErrorCode.TheVariants.{InvalidAddress}
use Rattle.words.specs.Mpidrs.{mpidr_of}
use Rattle.words.specs.Versions.{version_of, read_version}
use Rattle.words.specs.PowerStates.{read_power_state}
use Rattle.words.specs.declared.power_states.PowerState.TheVariants.{PowerDown}
use Rattle.words.specs.ResetTypes.{read_reset_type}
use Rattle.words.specs.declared.reset_types.ArchitecturalResetType.TheVariants.{SystemWarmReset}
use Rattle.words.specs.declared.reset_types.ResetType.TheVariants.{Architectural, VendorSpecific}
use Rattle.words.specs.declared.entry_points.EntryPoint.TheVariants.{Entry64}
use Rattle.function.specs.Functions.{Function}
use Rattle.function.specs.declared.Call.TheVariants.{Version, CpuOff, CpuOn, AffinityInfo, MemProtect}
use Rattle.decode_definition.specs.Decode.{decode_of}
use Rattle.encode_definition.specs.Encode.{words_of}

-- a set is decoded as f
abbrev pub DecodesTo : List ℕ → Function → Type 0
DecodesTo regs f = decode_of regs ≡ accepted f

-- a set is refused by a number, and a value is carried
abbrev pub Refuses : List ℕ → ℕ → ℕ → Type 0
Refuses regs number value = decode_of regs ≡ refused number (pos value)

-- the four words of f
abbrev pub EncodesTo : Function → List ℕ → Type 0
EncodesTo f words = words_of f ≡ accepted words

abbrev pub on_m3 : Function
on_m3 = CpuOn (mpidr_of 4 3 2 (Some 1)) (Entry64 0x80000 9)

pub record Cases : Type 0 where
  -- M1 (0x84000000, 5, 6, 7): version; writes (0x84000000, 0, 0, 0)
  pub m1_reads : DecodesTo (0x84000000 ∷ 5 ∷ 6 ∷ 7 ∷ []) Version
  pub m1_writes : EncodesTo Version (0x84000000 ∷ 0 ∷ 0 ∷ 0 ∷ [])
  -- M2 r0 = 0xffffffff84000002: CPU off, whatever the other registers
  pub m2 : (x y z : ℕ) → DecodesTo (0xffffffff84000002 ∷ x ∷ y ∷ z ∷ []) CpuOff
  -- M3 (0xc4000003, 0x100020304, 0x80000, 9): affinities 3 to 0 are 1, 2, 3, 4; writes itself
  pub m3_reads : DecodesTo (0xc4000003 ∷ 0x100020304 ∷ 0x80000 ∷ 9 ∷ []) on_m3
  pub m3_writes : EncodesTo on_m3 (0xc4000003 ∷ 0x100020304 ∷ 0x80000 ∷ 9 ∷ [])
  -- M4 0x84000003, r1 0x01000000: refusal 3
  pub m4 : (y z : ℕ) → Refuses (0x84000003 ∷ 0x01000000 ∷ y ∷ z ∷ []) 3 0x01000000
  -- M5 same r1 under 0xc4000003: 4
  pub m5 : (y z : ℕ) → Refuses (0xc4000003 ∷ 0x01000000 ∷ y ∷ z ∷ []) 4 0x01000000
  -- M6 0x84000004, r1 0xff000000, r2 3: refusal 5, not 3. Under 0xc4000004 with r1 0, level 3 is accepted, 4 not
  pub m6_level : (z : ℕ) → Refuses (0x84000004 ∷ 0xff000000 ∷ 3 ∷ z ∷ []) 5 3
  pub m6_three : (z : ℕ) → DecodesTo (0xc4000004 ∷ 0 ∷ 3 ∷ z ∷ []) (AffinityInfo (mpidr_of 0 0 0 (Some 0)) 3)
  pub m6_four : (z : ℕ) → Refuses (0xc4000004 ∷ 0 ∷ 4 ∷ z ∷ []) 5 4
  -- M7 power state 0x4fffffff: power down, ID 0x0fffffff; 0x50000000: 2
  pub m7_down : read_power_state 0x4fffffff ≡ accepted (PowerDown 0x0fffffff)
  pub m7_reserved : read_power_state 0x50000000 ≡ refused 2 (pos 0x50000000)
  -- M8 reset type 0 accepted, 1: refusal 7, 0x80000001: vendor 1
  pub m8_warm : read_reset_type 0 ≡ accepted (Architectural SystemWarmReset)
  pub m8_other : read_reset_type 1 ≡ refused 7 (pos 1)
  pub m8_vendor : read_reset_type 0x80000001 ≡ accepted (VendorSpecific 1)
  -- M9 0x84000013, r1 0x100000000: enabled; writes 1
  pub m9_reads : (y z : ℕ) → DecodesTo (0x84000013 ∷ 0x100000000 ∷ y ∷ z ∷ []) (MemProtect true)
  pub m9_writes : EncodesTo (MemProtect true) (0x84000013 ∷ 1 ∷ 0 ∷ 0 ∷ [])
  -- M10 error 0xfffffff7: −9 from 32 bits; from 64 bits refusal 10, 4294967287
  pub m10_32 : read_error_code (signed 32 0xfffffff7) ≡ accepted InvalidAddress
  pub m10_64 : read_error_code64 (signed 64 0xfffffff7) ≡ refused 10 (pos 4294967287)
  -- M11 −9 writes 0xfffffffffffffff7 in 64 bits
  pub m11 : word_of 64 (code_number InvalidAddress) ≡ 0xfffffffffffffff7
  -- M12 version 0x7fffffff: 32767.65535; 0x80000000: 11
  pub m12_read : read_version 0x7fffffff ≡ accepted (version_of 32767 65535)
  pub m12_reserved : read_version 0x80000000 ≡ refused 11 (pos 0x80000000)
