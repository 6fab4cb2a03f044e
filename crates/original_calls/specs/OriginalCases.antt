-- Document 02, Change 1: both sides of each limit of the word, the order of its refusals, and one register set in both formats, as one statement about
-- the definitions.
use Rattle.std.specs.Prelude.{◌≡◌, true, false, [], ◌∷◌, ℕ, pos, None}
use Rattle.answers.specs.Answers.{accepted, refused}
use Rattle.words.specs.Mpidrs.{mpidr_of}
use Rattle.words.specs.OriginalPowerStates.{read_original_power_state, write_original_power_state}
use Rattle.words.specs.declared.entry_points.EntryPoint.TheVariants.{Entry32, Entry64}
use Rattle.words.specs.declared.power_states.PowerState.TheVariants.{StandbyOrRetention}
use Rattle.words.specs.declared.original_power_states.OriginalPowerState.{OriginalPowerState}
use Rattle.words.specs.declared.cookies.Cookie.TheVariants.{Cookie32}
use Rattle.words.specs.declared.reset_types.ResetType.TheVariants.{VendorSpecific}
use Rattle.function.specs.declared.Call.TheVariants.{CpuSuspend, CpuOn, SystemReset2, StatResidency}
use Rattle.decode_definition.specs.Decode.{decode_of}
use Rattle.roundtrip.specs.Leftovers.{leftovers_by}
use Rattle.original_calls.specs.OriginalCalls.{original_decode_of, original_encode_of}
use Rattle.original_calls.specs.OriginalCodec.{original}

-- every field full
abbrev pub deepest : OriginalPowerState
deepest = record { state_id = 0xffff; power_down = true; level = 3 }

abbrev pub level4 : OriginalPowerState
level4 = record { state_id = 0; power_down = false; level = 4 }

pub record OriginalCases : Type 0 where
  pub full : read_original_power_state 0x0301ffff ≡ accepted deepest
  pub full_written : write_original_power_state deepest ≡ accepted 0x0301ffff
  -- a bit on each side of each field
  pub bit17 : read_original_power_state 0x00020000 ≡ refused 26 (pos 0x00020000)
  pub bit23 : read_original_power_state 0x00800000 ≡ refused 26 (pos 0x00800000)
  pub bit26 : read_original_power_state 0x04000000 ≡ refused 26 (pos 0x04000000)
  -- the power down bit of the extended format
  pub bit30 : read_original_power_state 0x40000000 ≡ refused 26 (pos 0x40000000)
  -- one register set: two calls
  pub suspends : original_decode_of (0x84000001 ∷ 0x0301ffff ∷ 5 ∷ 6 ∷ []) ≡ accepted (CpuSuspend deepest (Entry32 5 6))
  pub suspends_01 : decode_of (0x84000001 ∷ 0x0301ffff ∷ 5 ∷ 6 ∷ []) ≡ accepted (CpuSuspend (StandbyOrRetention 0x0301ffff) (Entry32 5 6))
  -- a refused MPIDR comes before a refused power state
  pub mpidr_first : (z : ℕ) → original_decode_of (0x84000010 ∷ 0x01000000 ∷ 0x04000000 ∷ z ∷ []) ≡ refused 3 (pos 0x01000000)
  pub state_next : (z : ℕ) → original_decode_of (0x84000010 ∷ 0 ∷ 0x04000000 ∷ z ∷ []) ≡ refused 26 (pos 0x04000000)
  pub mpidr64_first : (z : ℕ) → original_decode_of (0xc4000011 ∷ 0x01000000 ∷ 0x04000000 ∷ z ∷ []) ≡ refused 4 (pos 0x01000000)
  -- 17 comes before 27
  pub length_first : original_encode_of (StatResidency (mpidr_of 0 0 0 None) level4) (0 ∷ []) ≡ refused 17 (pos 1)
  pub level_next : original_encode_of (StatResidency (mpidr_of 0 0 0 None) level4) (0 ∷ 0 ∷ 0 ∷ 0 ∷ []) ≡ refused 27 (pos 4)
  -- 14 and 31 are in this format too
  pub mixed_forms : original_encode_of (CpuOn (mpidr_of 0 0 0 None) (Entry64 0 0)) (0 ∷ 0 ∷ 0 ∷ 0 ∷ []) ≡ refused 14 (pos 0)
  pub vendor_type : original_encode_of (SystemReset2 (VendorSpecific 0x80000001) (Cookie32 0)) (0 ∷ 0 ∷ 0 ∷ 0 ∷ []) ≡ refused 31 (pos 0x80000001)
  -- Change 7: the high halves of a 32-bit suspend are left over, and nothing else
  pub left_over : leftovers_by original (0xffffffff84000001 ∷ 0x80000000_0301ffff ∷ 0x100000005 ∷ 6 ∷ []) ≡ 0xffffffff00000000 ∷ 0x80000000_00000000 ∷ 0x100000000 ∷ 0 ∷ []
