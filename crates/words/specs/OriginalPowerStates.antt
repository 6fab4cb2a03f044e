-- Document 02, Change 1, DEN0022's original power state: bits 0–15 state ID, bit 16 power down, bits 24–25 level, all others zero.
use Rattle.std.specs.Prelude.{cond, List, [], ◌∷◌, ℕ, leb, eqb, pos}
use Rattle.answers.specs.Answers.{Answer, accepted, refused}
use Rattle.bits.specs.Bits.{Field, ◌for◌, bits, put, only}
use Rattle.words.specs.Flags.{flag_word}
use Rattle.words.specs.declared.original_power_states.OriginalPowerState.{OriginalPowerState}

abbrev pub state_id_field : Field
state_id_field = 0 for 16

abbrev pub power_down_field : Field
power_down_field = 16 for 1

abbrev pub level_field : Field
level_field = 24 for 2

abbrev pub original_power_state_fields : List Field
original_power_state_fields = state_id_field ∷ power_down_field ∷ level_field ∷ []

-- the power state of the numbers in its fields
abbrev pub original_power_state_of : ℕ → ℕ → ℕ → OriginalPowerState
original_power_state_of id down level = record { state_id = id; power_down = eqb down 1; level = level }

-- refusal 26: a bit set elsewhere
unfoldable pub read_original_power_state : ℕ → Answer OriginalPowerState
read_original_power_state word =
    cond (only original_power_state_fields word)
    (accepted (original_power_state_of (bits state_id_field word) (bits power_down_field word) (bits level_field word)))
    (refused 26 (pos word))

-- refusal 27: a level above 3
unfoldable pub write_original_power_state : OriginalPowerState → Answer ℕ
write_original_power_state s =
    cond (leb s.level 3)
    (accepted (put original_power_state_fields (s.state_id ∷ flag_word s.power_down ∷ s.level ∷ [])))
    (refused 27 (pos s.level))
