-- Document 02, Change 1: what the reader of an original power state accepts writes back, and what its writer gives reads back; the exception
-- stands at the end.
use Rattle.std.specs.Prelude.{◌≡◌, ◌<◌, ◌^◌, pos}
use Rattle.answers.specs.Answers.{refused}
use Rattle.answers.specs.Inverses.{WritesBack, ReadsBack, Word32}
use Rattle.words.specs.OriginalPowerStates.{read_original_power_state, write_original_power_state}
use Rattle.words.specs.declared.original_power_states.OriginalPowerState.{OriginalPowerState}

-- the state ID is a 16-bit number
abbrev pub Id16 : OriginalPowerState → Type 0
Id16 s = s.state_id < 2 ^ 16

pub record OriginalPowerStateLaws : Type 0 where
  pub original_writes_back : WritesBack Word32 read_original_power_state write_original_power_state
  pub original_reads_back : ReadsBack Id16 write_original_power_state read_original_power_state
  -- a level above 3 is not written
  pub level_above : (s : OriginalPowerState) → 3 < s.level → write_original_power_state s ≡ refused 27 (pos s.level)
