-- Document 01, "Single words": what the reader of a power state accepts writes back, and what its writer gives reads back; the exception that
-- the paper implies stands at the end.
use Rattle.std.specs.Prelude.{◌≡◌, ℕ, ◌<◌, pos}
use Rattle.answers.specs.Answers.{refused}
use Rattle.answers.specs.Inverses.{WritesBack, ReadsBack, Word32, Any}
use Rattle.words.specs.PowerStates.{read_power_state, write_power_state}
use Rattle.words.specs.declared.power_states.PowerState.TheVariants.{StandbyOrRetention, PowerDown}

pub record PowerStateLaws : Type 0 where
  pub power_state_writes_back : WritesBack Word32 read_power_state write_power_state
  pub power_state_reads_back : ReadsBack Any write_power_state read_power_state
  -- a state ID above the mask is not written
  pub state_id_above : (id : ℕ) → 0x0fffffff < id →
      (write_power_state (StandbyOrRetention id) ≡ refused 15 (pos id)) × (write_power_state (PowerDown id) ≡ refused 15 (pos id))
