-- Document 01, "Single words": what each reader accepts writes back, and what each writer gives reads back.
use Rattle.answers.specs.Inverses.{WritesBack, ReadsBack, always, Word32, Any}
use Rattle.words.specs.HwStates.{hw_state_number, read_hw_state}
use Rattle.words.specs.PsciFeatures.{feature_number, read_feature}
use Rattle.words.specs.SuspendModes.{suspend_mode_number, read_suspend_mode}
use Rattle.words.specs.SystemOff2Types.{system_off2_number, read_system_off2_type}

pub record WordLaws : Type 0 where
  pub off_type_writes_back : WritesBack Word32 read_system_off2_type (always system_off2_number)
  pub off_type_reads_back : ReadsBack Any (always system_off2_number) read_system_off2_type
  pub mode_writes_back : WritesBack Word32 read_suspend_mode (always suspend_mode_number)
  pub mode_reads_back : ReadsBack Any (always suspend_mode_number) read_suspend_mode
  pub hw_state_writes_back : WritesBack Word32 read_hw_state (always hw_state_number)
  pub hw_state_reads_back : ReadsBack Any (always hw_state_number) read_hw_state
  pub feature_writes_back : WritesBack Word32 read_feature (always feature_number)
  pub feature_reads_back : ReadsBack Any (always feature_number) read_feature
