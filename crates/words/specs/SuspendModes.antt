-- Document 01, "The typed call": mode: 0 or 1.
use Rattle.std.specs.Prelude.{List, [], ◌∷◌, ℕ, pos}
use Rattle.answers.specs.Answers.{Answer, accepted, refused, choose}
use Rattle.words.specs.declared.suspend_modes.SuspendMode.{SuspendMode}
use Rattle.words.specs.declared.suspend_modes.SuspendMode.TheVariants.{PlatformCoordinated, OsInitiated}

abbrev pub suspend_mode_number : SuspendMode → ℕ
suspend_mode_number PlatformCoordinated = 0
suspend_mode_number OsInitiated = 1

abbrev pub suspend_modes : List SuspendMode
suspend_modes = PlatformCoordinated ∷ OsInitiated ∷ []

unfoldable pub read_suspend_mode : ℕ → Answer SuspendMode
read_suspend_mode word = choose suspend_mode_number suspend_modes (refused 8 (pos word)) word
