-- Document 01, "Single words": hardware state: 0, 1, 2.
use Rattle.std.specs.Prelude.{List, [], ◌∷◌, ℕ, pos}
use Rattle.answers.specs.Answers.{Answer, accepted, refused, choose}
use Rattle.words.specs.declared.hw_states.HwState.{HwState}
use Rattle.words.specs.declared.hw_states.HwState.TheVariants.{On, Off, Standby}

abbrev pub hw_state_number : HwState → ℕ
hw_state_number On = 0
hw_state_number Off = 1
hw_state_number Standby = 2

abbrev pub hw_states : List HwState
hw_states = On ∷ Off ∷ Standby ∷ []

unfoldable pub read_hw_state : ℕ → Answer HwState
read_hw_state word = choose hw_state_number hw_states (refused 12 (pos word)) word
