-- Power state: bits 0–27 state ID, bit 30 set for power down, others zero.
use Rattle.std.specs.Prelude.{cond, List, [], ◌∷◌, ℕ, leb, eqb, pos}
use Rattle.answers.specs.Answers.{Answer, accepted, refused}
use Rattle.bits.specs.Bits.{Field, ◌for◌, bits, put, only}
use Rattle.words.specs.declared.power_states.PowerState.{PowerState}
use Rattle.words.specs.declared.power_states.PowerState.TheVariants.{StandbyOrRetention, PowerDown}

abbrev pub state_id_field : Field
state_id_field = 0 for 28

abbrev pub power_down_field : Field
power_down_field = 30 for 1

abbrev pub power_state_fields : List Field
power_state_fields = state_id_field ∷ power_down_field ∷ []

unfoldable pub read_power_state : ℕ → Answer PowerState
read_power_state word =
    cond (only power_state_fields word)
    (accepted (cond (eqb (bits power_down_field word) 1) (PowerDown (bits state_id_field word)) (StandbyOrRetention (bits state_id_field word))))
    (refused 2 (pos word))

-- a state ID above 0x0fffffff is refused, and carried
abbrev pub with_state_id : ℕ → ℕ → Answer ℕ
with_state_id power_down id = cond (leb id 0x0fffffff) (accepted (put power_state_fields (id ∷ power_down ∷ []))) (refused 15 (pos id))

unfoldable pub write_power_state : PowerState → Answer ℕ
write_power_state (StandbyOrRetention id) = with_state_id 0 id
write_power_state (PowerDown id) = with_state_id 1 id
