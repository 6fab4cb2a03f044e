-- A power state of the original format among the nine words of a call: document 01's, but that it has three parts.
use Rattle.std.specs.Prelude.{◌≡◌, not, List, [], ◌∷◌, ℕ, eqb, get_or}
use Rattle.words.specs.Flags.{flag_word}
use Rattle.words.specs.declared.original_power_states.OriginalPowerState.{OriginalPowerState}
use Rattle.function.specs.declared.Call.{Call}
use Rattle.function.specs.declared.Call.TheVariants.{CpuSuspend}
use Rattle.call_exports.specs.LowBits.{half, byte}
use Rattle.call_exports.specs.FromParts.{entry_in}
use Rattle.call_exports.specs.Parts.{CallPart, ◌within◌, Fit}

-- 1 for power down; the state ID; the level
abbrev pub original_state_parts : OriginalPowerState → List CallPart
original_state_parts s = flag_word s.power_down within 1 ∷ s.state_id within 16 ∷ s.level within 8 ∷ []

-- each part cut to its slot
abbrev pub original_state_in : ℕ → ℕ → ℕ → OriginalPowerState
original_state_in down id level = record { state_id = half id; power_down = not (eqb down 0); level = byte level }

-- a state's own parts stand for it, where they fit their slots
abbrev pub OriginalStateOwn : Type 0
OriginalStateOwn = (s : OriginalPowerState) → Fit (original_state_parts s) → original_state_in (flag_word s.power_down) s.state_id s.level ≡ s

-- a suspend has its entry behind the three parts
abbrev pub original_suspended : List ℕ → Call OriginalPowerState
original_suspended c = CpuSuspend (original_state_in (get_or c 1 0) (get_or c 2 0) (get_or c 3 0)) (entry_in (get_or c 4 0) (get_or c 5 0) (get_or c 6 0))

-- any other call has its state behind an MPIDR
abbrev pub original_behind : List ℕ → OriginalPowerState
original_behind c = original_state_in (get_or c 6 0) (get_or c 7 0) (get_or c 8 0)
