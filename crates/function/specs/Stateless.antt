-- Document 02, Change 1: the calls that have no power state; they are the same in every format.
use Rattle.function.specs.Functions.{Function}
use Rattle.function.specs.States.{map_state}
use Rattle.function.specs.declared.Call.{Call}
use Rattle.function.specs.declared.stateless.NoState.{NoState}

-- the 19 calls that have no power state: no value can stand in its place
abbrev pub StatelessFunction : Type 0
StatelessFunction = Call NoState

-- there is no such value, so it gives any other
abbrev pub no_state : {A : Type 0} → NoState → A
no_state s = elim s [ ]

-- they are among the calls of every format
abbrev pub among : {S : Type 0} → StatelessFunction → Call S
among g = map_state no_state g

-- among document 01's
abbrev pub function_of : StatelessFunction → Function
function_of g = among g
