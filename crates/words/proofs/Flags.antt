-- A bool as std makes a number of it is the flag's word. Assumes nothing.
use mathlib.Core.Path.{◌≡◌, refl}
use mathlib.Core.Bool.{Bool, true, false}
use Rattle.std.specs.Int.{from_bool}
use Rattle.words.specs.Flags.{flag_word}

pub flag_word_is : (b : Bool) → from_bool b ≡ flag_word b
flag_word_is true = refl
flag_word_is false = refl
