-- Document 01's codec, the law that it brings, demand 3 of it, its leftovers, and its recode.
use Rattle.std.specs.Prelude.{List, ℕ}
use Rattle.answers.specs.Answers.{Answer}
use Rattle.function_ids.specs.CallTable.{look01}
use Rattle.function.specs.Functions.{Function}
use Rattle.decode_definition.specs.Decode.{decode_of}
use Rattle.encode_definition.specs.Encode.{words_of}
use Rattle.roundtrip.specs.Codec.{Codec, recode_by, ByTable, Demand3}
use Rattle.roundtrip.specs.Leftovers.{Leftovers}

abbrev pub document01 : Codec
document01 = record { Call = Function; decode = decode_of; words = words_of; look = look01 }

-- proved in proofs/TwoCodecs.antt
abbrev pub ByTableOf01 : Type 0
ByTableOf01 = ByTable document01

abbrev pub Demand3Of01 : Type 0
Demand3Of01 = Demand3 document01

abbrev pub LeftoversOf01 : Type 0
LeftoversOf01 = Leftovers document01

abbrev pub recode_of : List ℕ → List ℕ → Answer (List ℕ)
recode_of regs run = recode_by document01 regs run
