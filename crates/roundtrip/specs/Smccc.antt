-- Change 2's codec, the law that it brings, demand 3 of it, its leftovers, and its recode. Its decoder looks at the low half of r1 for memory protect, so that half is its
-- field in all terms of demand 3; the rest is document 01's, encoding too.
use Rattle.std.specs.Prelude.{List, ℕ}
use Rattle.answers.specs.Answers.{Answer}
use Rattle.function_ids.specs.CallTable.{look_smccc}
use Rattle.function.specs.Functions.{Function}
use Rattle.decode_definition.specs.Decode.{decode_smccc}
use Rattle.encode_definition.specs.Encode.{words_of}
use Rattle.roundtrip.specs.Codec.{Codec, recode_by, ByTable, Demand3}
use Rattle.roundtrip.specs.Leftovers.{Leftovers}

abbrev pub smccc : Codec
smccc = record { Call = Function; decode = decode_smccc; words = words_of; look = look_smccc }

-- proved in proofs/TwoCodecs.antt
abbrev pub ByTableOfSmccc : Type 0
ByTableOfSmccc = ByTable smccc

abbrev pub Demand3OfSmccc : Type 0
Demand3OfSmccc = Demand3 smccc

abbrev pub LeftoversOfSmccc : Type 0
LeftoversOfSmccc = Leftovers smccc

abbrev pub recode_smccc : List ℕ → List ℕ → Answer (List ℕ)
recode_smccc regs run = recode_by smccc regs run
