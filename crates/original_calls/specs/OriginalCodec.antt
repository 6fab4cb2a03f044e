-- Change 1's codec, the law that it brings, demand 3 of it, its leftovers, and its recode: a register set is compared only with others read in the same format. What is
-- looked at is document 01's, memory protect's r1 too.
use Rattle.std.specs.Prelude.{List, ℕ}
use Rattle.answers.specs.Answers.{Answer}
use Rattle.function_ids.specs.CallTable.{look01}
use Rattle.roundtrip.specs.Codec.{Codec, recode_by, ByTable, Demand3}
use Rattle.roundtrip.specs.Leftovers.{Leftovers}
use Rattle.original_calls.specs.OriginalFunctions.{OriginalFunction}
use Rattle.original_calls.specs.OriginalCalls.{original_decode_of, original_words_of}

abbrev pub original : Codec
original = record { Call = OriginalFunction; decode = original_decode_of; words = original_words_of; look = look01 }

-- proved in proofs/Original.antt
abbrev pub ByTableOfOriginal : Type 0
ByTableOfOriginal = ByTable original

abbrev pub Demand3OfOriginal : Type 0
Demand3OfOriginal = Demand3 original

abbrev pub LeftoversOfOriginal : Type 0
LeftoversOfOriginal = Leftovers original

abbrev pub recode_original : List ℕ → List ℕ → Answer (List ℕ)
recode_original regs run = recode_by original regs run
