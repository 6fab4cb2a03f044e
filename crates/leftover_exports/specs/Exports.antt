-- What writing nine words with leftovers gives; and what a caller in C is promised of the three functions together, proved in proofs/Restored.antt.
use Rattle.std.specs.Prelude.{List, ◌≡◌, ℕ, length}
use Rattle.answers.specs.Answers.{Answer, through, and_then}
use Rattle.function.specs.Functions.{Function}
use Rattle.decode_definition.specs.Decode.{decode_of, decode_smccc}
use Rattle.roundtrip.specs.Codec.{Registers}
use Rattle.roundtrip.specs.Document01.{document01}
use Rattle.roundtrip.specs.Smccc.{smccc}
use Rattle.roundtrip.specs.Leftovers.{ignored_by, encode_with_by}
use Rattle.call_exports.specs.CallAsked.{call_asked}
use Rattle.call_exports.specs.NineWords.{nine_words}
use Rattle.call_exports.specs.Exports.{encode_asked}

-- the call that nine words ask for, written with leftovers into a run: the refusals of the nine words first, then those of encoding
abbrev pub encode_words_with : List ℕ → List ℕ → List ℕ → Answer (List ℕ)
encode_words_with words leftovers run = encode_asked call_asked (λ f. encode_with_by document01 f leftovers) words run

-- The nine words and the leftovers that a decoder gives for a set, written into any lent run of four numbers, are the set again, and are never turned
-- back; what the decoder refuses is refused.
abbrev pub Restores : (List ℕ → Answer Function) → (List ℕ → Answer (List ℕ)) → Type 0
Restores decode ignored = (r run : List ℕ) → length r ≡ 4 → Registers r → length run ≡ 4 →
    and_then (through nine_words (decode r)) (λ words. and_then (ignored r) (λ leftovers. encode_words_with words leftovers run)) ≡ through (λ f. r) (decode r)

abbrev pub RestoresOf01 : Type 0
RestoresOf01 = Restores decode_of (ignored_by document01)

abbrev pub RestoresOfSmccc : Type 0
RestoresOfSmccc = Restores decode_smccc (ignored_by smccc)
