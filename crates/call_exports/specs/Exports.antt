-- What encoding gives for nine words.
use Rattle.std.specs.Prelude.{List, ℕ}
use Rattle.answers.specs.Answers.{Answer, and_then}
use Rattle.encode_definition.specs.Encode.{encode_of}
use Rattle.call_exports.specs.CallAsked.{call_asked}

-- the call that nine words ask for, written into a run: its refusals first, then those of encoding; of any calls that have nine words
abbrev pub encode_asked : {Call : Type 0} → (List ℕ → Answer Call) → (Call → List ℕ → Answer (List ℕ)) → List ℕ → List ℕ → Answer (List ℕ)
encode_asked asked encode words run = and_then (asked words) (λ f. encode f run)

-- of document 01's calls
abbrev pub encode_words : List ℕ → List ℕ → Answer (List ℕ)
encode_words words run = encode_asked call_asked encode_of words run
