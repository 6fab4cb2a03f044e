-- The call in the original format that nine words stand for.
use Rattle.std.specs.Prelude.{List, ℕ}
use Rattle.answers.specs.Answers.{Answer}
use Rattle.call_exports.specs.CallAsked.{call_at_by, asked_by}
use Rattle.call_exports.specs.Exports.{encode_asked}
use Rattle.call_exports.specs.OriginalWords.{original_suspended, original_behind}
use Rattle.original_calls.specs.OriginalFunctions.{OriginalFunction}
use Rattle.original_calls.specs.OriginalCalls.{original_encode_of}
use Rattle.original_exports.specs.OriginalNineWords.{original_nine_words}

-- the call of a tag: a suspend has its entry behind the three parts; any other call has its parts where document 01's has them, a power state at the end
abbrev pub original_at : List ℕ → ℕ → Answer OriginalFunction
original_at c tag = call_at_by original_suspended original_behind c tag

-- the call that nine words stand for
abbrev pub original_asked : List ℕ → Answer OriginalFunction
original_asked c = asked_by original_nine_words original_at c

-- the call that nine words stand for, written into a run
abbrev pub encode_original_words : List ℕ → List ℕ → Answer (List ℕ)
encode_original_words words run = encode_asked original_asked original_encode_of words run
