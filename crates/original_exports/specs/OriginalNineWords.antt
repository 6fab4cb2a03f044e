-- The nine words of a call in the original format: document 01's, but that a power state has three parts.
use Rattle.std.specs.Prelude.{List, ℕ}
use Rattle.call_exports.specs.NineWords.{parts_by, nine_words_by}
use Rattle.call_exports.specs.OriginalWords.{original_state_parts}
use Rattle.call_exports.specs.Parts.{CallPart}
use Rattle.original_calls.specs.OriginalFunctions.{OriginalFunction}

-- the tag, and the parts of its fields in their order
abbrev pub original_parts : OriginalFunction → List CallPart
original_parts f = parts_by original_state_parts f

abbrev pub original_nine_words : OriginalFunction → List ℕ
original_nine_words f = nine_words_by original_state_parts f
