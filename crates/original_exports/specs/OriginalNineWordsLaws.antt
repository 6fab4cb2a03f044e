-- What the nine words of a call in the original format promise: as document 01's. Proved in proofs/OriginalNineWordsLaws.antt.
use Rattle.call_exports.specs.NineWordsLaws.{Worded, NineWordsLaws}
use Rattle.original_calls.specs.OriginalCodec.{original}
use Rattle.original_calls.specs.OriginalFunctions.{OriginalFunction}
use Rattle.original_exports.specs.OriginalAsked.{original_asked}
use Rattle.original_exports.specs.OriginalNineWords.{original_parts, original_nine_words}

abbrev pub original_worded : Worded OriginalFunction
original_worded = record { parts = original_parts; words = original_nine_words; asked = original_asked }

abbrev pub NineWordsOfOriginal : Type 0
NineWordsOfOriginal = NineWordsLaws original original_worded
