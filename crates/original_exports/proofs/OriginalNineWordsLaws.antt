-- What the nine words of a call in the original format promise, by the laws of any format. Assumes nothing.
use mathlib.Core.Path.{◌≡◌}
use mathlib.Core.List.{List}
use Prim.Native.Nat.{ℕ}
use Rattle.answers.specs.Answers.{accepted}
use Rattle.function_ids.specs.CallTable.{whole}
use Rattle.words.specs.OriginalPowerStates.{read_original_power_state}
use Rattle.function.specs.declared.Call.TheVariants.{CpuSuspend}
use Rattle.roundtrip.specs.Codec.{Registers}
use Rattle.call_exports.specs.OriginalWords.{original_state_parts, original_suspended, original_behind}
use Rattle.call_exports.specs.Parts.{Fit, entry_parts}
use Rattle.call_exports.proofs.CallAskedLaws.{only_own}
use Rattle.call_exports.proofs.DecodedFit.{decoded_fit}
use Rattle.call_exports.proofs.NineWordsLaws.{nine_words_laws}
use Rattle.call_exports.proofs.OriginalWords.{original_state_own, original_state_fits}
use Rattle.call_exports.proofs.OwnParts.{of_both, entry_own}
use Rattle.call_exports.proofs.OwnWords.{own_call_by}
use Rattle.original_calls.specs.OriginalCalls.{original_decode_of}
use Rattle.original_calls.specs.OriginalCodec.{original}
use Rattle.original_calls.specs.OriginalFunctions.{OriginalFunction}
use Rattle.original_calls.proofs.Original.{demand3_of_original}
use Rattle.original_exports.specs.OriginalAsked.{original_at, original_asked}
use Rattle.original_exports.specs.OriginalNineWordsLaws.{original_worded, NineWordsOfOriginal}
use Rattle.original_exports.specs.OriginalNineWords.{original_parts, original_nine_words}

own_original : (f : OriginalFunction) → Fit (original_parts f) → original_asked (original_nine_words f) ≡ accepted f
own_original =
    own_call_by original_state_parts original_suspended original_behind
    (λ s e h. of_both CpuSuspend (original_state_parts s) (entry_parts e) h (original_state_own s) (entry_own e))
    (λ n m s h. original_state_own s h)

only_original : (c : List ℕ) (f : OriginalFunction) → original_asked c ≡ accepted f → c ≡ original_nine_words f
only_original c f e = only_own original_nine_words original_at c f e

fit_of_original : (r : List ℕ) (f : OriginalFunction) → Registers r → original_decode_of r ≡ accepted f → Fit (original_parts f)
fit_of_original r f h d = decoded_fit read_original_power_state original_state_parts original_state_fits whole r f h d

pub nine_words_of_original : NineWordsOfOriginal
nine_words_of_original = nine_words_laws original original_worded demand3_of_original own_original only_original fit_of_original
