-- What the nine words of a call promise to a caller in C: they ask for that call and for no other, and words that decoding gave are never turned back when
-- they are handed to encoding. Stated of any codec whose calls have nine words, and so of document 01's and of Change 2's; proved in proofs/NineWordsLaws.antt.
use Rattle.std.specs.Prelude.{List, ◌≡◌, ℕ, length}
use Rattle.answers.specs.Answers.{Answer, accepted, through, and_then}
use Rattle.function.specs.Functions.{Function}
use Rattle.roundtrip.specs.Codec.{Codec, encode_by, recode_by, Registers, words_in}
use Rattle.roundtrip.specs.Document01.{document01}
use Rattle.roundtrip.specs.Smccc.{smccc}
use Rattle.call_exports.specs.CallAsked.{call_asked}
use Rattle.call_exports.specs.NineWords.{call_parts, nine_words}
use Rattle.call_exports.specs.Exports.{encode_asked}
use Rattle.call_exports.specs.Parts.{CallPart, Fit}

-- calls as words: the parts of a call, its nine words, and the call that nine words stand for
pub record Worded (Call : Type 0) : Type 0 where
  pub parts : Call → List CallPart
  pub words : Call → List ℕ
  pub asked : List ℕ → Answer Call

module _ (c : Codec) (w : Worded c.Call) where
  pub record NineWordsLaws : Type 0 where
    -- the words of a call whose parts fit their slots ask for that call
    pub own : (f : c.Call) → Fit (w.parts f) → w.asked (w.words f) ≡ accepted f
    -- so no two such calls have the same words
    pub apart : (f g : c.Call) → Fit (w.parts f) → Fit (w.parts g) → w.words f ≡ w.words g → f ≡ g
    -- and only the words of a call ask for it: all others are turned back
    pub only : (words : List ℕ) (f : c.Call) → w.asked words ≡ accepted f → words ≡ w.words f
    -- the parts of a decoded call fit their slots
    pub fit : (r : List ℕ) (f : c.Call) → Registers r → c.decode r ≡ accepted f → Fit (w.parts f)
    -- so encoding does not refuse its words, into a run of four numbers, and leaves what it leaves of the call
    pub taken : (r : List ℕ) (f : c.Call) → Registers r → c.decode r ≡ accepted f → (run : List ℕ) → length run ≡ 4 →
        encode_asked w.asked (encode_by c) (w.words f) run ≡ accepted (words_in c f run)
    -- decoding to nine words, and then encoding those, is recoding
    pub recoded : (r run : List ℕ) → Registers r →
        and_then (through w.words (c.decode r)) (λ words. encode_asked w.asked (encode_by c) words run) ≡ recode_by c r run

-- document 01's calls, which Change 2's decoder gives too
abbrev pub worded : Worded Function
worded = record { parts = call_parts; words = nine_words; asked = call_asked }

abbrev pub NineWordsOf01 : Type 0
NineWordsOf01 = NineWordsLaws document01 worded

abbrev pub NineWordsOfSmccc : Type 0
NineWordsOfSmccc = NineWordsLaws smccc worded
