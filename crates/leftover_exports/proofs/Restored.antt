-- What the decoders with leftovers give is written as the registers again: of any codec whose calls have nine words. Assumes nothing.
use mathlib.Core.Path.{◌≡◌, refl, ap, ◌∙◌}
use mathlib.Core.List.{List}
use Prim.Native.Nat.{ℕ}
use lib.ListN.{length}
use Rattle.answers.specs.Answers.{Answer, accepted, refused, through, and_then}
use Rattle.roundtrip.specs.Codec.{Codec, Registers}
use Rattle.roundtrip.specs.Document01.{document01}
use Rattle.roundtrip.specs.Smccc.{smccc}
use Rattle.roundtrip.specs.Leftovers.{ignored_by, leftovers_by, encode_with_by, Leftovers}
use Rattle.roundtrip.proofs.TwoCodecs.{leftovers_of_01, leftovers_of_smccc}
use Rattle.call_exports.specs.Exports.{encode_asked}
use Rattle.call_exports.specs.NineWordsLaws.{Worded, NineWordsLaws, worded}
use Rattle.call_exports.proofs.NineWordsLaws.{nine_words_of_01, nine_words_of_smccc}
use Rattle.leftover_exports.specs.Exports.{RestoresOf01, RestoresOfSmccc}

module _ (c : Codec) (w : Worded c.Call) (nine : NineWordsLaws c w) (laws : Leftovers c) (r run : List ℕ) (l : length r ≡ 4) (h : Registers r) (four : length run ≡ 4) where
  -- nine words written with leftovers
  abbrev written : List ℕ → List ℕ → Answer (List ℕ)
  written words leftovers = encode_asked w.asked (λ f. encode_with_by c f leftovers) words run

  -- those of a decoded call, with its leftovers
  of_call : (f : c.Call) → c.decode r ≡ accepted f → written (w.words f) (leftovers_by c r) ≡ accepted r
  of_call f e =
      ap (λ (a : Answer c.Call). and_then a (λ g. encode_with_by c g (leftovers_by c r) run)) (nine.own f (nine.fit r f h e))
      ∙ (laws.of_set r f l h e run four).restores

  restored : (answer : Answer c.Call) → c.decode r ≡ answer →
      and_then (through w.words answer) (λ words. and_then (ignored_by c r) (λ leftovers. written words leftovers)) ≡ through (λ f. r) answer
  restored (accepted f) e =
      ap (λ (a : Answer (List ℕ)). and_then a (λ leftovers. written (w.words f) leftovers)) (laws.of_set r f l h e run four).given ∙ of_call f e
  restored (refused number value) e = refl

pub restores_of_01 : RestoresOf01
restores_of_01 r run l h four = restored document01 worded nine_words_of_01 leftovers_of_01 r run l h four _ refl

pub restores_of_smccc : RestoresOfSmccc
restores_of_smccc r run l h four = restored smccc worded nine_words_of_smccc leftovers_of_smccc r run l h four _ refl
