-- What the nine words of a call promise: of any codec, by two laws; and these laws of document 01's calls. Assumes nothing.
use mathlib.Core.Path.{◌≡◌, refl, sym, ap, ◌∙◌}
use mathlib.Core.List.{List}
use Prim.Native.Nat.{ℕ}
use lib.ListN.{length}
use Rattle.answers.specs.Answers.{Answer, accepted, refused, through, and_then}
use Rattle.answers.proofs.Answering.{same_accepted}
use Rattle.roundtrip.specs.Codec.{Codec, encode_by, recode_by, Registers, words_in, Demand3}
use Rattle.roundtrip.specs.Document01.{document01}
use Rattle.roundtrip.specs.Smccc.{smccc}
use Rattle.roundtrip.proofs.TwoCodecs.{demand3_of_01, demand3_of_smccc}
use Rattle.call_exports.specs.Exports.{encode_asked}
use Rattle.call_exports.specs.NineWordsLaws.{Worded, NineWordsLaws, worded, NineWordsOf01, NineWordsOfSmccc}
use Rattle.call_exports.specs.Parts.{Fit}
use Rattle.call_exports.proofs.DecodedFit.{fit_of_01, fit_of_smccc}
use Rattle.call_exports.proofs.OwnWords.{own_call, only_call}

module _ (c : Codec) (w : Worded c.Call) (d3 : Demand3 c)
    (own : (f : c.Call) → Fit (w.parts f) → w.asked (w.words f) ≡ accepted f)
    (only : (words : List ℕ) (f : c.Call) → w.asked words ≡ accepted f → words ≡ w.words f)
    (fit : (r : List ℕ) (f : c.Call) → Registers r → c.decode r ≡ accepted f → Fit (w.parts f)) where
  apart : (f g : c.Call) → Fit (w.parts f) → Fit (w.parts g) → w.words f ≡ w.words g → f ≡ g
  apart f g p q e = same_accepted (sym (own f p) ∙ ap w.asked e ∙ own g q)

  -- what encoding gives of a decoded call's words is what it gives of the call
  asked_again : (r : List ℕ) (f : c.Call) → Registers r → c.decode r ≡ accepted f → (run : List ℕ) →
      encode_asked w.asked (encode_by c) (w.words f) run ≡ encode_by c f run
  asked_again r f h d run = ap (λ (a : Answer c.Call). and_then a (λ g. encode_by c g run)) (own f (fit r f h d))

  taken : (r : List ℕ) (f : c.Call) → Registers r → c.decode r ≡ accepted f → (run : List ℕ) → length run ≡ 4 →
      encode_asked w.asked (encode_by c) (w.words f) run ≡ accepted (words_in c f run)
  taken r f h d run l = asked_again r f h d run ∙ (d3.of_one r f h d run l).written

  recoded : (r run : List ℕ) → Registers r →
      and_then (through w.words (c.decode r)) (λ words. encode_asked w.asked (encode_by c) words run) ≡ recode_by c r run
  recoded r run h = met (c.decode r) refl
    where
      met : (x : Answer c.Call) → c.decode r ≡ x →
          and_then (through w.words x) (λ words. encode_asked w.asked (encode_by c) words run) ≡ and_then x (λ f. encode_by c f run)
      met (accepted f) e = asked_again r f h e run
      met (refused number value) e = refl

  pub nine_words_laws : NineWordsLaws c w
  nine_words_laws = record { own = own; apart = apart; only = only; fit = fit; taken = taken; recoded = recoded }

pub nine_words_of_01 : NineWordsOf01
nine_words_of_01 = nine_words_laws document01 worded demand3_of_01 own_call only_call fit_of_01

pub nine_words_of_smccc : NineWordsOfSmccc
nine_words_of_smccc = nine_words_laws smccc worded demand3_of_smccc own_call only_call fit_of_smccc
