-- What decoding ignores of an accepted set, by any codec, and how it is told. Assumes nothing.
use mathlib.Core.Path.{◌≡◌, refl, sym, ap, ◌∙◌}
use mathlib.Core.List.{List}
use Prim.Native.Nat.{ℕ}
use lib.IntN.{pos}
use lib.ListN.{length}
use Rattle.answers.specs.Answers.{Answer, accepted}
use Rattle.answers.specs.Lent.{Writes, left}
use Rattle.answers.specs.Told.{refusal_is, refusal_in}
use Rattle.answers.specs.declared.told.Refusal.{Refusal}
use Rattle.answers.proofs.Lending.{fronted_all}
use Rattle.roundtrip.specs.Codec.{Codec, Registers, Demand3}
use Rattle.roundtrip.specs.Leftovers.{xor_each, or_else, zeros, ignored_by}

module _ (c : Codec) (demand3 : Demand3 c) (r : List ℕ) (h : Registers r) (f : c.Call) (decoded : c.decode r ≡ accepted f) where
  -- a decoded call has words, so these are what decoding ignores
  with_words : {words : List ℕ} → c.words f ≡ accepted words → ignored_by c r ≡ accepted (xor_each r (or_else zeros (c.words f)))
  with_words e = simp (decoded, e)

  ignored : ignored_by c r ≡ accepted (xor_each r (or_else zeros (c.words f)))
  ignored = with_words (demand3.of_one r f h decoded zeros refl).written

  -- four lent words that have become those
  pub told_ignored : {run last : List ℕ} {said : Refusal} → length run ≡ 4 → said ≡ refusal_is 0 (pos 0) → last ≡ xor_each r (or_else zeros (c.words f)) →
      Writes refusal_in (ignored_by c r) run said last
  told_ignored {run} four told stored = record {
    says = told ∙ ap (λ (a : Answer (List ℕ)). refusal_in a) (sym ignored);
    leaves = stored ∙ sym (fronted_all _ run (sym four)) ∙ ap (λ (a : Answer (List ℕ)). left a run) (sym ignored);
  }
