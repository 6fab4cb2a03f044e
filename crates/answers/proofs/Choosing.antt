-- Laws of `choose`, for any list of things that have numbers. Assumes nothing.
use mathlib.Core.Path.{◌≡◌, refl, sym, ap, ◌∙◌}
use mathlib.Core.Bool.{Bool, true, false, cond}
use mathlib.Core.List.{List, [], ◌∷◌}
use Prim.Native.Nat.{ℕ}
use lib.Dec.{eqb}
use lib.IntN.{ℤ, pos}
use borrow.Author.Tests.{ne_eqb, eqb-true}
use Rattle.bits.proofs.Picks.{both_true}
use Rattle.answers.specs.Answers.{Answer, accepted, refused, choose}
use Rattle.answers.specs.Inverses.{WritesBack, ReadsBack, always}
use Rattle.answers.proofs.Answering.{not_accepted, same_accepted}
use Rattle.answers.proofs.Inverting.{writes_always, reads_always}

module _ {A : Type 0} (number : A → ℕ) (otherwise : Answer A) where
  -- none of the list has the key for its number: the form in which the `_` arm of a `match` has it, after what R says.
  -- The `match` tests x, which is f of the key: the key itself, or the bits of a signed number
  abbrev pub NoneOf : (ℕ → ℕ) → ℕ → Type 0 → List A → Type 0
  NoneOf f x R [] = R
  NoneOf f x R (a ∷ rest) = NoneOf f x (R × (x ≡ f (number a) → ⊥)) rest

  first_not : (key : ℕ) (a : A) (rest : List A) → (key ≡ number a → ⊥) → choose number (a ∷ rest) otherwise key ≡ choose number rest otherwise key
  first_not key a rest ne = ap (λ (t : Bool). cond t (accepted a) (choose number rest otherwise key)) (ne_eqb key (number a) ne)

  after : (f : ℕ → ℕ) (key : ℕ) (R : Type 0) (all : List A) → NoneOf f (f key) R all → R × (choose number all otherwise key ≡ otherwise)
  after f key R [] n = (n, refl)
  after f key R (a ∷ rest) n =
      let later : (R × (f key ≡ f (number a) → ⊥)) × (choose number rest otherwise key ≡ otherwise) = after f key (R × (f key ≡ f (number a) → ⊥)) rest n in
      (later.0.0, first_not key a rest (λ q. later.0.1 (ap f q)) ∙ later.1)

  pub none_chosen : (f : ℕ → ℕ) (key : ℕ) (all : List A) → NoneOf f (f key) Unit all → otherwise ≡ choose number all otherwise key
  none_chosen f key all n = sym (after f key Unit all n).1

  tested : (key : ℕ) (a : A) (answer : Answer A) (b : A) (t : Bool) → eqb key (number a) ≡ t → (answer ≡ accepted b → number b ≡ key) → cond t (accepted a) answer ≡ accepted b → number b ≡ key
  tested key a answer b true e rest q = cc (eqb-true key (number a) e)
  tested key a answer b false e rest q = rest q

  -- what is chosen has the key for its number, unless it is what is given for none
  pub chosen_number : (key : ℕ) (all : List A) (b : A) → (otherwise ≡ accepted b → number b ≡ key) → choose number all otherwise key ≡ accepted b → number b ≡ key
  chosen_number key [] b none q = none q
  chosen_number key (a ∷ rest) b none q = tested key a (choose number rest otherwise key) b (eqb key (number a)) refl (chosen_number key rest b none) q

-- ---- an enum whose values have numbers

module _ {A : Type 0} (number : A → ℕ) (all : List A) (refusal : ℕ) where
  -- its reader: the value that has the word for its number, or a refusal that carries the word
  abbrev pub numbered : ℕ → Answer A
  numbered word = choose number all (refused refusal (pos word)) word

  -- what it reads has the word for its number
  pub numbered_is : (word : ℕ) (a : A) → numbered word ≡ accepted a → number a ≡ word
  numbered_is word a q = chosen_number number (refused refusal (pos word)) word all a (λ p. not_accepted p) q

  pub numbered_writes : (Word : ℕ → Type 0) → WritesBack Word numbered (always number)
  numbered_writes Word = writes_always numbered number Word (λ w a h q. numbered_is w a q)

  pub numbered_reads : (Value : A → Type 0) → ((a : A) → numbered (number a) ≡ accepted a) → ReadsBack Value (always number) numbered
  numbered_reads Value back = reads_always numbered number Value (λ a h. back a)

-- ---- a test of all that can be chosen

module _ {A : Type 0} (test : A → Bool) where
  -- whether all of some things pass
  abbrev pub every : List A → Bool
  every [] = true
  every (a ∷ rest) = cond (test a) (every rest) false

  -- what is chosen among them passes
  pub every_chosen : (number : A → ℕ) (all : List A) (refusal : ℕ) (value : ℤ) (key : ℕ) (b : A) → every all ≡ true →
      choose number all (refused refusal value) key ≡ accepted b → test b ≡ true
  every_chosen number [] refusal value key b e q = not_accepted q
  every_chosen number (a ∷ rest) refusal value key b e q =
      let both = both_true (test a) (every rest) e in
      by_key (eqb key (number a)) both.0 (λ r. every_chosen number rest refusal value key b both.1 r) q
    where
      by_key : (t : Bool) → test a ≡ true → (choose number rest (refused refusal value) key ≡ accepted b → test b ≡ true) →
          cond t (accepted a) (choose number rest (refused refusal value) key) ≡ accepted b → test b ≡ true
      by_key true p later r = sym (ap test (same_accepted r)) ∙ p
      by_key false p later r = later r
