-- What an exported function tells C of an answer, and what it leaves in the lent words. Assumes nothing.
use mathlib.Core.Path.{◌≡◌, sym, ap, ◌∙◌}
use mathlib.Core.List.{List}
use Prim.Native.Nat.{ℕ}
use lib.IntN.{ℤ, pos}
use lib.ListN.{length}
use Rattle.answers.specs.Answers.{Answer, accepted, refused, through}
use Rattle.answers.specs.Lent.{Writes, itself, left}
use Rattle.answers.specs.Told.{refusal_is, refusal_in}
use Rattle.answers.specs.declared.told.Refusal.{Refusal}
use Rattle.answers.proofs.Lending.{fronted_all, writes_as}

-- a writer's answer told to C
pub retold : {answer said : Answer (List ℕ)} {run last : List ℕ} {r : Refusal} → Writes itself answer run said last → r ≡ refusal_in said → Writes refusal_in answer run r last
retold w e = record { says = e ∙ ap (λ (a : Answer (List ℕ)). refusal_in a) w.says; leaves = w.leaves }

-- a thing that is handed over as so many words
module _ {A : Type 0} (words : A → List ℕ) {answer : Answer A} {run : List ℕ} {r : Refusal} where
  -- its words stand in a run as long
  pub tells_words : {a : A} {last : List ℕ} → answer ≡ accepted a → length (words a) ≡ length run → r ≡ refusal_is 0 (pos 0) → last ≡ words a →
      Writes refusal_in (through words answer) run r last
  tells_words {a} e l told stored = record {
    says = told ∙ ap (λ (x : Answer A). refusal_in (through words x)) (sym e);
    leaves = stored ∙ sym (fronted_all (words a) run l) ∙ ap (λ (x : Answer A). left (through words x) run) (sym e);
  }

  -- a refusal leaves the run
  pub tells_refusal : {number : ℕ} {value : ℤ} → answer ≡ refused number value → r ≡ refusal_is number value → Writes refusal_in (through words answer) run r run
  tells_refusal e told = record {
    says = told ∙ ap (λ (x : Answer A). refusal_in (through words x)) (sym e);
    leaves = ap (λ (x : Answer A). left (through words x) run) (sym e);
  }

  -- the same of an equal answer
  pub tells_as : {other : Answer A} {last : List ℕ} → answer ≡ other → Writes refusal_in (through words answer) run r last → Writes refusal_in (through words other) run r last
  tells_as e w = writes_as refusal_in (ap (through words) e) w
