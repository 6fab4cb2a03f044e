-- Document 01, "What is turned back, by operation": a refusal has a number and carries a value, and these two tell which it is. So a contract that
-- gives them gives the refusal itself. Each layer has an enum of its own, and says this of it.
use Rattle.std.specs.Prelude.{◌≡◌, Bool, true, false, cond, List, [], ◌∷◌, map, ℕ, ltb, ℤ}
use Rattle.answers.specs.Answers.{Answer, accepted, refused, choose}

-- The refusals of a layer: the papers' number of each, the value that it carries, and all of them, each with the value that it would carry.
pub record Refusals : Type 1 where
  pub Refusal : Type 0
  pub number : Refusal → ℕ
  pub value : Refusal → ℤ
  pub cases : ℤ → List Refusal

-- whether some numbers rise, each above the one before
abbrev pub rise : List ℕ → Bool
rise [] = true
rise (n ∷ []) = true
rise (n ∷ (m ∷ rest)) = cond (ltb n m) (rise (m ∷ rest)) false

module _ (r : Refusals) where
  -- the case that has a number, with a value; 0 is no refusal's number
  abbrev pub case_of : ℕ → ℤ → Answer r.Refusal
  case_of number value = choose r.number (r.cases value) (refused 0 value) number

  pub record RefusalLaws : Type 0 where
    -- the cases stand in the order of the papers' numbers, and no two have one number
    pub in_order : (value : ℤ) → rise (map r.number (r.cases value)) ≡ true
    -- each refusal is the case of its number with its value
    pub listed : (e : r.Refusal) → case_of (r.number e) (r.value e) ≡ accepted e
    -- so two refusals with one number that carry one value are the same
    pub told_apart : (e f : r.Refusal) → r.number e ≡ r.number f → r.value e ≡ r.value f → e ≡ f
