-- An answer that a test picks, from what the test's outcome is known to be. Assumes nothing.
use mathlib.Core.Path.{◌≡◌, refl, sym, ap, ◌∙◌}
use mathlib.Core.Bool.{Bool, true, false, cond}
use mathlib.Core.Logic.{◌⊎◌, inl, inr}

module _ {A : Type 0} {x : A} {t : Bool} where
  pub if_true : (a b : A) → t ≡ true → x ≡ a → x ≡ cond t a b
  if_true a b e q = q ∙ sym (ap (λ (u : Bool). cond u a b) e)

  pub if_false : (a b : A) → t ≡ false → x ≡ b → x ≡ cond t a b
  if_false a b e q = q ∙ sym (ap (λ (u : Bool). cond u a b) e)

-- a claim of what a test picks holds where it holds of each of the two
pub choice : {A : Type 0} (P : A → Type 0) (t : Bool) {x y : A} → (t ≡ true → P x) → (t ≡ false → P y) → P (cond t x y)
choice P true f g = f refl
choice P false f g = g refl

-- what a test that came out true tells of the two that it is made of: both are true, the second alone, one of them
pub both_true : (t u : Bool) → cond t u false ≡ true → (t ≡ true) × (u ≡ true)
both_true true u h = (refl, h)
both_true false u h = cc

pub other_true : (t u : Bool) → cond t false u ≡ true → (t ≡ false) × (u ≡ true)
other_true true u h = cc
other_true false u h = (refl, h)

pub with_either : (t u : Bool) → cond t true u ≡ true → (t ≡ true) ⊎ (u ≡ true)
with_either true u h = inl refl
with_either false u h = inr h
