-- Laws of answers: what an accepted answer tells of the tests and the steps that led to it. Assumes nothing.
use mathlib.Core.Path.{◌≡◌, refl}
use mathlib.Core.Bool.{Bool, true, false, cond}
use Prim.Native.Nat.{ℕ}
use native.Mathlib.Omega.{arith}
use lib.IntN.{ℤ}
use Rattle.answers.specs.Answers.{Answer, accepted, refused, through, and_then}

-- a refusal is no acceptance
pub not_accepted : {A B : Type 0} {number : ℕ} {value : ℤ} {a : A} → ◌≡◌ {A = Answer A} (refused number value) (accepted a) → B
not_accepted q = let z : ◌≡◌ {A = ℕ} 0 1 = cc in absurd (omega arith)

-- what is accepted is one thing
pub same_accepted : {A : Type 0} {a b : A} → ◌≡◌ {A = Answer A} (accepted a) (accepted b) → a ≡ b
same_accepted q = cc

-- what a test let pass
pub passed : {A : Type 0} (t : Bool) (a b : A) (number : ℕ) (value : ℤ) → cond t (accepted a) (refused number value) ≡ accepted b → (t ≡ true) × (a ≡ b)
passed true a b number value q = (refl, cc)
passed false a b number value q = not_accepted q

-- what was turned into something else
pub came_through : {A B : Type 0} (f : A → B) (x : Answer A) (b : B) → through f x ≡ accepted b → (a : A) × ((x ≡ accepted a) × (f a ≡ b))
came_through f (accepted a) b q = (a, (refl, cc))
came_through f (refused number value) b q = not_accepted q

-- what is turned twice is turned once by both
pub through_twice : {A B C : Type 0} (f : A → B) (g : B → C) (x : Answer A) → through g (through f x) ≡ through (λ a. g (f a)) x
through_twice f g (accepted a) = refl
through_twice f g (refused number value) = refl

-- what was accepted in two steps
pub came_then : {A B : Type 0} (x : Answer A) (f : A → Answer B) (b : B) → and_then x f ≡ accepted b → (a : A) × ((x ≡ accepted a) × (f a ≡ accepted b))
came_then (accepted a) f b q = (a, (refl, q))
came_then (refused number value) f b q = not_accepted q

-- a step after two steps is one after the second
pub then_then : {A B C : Type 0} (x : Answer A) (f : A → Answer B) (g : B → Answer C) → and_then x (λ a. and_then (f a) g) ≡ and_then (and_then x f) g
then_then (accepted a) f g = refl
then_then (refused number value) f g = refl

-- what a test handed on
pub handed_on : {A : Type 0} (t : Bool) (x : Answer A) (b : A) (number : ℕ) (value : ℤ) → cond t x (refused number value) ≡ accepted b → (t ≡ true) × (x ≡ accepted b)
handed_on true x b number value q = (refl, q)
handed_on false x b number value q = not_accepted q

-- what a test accepted at once, or else was turned into something else
pub at_once_or_through : {A B C : Type 0} (t : Bool) (b r : B) (f : A → B) (x : Answer A) → cond t (accepted b) (through f x) ≡ accepted r
    → (t ≡ true → b ≡ r → C) → ((a : A) → x ≡ accepted a → f a ≡ r → C) → C
at_once_or_through true b r f x q at_once later = at_once refl (cc)
at_once_or_through false b r f x q at_once later = let p = came_through f x r q in later p.0 p.1.0 p.1.1
