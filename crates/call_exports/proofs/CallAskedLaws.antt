-- A call's own words ask for it, and no others: of any calls that have nine words. Assumes nothing.
use mathlib.Core.Path.{◌≡◌, refl, ap, ◌∙◌}
use mathlib.Core.Bool.{Bool, true, false, cond}
use mathlib.Core.List.{List}
use Prim.Native.Nat.{ℕ}
use lib.IntN.{pos}
use lib.ListN.{get_or}
use Rattle.std.specs.Cmp.Lexicographic.{bytes_decides}
use Rattle.answers.specs.Answers.{Answer, accepted, refused}
use Rattle.answers.proofs.Answering.{came_then, not_accepted, same_accepted}
use Rattle.call_exports.specs.Refusals.{wrong_part}
use Rattle.call_exports.specs.SameWords.{same, of_parts}
use Rattle.call_exports.specs.CallAsked.{asked_by}

module _ {A : Type 0} (words : A → List ℕ) (at : List ℕ → ℕ → Answer A) where
  -- words at whose tag there is the call of these words
  pub own_words : (f : A) → at (words f) (get_or (words f) 0 0) ≡ accepted f → asked_by words at (words f) ≡ accepted f
  unfolding asked_by of_parts
  own_words f found = simp (found, (bytes_decides (words f) (words f)).1 refl)

  pub only_own : (c : List ℕ) (f : A) → asked_by words at c ≡ accepted f → c ≡ words f
  unfolding asked_by of_parts
  only_own c f e =
      let o = came_then (at c (get_or c 0 0)) (λ g. of_parts c (words g) (accepted g)) f e in
      by_test o.0 (same c (words o.0)) refl o.1.1
    where
      by_test : (g : A) (t : Bool) → same c (words g) ≡ t → cond t (accepted g) (refused wrong_part (pos 0)) ≡ accepted f → c ≡ words f
      by_test g true s r = (bytes_decides c (words g)).0 s ∙ ap words (same_accepted r)
      by_test g false s r = not_accepted r
