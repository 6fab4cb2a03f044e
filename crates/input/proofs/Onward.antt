-- Reads one behind the other. Assumes nothing.
use Rattle.std.proofs.Common.{◌≡◌, ℕ, ◌+◌, ◌≤◌, Option, None, Some, List, ◌++◌, append_assoc, length, take, drop, drop_at, sym, ap, subst, ◌∙◌, take-append-drop}
use lib.Seq.{take-take, take-append-le}
use Rattle.std.specs.Io.KnownBytes.{Consumes}
use Rattle.std.proofs.lemmas.List.{drop-take}

both : (a b c : Option (List ℕ)) (bs cs : List ℕ) → Consumes a b bs → Consumes b c cs → Consumes a c (bs ++ cs)
both None b c bs cs p q = tt
both (Some x) None c bs cs p q = absurd p
both (Some x) (Some y) None bs cs p q = absurd q
both (Some x) (Some y) (Some z) bs cs p q = p ∙ ap (λ l. bs ++ l) q ∙ sym (append_assoc bs cs z)

-- what was read into the part of a list behind its front
pub read_behind : (a b : Option (List ℕ)) (front part rest : List ℕ) (f n : ℕ) → length front ≡ f → n ≤ length part → Consumes a b (take n part) →
    Consumes a b (drop f (take (f + n) (front ++ (part ++ rest))))
read_behind a b front part rest f n long fits read =
    subst (Consumes a b) (sym (drop-take f n (front ++ (part ++ rest)) ∙ ap (take n) (drop_at front (part ++ rest) f long) ∙ take-append-le n part rest fits)) read

-- xs was read up to f, and ys, which has that front, was read on up to n: up to there it is what both reads took of the reader
pub read_on : (a b c : Option (List ℕ)) (xs ys : List ℕ) (f n : ℕ) → f ≤ n → take f ys ≡ take f xs → Consumes a b (take f xs) →
    Consumes b c (drop f (take n ys)) → Consumes a c (take n ys)
read_on a b c xs ys f n on front before read =
    let kept : take f (take n ys) ≡ take f xs = take-take f n ys on ∙ front in
    subst (Consumes a c) (ap (λ l. l ++ drop f (take n ys)) (sym kept) ∙ take-append-drop f (take n ys)) (both a b c _ _ before read)
