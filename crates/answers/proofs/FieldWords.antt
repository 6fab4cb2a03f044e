-- Words made of fields with all other bits zero, read and written back: one law each way, over the fields and what their values make. Assumes nothing.
use mathlib.Core.Path.{◌≡◌, sym, ap, ◌∙◌}
use mathlib.Core.Bool.{cond}
use mathlib.Core.List.{List}
use Prim.Native.Nat.{ℕ}
use lib.Dec.{T}
use lib.IntN.{pos}
use borrow.Author.Tests.{eqb-true}
use Rattle.bits.specs.Bits.{Field, get, put, cut_to, only}
use Rattle.bits.proofs.Fields.{FitFields, put_get, put_only}
use Rattle.bits.proofs.Masks.{rising}
use Rattle.bits.proofs.Picks.{if_true}
use Rattle.answers.specs.Answers.{Answer, accepted, refused}
use Rattle.answers.specs.Inverses.{WritesBack, ReadsBack}
use Rattle.answers.proofs.Answering.{passed}

module _ {A : Type 0} (fs : List Field) (make : List ℕ → A) (refusal : ℕ) where
  -- the reader: a word with no bit outside the fields is read as what the fields' values make
  abbrev pub read_fields : ℕ → Answer A
  read_fields word = cond (only fs word) (accepted (make (get fs word))) (refused refusal (pos word))

  -- a word put together from values that fit is read as what they make
  pub read_put : (vs : List ℕ) → T (rising 0 fs) → FitFields fs vs → read_fields (put fs vs) ≡ accepted (make vs)
  read_put vs t fit = sym (if_true _ _ (put_only fs vs t fit) (ap (λ (us : List ℕ). accepted (make us)) (sym (put_get fs vs t fit))))

  -- it is enough to write what the fields of any word make
  pub fields_write : (Word : ℕ → Type 0) (write : A → Answer ℕ) → ((word : ℕ) → write (make (get fs word)) ≡ accepted (cut_to fs word)) → WritesBack Word read_fields write
  fields_write Word write back word a h q =
      let o = passed (only fs word) (make (get fs word)) a refusal (pos word) q in
      ap write (sym o.1) ∙ back word ∙ ap accepted (eqb-true (cut_to fs word) word o.0)

  -- what was written is put together from values that fit and make the value written
  abbrev pub Put : A → ℕ → Type 0
  Put a word = (vs : List ℕ) × (FitFields fs vs × ((put fs vs ≡ word) × (make vs ≡ a)))

  pub fields_read : (Value : A → Type 0) (write : A → Answer ℕ) → T (rising 0 fs) → ((a : A) (word : ℕ) → Value a → write a ≡ accepted word → Put a word) → ReadsBack Value write read_fields
  fields_read Value write t written a word h q =
      let p = written a word h q in
      ap read_fields (sym p.1.1.0) ∙ read_put p.0 t p.1.0 ∙ ap accepted p.1.1.1
