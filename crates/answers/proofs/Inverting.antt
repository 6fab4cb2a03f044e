-- A writer that never refuses: what it takes to invert a reader, either way. A writer whose words read back keeps values apart. Assumes nothing.
use mathlib.Core.Path.{◌≡◌, sym, ap, ◌∙◌}
use Rattle.answers.specs.Answers.{Answer, accepted}
use Rattle.answers.specs.Inverses.{WritesBack, ReadsBack, Apart, always, Any}
use Rattle.answers.proofs.Answering.{same_accepted}

module _ {A W : Type 0} (read : W → Answer A) (write : A → W) where
  pub writes_always : (Word : W → Type 0) → ((w : W) (a : A) → Word w → read w ≡ accepted a → write a ≡ w) → WritesBack Word read (always write)
  writes_always Word back w a h q = ap accepted (back w a h q)

  pub reads_always : (Value : A → Type 0) → ((a : A) → Value a → read (write a) ≡ accepted a) → ReadsBack Value (always write) read
  reads_always Value back a w h q = let e : w ≡ write a = cc in ap read e ∙ back a h

-- a word reads as one value
pub reads_apart : {A W : Type 0} (read : W → Answer A) (write : A → Answer W) → ReadsBack Any write read → Apart write
reads_apart read write back a b w p q = same_accepted (sym (back a w tt p) ∙ back b w tt q)
