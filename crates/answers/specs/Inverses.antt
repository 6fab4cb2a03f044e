-- What it means that a reader and a writer invert each other, and that a writer keeps values apart.
use Rattle.std.specs.Prelude.{◌≡◌, ℕ, ◌<◌, ◌^◌}
use Rattle.answers.specs.Answers.{Answer, accepted}

-- what the reader accepts of some words, the writer writes back
abbrev pub WritesBack : {A W : Type 0} → (W → Type 0) → (W → Answer A) → (A → Answer W) → Type 0
WritesBack {A} {W} Word read write = (w : W) (a : A) → Word w → read w ≡ accepted a → write a ≡ accepted w

-- what the writer gives for some values, the reader reads back
abbrev pub ReadsBack : {A W : Type 0} → (A → Type 0) → (A → Answer W) → (W → Answer A) → Type 0
ReadsBack {A} {W} Value write read = (a : A) (w : W) → Value a → write a ≡ accepted w → read w ≡ accepted a

-- no two values that the writer accepts are written as one word
abbrev pub Apart : {A W : Type 0} → (A → Answer W) → Type 0
Apart {A} {W} write = (a b : A) (w : W) → write a ≡ accepted w → write b ≡ accepted w → a ≡ b

-- a writer that never refuses
abbrev pub always : {A W : Type 0} → (A → W) → A → Answer W
always write a = accepted (write a)

-- the words of 32 and of 64 bits
abbrev pub Word32 : ℕ → Type 0
Word32 word = word < 2 ^ 32

abbrev pub Word64 : ℕ → Type 0
Word64 word = word < 2 ^ 64

-- every value of a type
abbrev pub Any : {A : Type 0} → A → Type 0
Any a = Unit {0}
