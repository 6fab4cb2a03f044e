-- What each function accepts is written as its number and the values of its fields. Assumes nothing.
use mathlib.Core.Path.{◌≡◌, refl, ap}
use mathlib.Core.Bool.{Bool, true, false, cond}
use mathlib.Core.List.{List, [], ◌∷◌}
use Prim.Native.Nat.{ℕ, zero, suc, ◌^◌, ◌<◌}
use native.Mathlib.Omega.{arith}
use lib.Dec.{leb}
use lib.IntN.{pos}
use Rattle.answers.specs.Answers.{Answer, accepted, refused, through}
use Rattle.answers.specs.Inverses.{WritesBack, always, Word32}
use Rattle.answers.proofs.Answering.{same_accepted}
use Rattle.function_ids.specs.FunctionIds.{Form, narrow, wide, function_number}
use Rattle.function_ids.specs.declared.FunctionId.{FunctionId}
use Rattle.function_ids.specs.declared.FunctionId.TheVariants as id
use Rattle.function_ids.specs.CallTable.{Part, low_half, whole, Look, nothing, value, zero_or_not, rule_of, look_of_number, value_in}
use Rattle.words.specs.Mpidrs.{read_mpidr32, read_mpidr64, write_mpidr64}
use Rattle.words.specs.declared.mpidrs.Mpidr.{Mpidr}
use Rattle.words.proofs.MpidrWords.{mpidr32_wide, mpidr64_wide}
use Rattle.words.proofs.ResetTypeLaws.{reset_type_laws}
use Rattle.words.proofs.WordLaws.{word_laws}
use Rattle.function.specs.Forms.{mpidr_form}
use Rattle.function.specs.Functions.{function_id_of}
use Rattle.function.specs.declared.Call.{Call}
use Rattle.function.specs.declared.Call.TheVariants.{AffinityInfo}
use Rattle.decode_definition.specs.RefusalOrders.{affinity_info}
use Rattle.decode_definition.specs.RefusalOrders.{of_core_state}
use Rattle.decode_definition.specs.Decode.{call_of}
use Rattle.encode_definition.specs.Arguments.{arguments_by}
use Rattle.encode_definition.specs.Encode.{words_by}

-- the values that can be kept of a register
abbrev pub FitsLook : Look → ℕ → Type 0
FitsLook nothing x = x ≡ 0
FitsLook (value low_half) x = x < 2 ^ 32
FitsLook (value whole) x = x < 2 ^ 64
FitsLook (zero_or_not part) x = x < 2

-- a core address in either form
abbrev pub mpidr_at : Form → ℕ → Answer Mpidr
mpidr_at narrow a = read_mpidr32 a
mpidr_at wide a = read_mpidr64 a

-- it has its form, and is written as it was
pub mpidr_back : (form : Form) (a : ℕ) (m : Mpidr) → mpidr_at form a ≡ accepted m → (mpidr_form m.aff3 ≡ form) × (write_mpidr64 m ≡ a)
mpidr_back narrow a m e = let o = mpidr32_wide a m e in (ap mpidr_form o.0, o.1)
mpidr_back wide a m e = let o = mpidr64_wide a m e in (ap mpidr_form o.0.1, o.1)

-- a function's words: its number, and the values of its fields in their registers
abbrev row : FunctionId → ℕ → ℕ → ℕ → List ℕ
row f a b c = function_number f ∷ a ∷ b ∷ c ∷ []

zeros : {n a b c : ℕ} → a ≡ 0 → b ≡ 0 → c ≡ 0 → ◌≡◌ {A = Answer (List ℕ)} (accepted (n ∷ 0 ∷ 0 ∷ 0 ∷ [])) (accepted (n ∷ a ∷ b ∷ c ∷ []))
zeros p q s = simp (p, q, s)

-- what is accepted is written as these words, by the writer of the format of the power state
abbrev pub WritesBackAs : {S : Type 0} → (S → Answer ℕ) → Answer (Call S) → List ℕ → Type 0
WritesBackAs write (accepted f) words = words_by write f ≡ accepted words
WritesBackAs write (refused number carried) words = Unit {0}

-- whatever the format of the power state, as long as its writer writes back what its reader accepts
module _ {S : Type 0} (read : ℕ → Answer S) (write : S → Answer ℕ) (back : WritesBack Word32 read write) where
  -- ---- a field that is read and written back

  module _ {A : Type 0} (call : A → Call S) (words : List ℕ) where
    answered : (x : Answer A) → ((a : A) → x ≡ accepted a → words_by write (call a) ≡ accepted words) → WritesBackAs write (through call x) words
    answered (accepted a) f = f a refl
    answered (refused number carried) f = tt

    -- a word whose writer may refuse
    word_row : (reader : ℕ → Answer A) (writer : A → Answer ℕ) → WritesBack Word32 reader writer → (a : ℕ) → a < 2 ^ 32 →
        ((x : A) → writer x ≡ accepted a → words_by write (call x) ≡ accepted words) → WritesBackAs write (through call (reader a)) words
    word_row reader writer both a h f = answered (reader a) (λ x e. f x (both a x h e))

    -- a word whose writer never refuses
    number_row : (reader : ℕ → Answer A) (number : A → ℕ) → WritesBack Word32 reader (always number) → (a : ℕ) → a < 2 ^ 32 →
        ((x : A) → number x ≡ a → words_by write (call x) ≡ accepted words) → WritesBackAs write (through call (reader a)) words
    number_row reader number both a h f = word_row reader (always number) both a h (λ x e. f x (same_accepted e))

  state_row : (call : S → Call S) (words : List ℕ) (a : ℕ) → a < 2 ^ 32 →
      ((s : S) → write s ≡ accepted a → words_by write (call s) ≡ accepted words) → WritesBackAs write (through call (read a)) words
  state_row call words a h f = word_row call words read write back a h f

  module _ (form : Form) where
    mpidr_row : (call : Mpidr → Call S) (words : List ℕ) (a : ℕ) →
        ((m : Mpidr) → mpidr_form m.aff3 ≡ form → write_mpidr64 m ≡ a → words_by write (call m) ≡ accepted words) → WritesBackAs write (through call (mpidr_at form a)) words
    mpidr_row call words a f = answered call words (mpidr_at form a) (λ m e. let o = mpidr_back form a m e in f m o.0 o.1)

    level_row : (most a b : ℕ) (words : List ℕ) →
        ((m : Mpidr) → mpidr_form m.aff3 ≡ form → write_mpidr64 m ≡ a → words_by write (AffinityInfo m b) ≡ accepted words) →
        WritesBackAs write (affinity_info most b (mpidr_at form a)) words
    level_row most a b words f = tested (leb b most)
      where
        tested : (t : Bool) → WritesBackAs write (cond t (through (λ m. AffinityInfo m b) (mpidr_at form a)) (refused 5 (pos b))) words
        tested true = mpidr_row (λ m. AffinityInfo m b) words a f
        tested false = tt

    core_state_row : (call : Mpidr → S → Call S) (words : List ℕ) (a b : ℕ) → b < 2 ^ 32 →
        ((m : Mpidr) (s : S) → mpidr_form m.aff3 ≡ form → write_mpidr64 m ≡ a → write s ≡ accepted b → words_by write (call m s) ≡ accepted words) →
        WritesBackAs write (of_core_state call (mpidr_at form a) (read b)) words
    core_state_row call words a b h f = met (mpidr_at form a) (λ m e. mpidr_back form a m e)
      where
        met : (x : Answer Mpidr) → ((m : Mpidr) → x ≡ accepted m → (mpidr_form m.aff3 ≡ form) × (write_mpidr64 m ≡ a)) →
            WritesBackAs write (of_core_state call x (read b)) words
        met (accepted m) g = let o = g m refl in state_row (call m) words b h (λ s e. f m s o.0 o.1 e)
        met (refused number carried) g = tt

  -- ---- the rows

  protect_row : (a : ℕ) → a < 2 → WritesBackAs write (call_of read id.MemProtect (value_in (rule_of (function_number id.MemProtect)).fields (row id.MemProtect a 0 0))) (row id.MemProtect a 0 0)
  unfolding rule_of words_by function_id_of arguments_by
  protect_row zero h = refl
  protect_row (suc zero) h = refl
  protect_row (suc (suc a)) h = absurd (omega arith)

  -- whichever part of r1 memory protect looks at
  pub row_law : (protect : Part) (f : FunctionId) (a b c : ℕ) →
      FitsLook (look_of_number protect (function_number f) 1) a → FitsLook (look_of_number protect (function_number f) 2) b → FitsLook (look_of_number protect (function_number f) 3) c →
      WritesBackAs write (call_of read f (value_in (rule_of (function_number f)).fields (row f a b c))) (row f a b c)
  unfolding rule_of words_by function_id_of arguments_by
  row_law protect id.PsciVersion a b c p q s = zeros p q s
  row_law protect id.CpuSuspend32 a b c p q s = state_row _ _ a p (λ x e. simp e)
  row_law protect id.CpuSuspend64 a b c p q s = state_row _ _ a p (λ x e. simp e)
  row_law protect id.CpuOff a b c p q s = zeros p q s
  row_law protect id.CpuOn32 a b c p q s = mpidr_row narrow _ _ a (λ m k e. simp (k, e))
  row_law protect id.CpuOn64 a b c p q s = mpidr_row wide _ _ a (λ m k e. simp (k, e))
  row_law protect id.AffinityInfo32 a b c p q s = level_row narrow 2 a b _ (λ m k e. simp (k, e, s))
  row_law protect id.AffinityInfo64 a b c p q s = level_row wide 3 a b _ (λ m k e. simp (k, e, s))
  row_law protect id.Migrate32 a b c p q s = mpidr_row narrow _ _ a (λ m k e. simp (k, e, q, s))
  row_law protect id.Migrate64 a b c p q s = mpidr_row wide _ _ a (λ m k e. simp (k, e, q, s))
  row_law protect id.MigrateInfoType a b c p q s = zeros p q s
  row_law protect id.MigrateInfoUpCpu32 a b c p q s = zeros p q s
  row_law protect id.MigrateInfoUpCpu64 a b c p q s = zeros p q s
  row_law protect id.SystemOff a b c p q s = zeros p q s
  row_law protect id.SystemReset a b c p q s = zeros p q s
  row_law protect id.PsciFeatures a b c p q s = number_row _ _ _ _ word_laws.feature_writes_back a p (λ x e. simp (e, q, s))
  row_law protect id.CpuFreeze a b c p q s = zeros p q s
  row_law protect id.CpuDefaultSuspend32 a b c p q s = simp s
  row_law protect id.CpuDefaultSuspend64 a b c p q s = simp s
  row_law protect id.NodeHwState32 a b c p q s = mpidr_row narrow _ _ a (λ m k e. simp (k, e, s))
  row_law protect id.NodeHwState64 a b c p q s = mpidr_row wide _ _ a (λ m k e. simp (k, e, s))
  row_law protect id.SystemSuspend32 a b c p q s = simp s
  row_law protect id.SystemSuspend64 a b c p q s = simp s
  row_law protect id.PsciSetSuspendMode a b c p q s = number_row _ _ _ _ word_laws.mode_writes_back a p (λ x e. simp (e, q, s))
  row_law protect id.PsciStatResidency32 a b c p q s = core_state_row narrow _ _ a b q (λ m x k e u. simp (k, e, u, s))
  row_law protect id.PsciStatResidency64 a b c p q s = core_state_row wide _ _ a b q (λ m x k e u. simp (k, e, u, s))
  row_law protect id.PsciStatCount32 a b c p q s = core_state_row narrow _ _ a b q (λ m x k e u. simp (k, e, u, s))
  row_law protect id.PsciStatCount64 a b c p q s = core_state_row wide _ _ a b q (λ m x k e u. simp (k, e, u, s))
  row_law protect id.SystemReset232 a b c p q s = word_row _ _ _ _ reset_type_laws.reset_type_writes_back a p (λ x e. simp (e, s))
  row_law protect id.SystemReset264 a b c p q s = word_row _ _ _ _ reset_type_laws.reset_type_writes_back a p (λ x e. simp (e, s))
  row_law protect id.MemProtect a b c p q s = rw (q, s) (protect_row a p)
  row_law protect id.MemProtectCheckRange32 a b c p q s = simp s
  row_law protect id.MemProtectCheckRange64 a b c p q s = simp s
  row_law protect id.SystemOff232 a b c p q s = number_row _ _ _ _ word_laws.off_type_writes_back a p (λ x e. simp (e, s))
  row_law protect id.SystemOff264 a b c p q s = number_row _ _ _ _ word_laws.off_type_writes_back a p (λ x e. simp (e, s))
