-- Document 01, "The typed call": feature: 0x80000000 (SMCCC version) or one of the 35 numbers.
use Rattle.std.specs.Prelude.{cond, ℕ, eqb}
use Rattle.answers.specs.Answers.{Answer, accepted, through}
use Rattle.function_ids.specs.FunctionIds.{function_number, read_function_id}
use Rattle.words.specs.declared.psci_features.PsciFeature.{PsciFeature}
use Rattle.words.specs.declared.psci_features.PsciFeature.TheVariants.{PsciFunction, SmcccVersion}

abbrev pub feature_number : PsciFeature → ℕ
feature_number (PsciFunction f) = function_number f
feature_number SmcccVersion = 0x80000000

unfoldable pub read_feature : ℕ → Answer PsciFeature
read_feature word = cond (eqb word 0x80000000) (accepted SmcccVersion) (through PsciFunction (read_function_id word))
