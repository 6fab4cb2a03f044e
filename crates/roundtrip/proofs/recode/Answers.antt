-- `recode` reads again what it has written: demand 3. Assumes nothing.
use mathlib.Core.Path.{sym, ap, ◌∙◌}
use Prim.Native.Nat.{ℕ}
use lib.ListN.{get_or}
use mir.Syntax.{w64}
use mir.Val.{Fits}
use borrow.Author.Rules.{rules}
use Rattle.answers.specs.Errors.{answered}
use Rattle.roundtrip.specs.Codec.{codec_of}
use Rattle.roundtrip.proofs.Recoding.{encoded, read_again}
use Rattle.roundtrip.proofs.recode.Goals as goal

pub returns-clause-read_again : goal.returns-clause-read_again
returns-clause-read_again g c =
    let codec = codec_of g.C.Codec.decoding g.C.Codec.words g.C.Codec.look in
    let regs = c.args.regs in
    let fits : (i : ℕ) → Fits w64 (get_or regs i 0) = λ i. search rules in
    let decoded = sym c.decode.ensures.decodes ∙ ap answered c.in_ok-decode.was in
    let told = encoded codec regs _ _ c.encode.result _ decoded c.encode.ensures.writes in
    read_again codec regs _ c.decode.ensures.demand3 c.encode.result _ (record { fits = λ i. (fits i).fits }) told
