-- A codec, what follows from it, the one law that it brings, and demand 3 about any codec, in the terms of document 01, "The four written words".
-- Demand 3 is stated here and proved of any codec with that law in proofs/Demand3.antt, the law of what is inside in proofs/InsideLaws.antt.
use Rattle.std.specs.Prelude.{◌≡◌, List, ◌⊎◌, ℕ, zero, suc, ◌/◌, ◌%◌, ◌^◌, ◌<◌, length, get_or}
use Rattle.answers.specs.Answers.{Answer, accepted, and_then}
use Rattle.answers.specs.Lent.{left}
use Rattle.function_ids.specs.CallTable.{Part, low_half, whole, part_of, Look, nothing, value, zero_or_not, keep, number_in, kept_set}
use Rattle.encode_definition.specs.Encode.{in_four}

-- A codec: its typed calls; what decoding gives for four registers; the four words of a call, or the refusal of a call that has none; and what is
-- looked at in register 1, 2 or 3 under a function number: its listed field there.
pub record Codec : Type 1 where
  pub Call : Type 0
  pub decode : List ℕ → Answer Call
  pub words : Call → Answer (List ℕ)
  pub look : ℕ → ℕ → Look

-- the same of its parts, as the code's trait has them
abbrev pub codec_of : {Call : Type 0} → (List ℕ → Answer Call) → (Call → Answer (List ℕ)) → (ℕ → ℕ → Look) → Codec
codec_of {Call} decode words look = record { Call = Call; decode = decode; words = words; look = look }

-- registers of 64 bits
pub record Registers (r : List ℕ) : Type 0 where
  pub fits : (i : ℕ) → get_or r i 0 < 2 ^ 64

-- ---- what follows from a codec's calls, decoding and words

module _ (c : Codec) where
  -- encoding: a call's words for a lent run, 17 first
  abbrev pub encode_by : c.Call → List ℕ → Answer (List ℕ)
  encode_by f run = in_four (c.words f) run

  -- a set's call, in words again: decode's refusals first, then those of its words
  abbrev pub reworded_by : List ℕ → Answer (List ℕ)
  reworded_by regs = and_then (c.decode regs) c.words

  -- recoding: the same for a lent run: decode's refusals first, then encode's
  abbrev pub recode_by : List ℕ → List ℕ → Answer (List ℕ)
  recode_by regs run = and_then (c.decode regs) (λ f. encode_by f run)

  -- The one law that a codec brings: it decodes by what is kept of a set, and what it accepts has just that for its words.
  pub record ByTable : Type 0 where
    pub call : List ℕ → Answer c.Call
    pub decodes : (r : List ℕ) → c.decode r ≡ call (kept_set c.look r)
    pub writes : (r : List ℕ) (f : c.Call) → Registers r → c.decode r ≡ accepted f → c.words f ≡ accepted (kept_set c.look r)

-- ---- demand 3, and its terms

-- bit j of a word
abbrev pub bit : ℕ → ℕ → ℕ
bit j word = word / 2 ^ j % 2

-- a field's bits are the low 32 bits or the whole register
abbrev pub width : Part → ℕ
width low_half = 32
width whole = 64

-- bit j is one of a field's bits
abbrev pub InField : Look → ℕ → Type 0
InField nothing j = ⊥
InField (value part) j = j < width part
InField (zero_or_not part) j = j < width part

-- two registers agree in a field: its bits are the same in both; in memory protect's, it is zero in both or in neither
abbrev pub AgreeIn : Look → ℕ → ℕ → Type 0
AgreeIn nothing x y = Unit {0}
AgreeIn (value part) x y = (j : ℕ) → j < width part → bit j x ≡ bit j y
AgreeIn (zero_or_not part) x y = (part_of part x ≡ 0 → part_of part y ≡ 0) × (part_of part y ≡ 0 → part_of part x ≡ 0)

module _ (c : Codec) where
  -- two sets carry the same function number and agree in every field listed for it
  pub record Agree (r s : List ℕ) : Type 0 where
    pub number : number_in r ≡ number_in s
    pub fields : (i : ℕ) → 0 < i → i < 4 → AgreeIn (c.look (number_in r) i) (get_or r i 0) (get_or s i 0)

  -- bit j of register i is in the low half of r0, or in a field listed for the function number; outside is every other bit
  abbrev pub Inside : ℕ → ℕ → ℕ → Type 0
  Inside number i j = ((i ≡ 0) × (j < 32)) ⊎ ((0 < i) × InField (c.look number i) j)

  -- what is kept of a register: of r0 its low half, the function number; of another what is looked at in it
  abbrev pub kept_register : ℕ → ℕ → ℕ → ℕ
  kept_register number zero word = word % 2 ^ 32
  kept_register number (suc i) word = keep (c.look number (suc i)) word

  pub record InsideLaws : Type 0 where
    -- no bit is inside but those that are looked at: what is kept of a register in which such a bit alone is set is not 0
    pub looked_at : (number i j : ℕ) → Inside number i j → 0 < kept_register number i (2 ^ j)
    -- so a register in which nothing is looked at has no bit inside
    pub none : (number i j : ℕ) → 0 < i → c.look number i ≡ nothing → Inside number i j → ⊥

  -- a call's four words: what encoding leaves in a lent run of four numbers
  abbrev pub words_in : c.Call → List ℕ → List ℕ
  words_in f run = left (encode_by c f run) run

  -- of the call f of an accepted set, and any lent run of four numbers
  pub record OfOne (f : c.Call) (run : List ℕ) : Type 0 where
    -- encoding does not refuse the call
    pub written : encode_by c f run ≡ accepted (words_in f run)
    -- its four words are accepted, and decode to that same call
    pub again : c.decode (words_in f run) ≡ accepted f
    -- they are zero outside
    pub clear : (i j : ℕ) → i < 4 → (Inside (number_in (words_in f run)) i j → ⊥) → bit j (get_or (words_in f run) i 0) ≡ 0

  -- of two accepted sets r and s, their calls f and g, and any two lent runs of four numbers
  pub record OfTwo (r s : List ℕ) (f g : c.Call) (run other : List ℕ) : Type 0 where
    -- the calls are equal exactly when the sets carry the same function number and agree in every field listed for it
    pub agree : f ≡ g → Agree r s
    pub equal : Agree r s → f ≡ g
    -- and exactly then the four words of the two calls are equal
    pub same : f ≡ g → words_in f run ≡ words_in g other
    pub back : words_in f run ≡ words_in g other → f ≡ g

  pub record Demand3 : Type 0 where
    pub of_one : (r : List ℕ) (f : c.Call) → Registers r → c.decode r ≡ accepted f → (run : List ℕ) → length run ≡ 4 → OfOne f run
    pub of_two : (r s : List ℕ) (f g : c.Call) → Registers r → Registers s → c.decode r ≡ accepted f → c.decode s ≡ accepted g →
        (run other : List ℕ) → length run ≡ 4 → length other ≡ 4 → OfTwo r s f g run other
