-- The texts of a trace's requests, and what it is to read one. `decimal n` is what `{n}` writes.
use Rattle.std.specs.Prelude.{◌≡◌, ℕ, ◌^◌, ◌<◌, ◌⊎◌, List, ◌++◌, length, Some, None, codes, decimal, Option, ◌≢◌, slice_index}
use Rattle.std.specs.Borrow.{Bor}
use Rattle.frames.specs.declared.calls.Call.{Call}
use Rattle.frames.specs.declared.calls.Call.TheVariants.{Save, Restore, Read, Write, Depth, Spare}

-- a text that starts as a decimal may: with something, with no plus, and with a zero only if that is all
abbrev pub Plain : List ℕ → Type 0
Plain bs = (0 < length bs) × (slice_index bs 0 ≢ 43) × (slice_index bs 0 ≡ 48 → length bs ≡ 1)

-- a number that fits in 32 bits
abbrev pub Small : ℕ → Type 0
Small n = n < 2 ^ 32

-- two numbers, one space between
abbrev pub pair_text : ℕ × ℕ → List ℕ
pair_text p = decimal p.0 ++ (codes " " ++ decimal p.1)

-- both numbers fit in 32 bits
abbrev pub SmallPair : ℕ × ℕ → Type 0
SmallPair p = Small p.0 × Small p.1

-- `write 8 17`
abbrev pub call_text : Call → List ℕ
call_text Save = codes "save"
call_text Restore = codes "restore"
call_text (Read r) = codes "read " ++ decimal r
call_text (Write r v) = codes "write " ++ pair_text (r, v)
call_text Depth = codes "depth"
call_text Spare = codes "spare"

-- the calls that are one word
abbrev pub Bare : Call → Type 0
Bare Save = Unit {0}
Bare Restore = Unit {0}
Bare (Read r) = ⊥
Bare (Write r v) = ⊥
Bare Depth = Unit {0}
Bare Spare = Unit {0}

-- the calls with numbers, which fit in 32 bits
abbrev pub Numbered : Call → Type 0
Numbered Save = ⊥
Numbered Restore = ⊥
Numbered (Read r) = Small r
Numbered (Write r v) = SmallPair (r, v)
Numbered Depth = ⊥
Numbered Spare = ⊥

-- any call, with its numbers, if it has some, below 2^32
abbrev pub SmallCall : Call → Type 0
SmallCall c = Bare c ⊎ Numbered c

-- `flat 256`
abbrev pub flat_text : ℕ → List ℕ
flat_text n = codes "flat " ++ decimal n

-- a reader accepts a line exactly when it is the text of something small, and says of what
abbrev pub Reads : {X : Type 0} → (X → Type 0) → (X → List ℕ) → List ℕ → Option X → Type 0
Reads Small text line (Some x) = Small x × (line ≡ text x)
Reads {X} Small text line None = (x : X) → Small x → line ≢ text x

-- the same of a line's front, which a space ends; what follows may be any text
abbrev pub ReadsFront : {X : Type 0} → (X → Type 0) → (X → List ℕ) → List ℕ → Option (X × Bor (List ℕ)) → Type 0
ReadsFront Small text line (Some x) = Small x.0 × (line ≡ text x.0 ++ (codes " " ++ x.1.now))
ReadsFront {X} Small text line None = (x : X) (rest : List ℕ) → Small x → line ≢ text x ++ (codes " " ++ rest)
