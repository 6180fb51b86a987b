-- The lines of a text.
use Rattle.std.specs.Prelude.{◌≡◌, ℕ, cond, List, [], ◌∷◌, ◌++◌, ◌==◌, Option, Some, None}
use Rattle.std.specs.Borrow.{Bor}

-- a byte put before the first line
abbrev pub onto : ℕ → List (List ℕ) → List (List ℕ)
onto b [] = (b ∷ []) ∷ []
onto b (l ∷ ls) = (b ∷ l) ∷ ls

-- a text cut at byte 10: the last line need not be ended, and after the last end there is no line
abbrev pub lines : List ℕ → List (List ℕ)
lines [] = []
lines (b ∷ bs) = cond (b == 10) ([] ∷ lines bs) (onto b (lines bs))

-- what stands before a byte where it stands first, and what stands after it
abbrev pub before : ℕ → List ℕ → List ℕ
before byte [] = []
before byte (b ∷ bs) = cond (b == byte) [] (b ∷ before byte bs)

abbrev pub after : ℕ → List ℕ → List ℕ
after byte [] = []
after byte (b ∷ bs) = cond (b == byte) bs (after byte bs)

-- a text's first line, and what follows its end
abbrev pub first_line : List ℕ → List ℕ
first_line = before 10

abbrev pub after_line : List ℕ → List ℕ
after_line = after 10

-- a text cut in two where the byte stands first; where it stands nowhere, the text is left whole
abbrev pub Cut : ℕ → List ℕ → Option (Bor (List ℕ) × Bor (List ℕ)) → Type 0
Cut byte bs (Some x) = (x.0.now ≡ before byte bs) × (x.1.now ≡ after byte bs) × (bs ≡ x.0.now ++ byte ∷ x.1.now)
Cut byte bs None = (before byte bs ≡ bs) × (after byte bs ≡ [])
