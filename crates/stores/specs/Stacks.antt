-- What a stack of at most `most` elements answers, and what it holds then. A list is oldest first.
use Rattle.std.specs.Prelude.{ℕ, ◌-◌, min, cond, List, [], ◌∷◌, ◌++◌, length, take, Ok, Err, Result, ◌==◌, nat_lt, slice_index_or}
use Rattle.refusal.specs.declared.faults.StoreFault.{StoreFault}
use Rattle.refusal.specs.declared.faults.StoreFault.TheVariants.{Full, Empty}

-- a number as it is told
abbrev pub told : ℕ → ℕ
told n = min 65535 n

-- put is refused exactly at capacity
abbrev pub put_answer : {X : Type 0} → List X → ℕ → Result (Unit {0}) StoreFault
put_answer xs most = cond (nat_lt (length xs) most) (Ok tt) (Err (Full (told (length xs))))

abbrev pub put_after : {X : Type 0} → List X → ℕ → X → List X
put_after xs most x = cond (nat_lt (length xs) most) (xs ++ x ∷ []) xs

-- take is refused exactly when there is none
abbrev pub take_answer : {X : Type 0} → List X → Result (Unit {0}) StoreFault
take_answer xs = cond (length xs == 0) (Err (Empty (told (length xs)))) (Ok tt)

abbrev pub take_after : {X : Type 0} → List X → List X
take_after xs = take (length xs - 1) xs

-- what the given place holds after a take: the newest, or what it held
abbrev pub taken : {X : Type 0} → List X → X → X
taken xs old = slice_index_or xs (length xs - 1) old
