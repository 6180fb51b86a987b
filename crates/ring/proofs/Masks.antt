-- Numbers made of tests of their bits.
use Rattle.std.proofs.Common.{◌≡◌, ℕ, zero, suc, ◌+◌, ◌-◌, ◌*◌, ◌^◌, ◌<◌, Bool, true, false, cond, not, ◌&&◌, ◌||◌, eqb, ltb, refl, ap, ◌∙◌, ap₂, pow-suc, arith}
use lib.Bits.{and_block, and_zero_l, bit_and, bit_or, or_block, or_zero_l}
use lib.Count.{ones, ones_cat, ones-ones}
use Rattle.std.proofs.lemmas.Bool.Decides.{nat_tests}
use Rattle.ring.specs.Cycle.{bits}

-- the bit of a test
abbrev digit : Bool → ℕ
digit b = cond b 1 0

or_digit : (a b : Bool) → bit_or (digit a) (digit b) ≡ digit (a || b)
or_digit true true = refl
or_digit true false = refl
or_digit false true = refl
or_digit false false = refl

and_digit : (a b : Bool) → bit_and (digit a) (digit b) ≡ digit (a && b)
and_digit true true = refl
and_digit true false = refl
and_digit false true = refl
and_digit false false = refl

ones_digit : (a : Bool) → ones (digit a) ≡ digit a
ones_digit true = ones-ones 1
ones_digit false = ones-ones 0

digit_or_not : (a : Bool) (n : ℕ) → digit a * n + digit (not a) * n ≡ n
digit_or_not true n = omega arith
digit_or_not false n = omega arith

-- each bit is set in one of the two
bits_and_not : (f : ℕ → Bool) (n : ℕ) → bits f n + bits (λ w. not (f w)) n + 1 ≡ 2 ^ n
unfolding bits
bits_and_not f zero = refl
bits_and_not f (suc n) = omega (arith, pow-suc 2 n, bits_and_not f n, digit_or_not (f n) (2 ^ n))

bits_lt : (f : ℕ → Bool) (n : ℕ) → bits f n < 2 ^ n
bits_lt f n = omega (arith, bits_and_not f n)

not_bits : (f : ℕ → Bool) (n : ℕ) → 2 ^ n - 1 - bits f n ≡ bits (λ w. not (f w)) n
not_bits f n = omega (arith, bits_and_not f n)

or_bits : (f g : ℕ → Bool) (n : ℕ) → bit_or (bits f n) (bits g n) ≡ bits (λ w. f w || g w) n
unfolding bits
or_bits f g zero = or_zero_l 0
or_bits f g (suc n) =
    or_block n (digit (f n)) (digit (g n)) (bits f n) (bits g n) (bits_lt f n) (bits_lt g n)
    ∙ ap₂ (λ (x y : ℕ). x * 2 ^ n + y) (or_digit (f n) (g n)) (or_bits f g n)

and_bits : (f g : ℕ → Bool) (n : ℕ) → bit_and (bits f n) (bits g n) ≡ bits (λ w. f w && g w) n
unfolding bits
and_bits f g zero = and_zero_l 0
and_bits f g (suc n) =
    and_block n (digit (f n)) (digit (g n)) (bits f n) (bits g n) (bits_lt f n) (bits_lt g n)
    ∙ ap₂ (λ (x y : ℕ). x * 2 ^ n + y) (and_digit (f n) (g n)) (and_bits f g n)

same_bits : (f g : ℕ → Bool) (n : ℕ) → ((w : ℕ) → f w ≡ g w) → bits f n ≡ bits g n
unfolding bits
same_bits f g zero h = refl
same_bits f g (suc n) h = ap₂ (λ (x : Bool) (y : ℕ). digit x * 2 ^ n + y) (h n) (same_bits f g n h)

one_bit : (k n : ℕ) → bits (eqb k) n ≡ cond (ltb k n) (2 ^ k) 0
unfolding bits
one_bit k zero = grind (arith, nat_tests)
one_bit k (suc n) = let e = one_bit k n in grind (arith, nat_tests)

-- one more test adds its bit
pub ones_next : (f : ℕ → Bool) (n : ℕ) → ones (bits f (suc n)) ≡ cond (f n) 1 0 + ones (bits f n)
unfolding bits
ones_next f n = ones_cat n (digit (f n)) (bits f n) (bits_lt f n) ∙ ap (λ (x : ℕ). x + ones (bits f n)) (ones_digit (f n))

-- bit k is set
pub set_bit : (f g : ℕ → Bool) (k m : ℕ) → k < 32 → m ≡ bits f 32 → ((w : ℕ) → (f w || eqb k w) ≡ g w) → bit_or m (2 ^ k) ≡ bits g 32
set_bit f g k m h e at =
    let one : 2 ^ k ≡ bits (eqb k) 32 = let o = one_bit k 32 in grind (arith, nat_tests) in
    ap₂ bit_or e one ∙ or_bits f (eqb k) 32 ∙ same_bits (λ w. f w || eqb k w) g 32 at

-- bit k is cleared
pub clear_bit : (f g : ℕ → Bool) (k m : ℕ) → k < 32 → m ≡ bits f 32 → ((w : ℕ) → (f w && not (eqb k w)) ≡ g w) → bit_and m (4294967295 - 2 ^ k) ≡ bits g 32
clear_bit f g k m h e at =
    let rest : 4294967295 - 2 ^ k ≡ bits (λ w. not (eqb k w)) 32 = let o = one_bit k 32 in let n = not_bits (eqb k) 32 in grind (arith, nat_tests) in
    ap₂ bit_and e rest ∙ and_bits f (λ w. not (eqb k w)) 32 ∙ same_bits (λ w. f w && not (eqb k w)) g 32 at
