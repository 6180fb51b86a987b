-- How the windows away change with the pointer and the number resident.
use Rattle.std.proofs.Common.{◌≡◌, ℕ, zero, suc, ◌+◌, ◌-◌, ◌^◌, ◌<◌, ◌≤◌, cond, ltb, sym, refl, ap, ◌∙◌, arith}
use lib.Bits.{bit_and, bit_or}
use lib.Count.{ones, ones-ones}
use Rattle.std.proofs.lemmas.Bool.Decides.{nat_tests}
use Rattle.ring.specs.Cycle.{bits, down, is_away, mask_of, most_resident, up, wrap}
use Rattle.ring.proofs.Masks.{clear_bit, ones_next, set_bit}

-- of a single window none is away
pub mask_of_one : 0 ≡ mask_of 1 0 1
unfolding bits
mask_of_one = refl

-- a window more is away
pub mask_wider : (n m : ℕ) → 1 ≤ n → n < 32 → m ≡ mask_of n 0 1 → bit_or m (2 ^ n) ≡ mask_of (n + 1) 0 1
mask_wider n m some few e = set_bit (is_away n 0 1) (is_away (n + 1) 0 1) n m few e (λ v. grind (arith, nat_tests))

module _ (n p r m : ℕ) (few : n ≤ 32) (inside : p < n) (most : r ≤ n) (e : m ≡ mask_of n p r) where
  -- the oldest resident window is given up
  pub mask_spilled : (r' w : ℕ) → r ≡ r' + 1 → w ≡ wrap n (p + r') → bit_or m (2 ^ w) ≡ mask_of n p r'
  mask_spilled r' w less at = set_bit (is_away n p r) (is_away n p r') w m (grind (arith, nat_tests)) e (λ v. grind (arith, nat_tests))

  -- the window above the resident ones becomes resident
  pub mask_filled : (r' w : ℕ) → r < n → r' ≡ r + 1 → w ≡ wrap n (p + r) → bit_and m (4294967295 - 2 ^ w) ≡ mask_of n p r'
  mask_filled r' w room more at = clear_bit (is_away n p r) (is_away n p r') w m (grind (arith, nat_tests)) e (λ v. grind (arith, nat_tests))

  -- the pointer goes down, to a window that becomes resident
  pub mask_down : (r' w : ℕ) → r < n → r' ≡ r + 1 → w ≡ down n p → bit_and m (4294967295 - 2 ^ w) ≡ mask_of n (down n p) r'
  mask_down r' w room more at = clear_bit (is_away n p r) (is_away n (down n p) r') w m (grind (arith, nat_tests)) e (λ v. grind (arith, nat_tests))

  -- the pointer goes up, from a window that is given up
  pub mask_up : (r' : ℕ) → r ≡ r' + 1 → bit_or m (2 ^ p) ≡ mask_of n (up n p) r'
  mask_up r' less = set_bit (is_away n p r) (is_away n (up n p) r') p m (omega arith) e (λ v. grind (arith, nat_tests))

-- of the windows below w, those below the pointer are away but for the resident ones past the wrap, and so are those past the resident ones
ones_below : (n p r w : ℕ) → p < n → r ≤ n → ones (bits (is_away n p r) w) ≡ (cond (ltb w p) w p - (p + r - n)) + (cond (ltb w n) w n - (p + r))
unfolding bits
ones_below n p r zero inside most = let none = ones-ones 0 in grind (arith, nat_tests)
ones_below n p r (suc w) inside most = let last = ones_next (is_away n p r) w in let rest = ones_below n p r w inside most in grind (arith, nat_tests)

-- the windows less the ones in the mask are the resident ones
pub resident_of_mask : (n p r m : ℕ) → n ≤ 32 → p < n → r ≤ n → m ≡ mask_of n p r → n - ones m ≡ r
resident_of_mask n p r m few inside most e = let same = ap ones e in let all = ones_below n p r 32 inside most in grind (arith, nat_tests)

-- what the ghost fields of a residency say
pub ghost_fields : (n p r m : ℕ) → n ≤ 32 → p < n → 1 ≤ r → r ≤ most_resident n → m ≡ mask_of n p r →
    (p < n) × ((ones m < n) × ((n ≤ most_resident n + ones m) × ((m ≡ mask_of n p (n - ones m)) × Unit {0})))
ghost_fields n p r m few inside some most e =
    let resident = resident_of_mask n p r m few inside (omega arith) e in
    (inside, (omega arith, (omega arith, (e ∙ ap (mask_of n p) (sym resident), tt))))
