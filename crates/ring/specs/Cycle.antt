-- Windows numbered 0 to n − 1 in a cycle, and the mask of those that are not resident.
use Rattle.std.specs.Prelude.{◌≡◌, ℕ, zero, suc, ◌+◌, ◌-◌, ◌*◌, ◌%◌, ◌^◌, ◌<◌, Bool, cond, ◌&&◌, nat_le, nat_lt}

-- the most windows that may be resident, of n
abbrev pub most_resident : ℕ → ℕ
most_resident n = n - 1

-- x modulo n, for x below 2 × n
abbrev pub wrap : ℕ → ℕ → ℕ
wrap n x = cond (nat_lt x n) x (x - n)

-- that is the remainder
abbrev pub WrapIsModulo : Type 0
WrapIsModulo = (n x : ℕ) → x < n + n → wrap n x ≡ x % n

-- the next window upwards, and downwards
abbrev pub up : ℕ → ℕ → ℕ
up n p = wrap n (p + 1)

abbrev pub down : ℕ → ℕ → ℕ
down n p = wrap n (p + n - 1)

-- how far w lies above p, upwards modulo n
abbrev pub distance : ℕ → ℕ → ℕ → ℕ
distance n p w = cond (nat_le p w) (w - p) (w + n - p)

-- w is one of n windows and is not resident, where r are: the pointer's, p, and those following it upwards
abbrev pub is_away : ℕ → ℕ → ℕ → ℕ → Bool
is_away n p r w = nat_lt w n && nat_le r (distance n p w)

-- the number whose bit w is 1 exactly where f holds of w, for w below n
unfoldable pub bits : (ℕ → Bool) → ℕ → ℕ
bits f zero = 0
bits f (suc n) = cond (f n) 1 0 * 2 ^ n + bits f n

-- the mask: bit w is 1 exactly when window w is not resident
abbrev pub mask_of : ℕ → ℕ → ℕ → ℕ
mask_of n p r = bits (is_away n p r) 32
