-- The amounts that a policy may ask for.
use Rattle.std.specs.Prelude.{◌≡◌, ℕ, ◌≤◌, Bool, true, false, ◌&&◌, Some, None, Option, nat_le}
use Rattle.policies.specs.declared.amount.Amount.{Amount}

-- amounts from 1 to 31
abbrev pub is_amount : ℕ → Bool
is_amount n = nat_le 1 n && nat_le n 31

-- the amount of a number, if it is one
abbrev pub MakesAmount : ℕ → Option Amount → Type 0
MakesAmount n (Some a) = (is_amount n ≡ true) × (a.windows ≡ n)
MakesAmount n None = is_amount n ≡ false

-- the law of every policy
pub record AmountsInRange (spill fill : ℕ) : Type 0 where
  pub some_spill : 1 ≤ spill
  pub few_spill : spill ≤ 31
  pub some_fill : 1 ≤ fill
  pub few_fill : fill ≤ 31
