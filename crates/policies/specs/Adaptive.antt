-- The adaptive policy.
use Rattle.std.specs.Prelude.{ℕ, ◌+◌, ◌-◌, ◌≤◌, min}
use Rattle.std.proofs.Common.{arith}
use Rattle.policies.specs.declared.adaptive.Adaptive.{Adaptive}
use Rattle.policies.specs.Amounts.{AmountsInRange}

pub raised_few : (c : ℕ) → min (c + 1) 3 ≤ 3
raised_few c = omega arith

pub lowered_few : (c : ℕ) → c ≤ 3 → c - 1 ≤ 3
lowered_few c few = omega arith

-- an overflow raises the count by 1, up to 3
abbrev pub raised : Adaptive → Adaptive
raised p = record { count = min (p.count + 1) 3; at_most_three = raised_few p.count }

-- an underflow lowers it by 1, down to 0
abbrev pub lowered : Adaptive → Adaptive
lowered p = record { count = p.count - 1; at_most_three = lowered_few p.count p.at_most_three }

-- its law, from its type
pub adaptive_range : (p : Adaptive) → AmountsInRange (p.count + 1) (4 - p.count)
adaptive_range p =
    let few = p.at_most_three in
    record { some_spill = omega arith; few_spill = omega arith; some_fill = omega arith; few_fill = omega arith }
