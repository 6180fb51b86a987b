-- The fixed policy.
use Rattle.std.specs.Prelude.{◌≡◌, ℕ, cond, Some, None, Ok, Err, Option, Result}
use Rattle.refusal.specs.declared.faults.SetupFault.{SetupFault}
use Rattle.refusal.specs.declared.faults.SetupFault.TheVariants.{SpillAmount, FillAmount}
use Rattle.policies.specs.declared.fixed.Fixed.{Fixed}
use Rattle.policies.specs.Amounts.{is_amount, AmountsInRange}

-- the first of two chosen amounts that is not from 1 to 31
abbrev pub fixed_fault : ℕ → ℕ → Option SetupFault
fixed_fault spill fill = cond (is_amount spill) (cond (is_amount fill) None (Some (FillAmount fill))) (Some (SpillAmount spill))

-- a policy of these amounts
abbrev pub IsFixed : ℕ → ℕ → Fixed → Type 0
IsFixed spill fill p = (p.spill.windows ≡ spill) × (p.fill.windows ≡ fill)

-- the policy of two amounts, or the refusal of the first that is none
abbrev pub MakesFixed : ℕ → ℕ → Result Fixed SetupFault → Type 0
MakesFixed spill fill (Ok p) = (fixed_fault spill fill ≡ None) × IsFixed spill fill p
MakesFixed spill fill (Err e) = fixed_fault spill fill ≡ Some e

-- its law, from the types of its amounts
pub fixed_range : (p : Fixed) → AmountsInRange p.spill.windows p.fill.windows
fixed_range p = record { some_spill = p.spill.some; few_spill = p.spill.few; some_fill = p.fill.some; few_fill = p.fill.few }
