-- A policy is known by its numbers.
use mathlib.Core.HLevel.{is_prop→PathP}
use Rattle.std.proofs.Common.{◌≡◌, ◌≤◌}
use native.Mathlib.Bridge.{le_prop}
use Rattle.policies.specs.declared.adaptive.Adaptive.{Adaptive}
use Rattle.policies.specs.declared.amount.Amount.{Amount}
use Rattle.policies.specs.declared.fixed.Fixed.{Fixed}

pub same_adaptive : (p q : Adaptive) → p.count ≡ q.count → p ≡ q
same_adaptive p q e = λ i. record { count = e i; at_most_three = is_prop→PathP (λ j. e j ≤ 3) (λ j. le_prop) p.at_most_three q.at_most_three i }

same_amount : (a b : Amount) → a.windows ≡ b.windows → a ≡ b
same_amount a b e =
    λ i.
    record {
      windows = e i;
      some = is_prop→PathP (λ j. 1 ≤ e j) (λ j. le_prop) a.some b.some i;
      few = is_prop→PathP (λ j. e j ≤ 31) (λ j. le_prop) a.few b.few i;
    }

pub same_fixed : (p q : Fixed) → p.spill.windows ≡ q.spill.windows → p.fill.windows ≡ q.fill.windows → p ≡ q
same_fixed p q s f = λ i. record { spill = same_amount p.spill q.spill s i; fill = same_amount p.fill q.fill f i }
