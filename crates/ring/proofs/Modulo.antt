-- Wrapping round once is the remainder.
use Rattle.std.proofs.Common.{mod-eq_of_lt, arith}
use native.Mathlib.Nat.{mod-eq-sub-mod}
use Rattle.std.proofs.lemmas.Bool.Decides.{nat_tests}
use Rattle.ring.specs.Cycle.{WrapIsModulo}

pub wrap_is_modulo : WrapIsModulo
wrap_is_modulo n x twice = grind (arith, nat_tests, mod-eq_of_lt, mod-eq-sub-mod)
