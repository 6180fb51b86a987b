-- Equal numbers make equal movements, and which way a save and a restore go.
use Rattle.std.proofs.Common.{◌≡◌, ◌<◌, ◌≤◌, arith}
use Rattle.std.proofs.lemmas.Bool.Decides.{nat_tests}
use Rattle.ring.specs.Cycle.{most_resident}
use Rattle.ring.specs.Movements.{Movement, Moving, on_save, on_restore}

pub record SameNumbers (a b : Movement) : Type 0 where
  pub windows : a.windows ≡ b.windows
  pub pointer : a.pointer ≡ b.pointer
  pub resident : a.resident ≡ b.resident
  pub mask : a.mask ≡ b.mask
  pub held : a.held ≡ b.held
  pub room : a.room ≡ b.room
  pub counts : a.counts ≡ b.counts

pub same_movement : (a b : Movement) → SameNumbers a b → a ≡ b
same_movement a b s =
    λ i. record { windows = s.windows i; pointer = s.pointer i; resident = s.resident i; mask = s.mask i; held = s.held i; room = s.room i; counts = s.counts i }

pub same_moving : {P : Type 0} (x y : Moving P) → x.numbers ≡ y.numbers → x.policy ≡ y.policy → x ≡ y
same_moving x y e f = λ i. record { numbers = e i; policy = f i }

module _ {X : Type 0} (m : Movement) (fits refused moves : X) where
  pub save_fits : m.resident < most_resident m.windows → on_save m fits refused moves ≡ fits
  save_fits h = grind (arith, nat_tests)

  pub save_refused : most_resident m.windows ≤ m.resident → m.room ≤ m.held → on_save m fits refused moves ≡ refused
  save_refused h full = grind (arith, nat_tests)

  pub save_overflows : most_resident m.windows ≤ m.resident → m.held < m.room → on_save m fits refused moves ≡ moves
  save_overflows h some = grind (arith, nat_tests)

  pub restore_fits : 1 < m.resident → on_restore m fits refused moves ≡ fits
  restore_fits h = grind (arith, nat_tests)

  pub restore_refused : m.resident ≤ 1 → m.held ≤ 0 → on_restore m fits refused moves ≡ refused
  restore_refused h none = grind (arith, nat_tests)

  pub restore_underflows : m.resident ≤ 1 → 0 < m.held → on_restore m fits refused moves ≡ moves
  restore_underflows h some = grind (arith, nat_tests)
