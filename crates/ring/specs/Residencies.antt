-- Where the pointer stands and how many windows are resident.
use Rattle.std.specs.Prelude.{◌≡◌, ℕ, ◌+◌, ◌-◌, count_ones}
use Rattle.ring.specs.declared.residency.Residency.{Residency}
use Rattle.ring.specs.Cycle.{down, mask_of, up}

-- the number of windows
abbrev pub window_count : Residency → ℕ
window_count x = x.windows.count

-- the number resident: the windows less the ones in the mask
abbrev pub resident_count : Residency → ℕ
resident_count x = window_count x - count_ones x.mask

-- of n windows r are resident, from the pointer p on
pub record Stands (x : Residency) (n p r : ℕ) : Type 0 where
  pub windows : window_count x ≡ n
  pub pointer : x.pointer ≡ p
  pub resident : resident_count x ≡ r
  pub mask : x.mask ≡ mask_of n p r

-- from x to y the k oldest resident windows were given up, and then the pointer went down by one
abbrev pub Advanced : Residency → Residency → ℕ → Type 0
Advanced x y k = Stands y (window_count x) (down (window_count x) x.pointer) (resident_count x + 1 - k)

-- from x to y the k windows above the resident ones became resident, and then the pointer went up by one
abbrev pub Retreated : Residency → Residency → ℕ → Type 0
Retreated x y k = Stands y (window_count x) (up (window_count x) x.pointer) (resident_count x + k - 1)
