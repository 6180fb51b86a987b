-- Which windows a save and a restore move, and where they go.
use Rattle.std.specs.Prelude.{◌≡◌, ℕ, ◌-◌, List, ◌++◌, length, take, drop}
use Rattle.frames.specs.declared.frame.Frame.{Frame}
use Rattle.policies.specs.declared.policy.SpillPolicy.{Ghosts as Policy}
use Rattle.stores.specs.declared.store.SaveStore.{Ghosts as Store}
use Rattle.ring.specs.declared.residency.Residency.{Residency}
use Rattle.ring.specs.declared.ring.WindowRing.{WindowRing}
use Rattle.ring.specs.declared.windows.Windows.{Windows}
use Rattle.ring.specs.Movements.{moving, spills_now, fills_now}
use Rattle.ring.specs.Residencies.{window_count}
use Rattle.ring.specs.Tables.{count_of, pointer_of, resident_of, words_of}
use Rattle.ring.specs.Words.{residents, upper}

-- the store holds ys where it held xs: it gained the k oldest resident windows, oldest first
abbrev pub Spilled : Windows → List Frame → List Frame → ℕ → Type 0
Spilled t xs ys k = ys ≡ xs ++ take k (residents (words_of t) (count_of t) (pointer_of t) (resident_of t))

-- the store holds ys where it held xs: the k newest went to the windows above the pointer's, the newest to the nearest. ws are the words after
pub record Filled (r : Residency) (ws : List ℕ) (xs ys : List Frame) (k : ℕ) : Type 0 where
  pub store_lost_the_newest : ys ≡ take (length xs - k) xs
  pub windows_have_them : upper ws (window_count r) r.pointer k ≡ drop (length xs - k) xs

-- what a save moves
abbrev pub Spills : {S P : Type 0} → Store S → Policy P → WindowRing S P → WindowRing S P → Type 0
Spills s r x y = Spilled x.windows (s.windows x.store) (s.windows y.store) (spills_now r (moving s x))

-- what a restore moves
abbrev pub Fills : {S P : Type 0} → Store S → Policy P → WindowRing S P → WindowRing S P → Type 0
Fills s r x y = Filled x.windows.residency (words_of y.windows) (s.windows x.store) (s.windows y.store) (fills_now r (moving s x))
