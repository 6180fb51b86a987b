-- Every ring keeps the shape of its frames. It stands here since a file's type carries it.
use Rattle.std.specs.Prelude.{◌≡◌, ℕ, zero, suc, ◌+◌, ◌-◌, ◌<◌, ◌≤◌, List, length, nat_lt, refl}
use Rattle.std.proofs.Common.{⊎_elim, ap, arith}
use Rattle.std.specs.List.{AllByRecursion}
use Rattle.std.proofs.ByRecursion.{All-append}
use Rattle.std.proofs.lemmas.List.{length-append}
use Rattle.std.proofs.lemmas.Bool.{cases_lt, cond-false, cond-true, le-ltb, lt-ltb}
use Rattle.frames.specs.declared.frame.Frame.{Frame}
use Rattle.frames.specs.Frames.{Eight, Shaped, depth_of}
use Rattle.frames.specs.FlatShape.{length_eight}
use Rattle.stores.specs.declared.store.SaveStore.{Ghosts as Store}
use Rattle.ring.specs.declared.ring.WindowRing.{WindowRing}
use Rattle.ring.specs.Cycle.{down, most_resident, wrap}
use Rattle.ring.specs.Rings.{frames_of, ring_frames}
use Rattle.ring.specs.Tables.{count_of, pointer_of, resident_of, words_of}
use Rattle.ring.specs.Words.{ins_at, locals_at, upper, window_at}

pub length_upper : (ws : List ℕ) (n p c : ℕ) → length (upper ws n p c) ≡ c
length_upper ws n p zero = refl
length_upper ws n p (suc c) = ap suc (length_upper ws n p c)

-- the depth is what the store holds and the ring has resident
pub depth_ring : (xs : List Frame) (room : ℕ) (ws : List ℕ) (n p r : ℕ) → 1 ≤ r → depth_of (ring_frames xs room ws n p r) ≡ length xs + r
depth_ring xs room ws n p r some =
    let a = length-append xs (upper ws n p (r - 1)) in
    let b = length_upper ws n p (r - 1) in
    omega arith

wrap_lt : (n x : ℕ) → x < n + n → wrap n x < n
wrap_lt n x h =
    ⊎_elim
    (λ (l : x < n). let e = cond-true (nat_lt x n) x (x - n) (lt-ltb x n l) in omega arith)
    (λ (l : n ≤ x). let e = cond-false (nat_lt x n) x (x - n) (le-ltb x n l) in omega arith)
    (cases_lt x n)

window_eight : (ws : List ℕ) (w : ℕ) → length ws ≡ 512 → w < 32 → Eight (window_at ws w)
window_eight ws w long h = (length_eight ws (ins_at w) (omega arith), length_eight ws (locals_at w) (omega arith))

upper_eight : (ws : List ℕ) (n p c : ℕ) → length ws ≡ 512 → n ≤ 32 → p < n → c < n → AllByRecursion Eight (upper ws n p c)
upper_eight ws n p zero long few inside h = tt
upper_eight ws n p (suc c) long few inside h = (window_eight ws (wrap n (p + (c + 1))) long (let w = wrap_lt n (p + (c + 1)) (omega arith) in omega arith), upper_eight ws n p c long few inside (omega arith))

ring_frames_shape : (xs : List Frame) (room : ℕ) (ws : List ℕ) (n p r : ℕ) → length ws ≡ 512 → n ≤ 32 → p < n → 1 ≤ r → r < n → r ≤ most_resident n → length xs ≤ room → AllByRecursion Eight xs → Shaped (ring_frames xs room ws n p r)
ring_frames_shape xs room ws n p r long few inside some less most within eight =
    record {
      older_eight = All-append Eight xs (upper ws n p (r - 1)) eight (upper_eight ws n p (r - 1) long few inside (omega arith));
      newest_eight = window_eight ws p long (omega arith);
      outs_eight = let below = wrap_lt n (p + n - 1) (omega arith) in length_eight ws (ins_at (down n p)) (omega arith);
      within = let d = depth_ring xs room ws n p r some in omega arith;
    }

pub ring_shape : {S P : Type 0} (s : Store S) (x : WindowRing S P) → Shaped (frames_of s x)
ring_shape s x =
    let t = x.windows in
    let y = t.residency in
    let some = y.some_resident in
    let limit = y.within_the_limit in
    let low = y.windows.some_resident in
    ring_frames_shape (s.windows x.store) (s.capacity x.store) (words_of t) (count_of t) (pointer_of t) (resident_of t) t.table.long y.windows.few y.inside (omega arith) (omega arith) (omega arith) (s.within x.store) (s.eight x.store)
