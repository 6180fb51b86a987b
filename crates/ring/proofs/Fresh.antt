-- A ring as it is made.
use Rattle.std.proofs.Common.{◌≡◌, ℕ, List, replicate, ap, ◌∙◌, sym, arith}
use Rattle.frames.specs.declared.frame.Frame.{Frame}
use Rattle.frames.specs.Frames.{Frames, fresh}
use Rattle.stores.specs.declared.store.SaveStore.{Ghosts as Store}
use Rattle.ring.specs.declared.ring.WindowRing.{WindowRing}
use Rattle.ring.specs.declared.window_count.WindowCount.{WindowCount}
use Rattle.ring.specs.declared.windows.Windows.{Windows}
use Rattle.ring.specs.Fresh.{FreshExactlyOver}
use Rattle.ring.specs.Movements.{no_counts}
use Rattle.ring.specs.Residencies.{Stands}
use Rattle.ring.specs.Rings.{made_over, ring_frames}
use Rattle.ring.specs.Tables.{count_of, pointer_of, resident_of, words_of}
use Rattle.ring.proofs.Views.{new_ring}

pub made : (xs : List Frame) (room : ℕ) (t : Windows) (n : WindowCount) → words_of t ≡ replicate 512 0 → Stands t.residency n.count 0 1 →
    ring_frames xs room (words_of t) (count_of t) (pointer_of t) (resident_of t) ≡ made_over n.count xs room
made xs room t n zeros stands =
    let low = n.some_resident in
    (λ i. ring_frames xs room (zeros i) (stands.windows i) (stands.pointer i) (stands.resident i)) ∙ new_ring xs room n.count (omega arith) n.few

pub fresh_exactly : {S P : Type 0} (s : Store S) (x : WindowRing S P) (n : WindowCount) → words_of x.windows ≡ replicate 512 0 → Stands x.windows.residency n.count 0 1 → x.counts ≡ no_counts → FreshExactlyOver s x.store x
fresh_exactly s x n zeros stands none =
    let e = made (s.windows x.store) (s.capacity x.store) x.windows n zeros stands in (
      λ empty. record { one_frame_of_zeros = e ∙ ap (λ l. made_over n.count l (s.capacity x.store)) empty ∙ ap fresh (ap (λ (f : Frames). f.capacity) (sym e)); nothing_moved = none },
      λ is. ap (λ (f : Frames). f.older) (sym e ∙ is.one_frame_of_zeros),
    )
