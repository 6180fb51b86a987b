-- One window more on its way between a ring and its store.
use Rattle.std.proofs.Common.{◌≡◌, ℕ, ◌+◌, ◌-◌, ◌<◌, ◌≤◌, List, [], ◌∷◌, ◌++◌, length, get_or, take, drop, sym, ap, ◌∙◌, ap₂, append_assoc, arith}
use Rattle.std.proofs.lemmas.Bool.{cond_below}
use Rattle.std.proofs.lemmas.List.{drop_more, get_or-take, length-append, length_push, length-take-le, take_more, take-take}
use Rattle.std.proofs.lemmas.Bool.Decides.{nat_tests}
use Rattle.frames.specs.declared.frame.Frame.{Frame}
use Rattle.frames.specs.Frames.{no_frame}
use Rattle.stores.specs.declared.window.SavedWindow.{SavedWindow}
use Rattle.stores.specs.Stacks.{put_after, take_after, taken}
use Rattle.stores.specs.Windows.{saved_frame}
use Rattle.ring.specs.Cycle.{down, up, wrap}
use Rattle.ring.specs.declared.windows.Windows.{Windows}
use Rattle.ring.specs.Tables.{count_of, pointer_of, resident_of, words_of}
use Rattle.ring.specs.Transfers.{Spilled}
use Rattle.ring.proofs.Depths.{few_resident, some_resident}
use Rattle.ring.specs.Words.{residents, upper, window_at, with_window}
use Rattle.ring.specs.RingShape.{length_upper}
use Rattle.ring.proofs.Groups.{window_written, window_kept}
use Rattle.ring.proofs.Uppers.{drop_upper, get_or_upper, upper_end, upper_same, upper_step}

-- the resident windows are those above the one below the pointer's
pub residents_upper : (ws : List ℕ) (n p r : ℕ) → p < n → 1 ≤ r → r < n → residents ws n p r ≡ upper ws n (down n p) r
residents_upper ws n p r inside some few =
    let back : p ≡ up n (down n p) = grind (arith, nat_tests) in
    let below : down n p < n = grind (arith, nat_tests) in
    sym (upper_end ws n (down n p) p r below some few back)

pub length_residents : (ws : List ℕ) (n p r : ℕ) → 1 ≤ r → length (residents ws n p r) ≡ r
length_residents ws n p r some =
    let a = length_push (upper ws n p (r - 1)) (window_at ws p) in
    let b = length_upper ws n p (r - 1) in
    omega arith

-- the resident windows, one by one from the oldest
pub resident_at : (ws : List ℕ) (n p r j : ℕ) (d : Frame) → p < n → r < n → j < r → get_or (residents ws n p r) j d ≡ window_at ws (wrap n (p + (r - (j + 1))))
resident_at ws n p r j d inside few h =
    let e : r ≡ j + (r - (j + 1) + 1) = omega arith in
    let t : wrap n (down n p + (r - (j + 1) + 1)) ≡ wrap n (p + (r - (j + 1))) = grind (arith, nat_tests) in
    ap (λ (l : List Frame). get_or l j d) (residents_upper ws n p r inside (omega arith) few)
    ∙ get_or_upper ws n (down n p) j (r - (j + 1)) r d e
    ∙ ap (window_at ws) t

-- without the k oldest
pub drop_residents : (ws : List ℕ) (n p r k : ℕ) → p < n → 1 ≤ r → r < n → k ≤ r → drop k (residents ws n p r) ≡ upper ws n (down n p) (r - k)
drop_residents ws n p r k inside some few h =
    let e : r ≡ k + (r - k) = omega arith in
    ap (drop k) (residents_upper ws n p r inside some few) ∙ drop_upper ws n (down n p) k (r - k) r e

-- a window more is spilled: the next in age goes to a store with room for it
pub spill_more : (t : Windows) (xs ys zs : List Frame) (room j w : ℕ) (x : SavedWindow) → j < resident_of t → length xs + j < room → w ≡ wrap (count_of t) (pointer_of t + (resident_of t - (j + 1))) →
    saved_frame x ≡ window_at (words_of t) w → zs ≡ put_after ys room (saved_frame x) → Spilled t xs ys j → Spilled t xs zs (j + 1)
spill_more t xs ys zs room j w x h fits at copied put sofar =
    let R : List Frame = residents (words_of t) (count_of t) (pointer_of t) (resident_of t) in
    let all = length_residents (words_of t) (count_of t) (pointer_of t) (resident_of t) (some_resident t) in
    let held : length ys ≡ length xs + j = ap length sofar ∙ length-append xs (take j R) ∙ ap (λ (m : ℕ). length xs + m) (length-take-le j R (omega arith)) in
    let is : saved_frame x ≡ get_or R j no_frame = copied ∙ ap (window_at (words_of t)) at ∙ sym (resident_at (words_of t) (count_of t) (pointer_of t) (resident_of t) j no_frame t.residency.inside (few_resident t) h) in
    put
    ∙ sym (cond_below _ _ (ys ++ (saved_frame x ∷ [])) ys (omega arith))
    ∙ (λ i. sofar i ++ (is i ∷ []))
    ∙ append_assoc xs (take j R) (get_or R j no_frame ∷ [])
    ∙ ap (λ (l : List Frame). xs ++ l) (sym (take_more R j no_frame (omega arith)))

-- a list less its newest, j already gone
pub take_fewer : (xs ys zs : List Frame) (j : ℕ) → j < length xs → ys ≡ take (length xs - j) xs → zs ≡ take_after ys → zs ≡ take (length xs - (j + 1)) xs
take_fewer xs ys zs j h sofar took =
    let l : length ys ≡ length xs - j = ap length sofar ∙ length-take-le (length xs - j) xs (omega arith) in
    let e : length ys - 1 ≡ length xs - (j + 1) = omega arith in
    took
    ∙ ap₂ (λ (k : ℕ) (l : List Frame). take k l) e sofar
    ∙ take-take (length xs - (j + 1)) (length xs - j) xs (omega arith)

-- the one taken is the next older
pub taken_is : (xs ys : List Frame) (j : ℕ) (old : Frame) → j < length xs → ys ≡ take (length xs - j) xs → taken ys old ≡ get_or xs (length xs - (j + 1)) old
taken_is xs ys j old h sofar =
    let l : length ys ≡ length xs - j = ap length sofar ∙ length-take-le (length xs - j) xs (omega arith) in
    let e : length ys - 1 ≡ length xs - (j + 1) = omega arith in
    ap₂ (λ (k : ℕ) (l : List Frame). get_or l k old) e sofar
    ∙ get_or-take (length xs - j) xs (length xs - (j + 1)) old (omega arith)

-- window w of a ring, the next above j others above the pointer's, is written over
module _ (ws vs : List ℕ) (n p j w : ℕ) (x : SavedWindow) (wrote : vs ≡ with_window ws w x) (long : length ws ≡ 512) (few : n ≤ 32) (inside : p < n) (h : j + 1 < n) (at : w ≡ wrap n (p + (j + 1))) where
  in_table : w < 32
  in_table = grind (arith, nat_tests)

  -- a window more is filled
  pub fill_more : (xs ys : List Frame) (old : Frame) → j < length xs → saved_frame x ≡ taken ys old → ys ≡ take (length xs - j) xs → upper ws n p j ≡ drop (length xs - j) xs → upper vs n p (j + 1) ≡ drop (length xs - (j + 1)) xs
  fill_more xs ys old held is lost sofar =
      let k : ℕ = length xs - (j + 1) in
      let next : length xs - (j + 1) + 1 ≡ length xs - j = omega arith in
      let others = upper_same (with_window ws w x) ws n p j (λ i a b. window_kept ws w x long in_table (wrap n (p + i)) (λ q. grind (arith, nat_tests))) in
      ap (λ (zs : List ℕ). upper zs n p (j + 1)) wrote
      ∙ upper_step (with_window ws w x) n p j
      ∙ ap₂ ◌∷◌ (ap (window_at (with_window ws w x)) (sym at) ∙ window_written ws w x long in_table ∙ is ∙ taken_is xs ys j old held lost) (others ∙ sofar ∙ ap (λ (m : ℕ). drop m xs) (sym next))
      ∙ sym (drop_more xs k old (omega arith))

  -- the newest frame's window is not
  pub newest_kept : (f : Frame) → window_at ws p ≡ f → window_at vs p ≡ f
  newest_kept f sofar = ap (λ (zs : List ℕ). window_at zs p) wrote ∙ window_kept ws w x long in_table p (λ q. grind (arith, nat_tests)) ∙ sofar
