-- What a ring's words stand for after each of its calls.
use Rattle.std.proofs.Common.{◌≡◌, ℕ, ◌+◌, ◌-◌, ◌<◌, ◌≤◌, ltb, List, [], ◌∷◌, ◌++◌, length, get_or, take, set, replicate, Ok, Err, sym, refl, ap, ◌∙◌, ⊎_elim, append_assoc, append-nil, arith}
use lib.Seq.{length-paste, paste}
use Rattle.std.proofs.lemmas.List.{take_at, get_or_at, length_push}
use Rattle.std.proofs.lemmas.Bool.{cond-true, cond-false, lt-ltb, le-ltb, cases_lt}
use Rattle.std.proofs.lemmas.Bool.Decides.{nat_tests}
use Rattle.refusal.specs.declared.faults.FileFault.TheVariants.{NoSuchRegister}
use Rattle.frames.specs.declared.frame.Frame.{Frame}
use Rattle.frames.specs.Frames.{Frames, no_frame, is_windowed, read_answer, restored, saved, with_word, word, write_after, zeros}
use Rattle.frames.specs.Flat.{eight}
use Rattle.frames.proofs.Flats.{eight_get, eight_set_below}
use Rattle.frames.proofs.Registers.{windowed, word_out, word_local, word_in}
use Rattle.frames.proofs.Same.{same_frames}
use Rattle.ring.specs.declared.windows.Windows.{Windows}
use Rattle.ring.specs.Cycle.{down, most_resident, up, wrap}
use Rattle.ring.specs.Rings.{made_over, ring_frames}
use Rattle.ring.specs.Tables.{count_of, pointer_of, resident_of, words_of}
use Rattle.ring.specs.Words.{cleared, ins_at, locals_at, place_of, upper, window_at}
use Rattle.ring.proofs.Depths.{few_resident, some_resident}
use Rattle.ring.proofs.Groups.{eight_pasted, eight_set_at, eight_set_past, eight_zeros, ins_beside_locals, window_paste_other, window_set_other}
use Rattle.ring.proofs.Uppers.{upper_end, upper_same}

-- read

pub word_ring : (xs : List Frame) (room : ℕ) (ws : List ℕ) (n p r k : ℕ) → 8 ≤ k → k < 32 → word (ring_frames xs room ws n p r) k ≡ get_or ws (place_of n p k) 0
word_ring xs room ws n p r k low high =
    let s : Frames = ring_frames xs room ws n p r in
    let out = λ (l : k < 16). word_out s k l ∙ eight_get ws (ins_at (down n p)) (k - 8) (omega arith) in
    let local = λ (l : 16 ≤ k) (m : k < 24). word_local s k l m ∙ eight_get ws (locals_at p) (k - 16) (omega arith) in
    let in_word = λ (m : 24 ≤ k). word_in s k m ∙ eight_get ws (ins_at p) (k - 24) (omega arith) in
    grind (arith, nat_tests)

pub read_ring : (xs : List Frame) (room : ℕ) (t : Windows) (k q v : ℕ) → 8 ≤ k → k < 32 → q ≡ place_of (count_of t) (pointer_of t) k → v ≡ get_or (words_of t) q 0 →
    Ok v ≡ read_answer (ring_frames xs room (words_of t) (count_of t) (pointer_of t) (resident_of t)) k
read_ring xs room t k q v low high at is =
    let s : Frames = ring_frames xs room (words_of t) (count_of t) (pointer_of t) (resident_of t) in
    ap Ok (is ∙ ap (λ z. get_or (words_of t) z 0) at ∙ sym (word_ring xs room (words_of t) (count_of t) (pointer_of t) (resident_of t) k low high))
    ∙ sym (cond-true (is_windowed k) (Ok (word s k)) (Err (NoSuchRegister k)) (windowed k low high))

-- write

pub with_word_ring : (xs : List Frame) (room : ℕ) (ws : List ℕ) (n p r k v : ℕ) → 2 ≤ n → p < n → r < n → 8 ≤ k → k < 32 →
    ring_frames xs room (set ws (place_of n p k) v) n p r ≡ with_word (ring_frames xs room ws n p r) k v
unfolding with_word
with_word_ring xs room ws n p r k v two inside few low high =
    ⊎_elim
    (λ (l : k < 16).
    let q : ℕ = ins_at (down n p) + (k - 8) in
    let t = lt-ltb k 16 l in
    let d : p ≡ down n p → ⊥ = λ e. grind (arith, nat_tests) in
    let own = window_set_other ws (down n p) p q v (omega arith) (omega arith) d in
    ap (λ (x : ℕ). ring_frames xs room (set ws x v) n p r) (cond-true (ltb k 16) q _ t)
    ∙ same_frames (most_resident n + room)
    (ap (λ (x : List Frame). xs ++ x) (upper_same (set ws q v) ws n p (r - 1) (λ j g h. window_set_other ws (down n p) (wrap n (p + j)) q v (omega arith) (omega arith) (λ e. grind (arith, nat_tests)))))
    (ap (λ (f : Frame). f.ins) own)
    (ap (λ (f : Frame). f.locals) own)
    (eight_set_at ws (ins_at (down n p)) (k - 8) q v (omega arith) refl)
    ∙ sym (cond-true (ltb k 16) _ _ t))
    (λ (l : 16 ≤ k).
    let q : ℕ = locals_at p + (k - 16) in
    let t = le-ltb k 16 l in
    let d : down n p ≡ p → ⊥ = λ e. grind (arith, nat_tests) in
    let u = upper_same (set ws q v) ws n p (r - 1) (λ j g h. window_set_other ws p (wrap n (p + j)) q v (omega arith) (omega arith) (λ e. grind (arith, nat_tests))) in
    let o = ap (λ (f : Frame). f.ins) (window_set_other ws p (down n p) q v (omega arith) (omega arith) d) in
    ap (λ (x : ℕ). ring_frames xs room (set ws x v) n p r) (cond-false (ltb k 16) _ q t)
    ∙ ⊎_elim
    (λ (s : k < 24).
    same_frames (most_resident n + room) (ap (λ (x : List Frame). xs ++ x) u)
    (eight_set_below ws (ins_at p) q v (omega arith))
    (eight_set_at ws (locals_at p) (k - 16) q v (omega arith) refl)
    o
    ∙ sym (cond-true (ltb k 24) _ _ (lt-ltb k 24 s)))
    (λ (s : 24 ≤ k).
    same_frames (most_resident n + room) (ap (λ (x : List Frame). xs ++ x) u)
    (eight_set_at ws (ins_at p) (k - 24) q v (omega arith) (omega arith))
    (eight_set_past ws (locals_at p) q v (omega arith))
    o
    ∙ sym (cond-false (ltb k 24) _ _ (le-ltb k 24 s)))
    (cases_lt k 24)
    ∙ sym (cond-false (ltb k 16) _ _ t))
    (cases_lt k 16)

pub write_ring : (xs : List Frame) (room : ℕ) (t : Windows) (k v q : ℕ) (ws : List ℕ) → 8 ≤ k → k < 32 → q ≡ place_of (count_of t) (pointer_of t) k → ws ≡ set (words_of t) q v →
    ring_frames xs room ws (count_of t) (pointer_of t) (resident_of t) ≡ write_after (ring_frames xs room (words_of t) (count_of t) (pointer_of t) (resident_of t)) k v
write_ring xs room t k v q ws low high at wrote =
    let some = some_resident t in
    let few = few_resident t in
    ap (λ l. ring_frames xs room l (count_of t) (pointer_of t) (resident_of t)) (wrote ∙ ap (λ z. set (words_of t) z v) at)
    ∙ with_word_ring xs room (words_of t) (count_of t) (pointer_of t) (resident_of t) k v (omega arith) t.residency.inside few low high
    ∙ sym (cond-true (is_windowed k) _ _ (windowed k low high))

-- save

pub save_ring : (xs ys : List Frame) (room : ℕ) (ws : List ℕ) (n p r k q r' : ℕ) → length ws ≡ 512 → 2 ≤ n → n ≤ 32 → p < n → 1 ≤ r → r < n → k ≤ r → r' ≡ r + 1 - k → r' < n →
    q ≡ down n p → ys ++ upper ws n q (r - k) ≡ xs ++ upper ws n q r →
    ring_frames ys room (cleared ws n q) n q r' ≡ saved (ring_frames xs room ws n p r)
unfolding saved
save_ring xs ys room ws n p r k q r' long two most inside some few fits er few' eq kept =
    let b : ℕ = down n q in
    let vs : List ℕ = paste ws (locals_at q) zeros 8 in
    let us : List ℕ = cleared ws n q in
    let qn : q < n = grind (arith, nat_tests) in
    let bn : down n q < n = grind (arith, nat_tests) in
    let qb : q ≡ down n q → ⊥ = λ z. grind (arith, nat_tests) in
    let lv : length (paste ws (locals_at q) zeros 8) ≡ 512 = length-paste ws (locals_at q) zeros 8 (omega arith) (omega arith) ∙ long in
    let other : (u : ℕ) → (u ≡ q → ⊥) → (u ≡ down n q → ⊥) → window_at us u ≡ window_at ws u =
    λ u x y. window_paste_other vs zeros b u (ins_at (down n q)) (omega arith) (omega arith) (omega arith) refl y ∙ window_paste_other ws zeros q u (locals_at q) (omega arith) (omega arith) (omega arith) refl x in
    let own : window_at us q ≡ window_at vs q = window_paste_other vs zeros b q (ins_at (down n q)) (omega arith) (omega arith) (omega arith) refl qb in
    let c : r' - 1 ≡ r - k = omega arith in
    let pq : p ≡ up n q = grind (arith, nat_tests) in
    same_frames (most_resident n + room)
    (ap (λ (x : ℕ). ys ++ upper us n q x) c
    ∙ ap (λ (x : List Frame). ys ++ x) (upper_same us ws n q (r - k) (λ j a z. other (wrap n (q + j)) (λ e. grind (arith, nat_tests)) (λ e. grind (arith, nat_tests))))
    ∙ kept
    ∙ ap (λ (x : List Frame). xs ++ x) (upper_end ws n q p r qn some few pq)
    ∙ sym (append_assoc xs (upper ws n p (r - 1)) (window_at ws p ∷ [])))
    (ap (λ (f : Frame). f.ins) own ∙ ins_beside_locals ws zeros q (omega arith) refl ∙ ap (λ (x : ℕ). eight ws (ins_at x)) eq)
    (ap (λ (f : Frame). f.locals) own ∙ eight_pasted ws zeros (locals_at q) (omega arith) refl)
    (eight_pasted vs zeros (ins_at (down n q)) (omega arith) refl)

-- restore

module _ (L M : List Frame) (z : Frame) (e : L ≡ M ++ (z ∷ [])) where
  before_last : length M ≡ length L - 1
  before_last = let n = ap length e ∙ length_push M z in omega arith

  all_but_last : take (length L - 1) L ≡ M
  all_but_last = ap (take (length L - 1)) e ∙ take_at M (z ∷ []) (length L - 1) before_last

  the_last : (d : Frame) → get_or L (length L - 1) d ≡ z
  the_last d = ap (λ (y : List Frame). get_or y (length L - 1) d) e ∙ get_or_at M z [] d (length L - 1) before_last

pub restore_ring : (xs ys : List Frame) (room : ℕ) (ws vs : List ℕ) (n p r c q : ℕ) → 2 ≤ n → p < n → 1 ≤ c → c < n → q ≡ up n p →
    ys ++ upper vs n p c ≡ xs ++ upper ws n p (r - 1) → window_at vs p ≡ window_at ws p →
    ring_frames ys room vs n q c ≡ restored (ring_frames xs room ws n p r)
unfolding restored
restore_ring xs ys room ws vs n p r c q two inside some few eq kept own =
    let L : List Frame = xs ++ upper ws n p (r - 1) in
    let M : List Frame = ys ++ upper vs n q (c - 1) in
    let e : xs ++ upper ws n p (r - 1) ≡ (ys ++ upper vs n q (c - 1)) ++ (window_at vs q ∷ []) =
    sym kept ∙ ap (λ (x : List Frame). ys ++ x) (upper_end vs n p q c inside some few eq) ∙ sym (append_assoc ys (upper vs n q (c - 1)) (window_at vs q ∷ [])) in
    let o : down n q ≡ p = grind (arith, nat_tests) in
    let w = sym (the_last L M (window_at vs q) e no_frame) in
    same_frames (most_resident n + room)
    (sym (all_but_last L M (window_at vs q) e))
    (ap (λ (f : Frame). f.ins) w)
    (ap (λ (f : Frame). f.locals) w)
    (ap (λ (x : ℕ). eight vs (ins_at x)) o ∙ ap (λ (f : Frame). f.ins) own)

-- made

pub new_ring : (xs : List Frame) (room : ℕ) (n : ℕ) → 2 ≤ n → n ≤ 32 → ring_frames xs room (replicate 512 0) n 0 1 ≡ made_over n xs room
new_ring xs room n two most =
    let t : down n 0 < 32 = grind (arith, nat_tests) in
    same_frames (most_resident n + room) (append-nil xs) (eight_zeros 8 (omega arith)) (eight_zeros 0 (omega arith)) (eight_zeros (ins_at (down n 0)) (omega arith))
