-- What a flat file's words stand for after a write, a clearing and a step of the newest frame.
use Rattle.std.proofs.Common.{◌≡◌, ℕ, zero, suc, ◌+◌, ◌-◌, ◌<◌, ◌≤◌, Bool, true, false, cond, ltb, leb, List, [], ◌∷◌, ◌++◌, map, length, get_or, take, drop, set, replicate, Ok, Err, sym, refl, ap, ◌∙◌, ⊎_elim, arith}
use lib.Seq.{take-set-lt, paste, take-paste, drop-paste}
use Rattle.std.specs.List.{range_with_len}
use Rattle.std.proofs.lemmas.List.FromFn.{length-map-range_with_len, map-range_with_len_more, take-map-range_with_len, get_or-map-range_with_len}
use Rattle.std.proofs.lemmas.List.{get_or-take, get_or-drop, drop-set-lt, drop-set-add, take-set-le, drop-drop, drop-take, take-take, drop_at, length-take-le}
use Rattle.std.proofs.lemmas.Bool.{cond-true, cond-false, lt-ltb, le-ltb, cases_lt, and_parts, leb-true, ltb-true, ltb-false, le-leb, lt-leb, ne_eqb}
use Rattle.refusal.specs.declared.faults.FileFault.{FileFault}
use Rattle.frames.specs.declared.flat.FlatFile.{FlatFile}
use Rattle.frames.specs.declared.frame.Frame.{Frame}
use Rattle.refusal.specs.declared.faults.FileFault.TheVariants.{AtCapacity}
use Rattle.frames.specs.Frames.{Frames, depth_of, told_depth, told_spare, no_frame, is_windowed, is_full, is_last, word, with_word, saved, restored, read_answer, write_after, save_answer, save_after}
use Rattle.frames.specs.Flat.{base, flat_state, eight, frame_at, flat_frames, flat_place, flat_opened, flat_caller}
use Rattle.frames.specs.FlatShape.{depth_flat}
use Rattle.frames.proofs.Registers.{word_out, word_local, word_in}
use Rattle.frames.proofs.Same.{same_frames}

pub eight_get : (ws : List ℕ) (at k : ℕ) → k < 8 → get_or (eight ws at) k 0 ≡ get_or ws (at + k) 0
eight_get ws at k h = get_or-take 8 (drop at ws) k 0 h ∙ get_or-drop at ws k 0

pub same_map : {X : Type 0} (f g : ℕ → X) (a n : ℕ) → ((k : ℕ) → k < a + n → f k ≡ g k) → map f (range_with_len a n) ≡ map g (range_with_len a n)
same_map f g a zero h = refl
same_map f g a (suc n) h =
    let e : f a ≡ g a = h a (omega arith) in
    let r = same_map f g (a + 1) n (λ k l. h k (omega arith)) in cc

pub drops : (ws xs : List ℕ) (m n : ℕ) → m ≤ n → drop m ws ≡ drop m xs → drop n ws ≡ drop n xs
drops ws xs m n le e =
    let s : m + (n - m) ≡ n = omega arith in
    let p = drop-drop (n - m) m ws in
    let q = drop-drop (n - m) m xs in
    let r = ap (drop (n - m)) e in
    let u = ap (λ (k : ℕ). drop k ws) s in
    let v = ap (λ (k : ℕ). drop k xs) s in cc

pub eight_same : (ws xs : List ℕ) (m n : ℕ) → m ≤ n → drop m ws ≡ drop m xs → eight ws n ≡ eight xs n
eight_same ws xs m n le e = ap (take 8) (drops ws xs m n le e)

pub frame_same : (ws xs : List ℕ) (m i : ℕ) → m ≤ base i + 8 → drop m ws ≡ drop m xs → frame_at ws i ≡ frame_at xs i
frame_same ws xs m i le e =
    let p = eight_same ws xs m (base i + 16) (omega arith) e in
    let q = eight_same ws xs m (base i + 8) le e in cc

-- frames below top lie above top's window
pub older_same : (ws xs : List ℕ) (m top : ℕ) → top ≤ 255 → m ≤ base top + 24 → drop m ws ≡ drop m xs → map (frame_at ws) (range_with_len 0 top) ≡ map (frame_at xs) (range_with_len 0 top)
older_same ws xs m top t le e = same_map (frame_at ws) (frame_at xs) 0 top (λ k l. frame_same ws xs m k (omega arith) e)

pub eight_set_in : (ws : List ℕ) (at k v : ℕ) → k < 8 → eight (set ws (at + k) v) at ≡ set (eight ws at) k v
eight_set_in ws at k v h = ap (take 8) (drop-set-add at ws k v) ∙ take-set-lt 8 (drop at ws) k v h

pub eight_set_above : (ws : List ℕ) (at k v : ℕ) → 8 ≤ k → eight (set ws (at + k) v) at ≡ eight ws at
eight_set_above ws at k v h = ap (take 8) (drop-set-add at ws k v) ∙ take-set-le 8 (drop at ws) k v h

pub eight_set_below : (ws : List ℕ) (at p v : ℕ) → p < at → eight (set ws p v) at ≡ eight ws at
eight_set_below ws at p v h = ap (take 8) (drop-set-lt at ws p v h)

-- the word of register r stands r − 8 places above the newest window's base
pub word_flat : (ws : List ℕ) (top most r : ℕ) → 8 ≤ r → r < 32 → word (flat_frames ws top most) r ≡ get_or ws (base top + (r - 8)) 0
word_flat ws top most r low high =
    ⊎_elim
    (λ (l : r < 16). word_out (flat_frames ws top most) r l ∙ eight_get ws (base top) (r - 8) (omega arith))
    (λ (l : 16 ≤ r).
    ⊎_elim
    (λ (m : r < 24).
    let e : base top + 8 + (r - 16) ≡ base top + (r - 8) = omega arith in
    word_local (flat_frames ws top most) r l m ∙ eight_get ws (base top + 8) (r - 16) (omega arith) ∙ ap (λ (n : ℕ). get_or ws n 0) e)
    (λ (m : 24 ≤ r).
    let e : base top + 16 + (r - 24) ≡ base top + (r - 8) = omega arith in
    word_in (flat_frames ws top most) r m ∙ eight_get ws (base top + 16) (r - 24) (omega arith) ∙ ap (λ (n : ℕ). get_or ws n 0) e)
    (cases_lt r 24))
    (cases_lt r 16)

pub with_word_flat : (ws : List ℕ) (top most r v : ℕ) → top ≤ 255 → 8 ≤ r → r < 32 → flat_frames (set ws (base top + (r - 8)) v) top most ≡ with_word (flat_frames ws top most) r v
unfolding with_word
with_word_flat ws top most r v t h k =
    let d = drop-set-lt (base top + 24) ws (base top + (r - 8)) v (omega arith) in
    let o = older_same (set ws (base top + (r - 8)) v) ws (base top + 24) top t (omega arith) d in
    ⊎_elim
    (λ (l : r < 16).
    same_frames most o
    (eight_set_below ws (base top + 16) (base top + (r - 8)) v (omega arith))
    (eight_set_below ws (base top + 8) (base top + (r - 8)) v (omega arith))
    (eight_set_in ws (base top) (r - 8) v (omega arith))
    ∙ sym (cond-true (ltb r 16) _ _ (lt-ltb r 16 l)))
    (λ (l : 16 ≤ r).
    let u = eight_set_above ws (base top) (r - 8) v (omega arith) in
    let e : base top + 8 + (r - 16) ≡ base top + (r - 8) = omega arith in
    ⊎_elim
    (λ (m : r < 24).
    same_frames most o
    (eight_set_below ws (base top + 16) (base top + (r - 8)) v (omega arith))
    (ap (λ (p : ℕ). eight (set ws p v) (base top + 8)) (sym e) ∙ eight_set_in ws (base top + 8) (r - 16) v (omega arith))
    u
    ∙ sym (cond-true (ltb r 24) _ _ (lt-ltb r 24 m)))
    (λ (m : 24 ≤ r).
    let e' : base top + 16 + (r - 24) ≡ base top + (r - 8) = omega arith in
    same_frames most o
    (ap (λ (p : ℕ). eight (set ws p v) (base top + 16)) (sym e') ∙ eight_set_in ws (base top + 16) (r - 24) v (omega arith))
    (ap (λ (p : ℕ). eight (set ws p v) (base top + 8)) (sym e) ∙ eight_set_above ws (base top + 8) (r - 16) v (omega arith))
    u
    ∙ sym (cond-false (ltb r 24) _ _ (le-ltb r 24 m)))
    (cases_lt r 24)
    ∙ sym (cond-false (ltb r 16) _ _ (le-ltb r 16 l)))
    (cases_lt r 16)

-- the sixteen words of a clearing
pub cleared : (ws : List ℕ) (at : ℕ) → at + 16 ≤ length ws → take 16 (drop at (paste ws at (replicate 16 0) 16)) ≡ replicate 16 0
cleared ws at h =
    let xs : List ℕ = paste ws at (replicate 16 0) 16 in
    sym (drop-take at 16 xs) ∙ ap (drop at) (take-paste ws at (replicate 16 0) 16 (omega arith) (omega arith)) ∙ drop_at (take at ws) (replicate 16 0) at (length-take-le at ws (omega arith))

pub cleared_low : (ws : List ℕ) (at : ℕ) → at + 16 ≤ length ws → eight (paste ws at (replicate 16 0) 16) at ≡ replicate 8 0
cleared_low ws at h = sym (take-take 8 16 (drop at (paste ws at (replicate 16 0) 16)) (omega arith)) ∙ ap (take 8) (cleared ws at h)

pub cleared_high : (ws : List ℕ) (at : ℕ) → at + 16 ≤ length ws → eight (paste ws at (replicate 16 0) 16) (at + 8) ≡ replicate 8 0
cleared_high ws at h =
    let xs : List ℕ = paste ws at (replicate 16 0) 16 in
    ap (take 8) (sym (drop-drop 8 at xs)) ∙ sym (drop-take 8 8 (drop at xs)) ∙ ap (drop 8) (cleared ws at h)

pub saved_flat : (ws : List ℕ) (top most : ℕ) → length ws ≡ 4104 → top < 255 → flat_frames (paste ws (base (top + 1)) (replicate 16 0) 16) (top + 1) most ≡ saved (flat_frames ws top most)
unfolding saved
saved_flat ws top most long t =
    let xs : List ℕ = paste ws (base (top + 1)) (replicate 16 0) 16 in
    let e : base (top + 1) + 16 ≡ base top = omega arith in
    let d : drop (base (top + 1) + 16) xs ≡ drop (base (top + 1) + 16) ws = drop-paste ws (base (top + 1)) (replicate 16 0) 16 (omega arith) (omega arith) in
    let o = map-range_with_len_more (frame_at xs) 0 top top (omega arith) in
    let o' = older_same xs ws (base (top + 1) + 16) top (omega arith) (omega arith) d in
    let f = frame_same xs ws (base (top + 1) + 16) top (omega arith) d in
    let i = eight_same xs ws (base (top + 1) + 16) (base (top + 1) + 16) (omega arith) d in
    same_frames most
    (o ∙ ap (λ (l : List Frame). l ++ frame_at xs top ∷ []) o' ∙ ap (λ (g : Frame). map (frame_at ws) (range_with_len 0 top) ++ g ∷ []) f)
    (i ∙ ap (eight ws) e)
    (cleared_high ws (base (top + 1)) (omega arith))
    (cleared_low ws (base (top + 1)) (omega arith))

pub restored_flat : (ws : List ℕ) (top most : ℕ) → 0 < top → top ≤ 255 → flat_frames ws (top - 1) most ≡ restored (flat_frames ws top most)
unfolding restored
restored_flat ws top most p t =
    let n = length-map-range_with_len (frame_at ws) 0 top in
    let e : length (map (frame_at ws) (range_with_len 0 top)) - 1 ≡ top - 1 = omega arith in
    let a : base (top - 1) ≡ base top + 16 = omega arith in
    let older : map (frame_at ws) (range_with_len 0 (top - 1)) ≡ take (length (map (frame_at ws) (range_with_len 0 top)) - 1) (map (frame_at ws) (range_with_len 0 top)) = sym (ap (λ (k : ℕ). take k (map (frame_at ws) (range_with_len 0 top))) e ∙ take-map-range_with_len (frame_at ws) 0 top (top - 1) (omega arith)) in
    let newest : frame_at ws (top - 1) ≡ get_or (map (frame_at ws) (range_with_len 0 top)) (length (map (frame_at ws) (range_with_len 0 top)) - 1) no_frame = sym (ap (λ (k : ℕ). get_or (map (frame_at ws) (range_with_len 0 top)) k no_frame) e ∙ get_or-map-range_with_len (frame_at ws) 0 top (top - 1) (top - 1) no_frame (omega arith) (omega arith)) in
    same_frames most older (ap (λ (g : Frame). g.ins) newest) (ap (λ (g : Frame). g.locals) newest) (ap (eight ws) a)

pub same_flat : {ws xs : List ℕ} {top top' most most' : ℕ} → ws ≡ xs → top ≡ top' → most ≡ most' → flat_frames ws top most ≡ flat_frames xs top' most'
same_flat a b c = λ i. flat_frames (a i) (b i) (c i)

found_if : (b : Bool) (p at : ℕ) (e : FileFault) → Ok at ≡ cond b (Ok p) (Err e) → (b ≡ true) × (at ≡ p)
found_if true p at e h = (refl, cc)
found_if false p at e h = absurd (let z : ◌≡◌ {A = ℕ} 0 1 = cc in omega arith)

missed_if : (b : Bool) (p : ℕ) (d e : FileFault) → Err d ≡ cond b (Ok p) (Err e) → (b ≡ false) × (d ≡ e)
missed_if true p d e h = absurd (let z : ◌≡◌ {A = ℕ} 0 1 = cc in omega arith)
missed_if false p d e h = (refl, cc)

-- depth and spare as they are told: no flat file has more frames than can be told
pub told_flat : (f : FlatFile) → (f.top + 1 ≡ told_depth (flat_state f)) × (f.capacity - (f.top + 1) ≡ told_spare (flat_state f))
told_flat f =
    let d = depth_flat f.words f.top f.capacity in
    let within = f.within in
    let few = f.bounded in
    (omega arith, omega arith)

-- a register of the file, read and written
module _ (ws : List ℕ) (top most r : ℕ) (is : is_windowed r ≡ true) where
  private_low : 8 ≤ r
  private_low = leb-true 8 r (and_parts (leb 8 r) (ltb r 32) is).0

  private_high : r < 32
  private_high = ltb-true r 32 (and_parts (leb 8 r) (ltb r 32) is).1

  pub read_flat : Ok (get_or ws (flat_place top r) 0) ≡ read_answer (flat_frames ws top most) r
  read_flat = ap (λ (w : ℕ). Ok w) (sym (word_flat ws top most r private_low private_high)) ∙ sym (cond-true (is_windowed r) _ _ is)

  pub write_flat : (v : ℕ) → top ≤ 255 → flat_frames (set ws (flat_place top r) v) top most ≡ write_after (flat_frames ws top most) r v
  write_flat v few = with_word_flat ws top most r v few private_low private_high ∙ sym (cond-true (is_windowed r) _ _ is)

-- a save opens a frame, or is refused
module _ (ws : List ℕ) (top most : ℕ) (within : top < most) (few : most ≤ 256) where
  private_depth : depth_of (flat_frames ws top most) ≡ top + 1
  private_depth = depth_flat ws top most

  pub opened_at : (t : ℕ) → Ok t ≡ flat_opened top most → (is_full (flat_frames ws top most) ≡ false) × (t ≡ top + 1) × (top < 255)
  opened_at t h =
      let f = found_if (ltb (top + 1) most) (top + 1) t _ h in
      let l : top + 1 < most = ltb-true (top + 1) most f.0 in
      let d = private_depth in
      (lt-leb most (depth_of (flat_frames ws top most)) (omega arith), f.1, omega arith)

  pub open_refused : (e : FileFault) → Err e ≡ flat_opened top most → (Err e ≡ save_answer (flat_frames ws top most)) × (flat_frames ws top most ≡ save_after (flat_frames ws top most))
  open_refused e h =
      let s : Frames = flat_frames ws top most in
      let f = missed_if (ltb (top + 1) most) (top + 1) e _ h in
      let l : most ≤ top + 1 = ltb-false (top + 1) most f.0 in
      let d = private_depth in
      let full : is_full s ≡ true = le-leb most (depth_of s) (omega arith) in
      let told : top + 1 ≡ told_depth s = omega arith in
      (ap (λ (x : FileFault). Err x) (f.1 ∙ ap AtCapacity told) ∙ sym (cond-true (is_full s) _ _ full), sym (cond-true (is_full s) _ _ full))

-- a restore goes back a frame
pub caller_at : (ws : List ℕ) (top most t : ℕ) → Ok t ≡ flat_caller top → (is_last (flat_frames ws top most) ≡ false) × (t ≡ top - 1) × (0 < top)
caller_at ws top most t h =
    let f = found_if (ltb 0 top) (top - 1) t _ h in
    let l : 0 < top = ltb-true 0 top f.0 in
    let d = depth_flat ws top most in
    (ne_eqb (depth_of (flat_frames ws top most)) 1 (λ e. omega arith), f.1, l)
