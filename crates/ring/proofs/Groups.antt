-- Groups of eight words, and windows, after a write elsewhere or there.
use Rattle.std.proofs.Common.{◌≡◌, ℕ, ◌+◌, ◌-◌, ◌<◌, ◌≤◌, List, ◌++◌, length, take, drop, set, replicate, sym, ap, ◌∙◌, ⊎_elim, arith}
use lib.Seq.{take-paste, drop-paste, length-paste, paste}
use Rattle.std.proofs.lemmas.List.{drop-take, take-take, take_all, drop_at, length-take-le, length-append, take-append-le, drop-replicate, take-replicate}
use Rattle.std.proofs.lemmas.Bool.{cases_lt}
use Rattle.frames.specs.Frames.{frame_of, zeros}
use Rattle.frames.specs.Flat.{eight}
use Rattle.frames.proofs.Flats.{eight_same, eight_set_in, eight_set_above, eight_set_below}
use Rattle.stores.specs.declared.window.SavedWindow.{SavedWindow}
use Rattle.stores.specs.Windows.{saved_frame}
use Rattle.ring.specs.Words.{ins_at, locals_at, window_at, with_window}

pub eight_set_past : (ws : List ℕ) (at q v : ℕ) → at + 8 ≤ q → eight (set ws q v) at ≡ eight ws at
eight_set_past ws at q v past =
    let e : at + (q - at) ≡ q = omega arith in
    ap (λ (x : ℕ). eight (set ws x v) at) (sym e) ∙ eight_set_above ws at (q - at) v (omega arith)

pub eight_set_at : (ws : List ℕ) (at k q v : ℕ) → k < 8 → at + k ≡ q → eight (set ws q v) at ≡ set (eight ws at) k v
eight_set_at ws at k q v inside e = ap (λ (x : ℕ). eight (set ws x v) at) (sym e) ∙ eight_set_in ws at k v inside

pub eight_pasted : (ws zs : List ℕ) (at : ℕ) → at + 8 ≤ length ws → length zs ≡ 8 → eight (paste ws at zs 8) at ≡ zs
eight_pasted ws zs at fits l =
    sym (drop-take at 8 (paste ws at zs 8))
    ∙ ap (drop at) (take-paste ws at zs 8 (omega arith) (omega arith))
    ∙ drop_at (take at ws) (take 8 zs) at (length-take-le at ws (omega arith))
    ∙ take_all 8 zs (omega arith)

eight_above_paste : (ws zs : List ℕ) (at b : ℕ) → at + 8 ≤ b → at ≤ length ws → length zs ≡ 8 → eight (paste ws at zs 8) b ≡ eight ws b
eight_above_paste ws zs at b above fits l = eight_same (paste ws at zs 8) ws (at + 8) b above (drop-paste ws at zs 8 fits (omega arith))

eight_below_paste : (ws zs : List ℕ) (at b : ℕ) → b + 8 ≤ at → at ≤ length ws → length zs ≡ 8 → eight (paste ws at zs 8) b ≡ eight ws b
eight_below_paste ws zs at b below fits l =
    let n : length (take at ws) ≡ at = length-take-le at ws fits in
    let m = length-append (take at ws) (take 8 zs) in
    sym (drop-take b 8 (paste ws at zs 8))
    ∙ ap (drop b)
    (take-append-le (b + 8) (take at ws ++ take 8 zs) (drop (at + 8) ws) (omega arith)
    ∙ take-append-le (b + 8) (take at ws) (take 8 zs) (omega arith)
    ∙ take-take (b + 8) at ws below)
    ∙ drop-take b 8 ws

-- words 0 in a table of zeros
pub eight_zeros : (at : ℕ) → at + 8 ≤ 512 → eight (replicate 512 0) at ≡ zeros
eight_zeros at fits = ap (take 8) (drop-replicate at 512 0) ∙ take-replicate 8 (512 - at) 0 (omega arith)

pub same_window_at : (ws xs : List ℕ) (w : ℕ) → eight ws (ins_at w) ≡ eight xs (ins_at w) → eight ws (locals_at w) ≡ eight xs (locals_at w) → window_at ws w ≡ window_at xs w
same_window_at ws xs w i l = λ j. frame_of (i j) (l j)

-- a window other than the one that has the word written
pub window_set_other : (ws : List ℕ) (u w q v : ℕ) → locals_at u ≤ q → q < locals_at u + 16 → (w ≡ u → ⊥) → window_at (set ws q v) w ≡ window_at ws w
window_set_other ws u w q v low high other =
    ⊎_elim
    (λ (l : w < u). same_window_at (set ws q v) ws w (eight_set_past ws (ins_at w) q v (omega arith)) (eight_set_past ws (locals_at w) q v (omega arith)))
    (λ (l : u ≤ w). same_window_at (set ws q v) ws w (eight_set_below ws (ins_at w) q v (omega arith)) (eight_set_below ws (locals_at w) q v (omega arith)))
    (cases_lt w u)

-- a window other than the one that has the group written
pub window_paste_other : (ws zs : List ℕ) (u w a : ℕ) → locals_at u ≤ a → a ≤ ins_at u → a ≤ length ws → length zs ≡ 8 → (w ≡ u → ⊥) → window_at (paste ws a zs 8) w ≡ window_at ws w
window_paste_other ws zs u w a low high fits z other =
    ⊎_elim
    (λ (s : w < u). same_window_at (paste ws a zs 8) ws w (eight_below_paste ws zs a (ins_at w) (omega arith) fits z) (eight_below_paste ws zs a (locals_at w) (omega arith) fits z))
    (λ (s : u ≤ w). same_window_at (paste ws a zs 8) ws w (eight_above_paste ws zs a (ins_at w) (omega arith) fits z) (eight_above_paste ws zs a (locals_at w) (omega arith) fits z))
    (cases_lt w u)

-- the ins of a window whose locals are written
pub ins_beside_locals : (ws zs : List ℕ) (w : ℕ) → ins_at w ≤ length ws → length zs ≡ 8 → eight (paste ws (locals_at w) zs 8) (ins_at w) ≡ eight ws (ins_at w)
ins_beside_locals ws zs w fits z = eight_above_paste ws zs (locals_at w) (ins_at w) (omega arith) (omega arith) z

-- a window written over is the saved one, and no other has changed
module _ (ws : List ℕ) (w : ℕ) (x : SavedWindow) (long : length ws ≡ 512) (inside : w < 32) where
  length_half : length (paste ws (locals_at w) x.frame.locals 8) ≡ 512
  length_half = let l = x.eight_locals in length-paste ws (locals_at w) x.frame.locals 8 (omega arith) (omega arith) ∙ long

  pub window_written : window_at (with_window ws w x) w ≡ saved_frame x
  window_written =
      let half : List ℕ = paste ws (locals_at w) x.frame.locals 8 in
      let l = x.eight_locals in
      let i = x.eight_ins in
      let h = length_half in
      let a : eight (with_window ws w x) (ins_at w) ≡ x.frame.ins = eight_pasted half x.frame.ins (ins_at w) (omega arith) i in
      let b : eight (with_window ws w x) (locals_at w) ≡ x.frame.locals = eight_below_paste half x.frame.ins (ins_at w) (locals_at w) (omega arith) (omega arith) i ∙ eight_pasted ws x.frame.locals (locals_at w) (omega arith) l in
      λ j. frame_of (a j) (b j)

  pub window_kept : (u : ℕ) → (u ≡ w → ⊥) → window_at (with_window ws w x) u ≡ window_at ws u
  window_kept u other =
      let half : List ℕ = paste ws (locals_at w) x.frame.locals 8 in
      let h = length_half in
      window_paste_other half x.frame.ins w u (ins_at w) (omega arith) (omega arith) (omega arith) x.eight_ins other
      ∙ window_paste_other ws x.frame.locals w u (locals_at w) (omega arith) (omega arith) (omega arith) x.eight_locals other
