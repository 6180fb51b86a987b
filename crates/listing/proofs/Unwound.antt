-- A turn of the unwinding.
use Rattle.std.proofs.Common.{◌≡◌, ◌-◌, ◌<◌, Bool, true, false, cond, List, [], ◌∷◌, ◌++◌, reverse, length, Ok, Err, Result, sym, refl, ap, ◌∙◌, append_assoc, arith}
use Rattle.std.specs.Result.{is_ok}
use Rattle.std.proofs.lemmas.List.{reverse-append, length-take}
use Rattle.std.proofs.lemmas.Bool.{eqb-false}
use Rattle.refusal.specs.declared.faults.FileFault.{FileFault}
use Rattle.frames.specs.declared.frame.Frame.{Frame}
use Rattle.frames.proofs.Callers.{all_restored}
use Rattle.frames.specs.Frames.{Frames, all_frames, depth_of, is_last, restored, restore_answer, restore_after}

went_on : (b : Bool) (e : FileFault) → true ≡ is_ok {T = Unit {0}} {E = FileFault} (cond b (Err e) (Ok tt)) → b ≡ false
went_on true e h = cc
went_on false e h = refl

one_less : (s : Frames) → is_last s ≡ false → all_frames (restored s) ≡ s.older
one_less s more = all_restored s (omega (arith, eqb-false (depth_of s) 1 more))

shorter : (s : Frames) → is_last s ≡ false → length (restored s).older < length s.older
unfolding restored
shorter s more = omega (arith, eqb-false (depth_of s) 1 more, length-take (length s.older - 1) s.older)

after_more : (s : Frames) → is_last s ≡ false → restore_after s ≡ restored s
after_more s more = ap (λ (b : Bool). cond b s (restored s)) more

module _ (s : Frames) (r : Result (Unit {0}) FileFault) (answer : r ≡ restore_answer s) where
  module _ (closed : true ≡ is_ok r) (t : Frames) (after : t ≡ restore_after s) where
    more : is_last s ≡ false
    more = went_on (is_last s) _ (closed ∙ ap is_ok answer)

    pub falls : length t.older < length s.older
    falls =
        let same : length t.older ≡ length (restored s).older = ap (λ (u : Frames). length u.older) (after ∙ after_more s more) in
        omega (arith, shorter s more)

    pub one_moved : t.older ++ t.newest ∷ [] ≡ s.older
    one_moved = ap all_frames (after ∙ after_more s more) ∙ one_less s more

-- the list of the frames taken is read newest first
pub newest_first : (xs ys : List Frame) (f : Frame) → xs ++ reverse (ys ++ f ∷ []) ≡ (xs ++ f ∷ []) ++ reverse ys
newest_first xs ys f =
    ap (λ (fs : List Frame). xs ++ fs) (reverse-append ys (f ∷ [])) ∙ sym (append_assoc xs (f ∷ []) (reverse ys))
