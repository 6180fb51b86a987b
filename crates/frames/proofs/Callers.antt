-- What a callee does leaves the frames of its callers alone.
use Rattle.std.proofs.Common.{◌≡◌, ℕ, ◌+◌, ◌-◌, ◌<◌, ltb, List, [], ◌∷◌, length, take, sym, refl, ap, ◌∙◌, arith}
use Rattle.std.proofs.lemmas.Bool.{cond_both}
use Rattle.std.proofs.lemmas.List.{length_push, length-take, take_all, take-append-le, take_more, take-take}
use Rattle.frames.specs.declared.calls.Call.{Call}
use Rattle.frames.specs.declared.calls.Call.TheVariants.{Save, Restore, Read, Write, Depth, Spare}
use Rattle.frames.specs.declared.frame.Frame.{Frame}
use Rattle.frames.specs.Frames.{Frames, all_frames, depth_of, no_frame, is_full, is_last, is_windowed, with_word, saved, restored}
use Rattle.frames.specs.Calls.{after_call, after_calls}
use Rattle.frames.specs.Laws.{StaysAbove, CallersKeepTheirFrames}

-- closing the newest frame leaves the others
pub all_restored : (s : Frames) → 0 < length s.older → all_frames (restored s) ≡ s.older
unfolding restored
all_restored s some =
    let last : length s.older - 1 < length s.older = omega arith in
    let whole : length s.older - 1 + 1 ≡ length s.older = omega arith in
    sym (take_more s.older (length s.older - 1) no_frame last)
    ∙ ap (λ (n : ℕ). take n s.older) whole
    ∙ take_all (length s.older) s.older (omega arith)

-- the oldest n frames of t, where it has more, are those of bs
Holds : List Frame → ℕ → Frames → Type 0
Holds bs n t = take n t.older ≡ bs

older_with_word : (s : Frames) (r v : ℕ) → (with_word s r v).older ≡ s.older
unfolding with_word
older_with_word s r v =
    let Same : Frames → Type 0 = λ t. t.older ≡ s.older in
    cond_both (ltb r 16) _ _ Same (λ _. refl) (λ _. cond_both (ltb r 24) _ _ Same (λ _. refl) (λ _. refl))

module _ (bs : List Frame) (n : ℕ) where
  holds_saved : (s : Frames) → n < depth_of s → Holds bs n s → Holds bs n (saved s)
  unfolding Holds saved
  holds_saved s deep h = take-append-le n s.older (s.newest ∷ []) (omega arith) ∙ h

  holds_restored : (s : Frames) → n < depth_of (restored s) → Holds bs n s → Holds bs n (restored s)
  unfolding Holds restored
  holds_restored s deep h =
      let few = length-take (length s.older - 1) s.older in
      take-take n (length s.older - 1) s.older (omega arith) ∙ h

  holds_written : (s : Frames) (r v : ℕ) → Holds bs n s → Holds bs n (with_word s r v)
  unfolding Holds
  holds_written s r v h = ap (take n) (older_with_word s r v) ∙ h

  holds_more : (s : Frames) (c : Call) → n < depth_of s → n < depth_of (after_call s c) → Holds bs n s → Holds bs n (after_call s c)
  holds_more s Save deep after h = cond_both (is_full s) s (saved s) (Holds bs n) (λ _. h) (λ _. holds_saved s deep h)
  holds_more s Restore deep after h = cond_both (is_last s) s (restored s) (λ t. n < depth_of t → Holds bs n t) (λ _ _. h) (λ _ deep. holds_restored s deep h) after
  holds_more s (Read r) deep after h = h
  holds_more s (Write r v) deep after h = cond_both (is_windowed r) (with_word s r v) s (Holds bs n) (λ _. holds_written s r v h) (λ _. h)
  holds_more s Depth deep after h = h
  holds_more s Spare deep after h = h

  first_deep : (s : Frames) (cs : List Call) → StaysAbove n s cs → n < depth_of s
  first_deep s [] stays = stays
  first_deep s (c ∷ cs) stays = stays.0

  holds_all : (s : Frames) (cs : List Call) → StaysAbove n s cs → Holds bs n s → Holds bs n (after_calls s cs)
  holds_all s [] stays h = h
  holds_all s (c ∷ cs) stays h =
      holds_all (after_call s c) cs stays.1 (holds_more s c stays.0 (first_deep (after_call s c) cs stays.1) h)

holds_at_first : (s : Frames) → Holds (all_frames s) (depth_of s) (saved s)
unfolding Holds saved
holds_at_first s = take_all (depth_of s) (all_frames s) (omega (arith, length_push s.older s.newest))

holds_at_last : (bs : List Frame) (n : ℕ) (t : Frames) → Holds bs n t → depth_of t ≡ n + 1 → t.older ≡ bs
unfolding Holds
holds_at_last bs n t h end = sym (take_all n t.older (omega arith)) ∙ h

pub callers_keep_their_frames : CallersKeepTheirFrames
callers_keep_their_frames s cs stays end =
    let t : Frames = after_calls (saved s) cs in
    let kept = holds_all (all_frames s) (depth_of s) (saved s) cs stays (holds_at_first s) in
    all_restored t (omega arith) ∙ holds_at_last (all_frames s) (depth_of s) t kept end
