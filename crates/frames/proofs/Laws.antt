-- The laws of register files.
use Rattle.std.proofs.Common.{◌≡◌, ℕ, ◌+◌, ◌-◌, Bool, true, false, cond, ltb, [], ◌∷◌, length, get_or, Ok, Err, sym, refl, ap, ◌∙◌, arith}
use Rattle.refusal.specs.declared.faults.FileFault.{FileFault}
use Rattle.frames.specs.declared.calls.Call.{Call}
use Rattle.frames.specs.declared.calls.Call.TheVariants.{Save, Restore, Read, Write, Depth, Spare}
use Rattle.frames.specs.Frames.{Frames, all_frames, no_frame, is_full, is_last, is_windowed, with_word, saved, restored}
use Rattle.frames.specs.Calls.{Answer, answer_to, after_call, is_refusal, acceptance}
use Rattle.frames.specs.Laws.{Performed, FrameLaws, RefusalsChangeNothing, CapacityIsFixed, RestoreUndoesSave, OutsBecomeIns, InsBecomeOuts}
use Rattle.frames.specs.declared.frame.Frame.{Frame}
use Rattle.std.proofs.lemmas.Bool.{cond_both}
use Rattle.std.proofs.lemmas.List.{length_push, take_at, get_or_at}
use Rattle.frames.proofs.Callers.{callers_keep_their_frames}
use Rattle.frames.proofs.Same.{same_frames}
use Rattle.frames.proofs.Registers.{word_out, word_in}

-- of a call that is refused at b: refused, nothing has changed
refused_at : (b : Bool) (s t : Frames) (e : FileFault) → is_refusal (acceptance (cond b (Err e) (Ok tt))) ≡ true → cond b s t ≡ s
refused_at true s t e h = refl
refused_at false s t e h = let z : ◌≡◌ {A = Bool} false true = h in absurd (let n : ◌≡◌ {A = ℕ} 0 1 = cc in omega arith)

refused_unless : (b : Bool) (s t : Frames) (e : FileFault) → is_refusal (acceptance (cond b (Ok tt) (Err e))) ≡ true → cond b t s ≡ s
refused_unless true s t e h = let z : ◌≡◌ {A = Bool} false true = h in absurd (let n : ◌≡◌ {A = ℕ} 0 1 = cc in omega arith)
refused_unless false s t e h = refl

pub refusals_change_nothing : RefusalsChangeNothing
refusals_change_nothing s Save h = refused_at (is_full s) s (saved s) _ h
refusals_change_nothing s Restore h = refused_at (is_last s) s (restored s) _ h
refusals_change_nothing s (Read r) h = refl
refusals_change_nothing s (Write r v) h = refused_unless (is_windowed r) s (with_word s r v) _ h
refusals_change_nothing s Depth h = refl
refusals_change_nothing s Spare h = refl

-- t may hold as many frames as s
Alike : Frames → Frames → Type 0
Alike s t = t.capacity ≡ s.capacity

capacity_with_word : (s : Frames) (r v : ℕ) → (with_word s r v).capacity ≡ s.capacity
unfolding with_word Alike
capacity_with_word s r v = cond_both (ltb r 16) _ _ (Alike s) (λ _. refl) (λ _. cond_both (ltb r 24) _ _ (Alike s) (λ _. refl) (λ _. refl))

pub capacity_is_fixed : CapacityIsFixed
unfolding saved restored Alike
capacity_is_fixed s Save = cond_both (is_full s) s (saved s) (Alike s) (λ _. refl) (λ _. refl)
capacity_is_fixed s Restore = cond_both (is_last s) s (restored s) (Alike s) (λ _. refl) (λ _. refl)
capacity_is_fixed s (Read r) = refl
capacity_is_fixed s (Write r v) = cond_both (is_windowed r) (with_word s r v) s (Alike s) (λ _. capacity_with_word s r v) (λ _. refl)
capacity_is_fixed s Depth = refl
capacity_is_fixed s Spare = refl

restore_undoes_save : RestoreUndoesSave
unfolding saved restored
restore_undoes_save s =
    let n : length s.older ≡ length (all_frames s) - 1 = let e = length_push s.older s.newest in omega arith in
    let o = take_at s.older (s.newest ∷ []) (length (all_frames s) - 1) n in
    let f = get_or_at s.older s.newest [] no_frame (length (all_frames s) - 1) n in
    same_frames s.capacity o (ap (λ (x : Frame). x.ins) f) (ap (λ (x : Frame). x.locals) f) refl

outs_become_ins : OutsBecomeIns
unfolding saved
outs_become_ins s i h =
    let e : 24 + i - 24 ≡ 8 + i - 8 = omega arith in
    word_in (saved s) (24 + i) (omega arith) ∙ ap (λ (k : ℕ). get_or s.outs k 0) e ∙ sym (word_out s (8 + i) (omega arith))

ins_become_outs : InsBecomeOuts
unfolding restored
ins_become_outs s i h =
    let e : 8 + i - 8 ≡ 24 + i - 24 = omega arith in
    word_out (restored s) (8 + i) (omega arith) ∙ ap (λ (k : ℕ). get_or s.newest.ins k 0) e ∙ sym (word_in s (24 + i) (omega arith))

pub frame_laws : FrameLaws
frame_laws =
    record {
      refusals_change_nothing = refusals_change_nothing;
      capacity_is_fixed = capacity_is_fixed;
      restore_undoes_save = restore_undoes_save;
      callers_keep_their_frames = callers_keep_their_frames;
      outs_become_ins = outs_become_ins;
      ins_become_outs = ins_become_outs;
    }

-- the rest of what a call does follows from its answer and the frames after it
pub performed : (s : Frames) (c : Call) (a : Answer) (t : Frames) → a ≡ answer_to s c → t ≡ after_call s c → Performed s c a t
performed s c a t answers holds =
    record {
      answers_as_the_frames_do = answers;
      holds_the_frames_after = holds;
      refused_changes_nothing = λ h. holds ∙ refusals_change_nothing s c (ap is_refusal (sym answers) ∙ h);
      keeps_the_capacity = ap (λ (u : Frames). u.capacity) holds ∙ capacity_is_fixed s c;
    }
