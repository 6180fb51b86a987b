-- The three ways through a restore.
use Rattle.std.proofs.Common.{◌≡◌, ℕ, ◌+◌, ◌-◌, ◌<◌, ◌≤◌, true, false, List, ◌++◌, length, Ok, Err, Result, sym, refl, ap, ◌∙◌, subst, ap₂, append-nil, arith}
use Rattle.std.proofs.lemmas.List.{drop_all, length-take-le, take_all, take-append-drop}
use Rattle.std.proofs.lemmas.Bool.{cond-true, cond-false, eq-eqb, ne_eqb}
use Rattle.refusal.specs.declared.faults.FileFault.{FileFault}
use Rattle.refusal.specs.declared.faults.FileFault.TheVariants.{LastFrame}
use Rattle.frames.specs.declared.frame.Frame.{Frame}
use Rattle.frames.specs.Frames.{depth_of, is_last, restore_answer, restore_after, restored, told_depth}
use Rattle.policies.specs.declared.policy.SpillPolicy.{Ghosts as Policy}
use Rattle.stores.specs.declared.store.SaveStore.{Ghosts as Store}
use Rattle.ring.specs.declared.counts.Counts.{Counts}
use Rattle.ring.specs.declared.residency.Residency.{Residency}
use Rattle.ring.specs.declared.ring.WindowRing.{WindowRing}
use Rattle.ring.specs.declared.windows.Windows.{Windows}
use Rattle.ring.specs.Cycle.{up}
use Rattle.ring.specs.Movements.{Movement, fill_size, fills_now, gone_up, moving, restores, underflow_counted}
use Rattle.ring.specs.Residencies.{Stands}
use Rattle.ring.specs.Rings.{frames_of, ring_frames}
use Rattle.ring.specs.Tables.{count_of, pointer_of, resident_of, words_of}
use Rattle.ring.specs.Transfers.{Filled, Fills}
use Rattle.ring.specs.Words.{upper, window_at}
use Rattle.ring.proofs.Depths.{ring_depth, some_resident}
use Rattle.ring.proofs.Movements.{SameNumbers, same_movement, same_moving, restore_fits, restore_refused, restore_underflows}
use Rattle.ring.proofs.Views.{restore_ring}

-- what a restore promises
pub record RestoresAsDefined {S P : Type 0} (s : Store S) (r : Policy P) (x y : WindowRing S P) (a : Result (Unit {0}) FileFault) : Type 0 where
  pub answers : a ≡ restore_answer (frames_of s x)
  pub holds : frames_of s y ≡ restore_after (frames_of s x)
  pub moves : moving s y ≡ restores r (moving s x)
  pub takes : Fills s r x y

-- no window filled
none_filled : (y : Residency) (ws : List ℕ) (xs : List Frame) → Filled y ws xs xs 0
none_filled y ws xs =
    record {
      store_lost_the_newest = sym (take_all (length xs - 0) xs (omega arith));
      windows_have_them = sym (drop_all (length xs - 0) xs (omega arith));
    }

module _ {S P : Type 0} (s : Store S) (r : Policy P) (x : WindowRing S P) where
  abbrev t : Windows
  t = x.windows

  abbrev m : Movement
  m = (moving s x).numbers

  abbrev xs : List Frame
  xs = s.windows x.store

  -- the pointer went up and k windows came from the store, which is now st
  module _ (u : Windows) (st : S) (po : P) (cs : Counts) (k : ℕ)
      (stands : Stands u.residency (count_of t) (up (count_of t) (pointer_of t)) (resident_of t + k - 1))
      (filled : Filled t.residency (words_of u) xs (s.windows st) k)
      (own : window_at (words_of u) (pointer_of t) ≡ window_at (words_of t) (pointer_of t))
      (same : s.capacity st ≡ s.capacity x.store)
      (more : 2 ≤ resident_of t + k)
      (fits : k ≤ length xs) where
    abbrev y : WindowRing S P
    y = record { windows = u; store = st; policy = po; counts = cs }

    numbers_up : SameNumbers (moving s y).numbers (gone_up k cs m)
    numbers_up =
        record {
          windows = stands.windows;
          pointer = stands.pointer;
          resident = stands.resident;
          mask = stands.mask;
          held = ap length filled.store_lost_the_newest ∙ length-take-le (length xs - k) xs (omega arith);
          room = same;
          counts = refl;
        }

    module _ (kept : s.windows st ++ upper (words_of u) (count_of t) (pointer_of t) (resident_of t + k - 1) ≡ xs ++ upper (words_of t) (count_of t) (pointer_of t) (resident_of t - 1)) where
      holds_up : frames_of s y ≡ restored (frames_of s x)
      holds_up =
          let low = t.residency.windows.some_resident in
          let limit = u.residency.within_the_limit in
          let n = stands.windows in
          let e = stands.resident in
          (λ i. ring_frames (s.windows st) (same i) (words_of u) (stands.windows i) (stands.pointer i) (stands.resident i))
          ∙ restore_ring xs (s.windows st) (s.capacity x.store) (words_of t) (words_of u) (count_of t) (pointer_of t) (resident_of t) (resident_of t + k - 1) (up (count_of t) (pointer_of t)) (omega arith) t.residency.inside (omega arith) (omega arith) refl kept own

      -- where that is what the numbers of a restore say
      restores_as : gone_up k cs m ≡ (restores r (moving s x)).numbers → po ≡ (restores r (moving s x)).policy → k ≡ fills_now r (moving s x) → RestoresAsDefined s r x y (Ok tt)
      restores_as moved told is =
          let d = ring_depth s x in
          let not_last : is_last (frames_of s x) ≡ false = ne_eqb (depth_of (frames_of s x)) 1 (λ e. omega arith) in
          record {
            answers = sym (cond-false (is_last (frames_of s x)) _ _ not_last);
            holds = holds_up ∙ sym (cond-false (is_last (frames_of s x)) _ _ not_last);
            moves = same_moving _ (restores r (moving s x)) (same_movement _ (gone_up k cs m) numbers_up ∙ moved) told;
            takes = subst (λ (n : ℕ). Filled t.residency (words_of u) xs (s.windows st) n) is filled;
          }

  -- the caller's window is resident
  pub restore_within : (u : Windows) → Stands u.residency (count_of t) (up (count_of t) (pointer_of t)) (resident_of t + 0 - 1) → words_of u ≡ words_of t →
      1 < resident_of t → RestoresAsDefined s r x (record { windows = u; store = x.store; policy = x.policy; counts = x.counts }) (Ok tt)
  restore_within u stands words more =
      let e : resident_of t + 0 - 1 ≡ resident_of t - 1 = omega arith in
      restores_as u x.store x.policy x.counts 0 stands (none_filled t.residency (words_of u) xs) (ap (λ (ws : List ℕ). window_at ws (pointer_of t)) words) refl (omega arith) (omega arith)
      (λ i. xs ++ upper (words i) (count_of t) (pointer_of t) (e i))
      (sym (restore_fits m _ _ _ more)) (sym (restore_fits m _ _ _ more)) (sym (restore_fits m _ _ _ more))

  -- one frame is left
  pub restore_of_the_last : (d : ℕ) → resident_of t ≤ 1 → length xs ≤ 0 → d ≡ told_depth (frames_of s x) → RestoresAsDefined s r x x (Err (LastFrame d))
  restore_of_the_last d one none told =
      let some = some_resident t in
      let e = ring_depth s x in
      let is : is_last (frames_of s x) ≡ true = eq-eqb (depth_of (frames_of s x)) 1 (omega arith) in
      record {
        answers = ap (λ (n : ℕ). Err (LastFrame n)) told ∙ sym (cond-true (is_last (frames_of s x)) _ _ is);
        holds = sym (cond-true (is_last (frames_of s x)) _ _ is);
        moves = same_moving (moving s x) (restores r (moving s x)) (sym (restore_refused m _ _ _ one none)) (sym (restore_refused m _ _ _ one none));
        takes = subst (λ (k : ℕ). Filled t.residency (words_of t) xs xs k) (sym (restore_refused m _ _ _ one none)) (none_filled t.residency (words_of t) xs);
      }

  -- windows come from the store
  pub restore_with_underflow : (u : Windows) (st : S) (po : P) (cs : Counts) (k : ℕ) → Stands u.residency (count_of t) (up (count_of t) (pointer_of t)) (resident_of t + k - 1) →
      Filled t.residency (words_of u) xs (s.windows st) k → window_at (words_of u) (pointer_of t) ≡ window_at (words_of t) (pointer_of t) → s.capacity st ≡ s.capacity x.store → 1 ≤ k → k ≤ length xs →
      resident_of t ≤ 1 → k ≡ fill_size (r.fills x.policy) m → po ≡ r.after_underflow x.policy → cs ≡ underflow_counted k x.counts →
      RestoresAsDefined s r x (record { windows = u; store = st; policy = po; counts = cs }) (Ok tt)
  restore_with_underflow u st po cs k stands filled own same some fits one is told counted =
      let least = some_resident t in
      let n : ℕ = count_of t in
      let p : ℕ = pointer_of t in
      let e : resident_of t + k - 1 ≡ k = omega arith in
      let z : 0 ≡ resident_of t - 1 = omega arith in
      let some_held : 0 < m.held = omega arith in
      restores_as u st po cs k stands filled own same (omega arith) fits
      (ap (λ (c : ℕ). s.windows st ++ upper (words_of u) n p c) e
      ∙ ap₂ ◌++◌ filled.store_lost_the_newest filled.windows_have_them
      ∙ take-append-drop (length xs - k) xs
      ∙ sym (append-nil xs)
      ∙ ap (λ (c : ℕ). xs ++ upper (words_of t) n p c) z)
      ((λ i. gone_up (is i) ((counted ∙ ap (λ (c : ℕ). underflow_counted c x.counts) is) i) m) ∙ sym (restore_underflows m _ _ _ one some_held))
      (told ∙ sym (restore_underflows m _ _ _ one some_held))
      (is ∙ sym (restore_underflows m _ _ _ one some_held))
