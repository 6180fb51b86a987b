-- The three ways through a save.
use Rattle.std.proofs.Common.{◌≡◌, ℕ, ◌+◌, ◌-◌, ◌<◌, ◌≤◌, true, false, List, ◌++◌, length, take, drop, Ok, Err, Result, sym, refl, ap, ◌∙◌, subst, ap₂, append_assoc, append-nil, arith}
use Rattle.std.proofs.lemmas.List.{length-append, length-take-le, take-append-drop}
use Rattle.std.proofs.lemmas.Bool.{cond-true, cond-false, le-leb, lt-leb}
use Rattle.refusal.specs.declared.faults.FileFault.{FileFault}
use Rattle.refusal.specs.declared.faults.FileFault.TheVariants.{AtCapacity}
use Rattle.frames.specs.declared.frame.Frame.{Frame}
use Rattle.frames.specs.Frames.{depth_of, is_full, save_answer, save_after, saved, told_depth}
use Rattle.policies.specs.declared.policy.SpillPolicy.{Ghosts as Policy}
use Rattle.stores.specs.declared.store.SaveStore.{Ghosts as Store}
use Rattle.ring.specs.declared.counts.Counts.{Counts}
use Rattle.ring.specs.declared.ring.WindowRing.{WindowRing}
use Rattle.ring.specs.declared.windows.Windows.{Windows}
use Rattle.ring.specs.Cycle.{down, most_resident}
use Rattle.ring.specs.Movements.{Movement, gone_down, moving, overflow_counted, saves, spill_size, spills_now}
use Rattle.ring.specs.Residencies.{Stands}
use Rattle.ring.specs.Rings.{frames_of, ring_frames}
use Rattle.ring.specs.Tables.{count_of, pointer_of, resident_of, words_of}
use Rattle.ring.specs.Transfers.{Spilled, Spills}
use Rattle.ring.specs.Words.{cleared, residents, upper}
use Rattle.ring.proofs.Depths.{few_resident, ring_depth, some_resident}
use Rattle.ring.proofs.Movements.{SameNumbers, same_movement, same_moving, save_fits, save_refused, save_overflows}
use Rattle.ring.proofs.Trips.{drop_residents, length_residents, residents_upper}
use Rattle.ring.proofs.Views.{save_ring}

-- what a save promises
pub record SavesAsDefined {S P : Type 0} (s : Store S) (r : Policy P) (x y : WindowRing S P) (a : Result (Unit {0}) FileFault) : Type 0 where
  pub answers : a ≡ save_answer (frames_of s x)
  pub holds : frames_of s y ≡ save_after (frames_of s x)
  pub moves : moving s y ≡ saves r (moving s x)
  pub puts : Spills s r x y

module _ {S P : Type 0} (s : Store S) (r : Policy P) (x : WindowRing S P) where
  abbrev t : Windows
  t = x.windows

  abbrev m : Movement
  m = (moving s x).numbers

  abbrev xs : List Frame
  xs = s.windows x.store

  some : 1 ≤ resident_of t
  some = some_resident t

  few : resident_of t < count_of t
  few = few_resident t

  -- the pointer went down and k windows to the store, which is now st
  module _ (u : Windows) (st : S) (po : P) (cs : Counts) (k : ℕ)
      (stands : Stands u.residency (count_of t) (down (count_of t) (pointer_of t)) (resident_of t + 1 - k))
      (clear : words_of u ≡ cleared (words_of t) (count_of u) (pointer_of u))
      (put : Spilled t xs (s.windows st) k)
      (same : s.capacity st ≡ s.capacity x.store)
      (fits : k ≤ resident_of t) where
    abbrev y : WindowRing S P
    y = record { windows = u; store = st; policy = po; counts = cs }

    abbrev R : List Frame
    R = residents (words_of t) (count_of t) (pointer_of t) (resident_of t)

    kept : s.windows st ++ upper (words_of t) (count_of t) (down (count_of t) (pointer_of t)) (resident_of t - k) ≡ xs ++ upper (words_of t) (count_of t) (down (count_of t) (pointer_of t)) (resident_of t)
    kept =
        ap₂ ◌++◌ put (sym (drop_residents (words_of t) (count_of t) (pointer_of t) (resident_of t) k t.residency.inside some few fits))
        ∙ append_assoc xs (take k R) (drop k R)
        ∙ ap (λ (l : List Frame). xs ++ l) (take-append-drop k R ∙ residents_upper (words_of t) (count_of t) (pointer_of t) (resident_of t) t.residency.inside some few)

    holds_down : frames_of s y ≡ saved (frames_of s x)
    holds_down =
        let low = t.residency.windows.some_resident in
        let limit = u.residency.within_the_limit in
        let n = stands.windows in
        let e = stands.resident in
        let words : words_of u ≡ cleared (words_of t) (count_of t) (down (count_of t) (pointer_of t)) = clear ∙ (λ i. cleared (words_of t) (stands.windows i) (stands.pointer i)) in
        (λ i. ring_frames (s.windows st) (same i) (words i) (stands.windows i) (stands.pointer i) (stands.resident i))
        ∙ save_ring xs (s.windows st) (s.capacity x.store) (words_of t) (count_of t) (pointer_of t) (resident_of t) k (down (count_of t) (pointer_of t)) (resident_of t + 1 - k) t.table.long (omega arith) t.residency.windows.few t.residency.inside some few fits refl (omega arith) refl kept

    numbers_down : SameNumbers (moving s y).numbers (gone_down k cs m)
    numbers_down =
        record {
          windows = stands.windows;
          pointer = stands.pointer;
          resident = stands.resident;
          mask = stands.mask;
          held = ap length put ∙ length-append xs (take k R) ∙ ap (λ (n : ℕ). length xs + n) (length-take-le k R (let l = length_residents (words_of t) (count_of t) (pointer_of t) (resident_of t) some in omega arith));
          room = same;
          counts = refl;
        }

    -- where that is what the numbers of a save say
    saves_as : m.held + m.resident < most_resident m.windows + m.room → gone_down k cs m ≡ (saves r (moving s x)).numbers → po ≡ (saves r (moving s x)).policy → k ≡ spills_now r (moving s x) → SavesAsDefined s r x y (Ok tt)
    saves_as room moved told is =
        let d = ring_depth s x in
        let not_full : is_full (frames_of s x) ≡ false = lt-leb (most_resident (count_of t) + s.capacity x.store) (depth_of (frames_of s x)) (omega arith) in
        record {
          answers = sym (cond-false (is_full (frames_of s x)) _ _ not_full);
          holds = holds_down ∙ sym (cond-false (is_full (frames_of s x)) _ _ not_full);
          moves = same_moving _ (saves r (moving s x)) (same_movement _ (gone_down k cs m) numbers_down ∙ moved) told;
          puts = subst (λ (n : ℕ). Spilled t xs (s.windows st) n) is put;
        }

  -- there is room in the windows
  pub save_within : (u : Windows) → Stands u.residency (count_of t) (down (count_of t) (pointer_of t)) (resident_of t + 1 - 0) → words_of u ≡ cleared (words_of t) (count_of u) (pointer_of u) →
      resident_of t < most_resident (count_of t) → SavesAsDefined s r x (record { windows = u; store = x.store; policy = x.policy; counts = x.counts }) (Ok tt)
  save_within u stands clear less =
      let h = s.within x.store in
      saves_as u x.store x.policy x.counts 0 stands clear (sym (append-nil xs)) refl (omega arith) (omega arith) (sym (save_fits m _ _ _ less)) (sym (save_fits m _ _ _ less)) (sym (save_fits m _ _ _ less))

  -- neither the windows nor the store have room
  pub save_at_capacity : (d : ℕ) → most_resident (count_of t) ≤ resident_of t → m.room ≤ m.held → d ≡ told_depth (frames_of s x) → SavesAsDefined s r x x (Err (AtCapacity d))
  save_at_capacity d full none told =
      let h = s.within x.store in
      let e = ring_depth s x in
      let is : is_full (frames_of s x) ≡ true = le-leb (most_resident (count_of t) + s.capacity x.store) (depth_of (frames_of s x)) (omega arith) in
      record {
        answers = ap (λ (n : ℕ). Err (AtCapacity n)) told ∙ sym (cond-true (is_full (frames_of s x)) _ _ is);
        holds = sym (cond-true (is_full (frames_of s x)) _ _ is);
        moves = same_moving (moving s x) (saves r (moving s x)) (sym (save_refused m _ _ _ full none)) (sym (save_refused m _ _ _ full none));
        puts = subst (λ (k : ℕ). Spilled t xs xs k) (sym (save_refused m _ _ _ full none)) (sym (append-nil xs));
      }

  -- windows go to the store
  pub save_with_overflow : (u : Windows) (st : S) (po : P) (cs : Counts) (k : ℕ) → Stands u.residency (count_of t) (down (count_of t) (pointer_of t)) (resident_of t + 1 - k) →
      words_of u ≡ cleared (words_of t) (count_of u) (pointer_of u) → Spilled t xs (s.windows st) k → s.capacity st ≡ s.capacity x.store → k ≤ resident_of t →
      most_resident (count_of t) ≤ resident_of t → m.held < m.room → k ≡ spill_size (r.spills x.policy) m → po ≡ r.after_overflow x.policy → cs ≡ overflow_counted k x.counts →
      SavesAsDefined s r x (record { windows = u; store = st; policy = po; counts = cs }) (Ok tt)
  save_with_overflow u st po cs k stands clear put same fits full some_room is told counted =
      saves_as u st po cs k stands clear put same fits (omega arith)
      ((λ i. gone_down (is i) ((counted ∙ ap (λ (n : ℕ). overflow_counted n x.counts) is) i) m) ∙ sym (save_overflows m _ _ _ full some_room))
      (told ∙ sym (save_overflows m _ _ _ full some_room))
      (is ∙ sym (save_overflows m _ _ _ full some_room))
