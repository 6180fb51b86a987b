use Rattle.std.proofs.Common.{◌≡◌, ℕ, length, replicate, sym, ap, ◌∙◌, arith}
use lib.Seq.{paste}
use Rattle.std.proofs.lemmas.Result.{err_from_is_err_and}
use Rattle.std.proofs.lemmas.Bool.{cond-false}
use Rattle.frames.specs.Frames.{is_full}
use Rattle.frames.specs.Flat.{flat_state, base}
use Rattle.frames.proofs.Flats.{same_flat, opened_at, open_refused, saved_flat}
use Rattle.frames.proofs.flat.FlatFileRegisterFile.save.Goals as goal

pub returns : goal.returns
returns c =
    let f = c.args.self.now in
    let next = opened_at f.words f.top f.capacity f.within f.bounded _ c.in_ok-self.ensures in
    let ok = c.clear_newest.ensures in
    let long : length f.words ≡ 4104 = omega arith in
    record {
      answers_as_the_frames_do = sym (cond-false (is_full (flat_state f)) _ _ next.0);
      holds_the_frames_after =
          same_flat (ok.clears_sixteen_words ∙ ap (λ (t : ℕ). paste f.words (base t) (replicate 16 0) 16) next.1) (ok.keeps_the_newest ∙ next.1) ok.keeps_the_capacity
          ∙ saved_flat f.words f.top f.capacity long next.2
          ∙ sym (cond-false (is_full (flat_state f)) _ _ next.0);
      moves_as_the_file_does = tt;
    }

pub returns-in_err-self : goal.returns-in_err-self
returns-in_err-self c =
    let f = c.args.self.now in
    let p = err_from_is_err_and c.from_residual.result c.from_residual.ensures.1 in
    let told = open_refused f.words f.top f.capacity f.within f.bounded _ c.in_err-self.ensures in
    record { answers_as_the_frames_do = rw (p.1, p.2) told.0; holds_the_frames_after = told.1; moves_as_the_file_does = tt }
