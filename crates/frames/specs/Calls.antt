-- Calls on a register file, one and many: what each answers, and what the file stands for then.
use Rattle.std.specs.Prelude.{ℕ, Bool, true, false, List, [], ◌∷◌, Ok, Err, Result}
use Rattle.refusal.specs.declared.faults.FileFault.{FileFault}
use Rattle.frames.specs.declared.calls.Call.{Call}
use Rattle.frames.specs.declared.calls.Call.TheVariants as call
use Rattle.frames.specs.declared.calls.Call.TheVariants.{Save, Restore, Read, Write}
use Rattle.frames.specs.declared.calls.Reply.{Reply}
use Rattle.frames.specs.declared.calls.Reply.TheVariants.{Accepted, Word, Depth, Spare}
use Rattle.frames.specs.Frames.{Frames, read_answer, write_answer, write_after, save_answer, save_after, restore_answer, restore_after, told_depth, told_spare}

-- what a call answers: a reply, or the file's refusal
abbrev pub Answer : Type 0
Answer = Result Reply FileFault

-- what save, restore and write answer
abbrev pub acceptance : Result (Unit {0}) FileFault → Answer
acceptance (Ok done) = Ok Accepted
acceptance (Err fault) = Err fault

-- what read answers
abbrev pub reading : Result ℕ FileFault → Answer
reading (Ok w) = Ok (Word w)
reading (Err fault) = Err fault

-- the answer to a call
abbrev pub answer_to : Frames → Call → Answer
answer_to s Save = acceptance (save_answer s)
answer_to s Restore = acceptance (restore_answer s)
answer_to s (Read r) = reading (read_answer s r)
answer_to s (Write r v) = acceptance (write_answer r)
answer_to s call.Depth = Ok (Depth (told_depth s))
answer_to s call.Spare = Ok (Spare (told_spare s))

-- the frames after a call
abbrev pub after_call : Frames → Call → Frames
after_call s Save = save_after s
after_call s Restore = restore_after s
after_call s (Read r) = s
after_call s (Write r v) = write_after s r v
after_call s call.Depth = s
after_call s call.Spare = s

-- each call of a list meets what the earlier ones left
abbrev pub answers_to : Frames → List Call → List Answer
answers_to s [] = []
answers_to s (c ∷ cs) = answer_to s c ∷ answers_to (after_call s c) cs

abbrev pub after_calls : Frames → List Call → Frames
after_calls s [] = s
after_calls s (c ∷ cs) = after_calls (after_call s c) cs

-- whether an answer refuses
abbrev pub is_refusal : Answer → Bool
is_refusal (Ok reply) = false
is_refusal (Err fault) = true
