-- The text of an answer. `decimal n` is what `{n}` writes.
use Rattle.std.specs.Prelude.{ℕ, List, ◌++◌, Ok, Err, codes, decimal}
use Rattle.refusal.specs.Refusals.{file_refusal}
use Rattle.refusal.specs.Texts.{refusal_text}
use Rattle.frames.specs.declared.calls.Reply.{Reply}
use Rattle.frames.specs.declared.calls.Reply.TheVariants.{Accepted, Word, Depth, Spare}
use Rattle.frames.specs.Calls.{Answer}

-- `ok`, `word 5`, `depth 2`, `spare 62`
abbrev pub reply_text : Reply → List ℕ
reply_text Accepted = codes "ok"
reply_text (Word w) = codes "word " ++ decimal w
reply_text (Depth n) = codes "depth " ++ decimal n
reply_text (Spare n) = codes "spare " ++ decimal n

-- a reply, or `refused 2 File at 2`
abbrev pub answer_text : Answer → List ℕ
answer_text (Ok reply) = reply_text reply
answer_text (Err fault) = refusal_text (file_refusal fault)
