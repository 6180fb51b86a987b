use Rattle.std.proofs.Common.{rules}
use Rattle.trace.proofs.Words.{either_call}
use Rattle.trace.proofs.requests.read_call.Goals as goal

pub returns : goal.returns
returns c = record { reads_exactly_the_calls = either_call c.args.line.now c.read_word.result c.or_else.result c.read_word.ensures c.or_else.ensures (λ read. search rules) }
