use Rattle.trace.proofs.Decimals.{not_text}
use Rattle.trace.proofs.numbers.read_number.Goals as goal

pub returns-in_err-ok : goal.returns-in_err-ok
returns-in_err-ok c =
    record { reads_exactly_the_decimals = rw c.from_residual.ensures (not_text c.args.text.now c.from_utf8.result c.from_utf8.ensures.cases c.in_err-ok.ensures.value) }
