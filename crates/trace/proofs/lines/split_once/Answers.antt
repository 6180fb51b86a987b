use Rattle.std.proofs.Common.{◌+◌}
use Rattle.std.proofs.lemmas.List.{take_rest}
use Rattle.trace.proofs.LineLaws.{cut_at, not_cut}
use Rattle.trace.proofs.lines.split_once.Goals as goal

pub returns-in_err-at : goal.returns-in_err-at
returns-in_err-at c = rw c.from_residual.ensures (not_cut c.args.byte c.args.text.now c.in_err-at.ensures)

pub returns : goal.returns
returns c = rw (take_rest c.args.text.now (c.in_ok-at.at + 1)) (cut_at c.args.byte c.args.text.now c.in_ok-at.at c.in_ok-at.ensures)
