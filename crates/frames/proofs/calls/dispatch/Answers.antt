use Rattle.frames.proofs.calls.dispatch.Goals as goal

pub returns-in-Read-clause-moves_as_the_file_does : goal.returns-in-Read-clause-moves_as_the_file_does
returns-in-Read-clause-moves_as_the_file_does g c =
    let asking = g.F.RegisterFile.effects.asking c.args.file.now in rw c.in-Read.is (asking.read c.in-Read.register)
