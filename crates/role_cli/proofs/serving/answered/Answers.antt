use Rattle.role_cli.proofs.serving.answered.Goals as goal

pub returns-in-Ok-clause-over : goal.returns-in-Ok-clause-over
returns-in-Ok-clause-over g c = c.in-Ok.ensures.served

pub returns-in-Err-clause-over : goal.returns-in-Err-clause-over
returns-in-Err-clause-over g c = (c.in-Err.field-0.cause, c.in-Err.ensures.stopped.1, c.in-Err.ensures.read_cause, c.in-Err.ensures.write_cause)

pub returns-in-Ok-clause-somehow : goal.returns-in-Ok-clause-somehow
returns-in-Ok-clause-somehow g c =
    (g.R.Source.remaining c.args.source.now, g.R.Source.remaining c.serve.new.source, g.W.Sink.written c.args.sink.now, g.W.Sink.written c.serve.new.sink, c.in-Ok.ensures.served)

pub returns-in-Err-clause-somehow : goal.returns-in-Err-clause-somehow
returns-in-Err-clause-somehow g c =
    (c.in-Err.field-0.cause, g.R.Source.remaining c.args.source.now, g.R.Source.remaining c.serve.new.source, g.W.Sink.written c.args.sink.now, g.W.Sink.written c.serve.new.sink, c.in-Err.ensures.stopped.1)
