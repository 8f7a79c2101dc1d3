use Rattle.std.proofs.Common.{◌≡◌, ◌∙◌, subst}
use Rattle.role_cli.specs.Environment.{HasFailed}
use Rattle.role_cli.specs.ErrorOutput.{Says, stop_line}
use Rattle.role_cli.proofs.failure.report_stop.Goals as goal

-- The text that is written is the line.
pub returns : goal.returns
returns g c =
    let is : c.as_bytes.result.now ≡ stop_line c.args.stop.now = c.as_bytes.ensures.value ∙ c.as_str.ensures.value ∙ c.stop_line-line.ensures in
    subst (λ line. Says line (g.E.Sink.written c.args.err.now) (g.E.Sink.written c.write.new.err) (HasFailed (g.E.Sink.failed c.args.err.now) (g.E.Sink.failed c.write.new.err) (g.E.Sink.idle c.args.err.now) (g.E.Sink.idle c.write.new.err))) is c.write.ensures
