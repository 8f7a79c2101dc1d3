use Rattle.std.proofs.Common.{◌++◌, drop, ap, ◌∙◌}
use Rattle.chunked_sets.specs.Chunks.{entries_of}
use Rattle.chunked_sets.proofs.Skipping.{skipped_past}
use Rattle.chunked_sets.proofs.run.Run.skip.Goals as goal

pub returns : goal.returns
returns g c =
    let inside = c.self.inside in
    c.rest_of_chunks.ensures
    ∙ skipped_past inside.first.now (entries_of inside.middle.now ++ inside.last.now) c.args.count c.if-count-self.false
    ∙ ap (drop c.args.count) c.self.view_is
