use Rattle.std.proofs.Common.{◌≡◌, ◌≤◌, length, Ok, subst, ◌++◌, take, drop, ap, sym, ◌∙◌, append_assoc, arith}
use Rattle.std.proofs.lemmas.Grind.{common_steps}
use Rattle.std.proofs.lemmas.List.{take-append-drop}
use Rattle.rbac_sets.specs.declared.source.Fault.{Fault}
use Rattle.rbac_sets.proofs.Counting.{idle_after-grows}
use Rattle.rbac_sets.proofs.Known.{Appends-more}
use Rattle.rbac_sets.proofs.sink.write_all.Goals as goal

pub loop-rest-preserved : goal.loop-rest-preserved
loop-rest-preserved g c =
    let before = c.loop-rest.invariant in
    let rest = c.loop-rest.rest.now in
    let parts : rest ≡ take c.in-Ok.count rest ++ drop c.in-Ok.count rest = sym (take-append-drop c.in-Ok.count rest) in
    let whole : c.args.piece.now ≡ (before.0 ++ take c.in-Ok.count rest) ++ drop c.in-Ok.count rest =
    before.2 ∙ ap (λ l. before.0 ++ l) parts ∙ sym (append_assoc before.0 (take c.in-Ok.count rest) (drop c.in-Ok.count rest)) in
    (before.0 ++ take c.in-Ok.count rest, Appends-more _ _ _ _ _ before.1 c.in-Ok.ensures.bytes, grind (arith, common_steps, whole), grind (arith, common_steps, before.3, c.in-Ok.ensures.failures), omega (arith, before.4, subst (λ n. g.W.Sink.idle c.loop-rest.sink ≤ n) (sym c.in-Ok.ensures.idle) (idle_after-grows {E = Fault} (g.W.Sink.idle c.loop-rest.sink) (length rest) (Ok c.in-Ok.count))))
