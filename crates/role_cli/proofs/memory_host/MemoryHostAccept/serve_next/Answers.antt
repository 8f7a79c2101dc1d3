use Rattle.std.proofs.Common.{rules, ◌≡◌, ◌∙◌, true, ◌++◌, ◌∷◌, [], ap, arith, refl}
use Rattle.std.specs.Prelude.{if◌then◌else◌, is_ok}
use Rattle.sqlite.specs.Held.{state}
use Rattle.role_cli.specs.Hosts.{sent_in_memory}
use Rattle.role_cli.specs.ServedConnections.{status_in}
use Rattle.role_cli.proofs.Served.{next_in_memory, saturated}
use Rattle.role_cli.proofs.memory_host.MemoryHostAccept.serve_next.Goals as goal

-- The client is the first of those that waited, and what it was sent is kept.
pub returns-clause-served : goal.returns-clause-served
returns-clause-served g c =
    let pushed : is_ok c.push.result ≡ true = search rules in
    let kept = c.push.ensures.items ∙ ap (λ is. if is then c.reserve.new.self.items ++ c.answered-reply.new.sink ∷ [] else c.reserve.new.self.items) pushed ∙ ap (λ replies. replies ++ c.answered-reply.new.sink ∷ []) c.reserve.ensures.items in
    let counted = c.saturating_add-self.ensures ∙ saturated (c.args.self.now).accepted (omega arith) in
    let empty : sent_in_memory c.new-sink.result ≡ record { bytes = []; failed_writes = 0 } = cc (c.new-sink.ensures.bytes, c.new-sink.ensures.failures) in
    next_in_memory (state g.S.Store) c.args.self.now (record c.args.self.now { waiting = c.pop_front.new.self; replies = c.push.new.self; accepted = c.saturating_add-self.result }) c.in-Some.source c.answered-reply.new.source c.new-sink.result c.answered-reply.new.sink _ _ (status_in c.answered-reply.result) refl counted refl c.in-Some.ensures.items kept empty c.answered-reply.ensures.over
