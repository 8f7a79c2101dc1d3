use Rattle.std.proofs.Common.{◌≡◌, ◌≤◌, ◌++◌, ◌∷◌, [], ◌∙◌, length, ap, sym, refl, rules, arith}
use Rattle.std.proofs.lemmas.List.{append-nil}
use Rattle.httparse.specs.Grammar.{print_request}
use Rattle.rbac_sets.proofs.Known.{Consumes-more, Consumes-none}
use Rattle.role_http.proofs.Failing.{on_err}
use Rattle.role_http.proofs.Heads.{ConsumesHead-all, ConsumesHead-kept, ConsumesHead-more, no_request-nil, no_request-push, whole_at_last}
use Rattle.role_http.proofs.head.read_head.Goals as goal
use Rattle.role_http.proofs.head.read_head.Goals.{then-byte-eq10+in-Ok-Partial, else-byte-eq10}

pub loop-init : goal.loop-init
loop-init g c = rw c.requires record { none = no_request-nil; counted = refl; steady = refl; read = Consumes-none _ }

pub loop-preserved : goal.loop-preserved
loop-preserved g c =
    let items : c.push.new.self.items ≡ c.loop.bytes.items ++ c.in-Some.byte ∷ [] = search rules in
    record {
      none = elim c.if-byte-eq10.branch [
        | then-byte-eq10+in-Ok-Partial w ↦ rw (w.in-Ok-Partial.field-0-is, w.as_slice.ensures.value) at w.in-Ok-Partial.ensures.partial
        | else-byte-eq10 w ↦ rw items (no_request-push c.loop.bytes.items c.in-Some.byte c.loop.invariant.none w.if-byte-eq10.false)
      ];
      counted = search rules;
      steady = search rules;
      read = rw items (Consumes-more _ _ _ c.loop.bytes.items (c.in-Some.byte ∷ []) c.loop.invariant.read (rw c.in-Some.is at c.in_ok-byte.ensures.byte));
    }

pub returns-in-Ok-Complete-clause-ends : goal.returns-in-Ok-Complete-clause-ends
returns-in-Ok-Complete-clause-ends g c =
    let items : c.push.new.self.items ≡ c.loop.bytes.items ++ c.in-Some.byte ∷ [] = search rules in
    let found = rw (c.in-Ok-Complete.field-0-is, c.as_slice.ensures.value) at c.in-Ok-Complete.ensures.complete in
    let (h, at) = found in
    let done = whole_at_last c.loop.bytes.items c.in-Some.byte h _ c.loop.invariant.none (rw items at at.reads) in
    (h, at, ap length (sym (at.reads.1 ∙ (rw (items, done) (append-nil (print_request h))))))

-- ---- no byte past the head

pub returns-in_default-clause-takes : goal.returns-in_default-clause-takes
returns-in_default-clause-takes g c =
    let l = c.loop.invariant in
    rw c.in_ok-reserve.ensures.items (ConsumesHead-kept _ _ _ c.loop.bytes.items l.none (rw l.counted (omega (arith, c.loop-test.true))) l.read (rw c.in_default.is at c.in_ok-byte.ensures.end))

pub returns-in_err-reserve-clause-stops : goal.returns-in_err-reserve-clause-stops
returns-in_err-reserve-clause-stops g c =
    let l = c.loop.invariant in
    on_err _ c.from_residual.result (c.loop.bytes.items, ConsumesHead-all _ _ c.loop.bytes.items l.none (rw l.counted (omega (arith, c.loop-test.true))) l.read, l.none)

pub returns-in_err-byte-clause-stops : goal.returns-in_err-byte-clause-stops
returns-in_err-byte-clause-stops g c =
    let l = c.loop.invariant in
    on_err _ c.from_residual-in_err-byte.result
    (c.loop.bytes.items, ConsumesHead-kept _ _ _ c.loop.bytes.items l.none (rw l.counted (omega (arith, c.loop-test.true))) l.read c.in_err-byte.ensures.err, l.none)

pub returns-in-Ok-Complete-clause-takes : goal.returns-in-Ok-Complete-clause-takes
returns-in-Ok-Complete-clause-takes g c =
    let items : c.push.new.self.items ≡ c.loop.bytes.items ++ c.in-Some.byte ∷ [] = search rules in
    let l = c.loop.invariant in
    rw items (ConsumesHead-more _ _ _ c.loop.bytes.items c.in-Some.byte l.none (rw l.counted (omega (arith, c.loop-test.true))) l.read (rw c.in-Some.is at c.in_ok-byte.ensures.byte))

pub returns-in-Err-TooManyHeaders-clause-takes : goal.returns-in-Err-TooManyHeaders-clause-takes
returns-in-Err-TooManyHeaders-clause-takes g c =
    let items : c.push.new.self.items ≡ c.loop.bytes.items ++ c.in-Some.byte ∷ [] = search rules in
    let l = c.loop.invariant in
    rw items (ConsumesHead-more _ _ _ c.loop.bytes.items c.in-Some.byte l.none (rw l.counted (omega (arith, c.loop-test.true))) l.read (rw c.in-Some.is at c.in_ok-byte.ensures.byte))

pub returns-clause-takes : goal.returns-clause-takes
returns-clause-takes g c =
    let l = c.loop.invariant in
    let all : c.loop.counter ≤ 8192 = search rules in
    ConsumesHead-all _ _ c.loop.bytes.items l.none (rw l.counted all) l.read
