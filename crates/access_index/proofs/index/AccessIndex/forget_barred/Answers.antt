use Rattle.std.proofs.Common.{not, refl, sym, ap, arith}
use Rattle.access_index.specs.Index.{rows_of}
use Rattle.access_index.proofs.BarLaws.{barred_by_turn, none_bar, unbarred_turn}
use Rattle.access_index.proofs.ForgetLaws.{forget_kept, forget_more, forget_none, forget_turned}
use Rattle.access_index.proofs.IndexLaws.{keeps_same}
use Rattle.access_index.proofs.index.AccessIndex.forget_barred.Goals as goal

pub loop-change-init : goal.loop-change-init
loop-change-init c = (refl, forget_none c.args.self.now)

pub loop-change-preserved : goal.loop-change-preserved
loop-change-preserved c =
    forget_more c.args.self.now c.loop-change.self c.forget_by_change.new.self c.args.changes.now c.loop-change.change-index c.change-item.result c.loop-change-test.true c.change-item.is
    c.loop-change.invariant.0 c.loop-change.invariant.1 c.forget_by_change.ensures.rest c.forget_by_change.ensures.forgets

pub returns-after-loop-change-clause-keeps : goal.returns-after-loop-change-clause-keeps
returns-after-loop-change-clause-keeps c rows keeps = forget_kept c.args.self.now c.loop-change.self rows _ c.loop-change.invariant.0 c.loop-change.invariant.1 keeps

pub returns-after-loop-change-clause-follows : goal.returns-after-loop-change-clause-follows
returns-after-loop-change-clause-follows c S T indexes turns =
    forget_turned c.args.self.now c.loop-change.self S T c.args.changes.now c.loop-change.change-index c.loop-change.invariant.0 c.loop-change.invariant.1 (omega arith) turns indexes

pub returns-else-some_can_bar-clause-follows : goal.returns-else-some_can_bar-clause-follows
returns-else-some_can_bar-clause-follows c S T indexes turns =
    keeps_same c.args.self.now (rows_of S) (record (rows_of S) { barred = (rows_of T).barred; barred_by = (rows_of T).barred_by }) (λ row. refl)
    (λ role. ap not (sym (unbarred_turn S T c.args.changes.now (sym c.if-some_can_bar.ensures) turns role)))
    (λ set role. sym (barred_by_turn set S T c.args.changes.now (none_bar set c.args.changes.now (sym c.if-some_can_bar.ensures)) turns role)) indexes
