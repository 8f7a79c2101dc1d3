use Rattle.std.proofs.Common.{sym, ap, subst}
use Rattle.admin_mgr.specs.Changes.{Turns}
use Rattle.admin_mgr.specs.After.{after}
use Rattle.rbac_sets.specs.declared.command.Command.TheVariants.{ImportAssignments}
use Rattle.admin_mgr.proofs.Imports.ImportLaws.{after_import_puts, good_after_import}
use Rattle.admin_mgr.proofs.Imports.ImportTurns.{turns_import}
use Rattle.admin_mgr.proofs.planning.importing.plan_import_assignments.Goals as goal

pub returns-clause-planned : goal.returns-clause-planned
returns-clause-planned c =
    let S = c.args.state.now.facts in
    let good = c.recall_good.ensures in
    record {
      leads = record {
        rows = subst (λ xs. Turns S xs (after S (ImportAssignments c.args.pairs.now))) (sym c.in_ok-changes.ensures.changes) (turns_import S good c.args.pairs.now);
        edges = sym (ap (λ X. X.edges) (after_import_puts S good c.args.pairs.now));
        good = good_after_import S good c.args.pairs.now;
      };
      report = c.in_ok-changes.ensures.report;
    }
