use Rattle.std.proofs.Common.{◌≡◌, inl, inr, refl, sym, ◌∙◌, ap}
use Rattle.rbac_sets.specs.declared.row.Row.TheVariants.{NameRow}
use Rattle.rbac_sets.specs.declared.row.TheConstants.Row.{ROLE}
use Rattle.rbac_sets.specs.declared.row.Change.TheVariants.{Take}
use Rattle.access_index.specs.Index.{number_of}
use Rattle.access_index.proofs.PlanLaws.{none_taken, taken_at, taken_more, role-is}
use Rattle.access_index.proofs.index.AccessIndex.free_numbers.Goals as goal
use Rattle.access_index.proofs.index.AccessIndex.free_numbers.Goals.{in-Some, in_default}

pub loop-change-init : goal.loop-change-init
loop-change-init c = (c.requires, λ rows keeps _. keeps, λ role taken. absurd (none_taken (NameRow ROLE role) taken), refl)

pub loop-change-preserved : goal.loop-change-preserved
loop-change-preserved c =
    let changes = c.args.changes.now in
    let i = c.loop-change.change-index in
    let change = c.change-item.result in
    let before = c.loop-change.invariant in
    elim c.match-role_taken.branch [
      | in-Some w ↦
          let taken : change ≡ Take (NameRow ROLE w.in-Some.role.now) = w.in-Some.ensures.role in
          rw w.self-is (
            w.free.ensures.numbers,
            λ rows keeps nowhere. w.free.ensures.keeps rows (before.1 rows keeps nowhere) (nowhere w.in-Some.role.now (taken_at changes i (NameRow ROLE w.in-Some.role.now) change c.loop-change-test.true (sym c.change-item.is ∙ taken))),
            λ role more. elim (taken_more changes i change (NameRow ROLE role) c.loop-change-test.true c.change-item.is more) [
              | inl here ↦ ap (number_of w.free.new.self) (role-is role w.in-Some.role.now (sym here ∙ taken)) ∙ w.free.ensures.freed
              | inr earlier ↦ w.free.ensures.others role (before.2 role earlier)
            ],
            w.free.ensures.seeds ∙ before.3,
          )
      | in_default w ↦
          rw w.self-is (
            before.0,
            before.1,
            λ role more. elim (taken_more changes i change (NameRow ROLE role) c.loop-change-test.true c.change-item.is more) [
              | inl here ↦ absurd (w.in_default.ensures.none role here)
              | inr earlier ↦ before.2 role earlier
            ],
            before.3,
          )
    ]
