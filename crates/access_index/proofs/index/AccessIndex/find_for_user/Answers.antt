use Rattle.std.proofs.Common.{not, inl, inr, refl, sym, ◌∙◌, subst}
use Rattle.std.specs.Prelude.{IfSome}
use Rattle.bit_rows.specs.Rows.{has}
use Rattle.bit_tables.specs.Tables.{holds}
use Rattle.admin_mgr.specs.UserAccess.{stands_alone}
use Rattle.access_index.specs.Following.{Follow}
use Rattle.access_index.specs.Index.{is_used, number_of, rows_of}
use Rattle.access_index.proofs.FindLaws.{not_granted}
use Rattle.access_index.proofs.UserLaws.{none_assigned, user_decision}
use Rattle.access_index.proofs.index.AccessIndex.find_for_user.Goals as goal

pub returns-in_default-row-clause-none : goal.returns-in_default-row-clause-none
returns-in_default-row-clause-none c =
    inr (λ S keeps. inl (none_assigned c.args.self.now S keeps c.args.user.now c.args.operation.now c.args.object.now c.in_default-row.ensures.none))

pub returns-in_default-row-2-clause-none : goal.returns-in_default-row-2-clause-none
returns-in_default-row-2-clause-none c =
    inr (λ S keeps. inr (not_granted c.args.self.now S keeps c.args.user.now c.args.operation.now c.args.object.now c.in_default-row-2.ensures.none))

pub returns-then-is_empty-clause-none : goal.returns-then-is_empty-clause-none
returns-then-is_empty-clause-none c =
    inr (λ S keeps. inl (none_assigned c.args.self.now S keeps c.args.user.now c.args.operation.now c.args.object.now (λ n. sym (c.in-Some-row.ensures.some n) ∙ c.if-is_empty.ensures.empty refl n)))

pub returns-then-is_empty-2-clause-none : goal.returns-then-is_empty-2-clause-none
returns-then-is_empty-2-clause-none c =
    inr (λ S keeps. inr (not_granted c.args.self.now S keeps c.args.user.now c.args.operation.now c.args.object.now (λ n. sym (c.in-Some-row-2.ensures.some n) ∙ c.if-is_empty-2.ensures.empty refl n)))

pub returns-clause-found : goal.returns-clause-found
returns-clause-found c S good keeps =
    let some_assigned = c.if-is_empty.ensures.some refl in
    let some_granted = c.if-is_empty-2.ensures.some refl in
    user_decision c.args.self.now S keeps c.args.user.now c.args.operation.now c.args.object.now (holds c.in-Some-row.assigned.now) (holds c.in-Some-row-2.roles.now) (has c.in-Some.barred)
    c.in-Some-row.ensures.some c.in-Some-row-2.ensures.some (subst (λ row. IfSome row (λ r. Follow (Unit {0}) (number_of c.args.self.now) (is_used c.args.self.now) (λ _. has r) (λ _ role. not (stands_alone S role)))) c.in-Some.is keeps.barred)
    good some_assigned.0 some_granted.0 some_assigned.1 some_granted.1 c.user_reaches.result (c.user_reaches.ensures (rows_of S) keeps).0 (c.user_reaches.ensures (rows_of S) keeps).1
