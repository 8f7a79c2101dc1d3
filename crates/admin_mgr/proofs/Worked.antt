-- Worked examples, computed from the definitions.
use Rattle.std.proofs.Common.{◌≡◌, Bool, true, false, List, [], ◌∷◌, refl, ap}
use Rattle.std.specs.Prelude.{Some, None, codes, pos, is_none}
use Rattle.std.specs.List.{list_any, list_all, filter}
use Rattle.rbac_sets.specs.Sets.{empty, contains, Bytes, Pairs, Cardinality, cardinality_cmp, from_list, seconds, members, retain, any, all}
use Rattle.rbac_sets.specs.SortedSet.{Stored}
use Rattle.rbac_sets.specs.NameOrder.{cardinality_total, cardinality_exact}
use Rattle.rbac_sets.proofs.Evaluation.{evaluated, ordered, members-from_list, any-from_list, all-from_list, retain-from_list}
use Rattle.rbac_sets.specs.declared.command.Command.TheVariants.{AddInheritance, AssignUser, CreateSession, AddActiveRole, DeassignUser, LockUserAccount, AddAscendant, AddPermObj, AddPermission, AddRole, AddSsdRoleMember, AddUser, CreateSsdSet, DeleteInheritance, DeleteUser, DeleteDsdRoleMember, DeleteDsdSet, SetDsdSetCardinality, DeletePermObj, DeletePermission, DeleteRole, DeleteSession, DeleteSsdRoleMember, DeleteSsdSet, DropActiveRole, GrantPermission, RevokePermission, SetSsdSetCardinality}
use Rattle.rbac_sets.specs.declared.refusal.Refusal.TheVariants.{StaticSeparation, DynamicSeparation, AlreadyAssigned, UserLocked, NoUser, Version, AlreadyActive, AlreadyGranted, BadCardinality, Cycle, EdgeExists, MemberExists, NoEdge, NoMember, NoObject, NoPermission, NoSession, NoSet, NotActive, NotAssigned, NotAuthorized, NotGranted, NotOwner, ObjectExists, ObjectInUse, PermissionExists, RoleExists, RoleInUse, SessionExists, SetExists, UserExists}
use Rattle.role_order.specs.Order.{geq}
use Rattle.admin_mgr.specs.RbacState.{RbacState, has_session, empty_state, no_separation, cardinality_of}
use Rattle.admin_mgr.specs.Authorization.{authorized_users, authorized_roles}
use Rattle.admin_mgr.specs.UserAccess.{could_have_access, stands_alone}
use Rattle.admin_mgr.specs.Separation.{is_kept_statically, is_kept_dynamically, least_violated}
use Rattle.admin_mgr.specs.Assignment.{assignment_verdict, after_assignment, after_record, import_verdicts, tally_of, may_go_on, end_sessions, assignment_refusals}
use Rattle.admin_mgr.specs.After.{changed, after}
use Rattle.admin_mgr.specs.Verdict.{refusals, verdict}

-- ---- cardinalities that are written out

members-cardinalities : (xs : List Cardinality) → members (from_list {R = cardinality_cmp} xs) ≡ ordered cardinality_cmp xs
members-cardinalities = members-from_list cardinality_total

any-cardinalities : (p : Cardinality → Bool) (xs : List Cardinality) → any p (from_list {R = cardinality_cmp} xs) ≡ list_any p (ordered cardinality_cmp xs)
any-cardinalities = any-from_list cardinality_total

all-cardinalities : (p : Cardinality → Bool) (xs : List Cardinality) → all p (from_list {R = cardinality_cmp} xs) ≡ list_all p (ordered cardinality_cmp xs)
all-cardinalities = all-from_list cardinality_total

retain-cardinalities : (xs : List Cardinality) (p : Cardinality → Bool) → retain (from_list {R = cardinality_cmp} xs) p ≡ from_list (filter p xs)
retain-cardinalities = retain-from_list cardinality_total cardinality_exact

ruleset written = (evaluated, members-cardinalities, any-cardinalities, all-cardinalities, retain-cardinalities)

-- ---- a diamond: without one of its edges the other path stays

a : Bytes
a = codes "a"

b : Bytes
b = codes "b"

c : Bytes
c = codes "c"

d : Bytes
d = codes "d"

diamond : Pairs
diamond = from_list ((a, b) ∷ (b, d) ∷ (a, c) ∷ (c, d) ∷ [])

a_above_d : geq diamond a d ≡ true
unfolding geq diamond a b c d
a_above_d = simp written

cut : Pairs
cut = from_list ((a, b) ∷ (a, c) ∷ (c, d) ∷ [])

a_stays_above_d : geq cut a d ≡ true
unfolding geq cut a b c d
a_stays_above_d = simp written

b_not_above_d : geq cut b d ≡ false
unfolding geq cut a b c d
b_not_above_d = simp written

b_not_above_c : geq diamond b c ≡ false
unfolding geq diamond a b c d
b_not_above_c = simp written

-- ---- static separation counts authorized users: a user with `boss` may not be authorized for both members of `pay`

approver : Bytes
approver = codes "approver"

boss : Bytes
boss = codes "boss"

clerk : Bytes
clerk = codes "clerk"

pay : Bytes
pay = codes "pay"

zed : Bytes
zed = codes "zed"

before_boss_approves : RbacState
before_boss_approves = record (empty_state 2) {
  users = from_list (zed ∷ []);
  roles = from_list (approver ∷ boss ∷ clerk ∷ []);
  assignments = from_list ((zed, boss) ∷ []);
  edges = from_list ((boss, clerk) ∷ []);
  ssd = record { members = from_list ((pay, approver) ∷ (pay, clerk) ∷ []); cardinalities = from_list ((pay, 2) ∷ []) };
}

boss_may_not_approve : verdict before_boss_approves (AddInheritance boss approver) ≡ Some (StaticSeparation pay)
unfolding before_boss_approves boss approver clerk pay zed refusals verdict after changed least_violated is_kept_statically authorized_users seconds geq end_sessions
boss_may_not_approve = simp written

-- the refusal names the first violated set in byte order
aid : Bytes
aid = codes "aid"

two_sets : RbacState
two_sets = record before_boss_approves {
  assignments = empty;
  edges = from_list ((boss, approver) ∷ (boss, clerk) ∷ []);
  ssd = record { members = from_list ((pay, approver) ∷ (pay, clerk) ∷ (aid, boss) ∷ (aid, clerk) ∷ []); cardinalities = from_list ((pay, 2) ∷ (aid, 2) ∷ []) };
}

the_least_set_is_named : verdict two_sets (AssignUser zed boss) ≡ Some (StaticSeparation aid)
unfolding two_sets before_boss_approves aid boss approver clerk pay zed refusals verdict assignment_verdict after_assignment assignment_refusals least_violated is_kept_statically authorized_users seconds geq end_sessions
the_least_set_is_named = simp written

-- ---- dynamic separation counts the juniors of the activated roles

ann : Bytes
ann = codes "ann"

audit : Bytes
audit = codes "audit"

cash : Bytes
cash = codes "cash"

chief : Bytes
chief = codes "chief"

till : Bytes
till = codes "till"

s1 : Bytes
s1 = codes "s1"

chief_of_both : RbacState
chief_of_both = record (empty_state 2) {
  users = from_list (ann ∷ []);
  roles = from_list (audit ∷ cash ∷ chief ∷ []);
  assignments = from_list ((ann, chief) ∷ []);
  edges = from_list ((chief, audit) ∷ (chief, cash) ∷ []);
  dsd = record { members = from_list ((till, audit) ∷ (till, cash) ∷ []); cardinalities = from_list ((till, 2) ∷ []) };
}

-- a list of one role that is asked for
asked : Bytes → Stored Bytes
asked role = record { in_order = role ∷ []; room = 0 }

chief_is_too_much : verdict chief_of_both (CreateSession ann (asked chief) s1) ≡ Some (DynamicSeparation till)
unfolding asked chief_of_both ann audit cash chief till s1 refusals verdict after changed least_violated is_kept_dynamically authorized_users seconds geq end_sessions may_go_on
chief_is_too_much = simp written

cash_is_accepted : verdict chief_of_both (CreateSession ann (asked cash) s1) ≡ None
unfolding asked chief_of_both ann audit cash chief till s1 refusals verdict after changed least_violated is_kept_dynamically authorized_users seconds geq end_sessions may_go_on
cash_is_accepted = simp written

at_the_till : RbacState
at_the_till = record chief_of_both { sessions = from_list ((s1, ann) ∷ []); active = from_list ((s1, cash) ∷ []) }

audit_may_not_be_activated : verdict at_the_till (AddActiveRole ann s1 audit) ≡ Some (DynamicSeparation till)
unfolding at_the_till chief_of_both ann audit cash chief till s1 refusals verdict after changed least_violated is_kept_dynamically authorized_users seconds geq end_sessions may_go_on
audit_may_not_be_activated = simp written

cash_may_not_inherit_audit : verdict at_the_till (AddInheritance cash audit) ≡ Some (DynamicSeparation till)
unfolding at_the_till chief_of_both ann audit cash chief till s1 refusals verdict after changed least_violated is_kept_dynamically is_kept_statically authorized_users seconds geq end_sessions may_go_on
cash_may_not_inherit_audit = simp written

-- a session ends with the last assignment that authorized one of its roles
taken : RbacState
taken = after at_the_till (DeassignUser ann chief)

the_session_ends : has_session (taken) s1 ≡ false
unfolding taken at_the_till chief_of_both ann audit cash chief till s1 after changed authorized_users seconds geq end_sessions may_go_on
the_session_ends = simp written

-- ---- an import: bob is assigned, ann was before, and her second record is refused

bob : Bytes
bob = codes "bob"

before_import : RbacState
before_import = record (empty_state 2) {
  users = from_list (ann ∷ bob ∷ []);
  roles = from_list (approver ∷ clerk ∷ []);
  assignments = from_list ((ann, clerk) ∷ []);
  ssd = record { members = from_list ((pay, approver) ∷ (pay, clerk) ∷ []); cardinalities = from_list ((pay, 2) ∷ []) };
}

with_bob : RbacState
with_bob = record before_import { assignments = from_list ((bob, clerk) ∷ (ann, clerk) ∷ []); sessions = from_list []; active = from_list [] }

bob_is_assigned : assignment_verdict before_import (bob, clerk) ≡ None
unfolding before_import ann bob approver clerk pay assignment_verdict after_assignment assignment_refusals least_violated is_kept_statically authorized_users seconds geq end_sessions may_go_on
bob_is_assigned = simp written

then_bob_is_a_clerk : after_assignment before_import (bob, clerk) ≡ with_bob
unfolding with_bob before_import ann bob approver clerk pay after_assignment end_sessions may_go_on
then_bob_is_a_clerk = simp written

ann_was_assigned : assignment_verdict with_bob (ann, clerk) ≡ Some AlreadyAssigned
unfolding with_bob before_import ann bob approver clerk pay assignment_verdict after_assignment assignment_refusals least_violated is_kept_statically authorized_users seconds geq end_sessions may_go_on
ann_was_assigned = simp written

ann_may_not_approve : assignment_verdict with_bob (ann, approver) ≡ Some (StaticSeparation pay)
unfolding with_bob before_import ann bob approver clerk pay assignment_verdict after_assignment assignment_refusals least_violated is_kept_statically authorized_users seconds geq end_sessions may_go_on
ann_may_not_approve = simp written

the_third_record_is_refused : import_verdicts before_import ((bob, clerk) ∷ (ann, clerk) ∷ (ann, approver) ∷ []) ≡ None ∷ Some AlreadyAssigned ∷ Some (StaticSeparation pay) ∷ []
unfolding import_verdicts after_record
the_third_record_is_refused = simp (bob_is_assigned, then_bob_is_a_clerk, ann_was_assigned, ann_may_not_approve)

what_is_told : tally_of (import_verdicts before_import ((bob, clerk) ∷ (ann, clerk) ∷ (ann, approver) ∷ [])) ≡ record { assigned = 1; already = 1; refused = (3, 24) ∷ [] }
unfolding tally_of
what_is_told = ap tally_of the_third_record_is_refused

-- ---- a locked user has no session and gets none

at_work : RbacState
at_work = record (empty_state 2) {
  users = from_list (ann ∷ bob ∷ []);
  roles = from_list (boss ∷ []);
  assignments = from_list ((ann, boss) ∷ []);
  sessions = from_list ((s1, ann) ∷ []);
  active = from_list ((s1, boss) ∷ []);
}

locked_out : RbacState
locked_out = after at_work (LockUserAccount ann)

the_lock_ends_the_session : has_session locked_out s1 ≡ false
unfolding locked_out at_work ann bob boss s1 after changed authorized_users seconds geq end_sessions may_go_on
the_lock_ends_the_session = simp written

no_session_while_locked : verdict locked_out (CreateSession ann (asked boss) s1) ≡ Some UserLocked
unfolding asked locked_out at_work ann bob boss s1 refusals verdict after changed least_violated is_kept_dynamically authorized_users seconds geq end_sessions may_go_on
no_session_while_locked = simp written

nobody_to_lock : verdict at_work (LockUserAccount zed) ≡ Some NoUser
unfolding at_work ann bob boss s1 zed refusals verdict
nobody_to_lock = simp written

no_locks_in_version_1 : verdict (empty_state 1) (LockUserAccount zed) ≡ Some (Version (pos 1))
unfolding refusals verdict
no_locks_in_version_1 = refl

-- ---- one refused command for each condition that needs more than an empty state

desk : Bytes
desk = codes "desk"

safe : Bytes
safe = codes "safe"

opens : Bytes
opens = codes "open"

views : Bytes
views = codes "view"

s2 : Bytes
s2 = codes "s2"

temp : Bytes
temp = codes "temp"

-- ann is a boss and bob a clerk, boss inherits from clerk, clerks may open the safe, and nobody may be both clerk and temp
office : RbacState
office = record (empty_state 2) {
  users = from_list (ann ∷ bob ∷ []);
  roles = from_list (boss ∷ clerk ∷ temp ∷ []);
  objects = from_list (safe ∷ []);
  permissions = from_list ((safe, opens) ∷ []);
  assignments = from_list ((ann, boss) ∷ (bob, clerk) ∷ []);
  grants = from_list ((safe, opens, clerk) ∷ []);
  edges = from_list ((boss, clerk) ∷ []);
  ssd = record { members = from_list ((pay, clerk) ∷ (pay, temp) ∷ []); cardinalities = from_list ((pay, 2) ∷ []) };
  sessions = from_list ((s1, ann) ∷ []);
  active = from_list ((s1, boss) ∷ []);
}

the_user_is_there : verdict office (AddUser ann) ≡ Some UserExists
unfolding asked office ann bob boss clerk temp safe desk opens views pay aid s1 s2 refusals verdict
the_user_is_there = simp written

the_role_is_there : verdict office (AddRole clerk) ≡ Some RoleExists
unfolding asked office ann bob boss clerk temp safe desk opens views pay aid s1 s2 refusals verdict
the_role_is_there = simp written

the_object_is_there : verdict office (AddPermObj safe) ≡ Some ObjectExists
unfolding asked office ann bob boss clerk temp safe desk opens views pay aid s1 s2 refusals verdict
the_object_is_there = simp written

no_such_object : verdict office (AddPermission desk opens) ≡ Some NoObject
unfolding asked office ann bob boss clerk temp safe desk opens views pay aid s1 s2 refusals verdict
no_such_object = simp written

the_permission_is_there : verdict office (AddPermission safe opens) ≡ Some PermissionExists
unfolding asked office ann bob boss clerk temp safe desk opens views pay aid s1 s2 refusals verdict
the_permission_is_there = simp written

no_such_permission : verdict office (DeletePermission safe views) ≡ Some NoPermission
unfolding asked office ann bob boss clerk temp safe desk opens views pay aid s1 s2 refusals verdict
no_such_permission = simp written

the_grant_is_there : verdict office (GrantPermission safe opens clerk) ≡ Some AlreadyGranted
unfolding asked office ann bob boss clerk temp safe desk opens views pay aid s1 s2 refusals verdict
the_grant_is_there = simp written

no_such_grant : verdict office (RevokePermission safe opens boss) ≡ Some NotGranted
unfolding asked office ann bob boss clerk temp safe desk opens views pay aid s1 s2 refusals verdict
no_such_grant = simp written

the_pair_is_assigned : verdict office (AssignUser ann boss) ≡ Some AlreadyAssigned
unfolding asked office ann bob boss clerk temp safe desk opens views pay aid s1 s2 refusals verdict assignment_refusals
the_pair_is_assigned = simp written

the_pair_is_not_assigned : verdict office (DeassignUser ann clerk) ≡ Some NotAssigned
unfolding asked office ann bob boss clerk temp safe desk opens views pay aid s1 s2 refusals verdict
the_pair_is_not_assigned = simp written

the_edge_is_there : verdict office (AddInheritance boss clerk) ≡ Some EdgeExists
unfolding asked office ann bob boss clerk temp safe desk opens views pay aid s1 s2 refusals verdict geq
the_edge_is_there = simp written

the_edge_closes_a_cycle : verdict office (AddInheritance clerk boss) ≡ Some Cycle
unfolding asked office ann bob boss clerk temp safe desk opens views pay aid s1 s2 refusals verdict geq
the_edge_closes_a_cycle = simp written

no_such_edge : verdict office (DeleteInheritance clerk temp) ≡ Some NoEdge
unfolding asked office ann bob boss clerk temp safe desk opens views pay aid s1 s2 refusals verdict
no_such_edge = simp written

the_ascendant_is_there : verdict office (AddAscendant boss clerk) ≡ Some RoleExists
unfolding asked office ann bob boss clerk temp safe desk opens views pay aid s1 s2 refusals verdict
the_ascendant_is_there = simp written

the_role_has_an_edge : verdict office (DeleteRole boss) ≡ Some RoleInUse
unfolding asked office ann bob boss clerk temp safe desk opens views pay aid s1 s2 refusals verdict
the_role_has_an_edge = simp written

the_role_is_a_member : verdict office (DeleteRole temp) ≡ Some RoleInUse
unfolding asked office ann bob boss clerk temp safe desk opens views pay aid s1 s2 refusals verdict
the_role_is_a_member = simp written

the_object_has_a_permission : verdict office (DeletePermObj safe) ≡ Some ObjectInUse
unfolding asked office ann bob boss clerk temp safe desk opens views pay aid s1 s2 refusals verdict
the_object_has_a_permission = simp written

the_set_is_there : verdict office (CreateSsdSet pay (asked clerk) 2) ≡ Some SetExists
unfolding asked office ann bob boss clerk temp safe desk opens views pay aid s1 s2 refusals verdict
the_set_is_there = simp written

too_few_members : verdict office (CreateSsdSet aid (asked clerk) 2) ≡ Some BadCardinality
unfolding asked office ann bob boss clerk temp safe desk opens views pay aid s1 s2 refusals verdict
too_few_members = simp written

no_such_set : verdict office (DeleteSsdSet aid) ≡ Some NoSet
unfolding asked office ann bob boss clerk temp safe desk opens views pay aid s1 s2 refusals verdict
no_such_set = simp written

the_role_is_a_member_already : verdict office (AddSsdRoleMember pay clerk) ≡ Some MemberExists
unfolding asked office ann bob boss clerk temp safe desk opens views pay aid s1 s2 refusals verdict seconds
the_role_is_a_member_already = simp written

no_such_member : verdict office (DeleteSsdRoleMember pay boss) ≡ Some NoMember
unfolding asked office ann bob boss clerk temp safe desk opens views pay aid s1 s2 refusals verdict cardinality_of seconds
no_such_member = simp written

the_last_members_stay : verdict office (DeleteSsdRoleMember pay temp) ≡ Some BadCardinality
unfolding asked office ann bob boss clerk temp safe desk opens views pay aid s1 s2 refusals verdict cardinality_of seconds
the_last_members_stay = simp written

more_than_the_members : verdict office (SetSsdSetCardinality pay 3) ≡ Some BadCardinality
unfolding asked office ann bob boss clerk temp safe desk opens views pay aid s1 s2 refusals verdict seconds
more_than_the_members = simp written

the_session_is_there : verdict office (CreateSession ann (asked boss) s1) ≡ Some SessionExists
unfolding asked office ann bob boss clerk temp safe desk opens views pay aid s1 s2 refusals verdict authorized_users geq
the_session_is_there = simp written

not_authorized_at_the_start : verdict office (CreateSession bob (asked boss) s2) ≡ Some NotAuthorized
unfolding asked office ann bob boss clerk temp safe desk opens views pay aid s1 s2 refusals verdict authorized_users geq
not_authorized_at_the_start = simp written

no_such_session : verdict office (DropActiveRole ann s2 boss) ≡ Some NoSession
unfolding asked office ann bob boss clerk temp safe desk opens views pay aid s1 s2 refusals verdict
no_such_session = simp written

another_user_has_it : verdict office (DeleteSession bob s1) ≡ Some NotOwner
unfolding asked office ann bob boss clerk temp safe desk opens views pay aid s1 s2 refusals verdict
another_user_has_it = simp written

not_authorized_later : verdict office (AddActiveRole ann s1 temp) ≡ Some NotAuthorized
unfolding asked office ann bob boss clerk temp safe desk opens views pay aid s1 s2 refusals verdict authorized_users geq seconds
not_authorized_later = simp written

active_already : verdict office (AddActiveRole ann s1 boss) ≡ Some AlreadyActive
unfolding asked office ann bob boss clerk temp safe desk opens views pay aid s1 s2 refusals verdict authorized_users geq seconds
active_already = simp written

not_active : verdict office (DropActiveRole ann s1 clerk) ≡ Some NotActive
unfolding asked office ann bob boss clerk temp safe desk opens views pay aid s1 s2 refusals verdict
not_active = simp written

-- ---- no removal lets ann open the safe, but she may once her role's juniors are fewer members of the set than its cardinality

barred : RbacState
barred = record chief_of_both {
  roles = from_list (audit ∷ cash ∷ chief ∷ temp ∷ []);
  objects = from_list (safe ∷ []);
  permissions = from_list ((safe, opens) ∷ []);
  grants = from_list ((safe, opens, chief) ∷ []);
  dsd = record { members = from_list ((till, audit) ∷ (till, cash) ∷ (till, temp) ∷ []); cardinalities = from_list ((till, 2) ∷ []) };
}

she_may_not_open_it : could_have_access barred ann opens safe ≡ false
unfolding barred chief_of_both ann audit cash chief temp till safe opens could_have_access stands_alone authorized_roles authorized_users seconds geq
she_may_not_open_it = simp written

without_an_inheritance : could_have_access (after barred (DeleteInheritance chief cash)) ann opens safe ≡ true
unfolding barred chief_of_both ann audit cash chief temp till safe opens could_have_access stands_alone authorized_roles authorized_users seconds geq after changed end_sessions
without_an_inheritance = simp written

without_a_member : could_have_access (after barred (DeleteDsdRoleMember till cash)) ann opens safe ≡ true
unfolding barred chief_of_both ann audit cash chief temp till safe opens could_have_access stands_alone authorized_roles authorized_users seconds geq after changed end_sessions
without_a_member = simp written

without_the_set : could_have_access (after barred (DeleteDsdSet till)) ann opens safe ≡ true
unfolding barred chief_of_both ann audit cash chief temp till safe opens could_have_access stands_alone authorized_roles authorized_users seconds geq after changed end_sessions
without_the_set = simp written

with_a_larger_cardinality : could_have_access (after barred (SetDsdSetCardinality till 3)) ann opens safe ≡ true
unfolding barred chief_of_both ann audit cash chief temp till safe opens could_have_access stands_alone authorized_roles authorized_users seconds geq after changed end_sessions
with_a_larger_cardinality = simp written

each_is_accepted : list_all is_none (verdict barred (DeleteInheritance chief cash) ∷ verdict barred (DeleteDsdRoleMember till cash) ∷ verdict barred (DeleteDsdSet till) ∷ verdict barred (SetDsdSetCardinality till 3) ∷ []) ≡ true
unfolding barred chief_of_both ann audit cash chief temp till safe opens refusals verdict cardinality_of seconds after changed least_violated is_kept_dynamically authorized_users geq end_sessions may_go_on
each_is_accepted = simp written

-- the lock of a deleted user doesn't pass to another of the same name, who may do nothing yet
before_she_goes : RbacState
before_she_goes = record barred { locked = from_list (ann ∷ []); dsd = no_separation }

she_came_back : RbacState
she_came_back = after (after before_she_goes (DeleteUser ann)) (AddUser ann)

she_is_not_locked : contains she_came_back.locked ann ≡ false
unfolding she_came_back before_she_goes barred chief_of_both ann audit cash chief temp till safe opens after changed end_sessions
she_is_not_locked = simp written

she_may_do_nothing : could_have_access she_came_back ann opens safe ≡ false
unfolding she_came_back before_she_goes barred chief_of_both ann audit cash chief temp till safe opens could_have_access stands_alone authorized_roles authorized_users seconds geq after changed end_sessions
she_may_do_nothing = simp written
