-- Which sessions go on after a loss: the removal of something that their activated roles depend on.
use Rattle.std.specs.Prelude.{Bool, not, ◌&&◌, ◌||◌, List}
use Rattle.std.specs.List.{list_any, list_all}
use Rattle.rbac_sets.specs.Sets.{Bytes, Pair, Pairs, pair_cmp, contains, same_name}
use Rattle.rbac_sets.specs.SortedSet.{set_of}
use Rattle.role_order.specs.Order.{geq}
use Rattle.admin_mgr.specs.RbacState.{RbacState}
use Rattle.admin_mgr.specs.private.HolderRoles.{run_of}
use Rattle.admin_mgr.specs.declared.planning.ending.Loss.{Loss}
use Rattle.admin_mgr.specs.declared.planning.ending.Loss.TheVariants.{User, Assignment, Role, Pairs as OrderPairs}

-- the role, or a senior of it, is the role of one of the pairs (holder, role), and that isn't the role `gone`
abbrev pub is_held_without_role : Pairs → List Pair → Bytes → Bytes → Bool
is_held_without_role edges held gone role = list_any (λ (pair : Pair). not (same_name pair.1 gone) && geq edges pair.1 role) held

-- the role, or a senior of it, is the role of one of the pairs (holder, role), and the two are no lost pair of the closure
abbrev pub is_held_without_pairs : Pairs → List Pair → Pairs → Bytes → Bool
is_held_without_pairs edges held lost role = list_any (λ (pair : Pair). geq edges pair.1 role && not (contains lost (pair.1, role))) held

-- the session's user is authorized for each role that was activated in it, by an assignment to another role than `gone`
abbrev pub goes_on_without_role : RbacState → Bytes → Pair → Bool
goes_on_without_role S gone session =
    list_all (λ (active : Pair). is_held_without_role S.edges (run_of S.assignments session.1) gone active.1) (run_of S.active session.0)

-- the session's user is authorized for each role that was activated in it, without the lost pairs of the closure
abbrev pub goes_on_without_pairs : RbacState → Pairs → Pair → Bool
goes_on_without_pairs S lost session =
    list_all (λ (active : Pair). is_held_without_pairs S.edges (run_of S.assignments session.1) lost active.1) (run_of S.active session.0)

-- whether the session, a pair (session, user), goes on after the loss
abbrev pub stays : RbacState → Loss → Pair → Bool
stays S (User user) session = not (same_name session.1 user.now)
stays S (Assignment user role) session = not (same_name session.1 user.now) || goes_on_without_role S role.now session
stays S (Role role) session = goes_on_without_role S role.now session
stays S (OrderPairs pairs) session = goes_on_without_pairs S (set_of pair_cmp pairs.now) session
