-- The empty state of either version is good, and has no row.
use Rattle.std.proofs.Common.{◌≡◌, ℕ, ◌≤◌, List, [], length, map, refl, sym, ◌∙◌, ap, arith}
use Rattle.std.specs.Prelude.{IsTrue}
use Rattle.std.specs.declared.cmp.Ordering.{Ordering}
use Rattle.std.specs.FinMap as finmap
use Rattle.std.specs.List.{filter}
use Rattle.std.proofs.lemmas.Bool.{true≢false}
use Rattle.rbac_sets.specs.Sets.{Bytes, Pair, Names, name_cmp, pair_cmp, triple_cmp, cardinality_cmp, same_name, empty, contains, len, seconds, from_list}
use Rattle.rbac_sets.proofs.SetLaws.{contains-empty, members-empty}
use Rattle.rbac_sets.proofs.Members.{len-members}
use Rattle.role_order.proofs.Closing.{IsAcyclic-none, IsClosure-none}
use Rattle.role_order.proofs.Runs.{members_seconds}
use Rattle.admin_mgr.specs.RbacState.{no_separation}
use Rattle.admin_mgr.specs.StoredSets.{gathered}
use Rattle.admin_mgr.specs.Good.{IsSeparation}
use Rattle.admin_mgr.specs.StateLaws.{EmptyIsGood, EmptyHasNoRow}
use Rattle.admin_mgr.proofs.StoredRows.StoredLaws.{rows_are_among}

-- an empty set has no member
not_there : {K : Type 0} (R : K → K → Ordering) (x : K) {A : Type 0} → IsTrue (contains (empty {R = R}) x) → A
not_there R x h = absurd (true≢false (sym h ∙ contains-empty R x))

none : {K : Type 0} (R : K → K → Ordering) (n : ℕ) → len (empty {R = R}) ≤ n
unfolding len empty
none R n = let e : finmap.len (finmap.empty {X = Unit {0}} {R = R}) ≡ 0 = finmap.len-empty R (Unit {0}) in omega (arith, e)

none_behind : (first : Bytes) (n : ℕ) → len (seconds empty first) ≤ n
none_behind first n =
    let e : len (seconds empty first) ≡ 0 = len-members (seconds empty first)
    ∙ ap length (members_seconds empty first ∙ ap (λ (xs : List Pair). map (λ (q : Pair). q.1) (filter (λ (p : Pair). same_name p.0 first) xs)) (members-empty pair_cmp)) in
    omega (arith, e)

no_sets : (roles : Names) → IsSeparation roles no_separation
no_sets roles = record {
  members = λ name role h. not_there pair_cmp (name, role) h;
  cardinality = λ name n h. not_there cardinality_cmp (name, n) h;
  one_cardinality = λ name n other h _. not_there cardinality_cmp (name, n) h;
}

pub empty_is_good : EmptyIsGood
empty_is_good version known = record {
  well_formed = record {
    permissions = λ object operation h. not_there pair_cmp (object, operation) h;
    assignments = λ user role h. not_there pair_cmp (user, role) h;
    grants = λ object operation role h. not_there triple_cmp (object, operation, role) h;
    edges = λ asc desc h. not_there pair_cmp (asc, desc) h;
    sessions = λ session user h. not_there pair_cmp (session, user) h;
    one_owner = λ session user other h _. not_there pair_cmp (session, user) h;
    active = λ session role h. not_there pair_cmp (session, role) h;
    owned = λ session role h. not_there pair_cmp (session, role) h;
    locked = λ user h. not_there name_cmp user h;
    ssd = no_sets empty;
    dsd = no_sets empty;
  };
  acyclic = IsAcyclic-none;
  static_separation = λ name user n h. not_there cardinality_cmp (name, n) h;
  dynamic_separation = λ name session user n h _. not_there cardinality_cmp (name, n) h;
  authorized = λ session user role h _. not_there pair_cmp (session, user) h;
  unlocked = λ session user h. not_there pair_cmp (session, user) h;
  limits = search (none, none_behind);
  version = known;
  no_locks = λ _. refl;
}

-- its rows are those of an empty list
pub empty_has_no_row : EmptyHasNoRow
unfolding gathered from_list
empty_has_no_row version row = rows_are_among version [] refl IsClosure-none row
