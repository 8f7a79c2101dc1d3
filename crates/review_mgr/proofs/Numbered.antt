-- The counts of the report, by the numbers of the roles.
use Rattle.std.proofs.Common.{◌≡◌, ℕ, ◌+◌, Bool, false, cond, List, [], length, get_or, map, refl, sym, ◌∙◌, ap, subst, inl, inr}
use Rattle.std.specs.Prelude.{IsTrue, count_by}
use Rattle.std.specs.List.{list_any}
use Rattle.std.specs.FinMap as finmap
use Rattle.std.proofs.lemmas.Bool.{and_parts, and_from}
use Rattle.std.proofs.lemmas.List.{get_or-map}
use Rattle.std.proofs.lemmas.Option.{slice_get_within, get_or_from_slice_get}
use Rattle.rbac_sets.specs.Sets.{Bytes, Names, Pair, Pairs, Triple, Triples, name_cmp, pair_cmp, contains, insert, members, retain, image, seconds, count, len}
use Rattle.rbac_sets.specs.NameOrder.{name_total, name_exact, pair_total, pair_exact, triple_total, triple_exact}
use Rattle.rbac_sets.proofs.SetLaws.{contains-retain, same_members, seconds-Decides}
use Rattle.rbac_sets.proofs.Members.{count-len}
use Rattle.rbac_sets.proofs.Lists.{count_map}
use Rattle.role_order.specs.Order.{HasPair, Geq, IsClosure, geq, seniors, juniors}
use Rattle.role_order.specs.private.Runs.{run_of}
use Rattle.role_order.proofs.Leading.{first_step}
use Rattle.role_order.proofs.Deciding.{geq-Decides, at_or_above-are, juniors-same, not_own_senior}
use Rattle.role_order.proofs.Runs.{run-count}
use Rattle.order_matrix.specs.Table.{Table, count_above, number_in, table_of}
use Rattle.order_matrix.proofs.Roles.{number, placed}
use Rattle.review_mgr.specs.private.Numbering.{assigned_runs, granted_runs, grant_numbers}
use Rattle.review_mgr.proofs.Counts.{count-numbers, count-runs}

-- ---- the matrix and the numbers of roles

one_senior_more : (edges : Pairs) (role : Bytes) → len (insert (seniors edges role) role) ≡ len (seniors edges role) + 1
unfolding len insert contains
one_senior_more edges role = finmap.len-insert name_total (seniors edges role) role tt ∙ ap (λ b. cond b (len (seniors edges role)) (len (seniors edges role) + 1)) (not_own_senior edges role)

module _ (roles : Names) where
  -- the seniors of a role and the role itself, counted in the matrix
  pub count_above-seniors : (edges : Pairs) (table : Table) → table ≡ table_of edges (members roles) → ((a b : Bytes) → HasPair edges a b → IsTrue (contains roles a))
      → (role : Bytes) → IsTrue (contains roles role) → count_above table (number roles role) ≡ len (seniors edges role) + 1
  unfolding count
  count_above-seniors edges table is starts role here =
      let row : Bytes → List Bool = λ above. map (λ (below : Bytes). geq edges above below) (members roles) in
      let at : (above : Bytes) → get_or (row above) (number roles role) false ≡ geq edges above role = λ above.
      get_or-map (λ (below : Bytes). geq edges above below) (members roles) (number roles role) [] false (slice_get_within (members roles) (number roles role) role (placed roles role here))
      ∙ ap (geq edges above) (get_or_from_slice_get (members roles) (number roles role) role [] (placed roles role here)) in
      let test : Bytes → Bool = λ above. geq edges above role in
      let within : Names = insert (seniors edges role) role in
      let above_is : (p : Bytes) → Geq edges p role → IsTrue (contains roles p) = λ p leads. (elim (first_step (HasPair edges) leads) [
        | inl same ↦ subst (λ z. IsTrue (contains roles z)) (sym same) here
        | inr k ↦ starts p k.0 k.1
      ]) in
      ap (λ t. count_above t (number roles role)) is
      ∙ count_map row (λ entries. get_or entries (number roles role) false) (members roles)
      ∙ (λ i. count_by (λ above. at above i) (members roles))
      ∙ count-len name_total name_exact test roles
      ∙ ap len (same_members name_total name_exact (retain roles test) within (λ p. (
        λ h. (at_or_above-are edges role within refl p).1 ((geq-Decides edges p role).0 (and_parts _ _ (sym (contains-retain name_total name_exact roles test p) ∙ h)).1),
        λ h.
            let leads = (at_or_above-are edges role within refl p).0 h in
            contains-retain name_total name_exact roles test p ∙ and_from _ _ (above_is p leads) ((geq-Decides edges p role).1 leads),
      )))
      ∙ one_senior_more edges role

-- the juniors of a role, by the pairs of the closure that begin with it
pub length-juniors : (edges pairs : Pairs) → IsClosure edges pairs → (role : Bytes) → length (run_of pairs role) ≡ len (juniors edges role)
length-juniors edges pairs closed role =
    run-count pairs role ∙ ap len (juniors-same edges role (seconds pairs role) (λ q. (
      λ h. (closed role q).0 ((seconds-Decides pairs role q).0 h),
      λ h. (seconds-Decides pairs role q).1 ((closed role q).1 h),
    )))

-- ---- users, permissions and grants, by the numbers of their roles

-- the users with a role that passes are those with a number that passes
pub count-assigned_runs : (roles users : Names) (assignments : Pairs) → ((user role : Bytes) → IsTrue (contains assignments (user, role)) → IsTrue (contains users user) × IsTrue (contains roles role))
    → (passes : Bytes → Bool) (test : ℕ → Bool) → ((q : Bytes) → IsTrue (contains roles q) → test (number_in (members roles) q) ≡ passes q)
    → {C : Type 0} (numbers : C → List ℕ) (runs : List C) → map numbers runs ≡ assigned_runs roles users assignments
    → count_by (λ run. list_any test (numbers run)) runs ≡ len (image {Q = name_cmp} (λ (pair : Pair). pair.0) (retain assignments (λ (pair : Pair). passes pair.1)))
count-assigned_runs roles users assignments there passes test agree numbers runs are =
    sym (count_map numbers (list_any test) runs) ∙ ap (count_by (list_any test)) are
    ∙ count-runs pair_total pair_exact name_total name_exact assignments users (λ (pair : Pair). pair.0) (λ (pair : Pair). passes pair.1) (λ x member. (there x.0 x.1 member).0)
    (λ (pair : Pair). number_in (members roles) pair.1) test (λ x member. agree x.1 (there x.0 x.1 member).1)

-- and so the permissions
pub count-granted_runs : (roles : Names) (permissions : Pairs) (grants : Triples)
    → ((object operation role : Bytes) → IsTrue (contains grants (object, operation, role)) → IsTrue (contains permissions (object, operation)) × IsTrue (contains roles role))
    → (passes : Bytes → Bool) (test : ℕ → Bool) → ((q : Bytes) → IsTrue (contains roles q) → test (number_in (members roles) q) ≡ passes q)
    → {C : Type 0} (numbers : C → List ℕ) (runs : List C) → map numbers runs ≡ granted_runs roles permissions grants
    → count_by (λ run. list_any test (numbers run)) runs ≡ len (image {Q = pair_cmp} (λ (grant : Triple). (grant.0, grant.1)) (retain grants (λ (grant : Triple). passes grant.2)))
count-granted_runs roles permissions grants there passes test agree numbers runs are =
    sym (count_map numbers (list_any test) runs) ∙ ap (count_by (list_any test)) are
    ∙ count-runs triple_total triple_exact pair_total pair_exact grants permissions (λ (grant : Triple). (grant.0, grant.1)) (λ (grant : Triple). passes grant.2) (λ x member. (there x.0 x.1 x.2 member).0)
    (λ (grant : Triple). number_in (members roles) grant.2) test (λ x member. agree x.2 (there x.0 x.1 x.2 member).1)

-- the grants to a role that passes
pub count-granted : (roles : Names) (grants : Triples) → ((object operation role : Bytes) → IsTrue (contains grants (object, operation, role)) → IsTrue (contains roles role))
    → (passes : Bytes → Bool) (test : ℕ → Bool) → ((q : Bytes) → IsTrue (contains roles q) → test (number_in (members roles) q) ≡ passes q)
    → (numbers : List ℕ) → numbers ≡ grant_numbers roles grants → count_by test numbers ≡ count (λ (grant : Triple). passes grant.2) grants
count-granted roles grants there passes test agree numbers are =
    ap (count_by test) are
    ∙ count-numbers triple_total triple_exact grants (λ (grant : Triple). passes grant.2) (λ (grant : Triple). number_in (members roles) grant.2) test (λ x member. agree x.2 (there x.0 x.1 x.2 member))
