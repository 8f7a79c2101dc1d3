-- Commands that create a session are the same for each stored set of its roles.
use Rattle.std.proofs.Common.{◌≡◌, ◌<◌, ◌||◌, ◌∙◌, Ok, Err, List, [], ◌∷◌, false, length, length-append, refl, ap, arith}
use Rattle.std.specs.List.{flat_map, list_any}
use Rattle.std.specs.Prelude.{IfOk, None, Result}
use Rattle.std.proofs.lemmas.Bool.{false_from_ne_true}
use Rattle.rbac_sets.specs.NameOrder.{name_total, name_exact}
use Rattle.rbac_sets.specs.Sets.{Bytes, Names, Pair, any, from_list, insert, members, name_cmp, same_name, union}
use Rattle.rbac_sets.proofs.SetLaws.{tie_Decides}
use Rattle.rbac_sets.specs.SortedSet.{Stored, set_of}
use Rattle.rbac_sets.specs.declared.command.Command.TheVariants.{CreateSession}
use Rattle.admin_mgr.specs.After.{after, changed, paired}
use Rattle.admin_mgr.specs.Assignment.{end_sessions}
use Rattle.admin_mgr.specs.RbacState.{RbacState, has_session}
use Rattle.explanations.specs.Conflicts.{creation_refused, violated_members}
use Rattle.rbac_c.specs.Conflicts.{ViolatesByCreation, new_name, stored}

same_session_after : (S : RbacState) (user session : Bytes) (roles others : Stored Bytes) → set_of name_cmp roles ≡ set_of name_cmp others
    → after S (CreateSession user roles session) ≡ after S (CreateSession user others session)
unfolding after changed
same_session_after S user session roles others same =
    ap (λ (names : Names). end_sessions (record S { sessions = insert S.sessions (session, user); active = union S.active (paired session names) })) same

-- a name that is longer than all in a list together is none of them
none_as_long : (pairs : List Pair) (name : Bytes) → length (flat_map (λ (pair : Pair). pair.0) pairs) < length name → list_any (λ (pair : Pair). same_name pair.0 name) pairs ≡ false
none_as_long [] name longer = refl
none_as_long (pair ∷ pairs) name longer =
    let size = length-append pair.0 (flat_map (λ (pair : Pair). pair.0) pairs) in
    let differs = false_from_ne_true (same_name pair.0 name) (λ is. let same = ap length ((tie_Decides name_total name_exact pair.0 name).0 is) in absurd (omega (arith, longer, size, same))) in
    let behind = none_as_long pairs name (omega (arith, longer, size)) in
    λ i. differs i || behind i

name_is_new : (S : RbacState) → has_session S (new_name S) ≡ false
unfolding any
name_is_new S = none_as_long (members S.sessions) (new_name S) (omega arith)

-- what is known of a user and a stored set of roles holds of the texts of their names
pub creation_violates : {X E : Type 0} (items : X → List Pair) (S : RbacState) (user given : Bytes) (texts : List Bytes) (roles : Stored Bytes) (result : Result X E)
    → user ≡ given → set_of name_cmp roles ≡ from_list texts
    → IfOk result (λ pairs. creation_refused S user (set_of name_cmp roles) ≡ None)
    → IfOk result (λ pairs. (session : Bytes) → has_session S session ≡ false → items pairs ≡ violated_members (after S (CreateSession user roles session)) session)
    → IfOk result (λ pairs. ViolatesByCreation S given texts (items pairs))
creation_violates items S user given texts roles (Ok pairs) same are unrefused value =
    rw (← same) (record {
      unrefused = rw (← are) unrefused;
      is_new = name_is_new S;
      pairs_are = λ session free. value session free ∙ ap (λ T. violated_members T session) (same_session_after S user session roles (stored texts) are);
    })
creation_violates items S user given texts roles (Err refusal) same are unrefused value = unrefused
