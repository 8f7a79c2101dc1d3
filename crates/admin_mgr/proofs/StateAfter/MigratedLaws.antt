-- A good state of version 1 that is migrated to version 2 is good, and its names stay valid.
use Rattle.std.proofs.Common.{◌≡◌, ◌≤◌, ℕ, false, refl, sym, ◌∙◌, subst, inr, arith}
use Rattle.std.specs.Prelude.{IsTrue, ◌⊎◌}
use Rattle.rbac_sets.specs.Sets.{Bytes, name_cmp, contains, empty, len}
use Rattle.rbac_sets.specs.Kind.{limit_of}
use Rattle.rbac_sets.specs.declared.kind.Kind.TheVariants.{User, Role, Edge}
use Rattle.rbac_sets.specs.declared.row.Row.TheVariants.{NameRow, PairRow, GrantRow, SetRow, LockedRow}
use Rattle.rbac_sets.proofs.SetLaws.{contains-empty}
use Rattle.std.proofs.lemmas.Bool.{true≢false}
use Rattle.admin_mgr.specs.RbacState.{RbacState}
use Rattle.admin_mgr.specs.Authorization.{authorized_users}
use Rattle.admin_mgr.specs.Rows.{has_row}
use Rattle.admin_mgr.specs.StateNames.{AreNamed}
use Rattle.admin_mgr.specs.OfficeRun.{migrated_to_version_2}
use Rattle.admin_mgr.specs.StateLaws.{MigratedIsGood}

-- each limit of version 2 is no lower, and nobody is locked
pub migrated_good : MigratedIsGood
unfolding authorized_users
migrated_good S good first =
    let limits = good.limits in
    let users : len S.users ≤ limit_of User 2 = (let h : len S.users ≤ 5000 = subst (λ (v : ℕ). len S.users ≤ limit_of User v) first limits.users in omega (arith, h)) in
    let roles : len S.roles ≤ limit_of Role 2 = (let h : len S.roles ≤ 256 = subst (λ (v : ℕ). len S.roles ≤ limit_of Role v) first limits.roles in omega (arith, h)) in
    let edges : len S.edges ≤ limit_of Edge 2 = (let h : len S.edges ≤ 1024 = subst (λ (v : ℕ). len S.edges ≤ limit_of Edge v) first limits.edges in omega (arith, h)) in
    let none = λ (user : Bytes). contains-empty name_cmp user in
    let locked : (user : Bytes) → IsTrue (contains (empty {R = name_cmp}) user) → IsTrue (contains S.users user) = λ user h. absurd (true≢false (sym h ∙ none user)) in
    let unlocked : (session user : Bytes) → IsTrue (contains S.sessions (session, user)) → contains (empty {R = name_cmp}) user ≡ false = λ session user h. none user in
    let version : ((migrated_to_version_2 S).version ≡ 1) ⊎ ((migrated_to_version_2 S).version ≡ 2) = inr refl in
    let no_locks : (migrated_to_version_2 S).version ≡ 1 → (migrated_to_version_2 S).locked ≡ empty = λ h. refl in
    assumption

-- its rows are those of the state, without the locks
pub migrated_named : (S : RbacState) → AreNamed S → AreNamed (migrated_to_version_2 S)
unfolding has_row
migrated_named S named (NameRow k a) there = named (NameRow k a) there
migrated_named S named (PairRow k a b) there = named (PairRow k a b) there
migrated_named S named (GrantRow a b c) there = named (GrantRow a b c) there
migrated_named S named (SetRow k a n) there = named (SetRow k a n) there
migrated_named S named (LockedRow a) there = absurd (true≢false (sym there ∙ contains-empty name_cmp a))
