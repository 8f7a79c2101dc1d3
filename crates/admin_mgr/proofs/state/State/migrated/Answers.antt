use Rattle.std.proofs.Common.{◌≡◌, sym, ◌∙◌, ap, subst}
use Rattle.rbac_sets.specs.Sets.{Names}
use Rattle.admin_mgr.specs.RbacState.{RbacState}
use Rattle.admin_mgr.specs.StateWithRoom.{StateWithRoom}
use Rattle.admin_mgr.specs.Good.{IsGood}
use Rattle.admin_mgr.specs.StateNames.{AreNamed}
use Rattle.admin_mgr.specs.OfficeRun.{migrated_to_version_2}
use Rattle.admin_mgr.proofs.StateAfter.MigratedLaws.{migrated_good, migrated_named}
use Rattle.admin_mgr.proofs.state.State.migrated.Goals as goal

-- nobody is locked in version 1, so the same state in version 2 is the migrated one
taken : (S T : RbacState) → IsGood S → S.version ≡ 1 → T ≡ record S { version = 2 } → T ≡ migrated_to_version_2 S
taken S T good first is = is ∙ ap (λ (locked : Names). record S { version = 2; locked = locked }) (good.no_locks first)

pub returns : goal.returns
returns c =
    let kept = subst (λ (k : StateWithRoom). IsGood k.facts × AreNamed k.facts) c.self.view_is c.self.invariant in
    taken c.args.self.facts _ kept.0 c.requires (c.into_version_2-relations.ensures ∙ ap (λ (k : StateWithRoom). record k.facts { version = 2 }) c.self.view_is)

pub invariant_of-result : goal.invariant_of-result
invariant_of-result c =
    let kept = subst (λ (k : StateWithRoom). IsGood k.facts × AreNamed k.facts) c.self.view_is c.self.invariant in
    subst (λ S. IsGood S × AreNamed S) (sym (taken c.args.self.facts _ kept.0 c.requires (c.into_version_2-relations.ensures ∙ ap (λ (k : StateWithRoom). record k.facts { version = 2 }) c.self.view_is)))
    (migrated_good c.args.self.facts kept.0 c.requires, migrated_named c.args.self.facts kept.1)
