-- The laws of admin_mgr, of commands and states, on which the laws of runs depend.
use Rattle.admin_mgr.specs.Laws.{AcceptedIsGood}
use Rattle.admin_mgr.specs.CommandLaws.{AssignedByCommand, GrantedByCommand, VersionStays}
use Rattle.admin_mgr.specs.StateLaws.{EmptyIsGood, MigratedIsGood}

-- the laws for a good state and its version
pub record GoodnessLaws : Type 0 where
  pub accepted : AcceptedIsGood
  pub empty : EmptyIsGood
  pub migrated : MigratedIsGood
  pub version : VersionStays

-- the further laws for what was removed
pub record EffectLaws : Type 0 where
  pub assigned : AssignedByCommand
  pub granted : GrantedByCommand
