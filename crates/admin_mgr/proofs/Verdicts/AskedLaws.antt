-- The result of a command depends only on what it asks for.
use Rattle.std.proofs.Common.{◌≡◌, refl, ap, sym}
use Rattle.rbac_sets.specs.NameOrder.{name_total, name_exact}
use Rattle.rbac_sets.specs.CommandContent.{Single, content_of, without_room}
use Rattle.rbac_sets.specs.Sets.{Bytes, name_cmp}
use Rattle.rbac_sets.specs.SortedSet.{Stored, set_of}
use Rattle.rbac_sets.specs.declared.command.Command.{Command}
use Rattle.rbac_sets.specs.declared.command.Command.TheVariants.{CreateSsdSet, CreateDsdSet, CreateSession, ImportAssignments}
use Rattle.rbac_sets.proofs.SetLaws.{from_members}
use Rattle.admin_mgr.specs.RbacState.{RbacState}
use Rattle.admin_mgr.specs.After.{after, changed}
use Rattle.admin_mgr.specs.Verdict.{verdict, refusals}
use Rattle.admin_mgr.specs.Run.{tally}
use Rattle.admin_mgr.specs.CommandContent.{content_verdict, content_after, content_tally, DependsOnContent, CommandsDependOnContent}

-- a set without its room is the same set
same_roles : (roles : Stored Bytes) → set_of name_cmp (without_room (set_of name_cmp roles)) ≡ set_of name_cmp roles
same_roles roles = from_members name_total name_exact (set_of name_cmp roles)

-- a command that is what it asks for
itself : (S : RbacState) (command : Command) → content_of command ≡ Single command → DependsOnContent S command
unfolding content_verdict content_after content_tally
itself S command is = record {
  verdict_is = ap (content_verdict S) (sym is);
  after_is = ap (content_after S) (sym is);
  tally_is = ap (content_tally S) (sym is);
}

-- by cases of the command
pub commands_go_by_asked : CommandsDependOnContent
unfolding content_of content_verdict content_after content_tally verdict refusals after changed tally
commands_go_by_asked S (CreateSsdSet name roles cardinality) = record { verdict_is = rw (same_roles roles) refl; after_is = rw (same_roles roles) refl; tally_is = refl }
commands_go_by_asked S (CreateDsdSet name roles cardinality) = record { verdict_is = rw (same_roles roles) refl; after_is = rw (same_roles roles) refl; tally_is = refl }
commands_go_by_asked S (CreateSession user roles session) = record { verdict_is = rw (same_roles roles) refl; after_is = rw (same_roles roles) refl; tally_is = refl }
commands_go_by_asked S (ImportAssignments pairs) = record { verdict_is = refl; after_is = refl; tally_is = refl }
commands_go_by_asked S command = itself S command refl
