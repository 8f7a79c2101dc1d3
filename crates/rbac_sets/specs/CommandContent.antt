-- What a command asks for, regardless of the memory in which its sets and its list are kept.
use Rattle.std.specs.Prelude.{List}
use Rattle.rbac_sets.specs.Sets.{Bytes, Names, Pair, name_cmp, members}
use Rattle.rbac_sets.specs.SortedSet.{Stored, set_of}
use Rattle.rbac_sets.specs.declared.command.Command.{Command}
use Rattle.rbac_sets.specs.declared.command.Command.TheVariants.{CreateSsdSet, CreateDsdSet, CreateSession, ImportAssignments}

-- a command whose set of roles, if it has one, has no room for more; or an import of these assignments
pub data CommandContent : Type 0 where
  Single : Command → CommandContent
  Import : List Pair → CommandContent

-- a set of names as a command has it, with no room for more
abbrev pub without_room : Names → Stored Bytes
without_room names = record { in_order = members names; room = 0 }

-- what a command asks for
unfoldable pub content_of : Command → CommandContent
content_of (CreateSsdSet set roles cardinality) = Single (CreateSsdSet set (without_room (set_of name_cmp roles)) cardinality)
content_of (CreateDsdSet set roles cardinality) = Single (CreateDsdSet set (without_room (set_of name_cmp roles)) cardinality)
content_of (CreateSession user roles session) = Single (CreateSession user (without_room (set_of name_cmp roles)) session)
content_of (ImportAssignments pairs) = Import pairs.items
content_of command = Single command
