-- The names and the values of the limits.
use Rattle.std.specs.Prelude.{ℕ, List, codes, ◌==◌, if◌then◌else◌}
use Rattle.rbac_sets.specs.declared.kind.Kind.{Kind}
use Rattle.rbac_sets.specs.declared.kind.Kind.TheVariants.{User, Role, Object, Permission, Grant, Assignment, Edge, SsdSet, DsdSet, Member, Session, ActiveRole, Record, Byte}

-- the name of what a limit counts
abbrev pub word_of : Kind → List ℕ
word_of User = codes "user"
word_of Role = codes "role"
word_of Object = codes "object"
word_of Permission = codes "permission"
word_of Grant = codes "grant"
word_of Assignment = codes "assignment"
word_of Edge = codes "edge"
word_of SsdSet = codes "ssdSet"
word_of DsdSet = codes "dsdSet"
word_of Member = codes "member"
word_of Session = codes "session"
word_of ActiveRole = codes "activeRole"
word_of Record = codes "record"
word_of Byte = codes "byte"

-- how many of a kind there may be, in an office of version 1 or 2
abbrev pub limit_of : Kind → ℕ → ℕ
limit_of User version = if version == 1 then 5000 else 20000
limit_of Role version = if version == 1 then 256 else 1024
limit_of Object version = 2000
limit_of Permission version = 5000
limit_of Grant version = 20000
limit_of Assignment version = 20000
limit_of Edge version = if version == 1 then 1024 else 4096
limit_of SsdSet version = 64
limit_of DsdSet version = 64
limit_of Member version = 32
limit_of Session version = 1000
limit_of ActiveRole version = 32
limit_of Record version = 10000
limit_of Byte version = 2097152
