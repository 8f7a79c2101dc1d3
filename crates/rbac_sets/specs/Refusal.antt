-- The codes and the names of refusals.
use Rattle.std.specs.Prelude.{ℕ, Bool, true, false, List, codes}
use Rattle.rbac_sets.specs.declared.refusal.Refusal.{Refusal}
use Rattle.rbac_sets.specs.declared.refusal.Refusal.TheVariants.{BadName, NoUser, UserExists, NoRole, RoleExists, NoObject, ObjectExists, NoPermission, PermissionExists, AlreadyAssigned, NotAssigned, AlreadyGranted, NotGranted, EdgeExists, NoEdge, Cycle, RoleInUse, ObjectInUse, SetExists, NoSet, MemberExists, NoMember, BadCardinality, StaticSeparation, DynamicSeparation, NoSession, SessionExists, NotOwner, NotAuthorized, AlreadyActive, NotActive, TooMany, NoOperation, BadRequest, UnknownFunction, BadCsv, UserLocked, Memory, Store, Closed, NotAnOffice, Version, Damaged}

-- the code of a refusal
abbrev pub code_of : Refusal → ℕ
code_of BadName = 1
code_of NoUser = 2
code_of UserExists = 3
code_of NoRole = 4
code_of RoleExists = 5
code_of NoObject = 6
code_of ObjectExists = 7
code_of NoPermission = 8
code_of PermissionExists = 9
code_of AlreadyAssigned = 10
code_of NotAssigned = 11
code_of AlreadyGranted = 12
code_of NotGranted = 13
code_of EdgeExists = 14
code_of NoEdge = 15
code_of Cycle = 16
code_of RoleInUse = 17
code_of ObjectInUse = 18
code_of SetExists = 19
code_of NoSet = 20
code_of MemberExists = 21
code_of NoMember = 22
code_of BadCardinality = 23
code_of (StaticSeparation _) = 24
code_of (DynamicSeparation _) = 25
code_of NoSession = 26
code_of SessionExists = 27
code_of NotOwner = 28
code_of NotAuthorized = 29
code_of AlreadyActive = 30
code_of NotActive = 31
code_of (TooMany _) = 32
code_of NoOperation = 33
code_of BadRequest = 34
code_of UnknownFunction = 35
code_of (BadCsv _) = 36
code_of UserLocked = 37
code_of Memory = 40
code_of Store = 41
code_of Closed = 42
code_of NotAnOffice = 50
code_of (Version _) = 51
code_of (Damaged _) = 52

-- an allocation failed
abbrev pub is_memory : Refusal → Bool
is_memory Memory = true
is_memory _ = false

-- the name of a refusal
abbrev pub name_of : Refusal → List ℕ
name_of BadName = codes "BadName"
name_of NoUser = codes "NoUser"
name_of UserExists = codes "UserExists"
name_of NoRole = codes "NoRole"
name_of RoleExists = codes "RoleExists"
name_of NoObject = codes "NoObject"
name_of ObjectExists = codes "ObjectExists"
name_of NoPermission = codes "NoPermission"
name_of PermissionExists = codes "PermissionExists"
name_of AlreadyAssigned = codes "AlreadyAssigned"
name_of NotAssigned = codes "NotAssigned"
name_of AlreadyGranted = codes "AlreadyGranted"
name_of NotGranted = codes "NotGranted"
name_of EdgeExists = codes "EdgeExists"
name_of NoEdge = codes "NoEdge"
name_of Cycle = codes "Cycle"
name_of RoleInUse = codes "RoleInUse"
name_of ObjectInUse = codes "ObjectInUse"
name_of SetExists = codes "SetExists"
name_of NoSet = codes "NoSet"
name_of MemberExists = codes "MemberExists"
name_of NoMember = codes "NoMember"
name_of BadCardinality = codes "BadCardinality"
name_of (StaticSeparation _) = codes "StaticSeparation"
name_of (DynamicSeparation _) = codes "DynamicSeparation"
name_of NoSession = codes "NoSession"
name_of SessionExists = codes "SessionExists"
name_of NotOwner = codes "NotOwner"
name_of NotAuthorized = codes "NotAuthorized"
name_of AlreadyActive = codes "AlreadyActive"
name_of NotActive = codes "NotActive"
name_of (TooMany _) = codes "TooMany"
name_of NoOperation = codes "NoOperation"
name_of BadRequest = codes "BadRequest"
name_of UnknownFunction = codes "UnknownFunction"
name_of (BadCsv _) = codes "BadCsv"
name_of UserLocked = codes "UserLocked"
name_of Memory = codes "Memory"
name_of Store = codes "Store"
name_of Closed = codes "Closed"
name_of NotAnOffice = codes "NotAnOffice"
name_of (Version _) = codes "Version"
name_of (Damaged _) = codes "Damaged"
