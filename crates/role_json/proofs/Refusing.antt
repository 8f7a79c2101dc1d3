-- How requests are refused.
use Rattle.std.proofs.Common.{◌≡◌, inl, inr, ℕ, List, Bool, true, false, Option, Some, None, Ok, Err, refl, ap, subst, ◌∙◌}
use Rattle.std.proofs.lemmas.Bool.{cases_Bool}
use Rattle.std.specs.Prelude.{Result, ◌||◌, codes, if◌then◌else◌, is_some}
use Rattle.std.specs.List.{list_all}
use Rattle.serde_json.specs.Data.{Data}
use Rattle.serde_json.specs.Find.{as_object}
use Rattle.rbac_sets.specs.CommandContent.{Import}
use Rattle.rbac_sets.specs.Name.{is_name}
use Rattle.rbac_sets.specs.Sets.{Bytes, Pair}
use Rattle.rbac_sets.specs.declared.refusal.Refusal.{Refusal}
use Rattle.rbac_sets.specs.declared.refusal.Refusal.TheVariants.{BadName, BadRequest, UnknownFunction}
use Rattle.role_csv.specs.Assignments.{assignments}
use Rattle.role_csv.specs.TextLaws.{refuses_texts}
use Rattle.role_csv.proofs.Refusing.{refusals_of_texts}
use Rattle.role_json.specs.Calls.{request_to}
use Rattle.role_json.specs.Fields.{access_at, activation_at, assignment_at, cardinality_at, grant_at, inheritance_at, set_cardinality_at, member_at, name, name_at, name_set, names_at, new_session_at, new_session_keys, owned_session_at, permission_at, roles_at, separation_at, separation_keys, text_at, three_texts_at, three_names_at, three_names}
use Rattle.role_functions.specs.Function.{function_named, takes_csv}
use Rattle.role_json.specs.Request.{an_object, body_request, body_to, json_body, json_of, request}
use Rattle.role_json.specs.RequestLaws.{refuses_arguments, refuses_bodies, refuses_requests, RefusalsOfBodies, RefusalsOfLines, RefusalsOfNamedBodies, CallsNothing, UnknownCallsNothing}
use Rattle.role_json.specs.RequestContent.{RequestContent, Change}
use Rattle.role_json.specs.Steps.{◌>>=◌, or_refuse}
use Rattle.role_functions.specs.declared.function.Function.{Function}
use Rattle.role_functions.specs.declared.function.Function.TheVariants.{AddUser, DeleteUser, AddRole, DeleteRole, AddPermObj, DeletePermObj, AddPermission, DeletePermission, GrantPermission, RevokePermission, AssignUser, DeassignUser, AddInheritance, DeleteInheritance, AddAscendant, AddDescendant, CreateSsdSet, AddSsdRoleMember, DeleteSsdRoleMember, SetSsdSetCardinality, DeleteSsdSet, CreateDsdSet, AddDsdRoleMember, DeleteDsdRoleMember, SetDsdSetCardinality, DeleteDsdSet, CreateSession, DeleteSession, AddActiveRole, DropActiveRole, LockUserAccount, UnlockUserAccount, ImportAssignments, CheckAccess, AssignedUsers, AssignedRoles, AuthorizedUsers, AuthorizedRoles, RolePermissions, UserPermissions, SessionRoles, SessionPermissions, RoleOperationsOnObject, UserOperationsOnObject, SsdRoleSets, SsdRoleSetRoles, SsdRoleSetCardinality, DsdRoleSets, DsdRoleSetRoles, DsdRoleSetCardinality, PermissionRoles}

-- ---- steps

-- a value, or a refusal of this kind
abbrev RefusesOnly : {A : Type 0} → (Refusal → Bool) → Result A Refusal → Type 0
RefusesOnly may (Ok value) = Unit {0}
RefusesOnly may (Err refusal) = may refusal ≡ true

-- a refusal that is returned is of this kind
refusal_allowed : {A : Type 0} (may : Refusal → Bool) (result : Result A Refusal) (refusal : Refusal) → RefusesOnly may result → result ≡ Err refusal → may refusal ≡ true
refusal_allowed may result refusal allowed is = subst (RefusesOnly may) is allowed

-- a wider kind
wider : {A : Type 0} (narrow wide : Refusal → Bool) (result : Result A Refusal) → ((refusal : Refusal) → narrow refusal ≡ true → wide refusal ≡ true) → RefusesOnly narrow result → RefusesOnly wide result
wider narrow wide (Ok value) all allowed = tt
wider narrow wide (Err refusal) all allowed = all refusal allowed

-- a text of assignments
csv_refusals : (text : Bytes) → RefusesOnly refuses_texts (assignments text)
csv_refusals text = by (assignments text) refl
  where
    by : (result : Result (List Pair) Refusal) → assignments text ≡ result → RefusesOnly refuses_texts result
    by (Ok pairs) is = tt
    by (Err refusal) is = refusals_of_texts text refusal is

module _ (may : Refusal → Bool) where
  -- one step after another
  next : {A B : Type 0} (first : Result A Refusal) (f : A → Result B Refusal) → RefusesOnly may first → ((a : A) → RefusesOnly may (f a)) → RefusesOnly may (first >>= f)
  next (Ok a) f allowed more = more a
  next (Err refusal) f allowed more = allowed

  -- a value computed from another
  then_made : {A B : Type 0} (first : Result A Refusal) (g : A → B) → RefusesOnly may first → RefusesOnly may (first >>= λ a. Ok (g a))
  then_made (Ok a) g allowed = tt
  then_made (Err refusal) g allowed = allowed

  -- a value that must not be `None`
  wanted : {A : Type 0} (refusal : Refusal) (found : Option A) → may refusal ≡ true → RefusesOnly may (or_refuse refusal found)
  wanted refusal (Some a) bad = tt
  wanted refusal None bad = bad

  -- a value that must pass a test
  unless : {A : Type 0} (b : Bool) (value : A) (refusal : Refusal) → may refusal ≡ true → RefusesOnly may (if b then Ok value else Err refusal)
  unless true value refusal bad = tt
  unless false value refusal bad = bad

  -- ---- a call's arguments

  module _ (bad_name : may BadName ≡ true) (bad_request : may BadRequest ≡ true) where
    text_refusals : (key : Bytes) (value : Data) → RefusesOnly may (text_at key value)
    unfolding text_at
    text_refusals key value = wanted BadRequest _ bad_request

    count_refusals : (value : Data) → RefusesOnly may (cardinality_at value)
    unfolding cardinality_at
    count_refusals value = wanted BadRequest _ bad_request

    roles_refusals : (value : Data) → RefusesOnly may (roles_at value)
    unfolding roles_at
    roles_refusals value = wanted BadRequest _ bad_request

    named_refusals : (text : Bytes) → RefusesOnly may (name text)
    unfolding name
    named_refusals text = unless (is_name text) text BadName bad_name

    set_refusals : (texts : List Bytes) → RefusesOnly may (name_set texts)
    unfolding name_set
    set_refusals texts = unless (list_all is_name texts) _ BadName bad_name

    name_refusals : (key : Bytes) (value : Data) → RefusesOnly may (name_at key value)
    unfolding name_at
    name_refusals key value = next _ _ (text_refusals key value) named_refusals

    names_refusals : (first second : Bytes) (value : Data) → RefusesOnly may (names_at first second value)
    unfolding names_at
    names_refusals first second value =
        next _ _ (text_refusals first value) (λ a. next _ _ (text_refusals second value) (λ b. next _ _ (named_refusals a) (λ x. next _ _ (named_refusals b) (λ y. tt))))

    three_texts_refusals : (first second third : Bytes) (value : Data) → RefusesOnly may (three_texts_at first second third value)
    unfolding three_texts_at
    three_texts_refusals first second third value =
        next _ _ (text_refusals first value) (λ a. next _ _ (text_refusals second value) (λ b. next _ _ (text_refusals third value) (λ c. tt)))

    three_names_refusals : (a b c : Bytes) → RefusesOnly may (three_names a b c)
    unfolding three_names
    three_names_refusals a b c = next _ _ (named_refusals a) (λ x. next _ _ (named_refusals b) (λ y. next _ _ (named_refusals c) (λ z. tt)))

    three_refusals : (first second third : Bytes) (value : Data) → RefusesOnly may (three_names_at first second third value)
    unfolding three_names_at
    three_refusals first second third value = next _ _ (three_texts_refusals first second third value) (λ texts. three_names_refusals texts.0 texts.1 texts.2)

    separation_refusals : (value : Data) → RefusesOnly may (separation_at value)
    unfolding separation_at separation_keys
    separation_refusals value =
        next _ _ (next _ _ (text_refusals _ value) (λ set. next _ _ (roles_refusals value) (λ roles. next _ _ (count_refusals value) (λ count. tt))))
        (λ keys. next _ _ (named_refusals keys.0) (λ set. next _ _ (set_refusals keys.1) (λ roles. tt)))

    set_cardinality_refusals : (value : Data) → RefusesOnly may (set_cardinality_at value)
    unfolding set_cardinality_at
    set_cardinality_refusals value = next _ _ (text_refusals _ value) (λ text. next _ _ (count_refusals value) (λ count. next _ _ (named_refusals text) (λ set. tt)))

    new_session_refusals : (value : Data) → RefusesOnly may (new_session_at value)
    unfolding new_session_at new_session_keys
    new_session_refusals value =
        next _ _ (next _ _ (text_refusals _ value) (λ user. next _ _ (roles_refusals value) (λ roles. next _ _ (text_refusals _ value) (λ session. tt))))
        (λ keys. next _ _ (named_refusals keys.0) (λ user. next _ _ (set_refusals keys.1) (λ roles. next _ _ (named_refusals keys.2) (λ session. tt))))

    -- ---- a call

    -- each function except the import
    call_refusals : (called : Function) (value : Data) → takes_csv called ≡ false → RefusesOnly may (request_to called value)
    unfolding request_to permission_at assignment_at inheritance_at member_at owned_session_at grant_at activation_at access_at
    call_refusals AddUser value plain = then_made _ _ (name_refusals _ value)
    call_refusals DeleteUser value plain = then_made _ _ (name_refusals _ value)
    call_refusals AddRole value plain = then_made _ _ (name_refusals _ value)
    call_refusals DeleteRole value plain = then_made _ _ (name_refusals _ value)
    call_refusals AddPermObj value plain = then_made _ _ (name_refusals _ value)
    call_refusals DeletePermObj value plain = then_made _ _ (name_refusals _ value)
    call_refusals AddPermission value plain = then_made _ _ (names_refusals _ _ value)
    call_refusals DeletePermission value plain = then_made _ _ (names_refusals _ _ value)
    call_refusals GrantPermission value plain = then_made _ _ (three_refusals _ _ _ value)
    call_refusals RevokePermission value plain = then_made _ _ (three_refusals _ _ _ value)
    call_refusals AssignUser value plain = then_made _ _ (names_refusals _ _ value)
    call_refusals DeassignUser value plain = then_made _ _ (names_refusals _ _ value)
    call_refusals AddInheritance value plain = then_made _ _ (names_refusals _ _ value)
    call_refusals DeleteInheritance value plain = then_made _ _ (names_refusals _ _ value)
    call_refusals AddAscendant value plain = then_made _ _ (names_refusals _ _ value)
    call_refusals AddDescendant value plain = then_made _ _ (names_refusals _ _ value)
    call_refusals CreateSsdSet value plain = then_made _ _ (separation_refusals value)
    call_refusals AddSsdRoleMember value plain = then_made _ _ (names_refusals _ _ value)
    call_refusals DeleteSsdRoleMember value plain = then_made _ _ (names_refusals _ _ value)
    call_refusals SetSsdSetCardinality value plain = then_made _ _ (set_cardinality_refusals value)
    call_refusals DeleteSsdSet value plain = then_made _ _ (name_refusals _ value)
    call_refusals CreateDsdSet value plain = then_made _ _ (separation_refusals value)
    call_refusals AddDsdRoleMember value plain = then_made _ _ (names_refusals _ _ value)
    call_refusals DeleteDsdRoleMember value plain = then_made _ _ (names_refusals _ _ value)
    call_refusals SetDsdSetCardinality value plain = then_made _ _ (set_cardinality_refusals value)
    call_refusals DeleteDsdSet value plain = then_made _ _ (name_refusals _ value)
    call_refusals CreateSession value plain = then_made _ _ (new_session_refusals value)
    call_refusals DeleteSession value plain = then_made _ _ (names_refusals _ _ value)
    call_refusals AddActiveRole value plain = then_made _ _ (three_refusals _ _ _ value)
    call_refusals DropActiveRole value plain = then_made _ _ (three_refusals _ _ _ value)
    call_refusals LockUserAccount value plain = then_made _ _ (name_refusals _ value)
    call_refusals UnlockUserAccount value plain = then_made _ _ (name_refusals _ value)
    call_refusals ImportAssignments value plain = absurd (cc)
    call_refusals CheckAccess value plain = then_made _ _ (three_refusals _ _ _ value)
    call_refusals AssignedUsers value plain = then_made _ _ (name_refusals _ value)
    call_refusals AssignedRoles value plain = then_made _ _ (name_refusals _ value)
    call_refusals AuthorizedUsers value plain = then_made _ _ (name_refusals _ value)
    call_refusals AuthorizedRoles value plain = then_made _ _ (name_refusals _ value)
    call_refusals RolePermissions value plain = then_made _ _ (name_refusals _ value)
    call_refusals UserPermissions value plain = then_made _ _ (name_refusals _ value)
    call_refusals SessionRoles value plain = then_made _ _ (name_refusals _ value)
    call_refusals SessionPermissions value plain = then_made _ _ (name_refusals _ value)
    call_refusals RoleOperationsOnObject value plain = then_made _ _ (names_refusals _ _ value)
    call_refusals UserOperationsOnObject value plain = then_made _ _ (names_refusals _ _ value)
    call_refusals SsdRoleSets value plain = tt
    call_refusals SsdRoleSetRoles value plain = then_made _ _ (name_refusals _ value)
    call_refusals SsdRoleSetCardinality value plain = then_made _ _ (name_refusals _ value)
    call_refusals DsdRoleSets value plain = tt
    call_refusals DsdRoleSetRoles value plain = then_made _ _ (name_refusals _ value)
    call_refusals DsdRoleSetCardinality value plain = then_made _ _ (name_refusals _ value)
    call_refusals PermissionRoles value plain = then_made _ _ (names_refusals _ _ value)

    -- an import, whose text may be refused
    import_refusals : (called : Function) (value : Data) → takes_csv called ≡ true → ((refusal : Refusal) → refuses_texts refusal ≡ true → may refusal ≡ true) → RefusesOnly may (request_to called value)
    unfolding request_to
    import_refusals ImportAssignments value csv texts =
        then_made _ _ (next _ _ (text_refusals _ value) (λ text. wider refuses_texts may (assignments text) texts (csv_refusals text)))
    import_refusals _ value csv texts = absurd (cc)

    -- every function
    each_refusals : (called : Function) (value : Data) → ((refusal : Refusal) → refuses_texts refusal ≡ true → may refusal ≡ true) → RefusesOnly may (request_to called value)
    each_refusals called value texts = elim (cases_Bool (takes_csv called)) [
      | inl csv ↦ import_refusals called value csv texts
      | inr plain ↦ call_refusals called value plain
    ]

-- ---- lines and bodies

-- whether a call may be refused by this, for its arguments or for a text
abbrev refuses_calls : Refusal → Bool
refuses_calls refusal = refuses_arguments refusal || refuses_texts refusal

text_of_call : (refusal : Refusal) → refuses_texts refusal ≡ true → refuses_calls refusal ≡ true
text_of_call BadRequest allowed = refl
text_of_call refusal allowed = allowed

call_of_request : (refusal : Refusal) → refuses_calls refusal ≡ true → refuses_requests refusal ≡ true
call_of_request UnknownFunction allowed = refl
call_of_request refusal allowed = allowed

argument_of_request : (refusal : Refusal) → refuses_arguments refusal ≡ true → refuses_requests refusal ≡ true
argument_of_request BadName allowed = refl
argument_of_request BadRequest allowed = refl
argument_of_request refusal allowed = absurd (cc)

json_refusals : (may : Refusal → Bool) (line : List ℕ) → may BadRequest ≡ true → RefusesOnly may (json_of line)
unfolding json_of
json_refusals may line bad = wanted may BadRequest _ bad

line_refusals : (line : List ℕ) → RefusesOnly refuses_requests (request line)
unfolding request
line_refusals line =
    next refuses_requests _ _ (json_refusals refuses_requests line refl) (λ value.
    next refuses_requests _ _ (text_refusals refuses_requests refl refl (codes "fn") value) (λ name.
    next refuses_requests _ _ (wanted refuses_requests UnknownFunction (function_named name) refl) (λ called.
    each_refusals refuses_requests refl refl called value (λ refusal allowed. call_of_request refusal (text_of_call refusal allowed)))))

body_refusals : (called : Function) (body : List ℕ) → RefusesOnly (refuses_bodies called) (body_to called body)
unfolding body_to
body_refusals called body = by (takes_csv called) refl
  where
    by : (b : Bool) → takes_csv called ≡ b → RefusesOnly (λ refusal. if b then refuses_texts refusal else refuses_arguments refusal)
        (if b then assignments body >>= (λ pairs. Ok (Change (Import pairs))) else json_of (json_body body) >>= (λ value. an_object value >>= request_to called))
    by true csv = next refuses_texts _ _ (csv_refusals body) (λ pairs. tt)
    by false plain =
        next refuses_arguments _ _ (json_refusals refuses_arguments (json_body body) refl) (λ value.
        next refuses_arguments _ _ (unless refuses_arguments (is_some (as_object value)) value BadRequest refl) (λ object. call_refusals refuses_arguments refl refl called object plain))

body_of_request : (called : Function) (refusal : Refusal) → refuses_bodies called refusal ≡ true → refuses_requests refusal ≡ true
body_of_request called refusal allowed = by (takes_csv called) allowed
  where
    by : (b : Bool) → (if b then refuses_texts refusal else refuses_arguments refusal) ≡ true → refuses_requests refusal ≡ true
    by true allowed = call_of_request refusal (text_of_call refusal allowed)
    by false allowed = argument_of_request refusal allowed

named_body_refusals : (function body : List ℕ) → RefusesOnly refuses_requests (body_request function body)
unfolding body_request
named_body_refusals function body =
    next refuses_requests _ _ (wanted refuses_requests UnknownFunction (function_named function) refl)
    (λ called. wider (refuses_bodies called) refuses_requests (body_to called body) (body_of_request called) (body_refusals called body))

-- ---- the laws

pub refusals_of_lines : RefusalsOfLines
refusals_of_lines line refusal is = refusal_allowed refuses_requests (request line) refusal (line_refusals line) is

pub refusals_of_named_bodies : RefusalsOfNamedBodies
refusals_of_named_bodies function body refusal is = refusal_allowed refuses_requests (body_request function body) refusal (named_body_refusals function body) is

pub refusals_of_bodies : RefusalsOfBodies
refusals_of_bodies called body refusal is = refusal_allowed (refuses_bodies called) (body_to called body) refusal (body_refusals called body) is

-- a refusal for arguments or a text is not `UnknownFunction`
known : {A : Type 0} (result : Result A Refusal) (refusal : Refusal) → RefusesOnly refuses_calls result → result ≡ Err refusal → refusal ≡ UnknownFunction → ⊥
known result refusal allowed is unknown = let no : refuses_calls UnknownFunction ≡ true = refusal_allowed refuses_calls result UnknownFunction allowed (is ∙ ap Err unknown) in absurd (cc no)

-- a call of the function, if there is one
abbrev calls : Data → Option Function → Result RequestContent Refusal
calls value found = or_refuse UnknownFunction found >>= λ called. request_to called value

module _ (line : List ℕ) where
  no_function : (value : Data) (name : List ℕ) (found : Option Function) → json_of line ≡ Ok value → text_at (codes "fn") value ≡ Ok name → function_named name ≡ found
      → calls value found ≡ Err UnknownFunction → CallsNothing line
  no_function value name None read fn none allowed = (value, name, read, fn, none)
  no_function value name (Some called) read fn found allowed =
      absurd (known (request_to called value) UnknownFunction (each_refusals refuses_calls refl refl called value text_of_call) allowed refl)

  no_name : (value : Data) (name : Result Bytes Refusal) → json_of line ≡ Ok value → text_at (codes "fn") value ≡ name
      → (name >>= λ text. calls value (function_named text)) ≡ Err UnknownFunction → CallsNothing line
  no_name value (Ok name) read fn allowed = no_function value name (function_named name) read fn refl allowed
  no_name value (Err refusal) read fn allowed = absurd (known (text_at (codes "fn") value) refusal (text_refusals refuses_calls refl refl (codes "fn") value) fn (cc allowed))

  no_value : (value : Result Data Refusal) → json_of line ≡ value
      → (value >>= λ value. text_at (codes "fn") value >>= λ text. calls value (function_named text)) ≡ Err UnknownFunction → CallsNothing line
  no_value (Ok value) read allowed = no_name value (text_at (codes "fn") value) read refl allowed
  no_value (Err refusal) read allowed = absurd (known (json_of line) refusal (json_refusals refuses_calls line refl) read (cc allowed))

pub unknown_calls_nothing : UnknownCallsNothing
unfolding request
unknown_calls_nothing line allowed = no_value line (json_of line) refl allowed
