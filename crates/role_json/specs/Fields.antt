-- The arguments at the keys of a call: texts, whole numbers, names and sets of names.
use Rattle.std.specs.Prelude.{ℕ, List, [], ◌∷◌, ◌^◌, nat_lt, codes, Option, Some, None, option_and_then, option_map, Result, Ok, Err, if◌then◌else◌}
use Rattle.std.specs.List.{list_all}
use Rattle.serde_json.specs.Data.{Data, Items, no_items, item}
use Rattle.serde_json.specs.Find.{get, as_str, as_array, as_number, as_u64}
use Rattle.rbac_sets.specs.Name.{is_name}
use Rattle.rbac_sets.specs.Sets.{Bytes, Names, from_list}
use Rattle.rbac_sets.specs.declared.refusal.Refusal.{Refusal}
use Rattle.rbac_sets.specs.declared.refusal.Refusal.TheVariants.{BadName, BadRequest}
use Rattle.role_json.specs.Steps.{◌>>=◌, or_refuse}

-- the text at a key of an object. Nothing else has keys
unfoldable pub text_at : Bytes → Data → Result Bytes Refusal
text_at key value = or_refuse BadRequest (option_and_then as_str (get key value))

-- a number that fits a `u32`
abbrev pub fits_u32 : ℕ → Option ℕ
fits_u32 n = if nat_lt n (2 ^ 32) then Some n else None

-- the cardinality of a separation of duty set: a whole number that fits a `u32`, written with digits only
unfoldable pub cardinality_at : Data → Result ℕ Refusal
cardinality_at value = or_refuse BadRequest (option_and_then fits_u32 (option_and_then as_u64 (option_and_then as_number (get (codes "cardinality") value))))

-- the texts of a list of texts
abbrev pub texts_in : Items → Option (List Bytes)
texts_in no_items = Some []
texts_in (item value values) = option_and_then (λ text. option_map (λ texts. text ∷ texts) (texts_in values)) (as_str value)

-- the texts of the list of roles
unfoldable pub roles_at : Data → Result (List Bytes) Refusal
roles_at value = or_refuse BadRequest (option_and_then texts_in (option_and_then as_array (get (codes "roles") value)))

-- the text as a name
unfoldable pub name : Bytes → Result Bytes Refusal
name text = if is_name text then Ok text else Err BadName

-- the texts as a set of names. A text that occurs more than once counts once
unfoldable pub name_set : List Bytes → Result Names Refusal
name_set texts = if list_all is_name texts then Ok (from_list texts) else Err BadName

-- the name at a key
unfoldable pub name_at : Bytes → Data → Result Bytes Refusal
name_at key value = text_at key value >>= name

-- the names at two keys. Both keys are read before a text is checked to be a name
unfoldable pub names_at : Bytes → Bytes → Data → Result (Bytes × Bytes) Refusal
names_at first second value = do
  a ← text_at first value
  b ← text_at second value
  x ← name a
  y ← name b
  Ok (x, y)

-- the texts at three keys
unfoldable pub three_texts_at : Bytes → Bytes → Bytes → Data → Result (Bytes × Bytes × Bytes) Refusal
three_texts_at first second third value = do
  a ← text_at first value
  b ← text_at second value
  c ← text_at third value
  Ok (a, b, c)

-- the names of three texts
unfoldable pub three_names : Bytes → Bytes → Bytes → Result (Bytes × Bytes × Bytes) Refusal
three_names a b c = do
  x ← name a
  y ← name b
  z ← name c
  Ok (x, y, z)

-- the names at three keys
unfoldable pub three_names_at : Bytes → Bytes → Bytes → Data → Result (Bytes × Bytes × Bytes) Refusal
three_names_at first second third value = three_texts_at first second third value >>= λ texts. three_names texts.0 texts.1 texts.2

-- a permission: its object and its operation
unfoldable pub permission_at : Data → Result (Bytes × Bytes) Refusal
permission_at value = names_at (codes "object") (codes "operation") value

-- an assignment: its user and its role
unfoldable pub assignment_at : Data → Result (Bytes × Bytes) Refusal
assignment_at value = names_at (codes "user") (codes "role") value

-- an inheritance: the ascendant and the descendant
unfoldable pub inheritance_at : Data → Result (Bytes × Bytes) Refusal
inheritance_at value = names_at (codes "asc") (codes "desc") value

-- a member of a separation of duty set: the set and the role
unfoldable pub member_at : Data → Result (Bytes × Bytes) Refusal
member_at value = names_at (codes "set") (codes "role") value

-- a session: the user that owns it, and its name
unfoldable pub owned_session_at : Data → Result (Bytes × Bytes) Refusal
owned_session_at value = names_at (codes "user") (codes "session") value

-- a grant: the object and the operation of the permission, and the role
unfoldable pub grant_at : Data → Result (Bytes × Bytes × Bytes) Refusal
grant_at value = three_names_at (codes "object") (codes "operation") (codes "role") value

-- a role in a session: the user that owns the session, the session and the role
unfoldable pub activation_at : Data → Result (Bytes × Bytes × Bytes) Refusal
activation_at value = three_names_at (codes "user") (codes "session") (codes "role") value

-- an access check: the session, the operation and the object
unfoldable pub access_at : Data → Result (Bytes × Bytes × Bytes) Refusal
access_at value = three_names_at (codes "session") (codes "operation") (codes "object") value

-- the arguments of a new separation of duty set, with its name and its roles still as texts
unfoldable pub separation_keys : Data → Result (Bytes × List Bytes × ℕ) Refusal
separation_keys value = do
  set ← text_at (codes "set") value
  roles ← roles_at value
  cardinality ← cardinality_at value
  Ok (set, roles, cardinality)

-- a new separation of duty set: its name, its roles and its cardinality. All keys are read before a text is checked to be a name
unfoldable pub separation_at : Data → Result (Bytes × Names × ℕ) Refusal
separation_at value = do
  keys ← separation_keys value
  set ← name keys.0
  roles ← name_set keys.1
  Ok (set, roles, keys.2)

-- a separation of duty set and its new cardinality
unfoldable pub set_cardinality_at : Data → Result (Bytes × ℕ) Refusal
set_cardinality_at value = do
  text ← text_at (codes "set") value
  cardinality ← cardinality_at value
  set ← name text
  Ok (set, cardinality)

-- the arguments of a new session, with all names still as texts
unfoldable pub new_session_keys : Data → Result (Bytes × List Bytes × Bytes) Refusal
new_session_keys value = do
  user ← text_at (codes "user") value
  roles ← roles_at value
  session ← text_at (codes "session") value
  Ok (user, roles, session)

-- a new session: its user, its roles and its name
unfoldable pub new_session_at : Data → Result (Bytes × Names × Bytes) Refusal
new_session_at value = do
  keys ← new_session_keys value
  user ← name keys.0
  roles ← name_set keys.1
  session ← name keys.2
  Ok (user, roles, session)
