-- The sets and relations of role-based access control: those of core RBAC, of the role hierarchy and of both kinds of
-- separation of duty.
use Rattle.std.specs.Prelude.{refl, ℕ, Bool, nat_lt, true, Option, Some, None, find}
use Rattle.std.specs.Option.{option_map}
use Rattle.std.specs.Coded.{Coded, coded_ℕ, coded×, code_by}
use Rattle.rbac_sets.specs.Sets as set
use Rattle.rbac_sets.specs.Sets.{Bytes, Names, Pairs, Triples, Cardinality, Cardinalities, any, members, seconds, same_name, coded_name, coded_pair, coded_triple, coded_cardinality}

-- The separation of duty sets of one kind, static or dynamic: the pairs (set, role), and the pairs (set, cardinality).
-- No user may be authorized for n roles of a static set of cardinality n, and no session may have n roles of a dynamic one.
pub record Separation : Type 0 where
  pub members : Pairs
  pub cardinalities : Cardinalities

-- USERS, ROLES, OBS, the permissions with PRMS and OPS, UA, PA, the immediate inheritances, SESSIONS, and SSD and DSD
pub record RbacState : Type 0 where
  -- 1 or 2; users can be locked in version 2 only
  pub version : ℕ
  -- USERS
  pub users : Names
  -- the locked users, who may have no session
  pub locked : Names
  -- ROLES
  pub roles : Names
  -- OBS
  pub objects : Names
  -- PRMS: (object, operation); OPS are the operations of these pairs
  pub permissions : Pairs
  -- UA: (user, role)
  pub assignments : Pairs
  -- PA: (object, operation, role)
  pub grants : Triples
  -- immediate inheritances: (ascendant, descendant)
  pub edges : Pairs
  -- SESSIONS, each with its user: (session, user)
  pub sessions : Pairs
  -- the activated roles: (session, role)
  pub active : Pairs
  -- SSD
  pub ssd : Separation
  -- DSD
  pub dsd : Separation

abbrev pub no_separation : Separation
no_separation = record { members = set.empty; cardinalities = set.empty }

-- the state of a new office of this version: all its sets are empty
abbrev pub empty_state : ℕ → RbacState
empty_state version = record {
  version = version;
  users = set.empty;
  locked = set.empty;
  roles = set.empty;
  objects = set.empty;
  permissions = set.empty;
  assignments = set.empty;
  grants = set.empty;
  edges = set.empty;
  sessions = set.empty;
  active = set.empty;
  ssd = no_separation;
  dsd = no_separation;
}

-- SsdRoleSetRoles, DsdRoleSetRoles: the roles of a separation of duty set
abbrev pub members_of : Separation → Bytes → Names
members_of separation name = seconds separation.members name

-- whether there is a set of this name
abbrev pub has_set : Separation → Bytes → Bool
has_set separation name = any (λ entry. same_name entry.0 name) separation.cardinalities

-- SsdRoleSetCardinality, DsdRoleSetCardinality: the cardinality of the set of this name, if there is one
unfoldable pub cardinality_of : Separation → Bytes → Option ℕ
cardinality_of separation name = option_map (λ (entry : Cardinality). entry.1) (find (λ (entry : Cardinality). same_name entry.0 name) (members separation.cardinalities))

-- whether the number is less than the count; true if there is no number
abbrev pub is_below : Option ℕ → ℕ → Bool
is_below None count = true
is_below (Some n) count = nat_lt n count

-- the roles that were activated in a session
abbrev pub active_roles : RbacState → Bytes → Names
active_roles S session = seconds S.active session

-- whether there is a session of this name
abbrev pub has_session : RbacState → Bytes → Bool
has_session S session = any (λ pair. same_name pair.0 session) S.sessions

abbrev pub coded_separation : Coded Separation
coded_separation =
    code_by (Pairs × Cardinalities) (coded× (set.coded_set coded_pair) (set.coded_set coded_cardinality)) (λ s. (s.members, s.cardinalities))
    (λ p. record { members = p.0; cardinalities = p.1 }) (λ _. refl)

-- a state is encoded as the nested pairs of its fields
abbrev pub coded_state : Coded RbacState
coded_state =
    code_by
    (ℕ × (Names × (Names × (Names × (Names × (Pairs × (Pairs × (Triples × (Pairs × (Pairs × (Pairs × (Separation × Separation))))))))))))
    (coded× coded_ℕ (coded× names (coded× names (coded× names (coded× names (coded× pairs (coded× pairs (coded× triples (coded× pairs (coded× pairs (coded× pairs (coded× coded_separation coded_separation))))))))))))
    (λ s. (s.version, (s.locked, (s.users, (s.roles, (s.objects, (s.permissions, (s.assignments, (s.grants, (s.edges, (s.sessions, (s.active, (s.ssd, s.dsd)))))))))))))
    (λ q. let p = q.1.1 in record {
      version = q.0;
      locked = q.1.0;
      users = p.0;
      roles = p.1.0;
      objects = p.1.1.0;
      permissions = p.1.1.1.0;
      assignments = p.1.1.1.1.0;
      grants = p.1.1.1.1.1.0;
      edges = p.1.1.1.1.1.1.0;
      sessions = p.1.1.1.1.1.1.1.0;
      active = p.1.1.1.1.1.1.1.1.0;
      ssd = p.1.1.1.1.1.1.1.1.1.0;
      dsd = p.1.1.1.1.1.1.1.1.1.1;
    })
    (λ _. refl)
  where
    names : Coded Names
    names = set.coded_set coded_name

    pairs : Coded Pairs
    pairs = set.coded_set coded_pair

    triples : Coded Triples
    triples = set.coded_set coded_triple
