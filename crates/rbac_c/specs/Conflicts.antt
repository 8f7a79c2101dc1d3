-- What a call from C returns that says which separation of duty sets a command would violate.
use Rattle.std.specs.Prelude.{◌≡◌, ◌⊎◌, ℕ, Bool, true, false, List, [], ◌∷◌, length, take, drop, Option, Some, None}
use Rattle.std.specs.List.{All, flat_map}
use Rattle.rbac_sets.specs.Refusal.{code_of}
use Rattle.rbac_sets.specs.Sets.{Bytes, Pair, from_list, members}
use Rattle.rbac_sets.specs.SortedSet.{Stored}
use Rattle.rbac_sets.specs.declared.refusal.Refusal.{Refusal}
use Rattle.rbac_sets.specs.declared.refusal.Refusal.TheVariants.{BadName, Memory}
use Rattle.rbac_sets.specs.declared.command.Command.TheVariants.{AddActiveRole, AddInheritance, CreateSession}
use Rattle.admin_mgr.specs.After.{after}
use Rattle.admin_mgr.specs.Assignment.{after_assignment}
use Rattle.admin_mgr.specs.RbacState.{RbacState, has_session}
use Rattle.explanations.specs.Conflicts.{activation_refused, assignment_refused, creation_refused, dynamic_conflicts, dynamic_violations, inheritance_refused, static_conflicts, static_violations, violated_members}
use Rattle.role_lines.specs.Decision.{IsNameText}
use Rattle.role_lines.specs.OfficeInMemory.{OfficeInMemory}
use Rattle.role_lines.specs.StoredRow.{name_at, pair_at}
use Rattle.rbac_c.specs.Calls.{Buffers, CopiesSome}
use Rattle.rbac_c.specs.declared.calls.RowLengths.{RowLengths}
use Rattle.rbac_c.specs.Results.{done, closed}

module _ (S : RbacState) (user role : List ℕ) where
  -- the question isn't refused, and these are all static sets that the state would violate if the user were assigned to the role
  pub record ViolatesSets (names : List Bytes) : Type 0 where
    pub unrefused : assignment_refused S user role ≡ None
    pub names_are : names ≡ static_violations (after_assignment S (user, role))

  -- an allocation failed, or one of the two isn't a name, or the question is refused
  abbrev pub RefusesAssignment : Refusal → Type 0
  RefusesAssignment refusal =
      (refusal ≡ Memory)
      ⊎ (((refusal ≡ BadName) × ¬ (IsNameText user × IsNameText role))
      ⊎ ((IsNameText user × IsNameText role) × (assignment_refused S user role ≡ Some refusal)))

module _ (S : RbacState) (user session role : List ℕ) where
  -- the question isn't refused, and these are all dynamic sets that the state would violate if the role were activated in the session
  pub record ViolatesInSession (names : List Bytes) : Type 0 where
    pub unrefused : activation_refused S user session role ≡ None
    pub names_are : names ≡ dynamic_violations (after S (AddActiveRole user session role))

  -- an allocation failed, or one of the three isn't a name, or the question is refused
  abbrev pub RefusesActivation : Refusal → Type 0
  RefusesActivation refusal =
      (refusal ≡ Memory)
      ⊎ (((refusal ≡ BadName) × ¬ (IsNameText user × IsNameText session × IsNameText role))
      ⊎ ((IsNameText user × IsNameText session × IsNameText role) × (activation_refused S user session role ≡ Some refusal)))

-- the static sets that a state violates with the first user of each, or the dynamic ones with the first session
abbrev pub conflicts_in : (of_sessions : Bool) → RbacState → List Pair
conflicts_in true = dynamic_conflicts
conflicts_in false = static_conflicts

module _ (S : RbacState) (asc desc : List ℕ) where
  -- the question isn't refused, and these are all sets that the state would violate if the first role inherited from the second
  pub record ViolatesByInheritance (of_sessions : Bool) (conflicts : List Pair) : Type 0 where
    pub unrefused : inheritance_refused S asc desc ≡ None
    pub conflicts_are : conflicts ≡ conflicts_in of_sessions (after S (AddInheritance asc desc))

  -- an allocation failed, or one of the two isn't a name, or the question is refused
  abbrev pub RefusesInheritance : Refusal → Type 0
  RefusesInheritance refusal =
      (refusal ≡ Memory)
      ⊎ (((refusal ≡ BadName) × ¬ (IsNameText asc × IsNameText desc))
      ⊎ ((IsNameText asc × IsNameText desc) × (inheritance_refused S asc desc ≡ Some refusal)))

-- The texts that stand in a text one after the other, with these lengths. What is beyond its end is left out.
abbrev pub divided : List ℕ → List ℕ → List (List ℕ)
divided text [] = []
divided text (n ∷ lengths) = take n text ∷ divided (drop n text) lengths

-- a set of these texts, without room for more
abbrev pub stored : List (List ℕ) → Stored Bytes
stored texts = record { in_order = texts; room = 0 }

-- a name that no session has: it is longer than the names of all sessions together
abbrev pub new_name : RbacState → Bytes
new_name S = 0 ∷ flat_map (λ (session : Pair). session.0) (members S.sessions)

module _ (S : RbacState) (user : List ℕ) (texts : List (List ℕ)) where
  -- The question isn't refused, and these are all dynamic sets that the state would violate if a session of the user with these roles
  -- were created, each with those of its roles that the session would have. Whatever the new session's name is, they are the same, and
  -- there is a name that is new.
  pub record ViolatesByCreation (pairs : List Pair) : Type 0 where
    pub unrefused : creation_refused S user (from_list texts) ≡ None
    pub is_new : has_session S (new_name S) ≡ false
    pub pairs_are : (session : Bytes) → has_session S session ≡ false
        → pairs ≡ violated_members (after S (CreateSession user (stored texts) session)) session

  -- an allocation failed, or one of the names isn't one, or the question is refused
  abbrev pub RefusesCreation : Refusal → Type 0
  RefusesCreation refusal =
      (refusal ≡ Memory)
      ⊎ (((refusal ≡ BadName) × ¬ (IsNameText user × All IsNameText texts))
      ⊎ ((IsNameText user × All IsNameText texts) × (creation_refused S user (from_list texts) ≡ Some refusal)))

-- ---- what is copied

-- what a call returns that copies some of a list: how many it copied, how many there are in all, and a number that says how it went
pub record CopyResult : Type 0 where
  pub count : ℕ
  pub total : ℕ
  pub code : ℕ

-- the names from this place on are copied
abbrev pub CopiesNames : List Bytes → (index : ℕ) → (before now : Buffers (List RowLengths)) → CopyResult → Type 0
CopiesNames names index before now result =
    (result.code ≡ done) × ((result.total ≡ length names) × CopiesSome (λ place row. row ≡ name_at names place) index before now result.count)

-- the same for pairs of names
abbrev pub CopiesPairs : List Pair → (index : ℕ) → (before now : Buffers (List RowLengths)) → CopyResult → Type 0
CopiesPairs pairs index before now result =
    (result.code ≡ done) × ((result.total ≡ length pairs) × CopiesSome (λ place row. row ≡ pair_at pairs place) index before now result.count)

-- nothing is copied, for this reason
abbrev pub CopiesNothing : (reason : ℕ) → (before now : Buffers (List RowLengths)) → CopyResult → Type 0
CopiesNothing reason before now result = (now ≡ before) × ((result.count ≡ 0) × ((result.total ≡ 0) × (result.code ≡ reason)))

-- the sets that an assignment would violate are copied from this place on, or the question is refused
abbrev pub CopiesAssignment : Option OfficeInMemory → (user role : List ℕ) → (index : ℕ) → (before now : Buffers (List RowLengths)) → CopyResult → Type 0
CopiesAssignment None user role index before now result = CopiesNothing closed before now result
CopiesAssignment (Some office) user role index before now result =
    ((names : List Bytes) × (ViolatesSets office.facts user role names × CopiesNames names index before now result))
    ⊎ ((refusal : Refusal) × (RefusesAssignment office.facts user role refusal × CopiesNothing (code_of refusal) before now result))

-- the same for an activation
abbrev pub CopiesActivation : Option OfficeInMemory → (user session role : List ℕ) → (index : ℕ) → (before now : Buffers (List RowLengths)) → CopyResult → Type 0
CopiesActivation None user session role index before now result = CopiesNothing closed before now result
CopiesActivation (Some office) user session role index before now result =
    ((names : List Bytes) × (ViolatesInSession office.facts user session role names × CopiesNames names index before now result))
    ⊎ ((refusal : Refusal) × (RefusesActivation office.facts user session role refusal × CopiesNothing (code_of refusal) before now result))

-- the same for an inheritance: each set, and who violates it
abbrev pub CopiesInheritance : Option OfficeInMemory → (of_sessions : Bool) → (asc desc : List ℕ) → (index : ℕ) → (before now : Buffers (List RowLengths)) → CopyResult
    → Type 0
CopiesInheritance None of_sessions asc desc index before now result = CopiesNothing closed before now result
CopiesInheritance (Some office) of_sessions asc desc index before now result =
    ((pairs : List Pair) × (ViolatesByInheritance office.facts asc desc of_sessions pairs × CopiesPairs pairs index before now result))
    ⊎ ((refusal : Refusal) × (RefusesInheritance office.facts asc desc refusal × CopiesNothing (code_of refusal) before now result))

-- the same for a new session: each set, and a role of it that the session would have
abbrev pub CopiesCreation : Option OfficeInMemory → (user : List ℕ) → (texts : List (List ℕ)) → (index : ℕ) → (before now : Buffers (List RowLengths)) → CopyResult
    → Type 0
CopiesCreation None user texts index before now result = CopiesNothing closed before now result
CopiesCreation (Some office) user texts index before now result =
    ((pairs : List Pair) × (ViolatesByCreation office.facts user texts pairs × CopiesPairs pairs index before now result))
    ⊎ ((refusal : Refusal) × (RefusesCreation office.facts user texts refusal × CopiesNothing (code_of refusal) before now result))
