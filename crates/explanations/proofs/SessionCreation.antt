-- All dynamic sets that a new session violates, with those of their roles that it has, by tests of the state before.
use Rattle.std.proofs.Common.{◌≡◌, ◌≤◌, ℕ, ◌+◌, ◌<◌, Bool, true, false, cond, ◌&&◌, List, [], ◌∷◌, ◌++◌, length, map, take, get_or, refl, sym, ◌∙◌, ap, inl, inr, arith}
use Rattle.std.specs.Prelude.{IsTrue, count_by, Some, not, nat_lt, slice_get}
use Rattle.std.specs.List.{filter, flat_map, list_any}
use Rattle.std.specs.Option.{option_map}
use Rattle.std.specs.Ordering.{eq_by_cmp}
use Rattle.std.proofs.lemmas.Bool.{and_parts, ltb-false}
use Rattle.std.proofs.lemmas.List.{append_assoc, append-nil, flat_map_more, take_all, take_more}
use Rattle.std.proofs.lemmas.List.Elements.{filter-append}
use Rattle.std.proofs.lemmas.List.Sums.{length-filter}
use Rattle.rbac_sets.specs.NameOrder.{name_total, name_exact, pair_total, pair_exact, cardinality_total, cardinality_exact}
use Rattle.rbac_sets.specs.Sets.{Bytes, Names, Pair, Pairs, Cardinality, all, cardinality_cmp, contains, members, name_cmp, same_name}
use Rattle.rbac_sets.specs.SortedSet.{Stored, set_of}
use Rattle.rbac_sets.specs.declared.command.Command.TheVariants.{CreateSession}
use Rattle.rbac_sets.specs.declared.refusal.Refusal.TheVariants.{DynamicSeparation}
use Rattle.rbac_sets.proofs.Lists.{find_filter}
use Rattle.rbac_sets.proofs.Members.{members-retain}
use Rattle.rbac_sets.proofs.SetLaws.{tie_Decides, contains-insert-Decides, contains-members}
use Rattle.admin_mgr.specs.After.{after, changed}
use Rattle.admin_mgr.specs.Authorization.{is_authorized, is_session_role}
use Rattle.admin_mgr.specs.Good.{IsGood}
use Rattle.admin_mgr.specs.RbacState.{RbacState, has_session}
use Rattle.admin_mgr.specs.Refusals.{violates_dynamic}
use Rattle.admin_mgr.specs.Separation.{is_kept_dynamically}
use Rattle.admin_mgr.specs.private.HolderRoles.{has_all, is_reached_from, run_of}
use Rattle.admin_mgr.proofs.StateAfter.SessionLaws.{none_ends_where}
use Rattle.admin_mgr.proofs.Verdicts.SessionCommandLaws.{created_active, created_goes_on, created_owned, created_roles, created_sessions, not_new}
use Rattle.admin_mgr.proofs.Verdicts.TouchLaws.{with_sessions, OthersStay, session_violates}
use Rattle.admin_mgr.proofs.Verdicts.ViolationLaws.{with_paired-others}
use Rattle.explanations.specs.Conflicts.{dynamic_violations, had_members, violated_members}
use Rattle.explanations.specs.private.Found.{violated_with_roles}
use Rattle.explanations.proofs.Finds.{both_kept, find_passes, is_behind, is_here}
use Rattle.explanations.proofs.SessionViolations.{dynamic_refusal_of_first}
use Rattle.explanations.proofs.ViolatedSets.{violated_are}

-- ---- lists

-- the lists of the items that pass, one after the other
joined_kept : {X Y Z : Type 0} (f : Y → List Z) (g : X → Y) (p : X → Bool) (xs : List X) → flat_map f (map g (filter p xs)) ≡ flat_map (λ x. cond (p x) (f (g x)) []) xs
joined_kept f g p [] = refl
joined_kept {X} {Y} {Z} f g p (x ∷ xs) = step (p x) ∙ ap (λ rest. cond (p x) (f (g x)) [] ++ rest) (joined_kept f g p xs)
  where
    step : (b : Bool) → flat_map f (map g (cond b (x ∷ filter p xs) (filter p xs))) ≡ cond b (f (g x)) [] ++ flat_map f (map g (filter p xs))
    step true = refl
    step false = refl

-- ---- what a loop has joined so far

module _ {X Y : Type 0} (f : X → List Y) (xs : List X) (i : ℕ) where
  pub joined_more : (x : X) → i < length xs → x ≡ get_or xs i x → (ys : List Y) → ys ≡ flat_map f (take i xs) → (more : List Y) → f x ≡ more
      → (zs : List Y) → zs ≡ ys ++ more → zs ≡ flat_map f (take (i + 1) xs)
  joined_more x lt at ys is more gives zs pushed =
      pushed ∙ ap (λ l. l ++ more) is ∙ ap (λ l. flat_map f (take i xs) ++ l) (sym gives) ∙ flat_map_more f [] (take i xs) x
      ∙ ap (flat_map f) (ap (λ (y : X). take i xs ++ y ∷ []) at ∙ sym (take_more xs i x lt))

  pub joined_all : (ys : List Y) → ys ≡ flat_map f (take i xs) → length xs ≤ i → ys ≡ flat_map f xs
  joined_all ys is every = is ∙ ap (flat_map f) (take_all i xs every)

-- the same for the items that pass a test, behind those that were there at the start
module _ {X : Type 0} (p : X → Bool) (xs : List X) (i : ℕ) (start : List X) where
  next : (x : X) → i < length xs → x ≡ get_or xs i x → (start ++ filter p (take i xs)) ++ cond (p x) (x ∷ []) [] ≡ start ++ filter p (take (i + 1) xs)
  next x lt at =
      append_assoc start (filter p (take i xs)) (cond (p x) (x ∷ []) [])
      ∙ ap (λ l. start ++ l) (sym (filter-append p (take i xs) (x ∷ [])) ∙ ap (filter p) (ap (λ (y : X). take i xs ++ y ∷ []) at ∙ sym (take_more xs i x lt)))

  pub pushed_more : (x : X) → i < length xs → x ≡ get_or xs i x → (ys : List X) → ys ≡ start ++ filter p (take i xs) → p x ≡ true
      → (zs : List X) → zs ≡ ys ++ x ∷ [] → zs ≡ start ++ filter p (take (i + 1) xs)
  pushed_more x lt at ys is passes zs pushed =
      pushed ∙ ap (λ (l : List X). l ++ x ∷ []) is ∙ (λ j. (start ++ filter p (take i xs)) ++ cond (sym passes j) (x ∷ []) []) ∙ next x lt at

  pub pushed_same : (x : X) → i < length xs → x ≡ get_or xs i x → (ys : List X) → ys ≡ start ++ filter p (take i xs) → p x ≡ false → ys ≡ start ++ filter p (take (i + 1) xs)
  pushed_same x lt at ys is fails =
      is ∙ sym (append-nil (start ++ filter p (take i xs))) ∙ (λ j. (start ++ filter p (take i xs)) ++ cond (sym fails j) (x ∷ []) []) ∙ next x lt at

  pub pushed_all : (ys : List X) → ys ≡ start ++ filter p (take i xs) → length xs ≤ i → ys ≡ start ++ filter p xs
  pushed_all ys is every = is ∙ ap (λ l. start ++ filter p l) (take_all i xs every)

-- ---- the first set

-- a list that begins with a pair of this name begins so with more behind it
begins_so : (l rest : List Pair) (name : Bytes) → option_map (λ (pair : Pair). pair.0) (slice_get l 0) ≡ Some name → option_map (λ (pair : Pair). pair.0) (slice_get (l ++ rest) 0) ≡ Some name
begins_so [] rest name h = cc
begins_so (x ∷ l) rest name h = h

-- the pairs of each set begin with its name, so all begin with that of the first set
first_joined : (had : Cardinality → List Pair) (test : Cardinality → Bool) (xs : List Cardinality)
    → ((x : Cardinality) → IsTrue (list_any (eq_by_cmp cardinality_cmp x) xs) → IsTrue (test x) → option_map (λ (pair : Pair). pair.0) (slice_get (had x) 0) ≡ Some x.0)
    → option_map (λ (pair : Pair). pair.0) (slice_get (flat_map (λ x. cond (test x) (had x) []) xs) 0) ≡ slice_get (map (λ (x : Cardinality). x.0) (filter test xs)) 0
first_joined had test [] named = refl
first_joined had test (x ∷ xs) named = step (test x) refl (first_joined had test xs (λ y there. named y (is_behind cardinality_total cardinality_exact x y xs there)))
  where
    others : List Pair
    others = flat_map (λ y. cond (test y) (had y) []) xs

    step : (b : Bool) → test x ≡ b → option_map (λ (pair : Pair). pair.0) (slice_get others 0) ≡ slice_get (map (λ (y : Cardinality). y.0) (filter test xs)) 0
        → option_map (λ (pair : Pair). pair.0) (slice_get (cond b (had x) [] ++ others) 0) ≡ slice_get (map (λ (y : Cardinality). y.0) (cond b (x ∷ filter test xs) (filter test xs))) 0
    step true is rest = begins_so (had x) others x.0 (named x (is_here cardinality_total cardinality_exact x xs) is)
    step false is rest = rest

-- if some member is kept, the first has the name of its set
first_kept : (q : Pair → Bool) (pairs : Pairs) (name : Bytes) → 1 ≤ count_by q (run_of pairs name) → option_map (λ (pair : Pair). pair.0) (slice_get (filter q (run_of pairs name)) 0) ≡ Some name
first_kept q pairs name some = by (filter q (run_of pairs name)) refl
  where
    by : (l : List Pair) → filter q (run_of pairs name) ≡ l → option_map (λ (pair : Pair). pair.0) (slice_get l 0) ≡ Some name
    by [] is = let none : 0 ≡ count_by q (run_of pairs name) = sym (ap length is) ∙ length-filter q (run_of pairs name) in absurd (omega (arith, some, none))
    by (pair ∷ rest) is =
        let passes = find_passes (λ (p : Pair). same_name p.0 name && q p) (members pairs) pair
        (find_filter (λ (p : Pair). same_name p.0 name && q p) (members pairs) ∙ ap (λ xs. slice_get xs 0) (both_kept (λ (p : Pair). same_name p.0 name) q (members pairs) ∙ is)) in
        ap Some ((tie_Decides name_total name_exact pair.0 name).0 (and_parts (same_name pair.0 name) (q pair) passes).0)

-- ---- a new session

module _ (S : RbacState) (good : IsGood S) (user : Bytes) (roles : Stored Bytes) (session : Bytes) (new : has_session S session ≡ false)
    (is_user : IsTrue (contains S.users user)) (unlocked : contains S.locked user ≡ false) (authorized : IsTrue (all (is_authorized S user) (set_of name_cmp roles))) where
  abbrev names : Names
  names = set_of name_cmp roles

  abbrev sessions : Pairs
  sessions = created_sessions S good user names session new

  abbrev active : Pairs
  active = created_active S good user names session new

  abbrev had_role : Pair → Bool
  had_role = λ (member : Pair). is_reached_from S.edges (members names) member.1

  abbrev is_violated : Cardinality → Bool
  is_violated = λ (x : Cardinality). has_all S.edges (members names) (run_of S.dsd.members x.0) x.1

  is_after : after S (CreateSession user roles session) ≡ with_sessions S sessions active
  unfolding after changed created_sessions created_active with_sessions
  is_after = none_ends_where (with_sessions S sessions active) (created_goes_on S good user names session new is_user unlocked authorized) (created_owned S good user names session new)

  others_stay : OthersStay S sessions active session
  unfolding created_sessions created_active
  others_stay other owner there = elim ((contains-insert-Decides pair_total pair_exact S.sessions (session, user) (other, owner)).0 there) [
    | inl same ↦ inl (ap (λ (p : Pair). p.0) same)
    | inr old ↦ inr (old, with_paired-others S.active session names other (not_new S good user names session new other owner old))
  ]

  is_there : IsTrue (contains sessions (session, user))
  unfolding created_sessions
  is_there = (contains-insert-Decides pair_total pair_exact S.sessions (session, user) (session, user)).1 (inl refl)

  sets_violated : dynamic_violations (with_sessions S sessions active) ≡ map (λ (x : Cardinality). x.0) (filter is_violated (members S.dsd.cardinalities))
  unfolding with_sessions
  sets_violated = violated_are (is_kept_dynamically (with_sessions S sessions active)) S.dsd is_violated
      (session_violates S good sessions active session user is_there others_stay (is_reached_from S.edges (members names)) (created_roles S good user names session new))

  roles_had : (name : Bytes) → members (had_members (with_sessions S sessions active) session name) ≡ filter had_role (run_of S.dsd.members name)
  unfolding had_members with_sessions
  roles_had name =
      members-retain pair_total pair_exact S.dsd.members (λ (member : Pair). same_name member.0 name && is_session_role (with_sessions S sessions active) session member.1)
      ∙ (λ i. filter (λ (member : Pair). same_name member.0 name && created_roles S good user names session new member.1 i) (members S.dsd.members))
      ∙ both_kept (λ (member : Pair). same_name member.0 name) had_role (members S.dsd.members)

  pub creation_violations : violated_members (after S (CreateSession user roles session)) session ≡ violated_with_roles S.edges (members names) S.dsd.members (members S.dsd.cardinalities)
  unfolding violated_members
  creation_violations =
      ap (λ T. violated_members T session) is_after
      ∙ ap (flat_map (λ name. members (had_members (with_sessions S sessions active) session name))) sets_violated
      ∙ joined_kept (λ name. members (had_members (with_sessions S sessions active) session name)) (λ (x : Cardinality). x.0) is_violated (members S.dsd.cardinalities)
      ∙ (λ i. flat_map (λ (x : Cardinality). cond (is_violated x) (roles_had x.0 i) []) (members S.dsd.cardinalities))

  -- a violated set has at least two of the roles
  first_had : (x : Cardinality) → IsTrue (list_any (eq_by_cmp cardinality_cmp x) (members S.dsd.cardinalities)) → IsTrue (is_violated x)
      → option_map (λ (pair : Pair). pair.0) (slice_get (filter had_role (run_of S.dsd.members x.0)) 0) ≡ Some x.0
  first_had x there violated =
      let least = (good.well_formed.dsd.cardinality x.0 x.1 (contains-members S.dsd.cardinalities x ∙ there)).0 in
      let enough : x.1 ≤ count_by had_role (run_of S.dsd.members x.0) = not_fewer (count_by had_role (run_of S.dsd.members x.0)) x.1 violated in
      first_kept had_role S.dsd.members x.0 (omega (arith, least, enough))
    where
      not_fewer : (a b : ℕ) → IsTrue (not (nat_lt a b)) → b ≤ a
      not_fewer a b h = by (nat_lt a b) refl h
        where
          by : (t : Bool) → nat_lt a b ≡ t → IsTrue (not t) → b ≤ a
          by true is g = cc
          by false is g = ltb-false a b is

  -- the refusal for separation names the first set
  pub creation_refusal : violates_dynamic (after S (CreateSession user roles session))
      ≡ option_map DynamicSeparation (option_map (λ (pair : Pair). pair.0) (slice_get (violated_with_roles S.edges (members names) S.dsd.members (members S.dsd.cardinalities)) 0))
  creation_refusal =
      ap violates_dynamic is_after
      ∙ dynamic_refusal_of_first (with_sessions S sessions active)
      ∙ ap (λ violated. option_map DynamicSeparation (slice_get violated 0)) sets_violated
      ∙ ap (option_map DynamicSeparation) (sym (first_joined (λ (x : Cardinality). filter had_role (run_of S.dsd.members x.0)) is_violated (members S.dsd.cardinalities) first_had))
