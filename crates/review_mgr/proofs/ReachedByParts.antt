-- Tests of the roles of pairs and of grants, if the pairs or the grants are in several parts.
use Rattle.std.proofs.Common.{◌≡◌, Bool, true, false, ◌||◌, List, [], ◌∷◌, ◌++◌, refl, ap, ◌∙◌}
use Rattle.std.specs.List.{list_any}
use Rattle.std.proofs.lemmas.List.Folds.{list_any-append}
use Rattle.rbac_sets.specs.Sets.{Bytes, Pair, Pairs, Triple}
use Rattle.admin_mgr.specs.private.HolderRoles.{is_reached}

exchanged : (a b c d : Bool) → ((a || b) || (c || d)) ≡ ((a || c) || (b || d))
exchanged true b c d = refl
exchanged false true true d = refl
exchanged false true false d = refl
exchanged false false c d = refl

any_or : {X : Type 0} (p q : X → Bool) (xs : List X) → list_any (λ x. p x || q x) xs ≡ (list_any p xs || list_any q xs)
any_or p q [] = refl
any_or p q (x ∷ xs) = ap (λ b. (p x || q x) || b) (any_or p q xs) ∙ exchanged (p x) (q x) (list_any p xs) (list_any q xs)

any_never : {X : Type 0} (xs : List X) → list_any (λ x. false) xs ≡ false
any_never [] = refl
any_never (x ∷ xs) = any_never xs

-- whether a role of one of these pairs and the role of a grant pass a test
abbrev pub passes_one : (Bytes → Bytes → Bool) → List Pair → List Triple → Bool
passes_one test held grants = list_any (λ (grant : Triple). list_any (λ (pair : Pair). test pair.1 grant.2) held) grants

-- without pairs none do
pub none_pass : (test : Bytes → Bytes → Bool) (held : List Pair) (grants : List Triple) → held ≡ [] → passes_one test held grants ≡ false
none_pass test held grants none = ap (λ pairs. passes_one test pairs grants) none ∙ any_never grants

held_parted : (test : Bytes → Bytes → Bool) (held part rest : List Pair) (grants : List Triple) → held ≡ part ++ rest → passes_one test held grants ≡ (passes_one test part grants || passes_one test rest grants)
held_parted test held part rest grants is =
    ap (λ pairs. passes_one test pairs grants) is
    ∙ (λ i. list_any (λ (grant : Triple). list_any-append (λ (pair : Pair). test pair.1 grant.2) part rest i) grants)
    ∙ any_or (λ (grant : Triple). list_any (λ (pair : Pair). test pair.1 grant.2) part) (λ (grant : Triple). list_any (λ (pair : Pair). test pair.1 grant.2) rest) grants

-- a part of the pairs decides if it has one that does, and the rest if it doesn't
pub passed_by_part : (test : Bytes → Bytes → Bool) (held part rest : List Pair) (grants : List Triple) → held ≡ part ++ rest → passes_one test part grants ≡ true → passes_one test held grants ≡ true
passed_by_part test held part rest grants is passed = held_parted test held part rest grants is ∙ ap (λ b. b || passes_one test rest grants) passed

pub passed_by_rest : (test : Bytes → Bytes → Bool) (held part rest : List Pair) (grants : List Triple) → held ≡ part ++ rest → passes_one test part grants ≡ false
    → passes_one test held grants ≡ passes_one test rest grants
passed_by_rest test held part rest grants is none = held_parted test held part rest grants is ∙ ap (λ b. b || passes_one test rest grants) none

-- ---- grants in several parts

-- whether a grant is to one of these roles or a junior of one
abbrev pub reaches_one : Pairs → List Pair → List Triple → Bool
reaches_one edges held grants = list_any (λ (grant : Triple). is_reached edges held grant.2) grants

grants_parted : (edges : Pairs) (held : List Pair) (grants part rest : List Triple) → grants ≡ part ++ rest → reaches_one edges held grants ≡ (reaches_one edges held part || reaches_one edges held rest)
grants_parted edges held grants part rest is = ap (reaches_one edges held) is ∙ list_any-append (λ (grant : Triple). is_reached edges held grant.2) part rest

pub reached_in_part : (edges : Pairs) (held : List Pair) (grants part rest : List Triple) → grants ≡ part ++ rest → reaches_one edges held part ≡ true → reaches_one edges held grants ≡ true
reached_in_part edges held grants part rest is reached = grants_parted edges held grants part rest is ∙ ap (λ b. b || reaches_one edges held rest) reached

pub reached_in_rest : (edges : Pairs) (held : List Pair) (grants part rest : List Triple) → grants ≡ part ++ rest → reaches_one edges held part ≡ false
    → reaches_one edges held grants ≡ reaches_one edges held rest
reached_in_rest edges held grants part rest is none = grants_parted edges held grants part rest is ∙ ap (λ b. b || reaches_one edges held rest) none
