-- Sets that a walk in byte order builds by appending each entry.
use Rattle.std.proofs.Common.{◌≡◌, ◌↔◌, ◌⊎◌, inl, inr, ℕ, ◌+◌, ◌<◌, ◌≤◌, true, List, [], length, get_or, take, refl, sym, ◌∙◌, ap, subst, arith}
use Rattle.std.specs.Prelude.{IsTrue, Contains}
use Rattle.std.specs.List.Sorted.{IsStrictlySortedBy}
use Rattle.std.specs.declared.cmp.Ordering.{Ordering}
use Rattle.std.specs.declared.cmp.Ordering.TheVariants.{Less, Equal, Greater}
use Rattle.std.specs.Ordering.{nat_cmp, ordering_then}
use Rattle.std.specs.Cmp.{tied_itself}
use Rattle.rbac_sets.specs.Sets.{Bytes, Pair, Cardinality, Names, Pairs, Cardinalities, name_cmp, pair_cmp, cardinality_cmp, empty, contains, insert, members}
use Rattle.rbac_sets.specs.NameOrder.{name_total, name_exact, cardinality_total, cardinality_exact}
use Rattle.rbac_sets.proofs.SetLaws.{contains-insert-Decides}
use Rattle.rbac_sets.proofs.Members.{members-rise}
use Rattle.role_order.specs.Order.{HasPair}
use Rattle.role_order.specs.private.Numbered.{HasNumber, IsNumbering}
use Rattle.role_order.proofs.Members.{Contains-take_more, passed_below, AddsPair-insert, none_in}
use Rattle.role_order.proofs.Walks.{member_at, taken_member, passed_all}

pair_below : (x y a b : Bytes) → name_cmp x a ≡ Less → pair_cmp (x, y) (a, b) ≡ Less
pair_below x y a b less = rw less refl

pair_below_second : (x y a b : Bytes) → x ≡ a → name_cmp y b ≡ Less → pair_cmp (x, y) (a, b) ≡ Less
pair_below_second x y a b same less = rw (same, tied_itself name_total a) less

-- ---- the names of numbers that pass a test

-- names are those of the list of which P holds
abbrev pub NamesSoFar : (Bytes → Type 0) → List Cardinality → Names → Type 0
NamesSoFar P xs names = (x : Bytes) → IsTrue (contains names x) ↔ ((n : ℕ) × Contains xs (x, n) × P x)

less_first : (o rest : Ordering) → ordering_then o rest ≡ Less → (o ≡ Equal → rest ≡ Less → ⊥) → o ≡ Less
less_first Less rest less apart = refl
less_first Equal rest less apart = absurd (apart refl less)
less_first Greater rest less apart = less

module _ (P : Bytes → Type 0) (numbers : Cardinalities) (good : IsNumbering numbers) (xs : List Cardinality) (are : xs ≡ members numbers) (i : ℕ) (e : Cardinality) (names : Names)
    (lt : i < length xs) (is : e ≡ get_or xs i e) (so_far : NamesSoFar P (take i xs) names)
  where
    -- no name comes twice, so that they rise
    pub name_above : (x : Bytes) → contains names x ≡ true → name_cmp x e.0 ≡ Less
    name_above x h =
        let at = (so_far x).0 h in
        let rise : IsStrictlySortedBy cardinality_cmp xs = subst (IsStrictlySortedBy cardinality_cmp) (sym are) (members-rise cardinality_cmp numbers) in
        let less : cardinality_cmp (x, at.0) e ≡ Less = passed_below cardinality_cmp xs i e (x, at.0) rise lt is at.1 in
        let before : HasNumber numbers x at.0 = taken_member cardinality_total cardinality_exact numbers xs are i (x, at.0) at.1 in
        let here : HasNumber numbers e.0 e.1 = member_at cardinality_total cardinality_exact numbers xs are i e lt is in
        less_first (name_cmp x e.0) (nat_cmp at.0 e.1) less (λ tie _.
        let same : x ≡ e.0 = name_exact x e.0 tie in
        let number : at.0 ≡ e.1 = good.one x at.0 e.1 before (subst (λ (y : Bytes). HasNumber numbers y e.1) (sym same) here) in
        let both : Equal ≡ Less = sym (tied_itself cardinality_total e) ∙ sym (λ k. cardinality_cmp (same k, number k) e) ∙ less in
        cc)

    pub names_more : (names' : Names) → names' ≡ insert names e.0 → P e.0 → NamesSoFar P (take (i + 1) xs) names'
    names_more names' put holds x =
        let both = subst (λ (s : Names). (IsTrue (contains s x) → (x ≡ e.0) ⊎ IsTrue (contains names x)) × ((x ≡ e.0) ⊎ IsTrue (contains names x) → IsTrue (contains s x))) (sym put)
        (contains-insert-Decides name_total name_exact names e.0 x) in (
          λ h. elim (both.0 h) [
            | inl same ↦ (e.1, (Contains-take_more xs i e (x, e.1) lt is).1 (inr (λ k. (same k, e.1))), subst P (sym same) holds)
            | inr old ↦ let at = (so_far x).0 old in (at.0, (Contains-take_more xs i e (x, at.0) lt is).1 (inl at.1), at.2)
          ],
          λ h. both.1 (elim ((Contains-take_more xs i e (x, h.0) lt is).0 h.1) [
            | inl old ↦ inr ((so_far x).1 (h.0, old, h.2))
            | inr same ↦ inl (ap (λ (c : Cardinality). c.0) same)
          ]),
        )

    pub names_skip : (P e.0 → ⊥) → NamesSoFar P (take (i + 1) xs) names
    names_skip fails x = (
      λ h. (let at = (so_far x).0 h in (at.0, (Contains-take_more xs i e (x, at.0) lt is).1 (inl at.1), at.2)),
      λ h. elim ((Contains-take_more xs i e (x, h.0) lt is).0 h.1) [
        | inl old ↦ (so_far x).1 (h.0, old, h.2)
        | inr same ↦ absurd (fails (subst P (ap (λ (c : Cardinality). c.0) same) h.2))
      ],
    )

pub names_none : (P : Bytes → Type 0) (names : Names) → names ≡ empty → NamesSoFar P [] names
names_none P names none x = (λ h. absurd (none_in names none x h), λ h. absurd (omega (arith, h.1.1)))

-- at the end they are all names with numbers of which P holds
pub names_done : (P : Bytes → Type 0) (numbers : Cardinalities) (xs : List Cardinality) (i : ℕ) (names : Names) → xs ≡ members numbers → length xs ≤ i
    → NamesSoFar P (take i xs) names → ((x : Bytes) → P x → (n : ℕ) × HasNumber numbers x n) → (x : Bytes) → IsTrue (contains names x) ↔ P x
names_done P numbers xs i names are past so_far numbered x = (
  λ h. ((so_far x).0 h).2,
  λ p. let n = numbered x p in (so_far x).1 (n.0, (passed_all cardinality_total cardinality_exact numbers xs are i past (x, n.0)).1 n.1, p),
)

-- ---- a row: the pairs of a and the names of a list of which W does not hold, beside old pairs

abbrev pub RowSoFar : (Bytes → Bytes → Type 0) → (Bytes → Type 0) → Bytes → List Bytes → Pairs → Type 0
RowSoFar Old W a names puts = (x y : Bytes) → HasPair puts x y ↔ (Old x y ⊎ ((x ≡ a) × (Contains names y × (W y → ⊥))))

module _ (Old : Bytes → Bytes → Type 0) (W : Bytes → Type 0) (a : Bytes) (xs : List Bytes) (i : ℕ) (b : Bytes) (puts : Pairs) (lt : i < length xs) (is : b ≡ get_or xs i b)
    (so_far : RowSoFar Old W a (take i xs) puts)
  where
    pub row_above : IsStrictlySortedBy name_cmp xs → ((x y : Bytes) → Old x y → name_cmp x a ≡ Less) → (p : Pair) → contains puts p ≡ true → pair_cmp p (a, b) ≡ Less
    row_above rise old_below p h = elim ((so_far p.0 p.1).0 h) [
      | inl o ↦ pair_below p.0 p.1 a b (old_below p.0 p.1 o)
      | inr k ↦ pair_below_second p.0 p.1 a b k.0 (passed_below name_cmp xs i b p.1 rise lt is k.1.0)
    ]

    pub row_more : (puts' : Pairs) → puts' ≡ insert puts (a, b) → (W b → ⊥) → RowSoFar Old W a (take (i + 1) xs) puts'
    row_more puts' put out x y =
        let more = Contains-take_more xs i b y lt is in
        let adds = subst (λ (s : Pairs). HasPair s x y ↔ (HasPair puts x y ⊎ ((x ≡ a) × (y ≡ b)))) (sym put) (AddsPair-insert puts a b x y) in (
          λ h. elim (adds.0 h) [
            | inl o ↦ elim ((so_far x y).0 o) [ inl k ↦ inl k | inr k ↦ inr (k.0, (more.1 (inl k.1.0), k.1.1)) ]
            | inr e ↦ inr (e.0, (more.1 (inr e.1), λ w. out (subst W e.1 w)))
          ],
          λ s. adds.1 (elim s [
            | inl o ↦ inl ((so_far x y).1 (inl o))
            | inr k ↦ elim (more.0 k.1.0) [
              | inl o ↦ inl ((so_far x y).1 (inr (k.0, (o, k.1.1))))
              | inr e ↦ inr (k.0, e)
            ]
          ]),
        )

    pub row_skip : W b → RowSoFar Old W a (take (i + 1) xs) puts
    row_skip holds x y =
        let more = Contains-take_more xs i b y lt is in (
          λ h. elim ((so_far x y).0 h) [ inl o ↦ inl o | inr k ↦ inr (k.0, (more.1 (inl k.1.0), k.1.1)) ],
          λ s. elim s [
            | inl o ↦ (so_far x y).1 (inl o)
            | inr k ↦ elim (more.0 k.1.0) [
              | inl o ↦ (so_far x y).1 (inr (k.0, (o, k.1.1)))
              | inr e ↦ absurd (k.1.1 (subst W (sym e) holds))
            ]
          ],
        )

-- ---- the rows of a product without the pairs of which W holds

abbrev pub RowsSoFar : (Bytes → Bytes → Type 0) → List Bytes → List Bytes → Pairs → Type 0
RowsSoFar W below done puts = (x y : Bytes) → HasPair puts x y ↔ (Contains done x × (Contains below y × (W x y → ⊥)))

pub rows_more : (W : Bytes → Bytes → Type 0) (below xs : List Bytes) (i : ℕ) (a : Bytes) (puts puts' : Pairs) → i < length xs → a ≡ get_or xs i a
    → RowsSoFar W below (take i xs) puts
    → ((x y : Bytes) → HasPair puts' x y ↔ (HasPair puts x y ⊎ ((x ≡ a) × (Contains below y × (W a y → ⊥)))))
    → RowsSoFar W below (take (i + 1) xs) puts'
rows_more W below xs i a puts puts' lt is so_far row x y =
    let more = Contains-take_more xs i a x lt is in (
      λ h. elim ((row x y).0 h) [
        | inl o ↦ let k = (so_far x y).0 o in (more.1 (inl k.0), k.1)
        | inr k ↦ (more.1 (inr k.0), (k.1.0, λ s. k.1.1 (subst (λ (z : Bytes). W z y) k.0 s)))
      ],
      λ h. (row x y).1 (elim (more.0 h.0) [
        | inl o ↦ inl ((so_far x y).1 (o, h.1))
        | inr e ↦ inr (e, (h.1.0, λ s. h.1.1 (subst (λ (z : Bytes). W z y) (sym e) s)))
      ]),
    )
