-- Numbers of names, and what edges between numbers say of edges between names.
use Rattle.std.proofs.Common.{◌≡◌, ◌≢◌, ◌↔◌, ◌⊎◌, inl, inr, ℕ, ◌+◌, ◌<◌, ◌≤◌, true, false, cond, Bool, List, [], ◌∷◌, ◌++◌, map, length, get_or, refl, sym, ◌∙◌, ap, subst, arith, take}
use Rattle.std.specs.Prelude.{IsTrue, Contains, Option, Some, None}
use Rattle.std.specs.Bool.{one_answer}
use Rattle.std.specs.Option.{option_map}
use Rattle.std.specs.List.{filter, slice_get}
use Rattle.std.specs.FinMap as finmap
use Rattle.std.proofs.lemmas.Bool.{and_parts, and_from, false_from_ne_true}
use Rattle.std.proofs.lemmas.Option.{slice_get_within, get_or_from_slice_get, slice_get-get_or}
use Rattle.std.proofs.lemmas.List.{get_or-map, map_more}
use Rattle.std.proofs.lemmas.List.Elements.{Contains-get_or}
use Rattle.rbac_sets.specs.Sets.{Bytes, Pair, Names, Pairs, Cardinality, Cardinalities, cardinality_cmp, empty, contains, insert, remove, len, members, retain, same_name}
use Rattle.rbac_sets.specs.NameOrder.{name_total, name_exact, cardinality_total, cardinality_exact}
use Rattle.rbac_sets.proofs.SetLaws.{tie_Decides, contains-retain, contains-insert-Decides}
use Rattle.rbac_sets.proofs.Lists.{find_filter}
use Rattle.rbac_sets.proofs.Members.{members-retain}
use Rattle.reach_bits.specs.Graph.{Graph, HasEdge, has_edge, once}
use Rattle.reach_bits.specs.Graph.{Leads as NumbersLead, step as number_step}
use Rattle.reach_bits.proofs.RowLaws.{has_row}
use Rattle.role_order.specs.Order.{HasPair, Leads, Geq, here, step, geq, IsAcyclic, IsClosure}
use Rattle.role_order.specs.Planned.{Plan, Fits, changed}
use Rattle.role_order.specs.NumberedEdges.{NumberedEdges}
use Rattle.role_order.specs.private.Numbered.{HasNumber, number_of, IsNumbering, AreNumbered, HasNamedEdge, AreEdgesOf}
use Rattle.role_order.proofs.Members.{AddsPair-insert, TakesPair-remove, Contains-members, Contains-take_more, none_in, pair_parts, same_or_other}
use Rattle.role_order.proofs.Leading.{Leads-from_eq, Leads-once, Leads-mono, first_step, last_step}
use Rattle.role_order.proofs.Closing.{NoWayBack, IsAcyclic-from_steps, no_way_back}
use Rattle.role_order.proofs.Deciding.{geq-Decides}
use Rattle.role_order.proofs.Planning.{changed-adds}

-- an edge of the graph leads from the number of a to the number of b
abbrev pub NamedEdge : Cardinalities → Graph → Bytes → Bytes → Type 0
NamedEdge numbers graph a b = (i j : ℕ) × HasNumber numbers a i × HasNumber numbers b j × HasEdge graph i j

-- ---- ways between numbers and ways between names

module _ (edges : NumberedEdges) (good : IsNumbering edges.numbers) where
  -- a way between names leads to the same name, or is one between their numbers
  pub numbers_lead : {a b : Bytes} → Leads (HasNamedEdge edges) a b → (i j : ℕ) → HasNumber edges.numbers a i → HasNumber edges.numbers b j
      → (a ≡ b) ⊎ NumbersLead (HasEdge edges.graph) i j
  numbers_lead here i j at to = inl refl
  numbers_lead {a} {b} (step {b = m} e rest) i j at to =
      let first : HasEdge edges.graph i e.1 = subst (λ (n : ℕ). HasEdge edges.graph n e.1) (good.one a e.0 i e.2 at) e.4 in
      elim (numbers_lead rest e.1 j e.3 to) [
        | inl same ↦ inr (once (subst (λ (n : ℕ). HasEdge edges.graph i n) (good.one b e.1 j (subst (λ (x : Bytes). HasNumber edges.numbers x e.1) same e.3) to) first))
        | inr more ↦ inr (number_step first more)
      ]

  -- and one between numbers is one between their names
  pub names_lead : AreNumbered edges.numbers edges.graph → {i j : ℕ} → NumbersLead (HasEdge edges.graph) i j → (a b : Bytes) → HasNumber edges.numbers a i → HasNumber edges.numbers b j
      → Leads (HasNamedEdge edges) a b
  names_lead named {i} {j} (once e) a b at to = Leads-once (i, j, at, to, e)
  names_lead named {i} {j} (number_step {b = k} e rest) a b at to =
      let ends = named i k e in
      step (i, k, at, ends.3, e) (names_lead named rest ends.1 b ends.3 to)

  -- between two names there is one exactly if there is one between their numbers, since no number leads to itself
  pub lead_apart : AreNumbered edges.numbers edges.graph → ((n : ℕ) → NumbersLead (HasEdge edges.graph) n n → ⊥) → (a b : Bytes) (i j : ℕ) → HasNumber edges.numbers a i → HasNumber edges.numbers b j
      → NumbersLead (HasEdge edges.graph) i j ↔ ((a ≢ b) × Leads (HasNamedEdge edges) a b)
  lead_apart named round a b i j from to = (
    λ l. (
      λ same.
          let number : j ≡ i = good.one b j i to (subst (λ (x : Bytes). HasNumber edges.numbers x i) same from) in
          round i (subst (λ (n : ℕ). NumbersLead (HasEdge edges.graph) i n) number l),
      names_lead named l a b from to,
    ),
    λ way. elim (numbers_lead way.1 i j from to) [ inl same ↦ absurd (way.0 same) | inr numbers ↦ numbers ],
  )

-- a name that begins a way to another name has a number
pub begin_number : (edges : NumberedEdges) (a b : Bytes) → (a ≢ b) × Leads (HasNamedEdge edges) a b → (n : ℕ) × HasNumber edges.numbers a n
begin_number edges a b way = elim (first_step (HasNamedEdge edges) way.1) [ inl same ↦ absurd (way.0 same) | inr s ↦ (s.1.0, s.1.2) ]

-- and so has one that ends one
pub end_number : (edges : NumberedEdges) (a b : Bytes) → (a ≢ b) × Leads (HasNamedEdge edges) a b → (n : ℕ) × HasNumber edges.numbers b n
end_number edges a b way = elim (last_step (HasNamedEdge edges) way.1) [ inl same ↦ absurd (way.0 same) | inr s ↦ (s.1.1, s.1.3) ]

-- ---- a search for a number

-- the entries that begin with the name
abbrev is_of : Bytes → Cardinality → Bool
is_of name entry = same_name entry.0 name

entries_of : (numbers : Cardinalities) (name : Bytes) (entry : Cardinality) → Contains (filter (is_of name) (members numbers)) entry ↔ (IsTrue (contains numbers entry) × (entry.0 ≡ name))
entries_of numbers name entry =
    let tie = tie_Decides name_total name_exact entry.0 name in
    let kept = Contains-members cardinality_total cardinality_exact (retain numbers (is_of name)) entry in
    let both = contains-retain cardinality_total cardinality_exact numbers (is_of name) entry in
    let same = members-retain cardinality_total cardinality_exact numbers (is_of name) in (
      λ h.
          let parts = and_parts (contains numbers entry) (is_of name entry) (sym both ∙ kept.0 (subst (λ (xs : List Cardinality). Contains xs entry) (sym same) h)) in
          (parts.0, tie.0 parts.1),
      λ h. subst (λ (xs : List Cardinality). Contains xs entry) same (kept.1 (both ∙ and_from _ _ h.0 (tie.1 h.1))),
    )

-- the first of them has a number of the name
pub number_found : (numbers : Cardinalities) (name : Bytes) (run : List Cardinality) (entry : Cardinality) → run ≡ filter (is_of name) (members numbers) → slice_get run 0 ≡ Some entry
    → HasNumber numbers name entry.1
number_found numbers name run entry is first =
    let within : Contains run entry = subst (λ (e : Cardinality). Contains run e) (get_or_from_slice_get run 0 entry entry first) (Contains-get_or run 0 entry (slice_get_within run 0 entry first)) in
    let parts = (entries_of numbers name entry).0 (subst (λ (xs : List Cardinality). Contains xs entry) is within) in
    subst (λ (a : Bytes). HasNumber numbers a entry.1) parts.1 parts.0

-- if there is none, the name has no number
pub number_missing : (numbers : Cardinalities) (name : Bytes) (run : List Cardinality) → run ≡ filter (is_of name) (members numbers) → slice_get run 0 ≡ None
    → (n : ℕ) → HasNumber numbers name n → ⊥
number_missing numbers name run is first n has =
    let within : Contains run (name, n) = subst (λ (xs : List Cardinality). Contains xs (name, n)) (sym is) ((entries_of numbers name (name, n)).1 (has, refl)) in
    let some = slice_get-get_or run 0 (name, n) (omega (arith, within.1)) in
    let both : None ≡ Some (get_or run 0 (name, n)) = sym first ∙ some in
    cc

-- so the first entry of the run gives the number
pub number_first : (numbers : Cardinalities) (name : Bytes) (run : List Cardinality) (first : Option Cardinality) → run ≡ filter (is_of name) (members numbers) → slice_get run 0 ≡ first
    → option_map (λ (entry : Cardinality). entry.1) first ≡ number_of numbers name
number_first numbers name run first is at =
    ap (option_map (λ (entry : Cardinality). entry.1)) (sym at ∙ ap (λ (xs : List Cardinality). slice_get xs 0) is ∙ sym (find_filter (is_of name) (members numbers)))

pub number_of-some : (numbers : Cardinalities) (name : Bytes) (n : ℕ) → number_of numbers name ≡ Some n → HasNumber numbers name n
number_of-some numbers name n is = by (slice_get run 0) refl
  where
    run : List Cardinality
    run = filter (is_of name) (members numbers)

    by : (first : Option Cardinality) → slice_get run 0 ≡ first → HasNumber numbers name n
    by None at = let both : None ≡ Some n = number_first numbers name run None refl at ∙ is in cc
    by (Some entry) at =
        let both : Some entry.1 ≡ Some n = number_first numbers name run (Some entry) refl at ∙ is in
        let same : entry.1 ≡ n = cc in
        subst (λ (k : ℕ). HasNumber numbers name k) same (number_found numbers name run entry refl at)

pub number_of-none : (numbers : Cardinalities) (name : Bytes) → number_of numbers name ≡ None → (n : ℕ) → HasNumber numbers name n → ⊥
number_of-none numbers name is n has = by (slice_get run 0) refl
  where
    run : List Cardinality
    run = filter (is_of name) (members numbers)

    by : (first : Option Cardinality) → slice_get run 0 ≡ first → ⊥
    by None at = number_missing numbers name run refl at n has
    by (Some entry) at = let both : Some entry.1 ≡ None = number_first numbers name run (Some entry) refl at ∙ is in cc

-- ---- the numbers of a list of names

pub number_at : (numbers : Cardinalities) (names : List Bytes) (found : List (Option ℕ)) (k : ℕ) (o : Option ℕ) → found ≡ map (number_of numbers) names → k < length names → o ≡ get_or found k o
    → number_of numbers (get_or names k []) ≡ o
number_at numbers names found k o are within is = sym (is ∙ ap (λ (xs : List (Option ℕ)). get_or xs k o) are ∙ get_or-map (number_of numbers) names k [] o within)

pub numbers_more : (numbers : Cardinalities) (names : List Bytes) (i : ℕ) (name : Bytes) (old new : List (Option ℕ)) (o : Option ℕ) → i < length names → name ≡ get_or names i name
    → o ≡ number_of numbers name → old ≡ map (number_of numbers) (take i names) → new ≡ old ++ o ∷ [] → new ≡ map (number_of numbers) (take (i + 1) names)
numbers_more numbers names i name old new o within is told before put =
    put ∙ (λ k. before k ++ (told ∙ ap (number_of numbers) is) k ∷ []) ∙ sym (map_more (number_of numbers) names i name within)

-- ---- a number more

-- what is kept of numbered edges
abbrev pub IsKept : Cardinalities → Graph → Type 0
IsKept numbers graph = IsNumbering numbers × AreNumbered numbers graph × (len numbers ≤ length graph) × (length graph ≤ 8192)

-- numbers have rows
pub number_within : (numbers : Cardinalities) (graph : Graph) → IsKept numbers graph → (a : Bytes) (n : ℕ) → HasNumber numbers a n → n < length graph
number_within numbers graph kept a n has = omega (arith, kept.0.below a n has, kept.2)

no_edge_in : (graph : Graph) → graph ≡ [] → (i j : ℕ) → HasEdge graph i j → ⊥
no_edge_in graph none i j h = let size : length graph ≡ 0 = ap length none in absurd (omega (arith, size, has_row graph i j h))

len_none : (numbers : Cardinalities) → numbers ≡ empty → len numbers ≡ 0
unfolding len empty
len_none numbers none = ap finmap.len none ∙ finmap.len-empty cardinality_cmp (Unit {0})

pub numbered_none : (numbers : Cardinalities) (graph : Graph) → numbers ≡ empty → graph ≡ [] → IsKept numbers graph
numbered_none numbers graph none nothing =
    let size : length graph ≡ 0 = ap length nothing in (
      record {
        one = λ a i j p q. absurd (none_in numbers none (a, i) p);
        apart = λ a b i p q. absurd (none_in numbers none (a, i) p);
        below = λ a i p. absurd (none_in numbers none (a, i) p);
      },
      (λ i j e. absurd (no_edge_in graph nothing i j e)),
      omega (arith, len_none numbers none, size),
      omega (arith, size),
    )

pub no_edge_named : (numbers : Cardinalities) (graph : Graph) → graph ≡ [] → (a b : Bytes) → NamedEdge numbers graph a b → ⊥
no_edge_named numbers graph nothing a b e = no_edge_in graph nothing e.0 e.1 e.4

module _ (numbers more : Cardinalities) (name : Bytes) (n : ℕ) (good : IsNumbering numbers) (none : (k : ℕ) → HasNumber numbers name k → ⊥)
    (next : n ≡ len numbers) (is : more ≡ insert numbers (name, n)) where
  number_cases : (a : Bytes) (i : ℕ) → HasNumber more a i → ((a ≡ name) × (i ≡ n)) ⊎ HasNumber numbers a i
  number_cases a i has = elim ((contains-insert-Decides cardinality_total cardinality_exact numbers (name, n) (a, i)).0 (subst (λ (s : Cardinalities). HasNumber s a i) is has)) [
    | inl same ↦ inl (ap (λ (e : Cardinality). e.0) same, ap (λ (e : Cardinality). e.1) same)
    | inr old ↦ inr old
  ]

  pub number_stays : (a : Bytes) (i : ℕ) → HasNumber numbers a i → HasNumber more a i
  number_stays a i has = subst (λ (s : Cardinalities). HasNumber s a i) (sym is) ((contains-insert-Decides cardinality_total cardinality_exact numbers (name, n) (a, i)).1 (inr has))

  pub number_given : HasNumber more name n
  number_given = subst (λ (s : Cardinalities). HasNumber s name n) (sym is) ((contains-insert-Decides cardinality_total cardinality_exact numbers (name, n) (name, n)).1 (inl refl))

  name_new : contains numbers (name, n) ≡ false
  name_new = false_from_ne_true (contains numbers (name, n)) (λ h. none n h)

  pub len_more : len more ≡ len numbers + 1
  unfolding len insert contains
  len_more = ap finmap.len is ∙ finmap.len-insert cardinality_total numbers (name, n) tt ∙ ap (λ b. cond b (finmap.len numbers) (finmap.len numbers + 1)) name_new

  one_more : (a : Bytes) (i j : ℕ) → HasNumber more a i → HasNumber more a j → i ≡ j
  one_more a i j p q = elim (number_cases a i p) [
    | inl new ↦ elim (number_cases a j q) [
      | inl new' ↦ new.1 ∙ sym new'.1
      | inr old ↦ absurd (none j (subst (λ (x : Bytes). HasNumber numbers x j) new.0 old))
    ]
    | inr old ↦ elim (number_cases a j q) [
      | inl new ↦ absurd (none i (subst (λ (x : Bytes). HasNumber numbers x i) new.0 old))
      | inr old' ↦ good.one a i j old old'
    ]
  ]

  apart_more : (a b : Bytes) (i : ℕ) → HasNumber more a i → HasNumber more b i → a ≡ b
  apart_more a b i p q = elim (number_cases a i p) [
    | inl new ↦ elim (number_cases b i q) [
      | inl new' ↦ new.0 ∙ sym new'.0
      | inr old ↦ absurd (omega (arith, good.below b i old, new.1, next))
    ]
    | inr old ↦ elim (number_cases b i q) [
      | inl new ↦ absurd (omega (arith, good.below a i old, new.1, next))
      | inr old' ↦ good.apart a b i old old'
    ]
  ]

  below_more : (a : Bytes) (i : ℕ) → HasNumber more a i → i < len more
  below_more a i p = elim (number_cases a i p) [
    | inl new ↦ omega (arith, new.1, next, len_more)
    | inr old ↦ omega (arith, good.below a i old, len_more)
  ]

  pub numbering_more : IsNumbering more
  numbering_more = record { one = one_more; apart = apart_more; below = below_more }

  -- the edges are named as before
  pub named_more : (graph : Graph) → AreNumbered numbers graph → AreNumbered more graph
  named_more graph named i j e = let ends = named i j e in (ends.0, ends.1, number_stays ends.0 i ends.2, number_stays ends.1 j ends.3)

  pub numbered_more : (graph : Graph) → IsKept numbers graph → len numbers < length graph → IsKept more graph
  numbered_more graph old room = (numbering_more, named_more graph old.1, omega (arith, len_more, room), old.3)

-- ---- a copy

module _ (numbers numbers' : Cardinalities) (graph graph' : Graph) (same : numbers' ≡ numbers) (edges : (i j : ℕ) → has_edge graph' i j ≡ has_edge graph i j) where
  pub copy_kept : length graph' ≡ length graph → IsKept numbers graph → IsKept numbers' graph'
  copy_kept size kept = subst (λ (s : Cardinalities). IsKept s graph') (sym same) (
    kept.0,
    λ i j e. kept.1 i j (sym (edges i j) ∙ e),
    omega (arith, kept.2, size),
    omega (arith, kept.3, size),
  )

  pub copy_named : (a b : Bytes) → NamedEdge numbers' graph' a b ↔ NamedEdge numbers graph a b
  copy_named a b = subst (λ (s : Cardinalities). NamedEdge s graph' a b ↔ NamedEdge numbers graph a b) (sym same) (
    λ e. (e.0, e.1, e.2, e.3, sym (edges e.0 e.1) ∙ e.4),
    λ e. (e.0, e.1, e.2, e.3, edges e.0 e.1 ∙ e.4),
  )

-- ---- the edges between names

-- more numbers name no more edges
pub same_named : (numbers more : Cardinalities) (graph : Graph) → IsNumbering more → ((a : Bytes) (n : ℕ) → HasNumber numbers a n → HasNumber more a n) → AreNumbered numbers graph
    → (a b : Bytes) → NamedEdge more graph a b ↔ NamedEdge numbers graph a b
same_named numbers more graph good stays named a b = (
  λ e.
      let ends = named e.0 e.1 e.4 in (
        e.0,
        e.1,
        subst (λ (x : Bytes). HasNumber numbers x e.0) (good.apart ends.0 a e.0 (stays ends.0 e.0 ends.2) e.2) ends.2,
        subst (λ (x : Bytes). HasNumber numbers x e.1) (good.apart ends.1 b e.1 (stays ends.1 e.1 ends.3) e.3) ends.3,
        e.4,
      ),
  λ e. (e.0, e.1, stays a e.0 e.2, stays b e.1 e.3, e.4),
)

module _ (numbers : Cardinalities) (graph graph' : Graph) (asc desc : Bytes) (i j : ℕ) (good : IsNumbering numbers) (from : HasNumber numbers asc i) (to : HasNumber numbers desc j) where
  -- one edge more between numbers is one more between their names
  pub named_added : ((x y : ℕ) → HasEdge graph' x y ↔ (HasEdge graph x y ⊎ ((x ≡ i) × (y ≡ j)))) → (a b : Bytes) → NamedEdge numbers graph' a b ↔ (NamedEdge numbers graph a b ⊎ ((a ≡ asc) × (b ≡ desc)))
  named_added added a b = (
    λ e. elim ((added e.0 e.1).0 e.4) [
      | inl old ↦ inl (e.0, e.1, e.2, e.3, old)
      | inr new ↦ inr (
        good.apart a asc i (subst (λ (n : ℕ). HasNumber numbers a n) new.0 e.2) from,
        good.apart b desc j (subst (λ (n : ℕ). HasNumber numbers b n) new.1 e.3) to,
      )
    ],
    λ s. elim s [
      | inl e ↦ (e.0, e.1, e.2, e.3, (added e.0 e.1).1 (inl e.4))
      | inr at ↦ (i, j, subst (λ (x : Bytes). HasNumber numbers x i) (sym at.0) from, subst (λ (x : Bytes). HasNumber numbers x j) (sym at.1) to, (added i j).1 (inr (refl, refl)))
    ],
  )

  pub still_named : ((x y : ℕ) → HasEdge graph' x y ↔ (HasEdge graph x y ⊎ ((x ≡ i) × (y ≡ j)))) → AreNumbered numbers graph → AreNumbered numbers graph'
  still_named added named x y e = elim ((added x y).0 e) [
    | inl old ↦ named x y old
    | inr new ↦ (asc, desc, subst (λ (n : ℕ). HasNumber numbers asc n) (sym new.0) from, subst (λ (n : ℕ). HasNumber numbers desc n) (sym new.1) to)
  ]

  -- one edge less between numbers is one less between their names
  pub named_removed : ((x y : ℕ) → HasEdge graph' x y ↔ (HasEdge graph x y × ((x ≡ i) × (y ≡ j) → ⊥))) → (a b : Bytes) → NamedEdge numbers graph' a b ↔ (NamedEdge numbers graph a b × ((a ≡ asc) × (b ≡ desc) → ⊥))
  named_removed removed a b = (
    λ e.
        let old = (removed e.0 e.1).0 e.4 in (
          (e.0, e.1, e.2, e.3, old.0),
          λ at. old.1 (
            good.one asc e.0 i (subst (λ (x : Bytes). HasNumber numbers x e.0) at.0 e.2) from,
            good.one desc e.1 j (subst (λ (x : Bytes). HasNumber numbers x e.1) at.1 e.3) to,
          ),
        ),
    λ p.
        let e = p.0 in (
          e.0,
          e.1,
          e.2,
          e.3,
          (removed e.0 e.1).1 (
            e.4,
            λ at. p.1 (
              good.apart a asc i (subst (λ (n : ℕ). HasNumber numbers a n) at.0 e.2) from,
              good.apart b desc j (subst (λ (n : ℕ). HasNumber numbers b n) at.1 e.3) to,
            ),
          ),
        ),
  )

-- fewer edges are named
pub named_fewer : (numbers : Cardinalities) (graph graph' : Graph) → ((x y : ℕ) → HasEdge graph' x y → HasEdge graph x y) → AreNumbered numbers graph → AreNumbered numbers graph'
named_fewer numbers graph graph' fewer named x y e = named x y (fewer x y e)

-- ---- the edges of a set

-- the numbers lead as the set's edges do
pub AreEdgesOf-lead : (numbered : NumberedEdges) (edges : Pairs) → AreEdgesOf numbered edges → (a b : Bytes) → Leads (HasNamedEdge numbered) a b ↔ Geq edges a b
AreEdgesOf-lead numbered edges are a b = (
  λ l. Leads-mono (HasNamedEdge numbered) (HasPair edges) (λ x y e. (are x y).0 e) l,
  λ l. Leads-mono (HasPair edges) (HasNamedEdge numbered) (λ x y h. (are x y).1 h) l,
)

-- and have a cycle exactly if those have one
pub AreEdgesOf-acyclic : (numbered : NumberedEdges) (edges : Pairs) → AreEdgesOf numbered edges → NoWayBack (HasNamedEdge numbered) → IsAcyclic edges
AreEdgesOf-acyclic numbered edges are none = IsAcyclic-from_steps edges (λ a b h way. none a b ((are a b).1 h) ((AreEdgesOf-lead numbered edges are b a).1 way))

-- pairs are their closure exactly if they are that of the set's edges
pub AreEdgesOf-closure : (numbered : NumberedEdges) (edges pairs : Pairs) → AreEdgesOf numbered edges
    → ((a b : Bytes) → HasPair pairs a b ↔ ((a ≢ b) × Leads (HasNamedEdge numbered) a b)) ↔ IsClosure edges pairs
AreEdgesOf-closure numbered edges pairs are = (
  λ is a b. (let lead = AreEdgesOf-lead numbered edges are a b in (
    λ h. (let k = (is a b).0 h in (k.0, lead.0 k.1)),
    λ k. (is a b).1 (k.0, lead.1 k.1),
  )),
  λ closed a b. (let lead = AreEdgesOf-lead numbered edges are a b in (
    λ h. (let k = (closed a b).0 h in (k.0, lead.1 k.1)),
    λ k. (closed a b).1 (k.0, lead.0 k.1),
  )),
)

-- so what says that they lead from one name to another says it of the edges
pub apart_are : (numbered : NumberedEdges) (edges : Pairs) → AreEdgesOf numbered edges → (a b : Bytes) (told : Bool)
    → IsTrue told ↔ ((a ≢ b) × Leads (HasNamedEdge numbered) a b) → IsTrue told ↔ ((a ≢ b) × Geq edges a b)
apart_are numbered edges are a b told is =
    let lead = AreEdgesOf-lead numbered edges are a b in
    (λ t. (let k = is.0 t in (k.0, lead.0 k.1)), λ k. is.1 (k.0, lead.1 k.1))

-- and a test of them tests the order of two names
pub AreEdgesOf-answer : (numbered : NumberedEdges) (edges : Pairs) → AreEdgesOf numbered edges → (a b : Bytes) (told : Bool) → IsTrue told ↔ Leads (HasNamedEdge numbered) a b → told ≡ geq edges a b
AreEdgesOf-answer numbered edges are a b told is =
    let same = AreEdgesOf-lead numbered edges are a b in
    one_answer told (geq edges a b) (λ t. same.0 (is.0 t), λ l. is.1 (same.1 l)) (geq-Decides edges a b)

-- the names of which a number has none, or has one
module _ (numbered : NumberedEdges) (a b : Bytes) where
  -- a name without a number leads to itself alone
  pub lead_same : number_of numbered.numbers a ≡ None → (a ≡ b) ↔ Leads (HasNamedEdge numbered) a b
  lead_same none = (
    λ same. Leads-from_eq same,
    λ way. elim (same_or_other a b) [
      | inl same ↦ same
      | inr other ↦ let begun = begin_number numbered a b (other, way) in absurd (number_of-none numbered.numbers a none begun.0 begun.1)
    ],
  )

  -- one with a number doesn't lead to one without
  pub lead_none : (i : ℕ) → number_of numbered.numbers a ≡ Some i → number_of numbered.numbers b ≡ None → Leads (HasNamedEdge numbered) a b → ⊥
  lead_none i some none way = elim (same_or_other a b) [
    | inl same ↦ number_of-none numbered.numbers b none i (subst (λ (x : Bytes). HasNumber numbered.numbers x i) same (number_of-some numbered.numbers a i some))
    | inr other ↦ let ended = end_number numbered a b (other, way) in number_of-none numbered.numbers b none ended.0 ended.1
  ]

-- so the pairs of some names between which they don't lead are those between which the edges don't
pub missing_are : (numbered : NumberedEdges) (edges : Pairs) (above below : Names) (pairs : Pairs) → AreEdgesOf numbered edges
    → ((x y : Bytes) → HasPair pairs x y ↔ (IsTrue (contains above x) × (IsTrue (contains below y) × (Leads (HasNamedEdge numbered) x y → ⊥))))
    → (x y : Bytes) → HasPair pairs x y ↔ (IsTrue (contains above x) × (IsTrue (contains below y) × (Geq edges x y → ⊥)))
missing_are numbered edges above below pairs are rest x y =
    let lead = AreEdgesOf-lead numbered edges are x y in (
      λ h. (let k = (rest x y).0 h in (k.0, (k.1.0, λ l. k.1.1 (lead.1 l)))),
      λ k. (rest x y).1 (k.0, (k.1.0, λ l. k.1.1 (lead.0 l))),
    )

-- some of the edges of a set have no way back along another one
pub no_numbered_way_back : (numbered : NumberedEdges) (edges : Pairs) → ((a b : Bytes) → HasNamedEdge numbered a b → HasPair edges a b) → IsAcyclic edges → (asc desc : Bytes) → HasPair edges asc desc
    → Leads (HasNamedEdge numbered) desc asc → ⊥
no_numbered_way_back numbered edges within good asc desc edge back = no_way_back edges good asc desc edge (Leads-mono (HasNamedEdge numbered) (HasPair edges) within back)

pub no_own_edge : (edges : Pairs) → IsAcyclic edges → (asc desc : Bytes) → HasPair edges asc desc → asc ≢ desc
no_own_edge edges good asc desc edge same = good.no_loop asc (subst (λ (x : Bytes). HasPair edges asc x) (sym same) edge)

-- without edges
pub AreEdgesOf-none : (numbered : NumberedEdges) (edges : Pairs) → edges ≡ empty → ((a b : Bytes) → HasNamedEdge numbered a b → ⊥) → AreEdgesOf numbered edges
AreEdgesOf-none numbered edges nothing none a b = (λ e. absurd (none a b e), λ h. absurd (none_in edges nothing (a, b) h))

-- of a copy
pub AreEdgesOf-copied : (numbered copy : NumberedEdges) (edges : Pairs) → AreEdgesOf numbered edges → ((a b : Bytes) → HasNamedEdge copy a b ↔ HasNamedEdge numbered a b) → AreEdgesOf copy edges
AreEdgesOf-copied numbered copy edges are same a b = (λ e. (are a b).0 ((same a b).0 e), λ h. (same a b).1 ((are a b).1 h))

-- with the edge that is added
pub AreEdgesOf-added : (numbered new : NumberedEdges) (old edges : Pairs) (asc desc : Bytes) → AreEdgesOf numbered old
    → ((a b : Bytes) → HasNamedEdge new a b ↔ (HasNamedEdge numbered a b ⊎ ((a ≡ asc) × (b ≡ desc)))) → edges ≡ insert old (asc, desc) → AreEdgesOf new edges
AreEdgesOf-added numbered new old edges asc desc are added is a b =
    let both = AddsPair-insert old asc desc a b in (
      λ e. subst (λ (s : Pairs). HasPair s a b) (sym is) (both.1 (elim ((added a b).0 e) [ inl k ↦ inl ((are a b).0 k) | inr at ↦ inr at ])),
      λ h. (added a b).1 (elim (both.0 (subst (λ (s : Pairs). HasPair s a b) is h)) [ inl k ↦ inl ((are a b).1 k) | inr at ↦ inr at ]),
    )

-- without the edge that is removed
pub AreEdgesOf-removed : (numbered new : NumberedEdges) (old edges : Pairs) (asc desc : Bytes) → AreEdgesOf numbered old
    → ((a b : Bytes) → HasNamedEdge new a b ↔ (HasNamedEdge numbered a b × ((a ≡ asc) × (b ≡ desc) → ⊥))) → edges ≡ remove old (asc, desc) → AreEdgesOf new edges
AreEdgesOf-removed numbered new old edges asc desc are removed is a b =
    let both = TakesPair-remove old asc desc a b in (
      λ e. let k = (removed a b).0 e in subst (λ (s : Pairs). HasPair s a b) (sym is) (both.1 ((are a b).0 k.0, k.1)),
      λ h. let k = both.0 (subst (λ (s : Pairs). HasPair s a b) is h) in (removed a b).1 ((are a b).1 k.0, k.1),
    )

-- an edge that a plan adds is between two names, and the edges don't lead back
pub added_apart : (numbered : NumberedEdges) (old : Pairs) (plan : Plan) (asc desc : Bytes) → AreEdgesOf numbered old → plan.adds ≡ true → plan.asc ≡ asc → plan.desc ≡ desc → Fits old plan
    → (asc ≢ desc) × (Leads (HasNamedEdge numbered) desc asc → ⊥)
added_apart numbered old plan asc desc are kind same_asc same_desc fits =
    let is : changed old plan ≡ insert old (asc, desc) = changed-adds old plan asc desc kind same_asc same_desc in
    let good : IsAcyclic (insert old (asc, desc)) = subst IsAcyclic is fits.acyclic in
    let edge : HasPair (insert old (asc, desc)) asc desc = (AddsPair-insert old asc desc asc desc).1 (inr (refl, refl)) in (
      no_own_edge (insert old (asc, desc)) good asc desc edge,
      no_numbered_way_back numbered (insert old (asc, desc)) (λ a b e. (AddsPair-insert old asc desc a b).1 (inl ((are a b).0 e))) good asc desc edge,
    )

-- ---- edges that are numbered one after another

-- the edges so far
abbrev pub AreFirstOf : NumberedEdges → List Pair → ℕ → Type 0
AreFirstOf numbered xs i = (a b : Bytes) → HasNamedEdge numbered a b ↔ Contains (take i xs) (a, b)

pub first_more : (numbered new : NumberedEdges) (xs : List Pair) (i : ℕ) (p : Pair) → i < length xs → p ≡ get_or xs i p → AreFirstOf numbered xs i
    → ((a b : Bytes) → HasNamedEdge new a b ↔ (HasNamedEdge numbered a b ⊎ ((a ≡ p.0) × (b ≡ p.1)))) → AreFirstOf new xs (i + 1)
first_more numbered new xs i p lt is before added a b =
    let both = Contains-take_more xs i p (a, b) lt is in
    let same = pair_parts a b p.0 p.1 in (
      λ e. both.1 (elim ((added a b).0 e) [ inl k ↦ inl ((before a b).0 k) | inr at ↦ inr (same.1 at) ]),
      λ h. (added a b).1 (elim (both.0 h) [ inl k ↦ inl ((before a b).1 k) | inr at ↦ inr (same.0 at) ]),
    )
