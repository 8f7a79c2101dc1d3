-- How the bits that stand for facts follow a change.
use Rattle.std.proofs.Common.{◌≡◌, ◌≢◌, ℕ, ◌<◌, Bool, false, ◌⊎◌, inl, inr, sym, ◌∙◌, ap, subst}
use Rattle.std.specs.Prelude.{IsTrue, Option, Some, None}
use Rattle.std.proofs.lemmas.Bool.{true≢false, cases_eq, false_from_ne_true}
use Rattle.bit_rows.specs.declared.row.TheConstants.{WIDTH}
use Rattle.rbac_sets.specs.Sets.{Bytes}
use Rattle.access_index.specs.Following.{AreNumbers, Follow}

pub some-is : {A : Type 0} (x y : A) → Some x ≡ Some y → x ≡ y
some-is x y e = cc

pub none-some : {A : Type 0} (x : A) → None ≡ Some x → ⊥
none-some x e = cc

-- names are the same or not
module _ (same_bytes : (a b : Bytes) → (a ≡ b) ⊎ (a ≢ b)) where
  -- ---- a role gets a number

  module _ (number number' : Bytes → Option ℕ) (used used' : ℕ → Bool) (role : Bytes) (n : ℕ) (new : number role ≡ None) (free : used n ≡ false) (within : n < WIDTH)
      (here : number' role ≡ Some n) (others : (other : Bytes) → other ≢ role → number' other ≡ number other)
      (put : IsTrue (used' n)) (kept : (m : ℕ) → m ≢ n → used' m ≡ used m) where
    pub numbers_more : AreNumbers number used → AreNumbers number' used'
    numbers_more are = record {
      within = λ other m is. elim (same_bytes other role) [
        | inl same ↦ subst (λ k. k < WIDTH) (some-is n m (sym here ∙ ap number' (sym same) ∙ is)) within
        | inr differ ↦ are.within other m (sym (others other differ) ∙ is)
      ];
      is_used = λ other m is. elim (same_bytes other role) [
        | inl same ↦ subst (λ k. IsTrue (used' k)) (some-is n m (sym here ∙ ap number' (sym same) ∙ is)) put
        | inr differ ↦ still m (are.is_used other m (sym (others other differ) ∙ is))
      ];
      one_role = λ a b m is_a is_b. elim (same_bytes a role) [
        | inl same_a ↦ elim (same_bytes b role) [
          | inl same_b ↦ same_a ∙ sym same_b
          | inr differ ↦ absurd (not_n b m differ is_b (some-is n m (sym here ∙ ap number' (sym same_a) ∙ is_a)))
        ]
        | inr differ_a ↦ elim (same_bytes b role) [
          | inl same_b ↦ absurd (not_n a m differ_a is_a (some-is n m (sym here ∙ ap number' (sym same_b) ∙ is_b)))
          | inr differ_b ↦ are.one_role a b m (sym (others a differ_a) ∙ is_a) (sym (others b differ_b) ∙ is_b)
        ]
      ];
      has_role = λ m is. elim (cases_eq m n) [
        | inl same ↦ (role, here ∙ ap (λ k. Some k) (sym same))
        | inr differ ↦
            let old = are.has_role m (sym (kept m differ) ∙ is) in
            (old.0, others old.0 (λ same. none-some m (sym new ∙ ap number (sym same) ∙ old.1)) ∙ old.1)
      ];
    }
      where
        still : (m : ℕ) → IsTrue (used m) → IsTrue (used' m)
        still m is = kept m (λ same. true≢false (sym is ∙ ap used same ∙ free)) ∙ is

        not_n : (other : Bytes) (m : ℕ) → other ≢ role → number' other ≡ Some m → n ≡ m → ⊥
        not_n other m differ is same = true≢false (sym (are.is_used other m (sym (others other differ) ∙ is)) ∙ ap used (sym same) ∙ free)

    -- a role without a number has no facts, so no bits have to change
    pub follow_more : {X : Type 0} (bits bits' : X → ℕ → Bool) (fact : X → Bytes → Bool) → ((x : X) (m : ℕ) → bits' x m ≡ bits x m) → Follow X number used bits fact → Follow X number' used' bits' fact
    follow_more {X} bits bits' fact equal follow = record {
      same = λ x other m is. equal x m ∙ elim (same_bytes other role) [
        | inl same ↦
            let at_n : n ≡ m = some-is n m (sym here ∙ ap number' (sym same) ∙ is) in
            ap (bits x) (sym at_n) ∙ follow.unused x n free ∙ sym (ap (fact x) same ∙ no_fact x)
        | inr differ ↦ follow.same x other m (sym (others other differ) ∙ is)
      ];
      unused = λ x m is. equal x m ∙ follow.unused x m (unused_before m is);
      numbered = λ x other is. elim (same_bytes other role) [
        | inl same ↦ (n, ap number' same ∙ here)
        | inr differ ↦ let old = follow.numbered x other is in (old.0, others other differ ∙ old.1)
      ];
    }
      where
        no_fact : (x : X) → fact x role ≡ false
        no_fact x = false_from_ne_true (fact x role) (λ is. let old = follow.numbered x role is in none-some old.0 (sym new ∙ old.1))

        unused_before : (m : ℕ) → used' m ≡ false → used m ≡ false
        unused_before m is = sym (kept m (λ same. true≢false (sym put ∙ ap used' (sym same) ∙ is))) ∙ is

  -- ---- a number is freed

  module _ (number number' : Bytes → Option ℕ) (used used' : ℕ → Bool) (role : Bytes) (n : ℕ) (old : number role ≡ Some n)
      (gone : number' role ≡ None) (others : (other : Bytes) → other ≢ role → number' other ≡ number other)
      (free : used' n ≡ false) (kept : (m : ℕ) → m ≢ n → used' m ≡ used m) where
    before : (other : Bytes) (m : ℕ) → number' other ≡ Some m → (other ≢ role) × (number other ≡ Some m)
    before other m is =
        let differ : other ≢ role = λ same. none-some m (sym gone ∙ ap number' (sym same) ∙ is) in
        (differ, sym (others other differ) ∙ is)

    pub numbers_less : AreNumbers number used → AreNumbers number' used'
    numbers_less are = record {
      within = λ other m is. are.within other m (before other m is).1;
      is_used = λ other m is.
          let was = before other m is in
          kept m (λ same. was.0 (are.one_role other role n (was.1 ∙ ap (λ k. Some k) same) old)) ∙ are.is_used other m was.1;
      one_role = λ a b m is_a is_b. are.one_role a b m (before a m is_a).1 (before b m is_b).1;
      has_role = λ m is.
          let differ : m ≢ n = λ same. true≢false (sym is ∙ ap used' same ∙ free) in
          let was = are.has_role m (sym (kept m differ) ∙ is) in
          (was.0, others was.0 (λ same. differ (some-is m n (sym was.1 ∙ ap number same ∙ old))) ∙ was.1);
    }

    -- the role has no facts
    pub follow_less : {X : Type 0} (bits bits' : X → ℕ → Bool) (fact : X → Bytes → Bool) → ((x : X) (m : ℕ) → bits' x m ≡ bits x m) → ((x : X) → fact x role ≡ false)
        → Follow X number used bits fact → Follow X number' used' bits' fact
    follow_less bits bits' fact equal none follow = record {
      same = λ x other m is. equal x m ∙ follow.same x other m (before other m is).1;
      unused = λ x m is. equal x m ∙ elim (cases_eq m n) [
        | inl same ↦ ap (bits x) same ∙ follow.same x role n old ∙ none x
        | inr differ ↦ follow.unused x m (sym (kept m differ) ∙ is)
      ];
      numbered = λ x other is.
          let was = follow.numbered x other is in
          (was.0, others other (λ same. true≢false (sym is ∙ ap (fact x) same ∙ none x)) ∙ was.1);
    }

  -- ---- one bit changes

  module _ {X : Type 0} (same_x : (x y : X) → (x ≡ y) ⊎ (x ≢ y)) (number : Bytes → Option ℕ) (used : ℕ → Bool) (are : AreNumbers number used)
      (bits bits' : X → ℕ → Bool) (fact fact' : X → Bytes → Bool) (x : X) (role : Bytes) (n : ℕ) (at : number role ≡ Some n)
      (bit_others : (y : X) (m : ℕ) → (y ≡ x → m ≢ n) → bits' y m ≡ bits y m)
      (fact_others : (y : X) (other : Bytes) → (y ≡ x → other ≢ role) → fact' y other ≡ fact y other) where
    -- at another entry or another role
    same_others : Follow X number used bits fact → (y : X) (other : Bytes) (m : ℕ) → number other ≡ Some m → (y ≡ x → other ≢ role) → bits' y m ≡ fact' y other
    same_others follow y other m is differ =
        bit_others y m (λ same_y same_m. differ same_y (are.one_role other role n (is ∙ ap (λ k. Some k) same_m) at))
        ∙ follow.same y other m is ∙ sym (fact_others y other differ)

    unused_others : Follow X number used bits fact → (y : X) (m : ℕ) → used m ≡ false → bits' y m ≡ false
    unused_others follow y m is =
        bit_others y m (λ _ same. true≢false (sym (are.is_used role n at) ∙ ap used (sym same) ∙ is)) ∙ follow.unused y m is

    pub follow_put : IsTrue (bits' x n) → IsTrue (fact' x role) → Follow X number used bits fact → Follow X number used bits' fact'
    follow_put bit_there fact_there follow = record {
      same = λ y other m is. elim (same_bytes other role) [
        | inl same ↦ elim (same_x y x) [
          | inl same_y ↦
              let at_n : m ≡ n = some-is m n (sym is ∙ ap number same ∙ at) in
              (λ i. bits' (same_y i) (at_n i)) ∙ bit_there ∙ sym fact_there ∙ sym (λ i. fact' (same_y i) (same i))
          | inr differ ↦ same_others follow y other m is (λ e. absurd (differ e))
        ]
        | inr differ ↦ same_others follow y other m is (λ _. differ)
      ];
      unused = unused_others follow;
      numbered = λ y other is. elim (same_bytes other role) [
        | inl same ↦ (n, ap number same ∙ at)
        | inr differ ↦ follow.numbered y other (sym (fact_others y other (λ _. differ)) ∙ is)
      ];
    }

    pub follow_take : bits' x n ≡ false → fact' x role ≡ false → Follow X number used bits fact → Follow X number used bits' fact'
    follow_take bit_gone fact_gone follow = record {
      same = λ y other m is. elim (same_bytes other role) [
        | inl same ↦ elim (same_x y x) [
          | inl same_y ↦
              let at_n : m ≡ n = some-is m n (sym is ∙ ap number same ∙ at) in
              (λ i. bits' (same_y i) (at_n i)) ∙ bit_gone ∙ sym fact_gone ∙ sym (λ i. fact' (same_y i) (same i))
          | inr differ ↦ same_others follow y other m is (λ e. absurd (differ e))
        ]
        | inr differ ↦ same_others follow y other m is (λ _. differ)
      ];
      unused = unused_others follow;
      numbered = λ y other is. elim (same_bytes other role) [
        | inl same ↦ (n, ap number same ∙ at)
        | inr differ ↦ follow.numbered y other (sym (fact_others y other (λ _. differ)) ∙ is)
      ];
    }
