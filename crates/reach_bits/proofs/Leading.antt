-- What the steps of a relation lead to, and what one step more or less changes.
use Rattle.std.proofs.Common.{◌≡◌, ◌≢◌, ◌↔◌, ◌⊎◌, ℕ, inl, inr, refl, sym, ◌∙◌, subst}
use Rattle.reach_bits.specs.Graph.{Leads, once, step}

abbrev pub Relation : Type 1
Relation = ℕ → ℕ → Type 0

pub Leads-trans : (E : Relation) {a b c : ℕ} → Leads E a b → Leads E b c → Leads E a c
Leads-trans E (once e) more = step e more
Leads-trans E (step e k) more = step e (Leads-trans E k more)

pub Leads-mono : (E F : Relation) → ((a b : ℕ) → E a b → F a b) → {a b : ℕ} → Leads E a b → Leads F a b
Leads-mono E F all (once e) = once (all _ _ e)
Leads-mono E F all (step e k) = step (all _ _ e) (Leads-mono E F all k)

-- the first step
pub first_step : (E : Relation) {a b : ℕ} → Leads E a b → (k : ℕ) × E a k × ((b ≡ k) ⊎ Leads E k b)
first_step E {a} {b} (once e) = (b, e, inl refl)
first_step E (step {b = k} e rest) = (k, e, inr rest)

pub from_step : (E : Relation) (a b k : ℕ) → E a k → (b ≡ k) ⊎ Leads E k b → Leads E a b
from_step E a b k e rest = elim rest [ inl same ↦ once (subst (λ (x : ℕ). E a x) (sym same) e) | inr more ↦ step e more ]

-- the pairs of C are those that the steps of E lead between, and none is of a number and itself
pub record AreLed (E C : Relation) : Type 0 where
  pub right : (a b : ℕ) → C a b ↔ Leads E a b
  pub acyclic : (a : ℕ) → C a a → ⊥

pub led_trans : (E C : Relation) → AreLed E C → (a b c : ℕ) → C a b → C b c → C a c
led_trans E C led a b c p q = (led.right a c).1 (Leads-trans E ((led.right a b).0 p) ((led.right b c).0 q))

-- ---- one step more

module _ (E C F D : Relation) (a b : ℕ) (led : AreLed E C) (apart : a ≢ b) (no_way : C b a → ⊥)
    (steps : (x y : ℕ) → F x y ↔ (E x y ⊎ ((x ≡ a) × (y ≡ b)))) (pairs : (x y : ℕ) → D x y ↔ (C x y ⊎ (((x ≡ a) ⊎ C x a) × ((y ≡ b) ⊎ C b y)))) where
  -- an old step to a, or to what leads to it, leads to a
  to_a : (x z : ℕ) → E x z → (z ≡ a) ⊎ C z a → C x a
  to_a x z e rest = elim rest [
    | inl same ↦ (led.right x a).1 (once (subst (λ (k : ℕ). E x k) same e))
    | inr c ↦ (led.right x a).1 (step e ((led.right z a).0 c))
  ]

  step_in : (x y : ℕ) → F x y → D x y
  step_in x y f = elim ((steps x y).0 f) [
    | inl e ↦ (pairs x y).1 (inl ((led.right x y).1 (once e)))
    | inr new ↦ (pairs x y).1 (inr (inl new.0, inl new.1))
  ]

  back_to_a : {X : Type 0} (z : ℕ) → z ≡ b → (z ≡ a) ⊎ C z a → X
  back_to_a z at rest = elim rest [
    | inl same ↦ absurd (apart (sym same ∙ at))
    | inr c ↦ absurd (no_way (subst (λ (k : ℕ). C k a) at c))
  ]

  step_on : (x z y : ℕ) → F x z → D z y → D x y
  step_on x z y f d = elim ((steps x z).0 f) [
    | inl e ↦ elim ((pairs z y).0 d) [
      | inl c ↦ (pairs x y).1 (inl ((led.right x y).1 (step e ((led.right z y).0 c))))
      | inr through ↦ (pairs x y).1 (inr (inr (to_a x z e through.0), through.1))
    ]
    | inr new ↦ elim ((pairs z y).0 d) [
      | inl c ↦ (pairs x y).1 (inr (inl new.0, inr (subst (λ (k : ℕ). C k y) new.1 c)))
      | inr through ↦ back_to_a z new.1 through.0
    ]
  ]

  led_in : {x y : ℕ} → Leads F x y → D x y
  led_in (once f) = step_in _ _ f
  led_in (step f rest) = step_on _ _ _ f (led_in rest)

  new_step : F a b
  new_step = (steps a b).1 (inr (refl, refl))

  old_way : (x y : ℕ) → C x y → Leads F x y
  old_way x y c = Leads-mono E F (λ k l e. (steps k l).1 (inl e)) ((led.right x y).0 c)

  from_a : (y : ℕ) → (y ≡ b) ⊎ C b y → Leads F a y
  from_a y rest = elim rest [
    | inl same ↦ once (subst (λ (k : ℕ). F a k) (sym same) new_step)
    | inr c ↦ step new_step (old_way b y c)
  ]

  led_out : (x y : ℕ) → D x y → Leads F x y
  led_out x y d = elim ((pairs x y).0 d) [
    | inl c ↦ old_way x y c
    | inr through ↦ elim through.0 [
      | inl same ↦ subst (λ (k : ℕ). Leads F k y) (sym same) (from_a y through.1)
      | inr c ↦ Leads-trans F (old_way x a c) (from_a y through.1)
    ]
  ]

  no_cycle : (x : ℕ) → D x x → ⊥
  no_cycle x d = elim ((pairs x x).0 d) [
    | inl c ↦ led.acyclic x c
    | inr through ↦ elim through.1 [
      | inl at ↦ back_to_a x at through.0
      | inr c ↦ elim through.0 [
        | inl same ↦ no_way (subst (λ (k : ℕ). C b k) same c)
        | inr d' ↦ no_way (led_trans E C led b x a c d')
      ]
    ]
  ]

  pub led_more : AreLed F D
  led_more = record { right = λ x y. (led_out x y, λ l. led_in l); acyclic = no_cycle }

-- ---- one step less

-- what doesn't lead to a and isn't a leads to the same without a step from a
module _ (E C F : Relation) (a b : ℕ) (led : AreLed E C) (steps : (x y : ℕ) → F x y ↔ (E x y × ((x ≡ a) × (y ≡ b) → ⊥))) where
  still_leads : {x y : ℕ} → Leads E x y → x ≢ a → (C x a → ⊥) → Leads F x y
  still_leads {x} {y} (once e) other apart = once ((steps x y).1 (e, λ removed. other removed.0))
  still_leads {x} {y} (step {b = z} e rest) other apart =
      step ((steps x z).1 (e, λ removed. other removed.0))
      (still_leads rest (λ same. apart ((led.right x a).1 (once (subst (λ (k : ℕ). E x k) same e)))) (λ c. apart ((led.right x a).1 (step e ((led.right z a).0 c)))))

  pub led_less : (x y : ℕ) → x ≢ a → (C x a → ⊥) → C x y ↔ Leads F x y
  led_less x y other apart = (
    λ c. still_leads ((led.right x y).0 c) other apart,
    λ l. (led.right x y).1 (Leads-mono F E (λ k m f. ((steps k m).0 f).0) l),
  )
