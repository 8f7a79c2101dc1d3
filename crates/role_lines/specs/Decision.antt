-- The access decision for names that are given as bytes.
use Rattle.std.specs.Prelude.{◌≡◌, ◌⊎◌, Bool, true, ℕ, List, Some, None}
use Rattle.std.specs.Str.{IsUtf8}
use Rattle.rbac_sets.specs.Name.{is_name}
use Rattle.rbac_sets.specs.declared.refusal.Refusal.{Refusal}
use Rattle.rbac_sets.specs.declared.refusal.Refusal.TheVariants.{BadName}
use Rattle.admin_mgr.specs.Authorization.{has_access}
use Rattle.admin_mgr.specs.RbacState.{RbacState}
use Rattle.admin_mgr.specs.UserAccess.{could_have_access}
use Rattle.review_mgr.specs.Questions.{refused, user_refused}
use Rattle.review_mgr.specs.declared.query.Query.TheVariants.{CheckAccess}

-- the bytes are the text of a name
abbrev pub IsNameText : List ℕ → Type 0
IsNameText bytes = IsUtf8 bytes × (is_name bytes ≡ true)

-- the three are the texts of names
abbrev pub AreNameTexts : (session operation object : List ℕ) → Type 0
AreNameTexts session operation object = IsNameText session × IsNameText operation × IsNameText object

module _ (S : RbacState) (session operation object : List ℕ) where
  -- the question isn't refused, and this is its answer
  pub record Decides (access : Bool) : Type 0 where
    pub unrefused : refused S (CheckAccess session operation object) ≡ None
    pub access_is : access ≡ has_access S session operation object

  -- There is no decision. If one of the three isn't a name, that is the refusal; if they are, it is that of the question.
  abbrev pub Refuses : Refusal → Type 0
  Refuses refusal =
      ((refusal ≡ BadName) × ¬ (AreNameTexts session operation object))
      ⊎ (AreNameTexts session operation object × (refused S (CheckAccess session operation object) ≡ Some refusal))

module _ (S : RbacState) (user operation object : List ℕ) where
  -- the decision about the user isn't refused, and this is its answer
  pub record DecidesUser (access : Bool) : Type 0 where
    pub unrefused : user_refused S user operation object ≡ None
    pub access_is : access ≡ could_have_access S user operation object

  -- There is no decision about the user. If one of the three isn't a name, that is the refusal; if they are, it is that of the decision.
  abbrev pub RefusesUser : Refusal → Type 0
  RefusesUser refusal =
      ((refusal ≡ BadName) × ¬ (AreNameTexts user operation object))
      ⊎ (AreNameTexts user operation object × (user_refused S user operation object ≡ Some refusal))
