-- Lines that were answered one after the other.
use Rattle.std.proofs.Common.{◌≡◌, ℕ, not, List, [], ◌∷◌, ◌++◌, refl, sym, ap, subst, ◌∙◌, append_assoc}
use Rattle.std.proofs.lemmas.List.Elements.{filter-append}
use Rattle.role_wire.specs.Lines.{is_blank, asking, with_line_feeds, line_feed}
use Rattle.role_wire.specs.Replay.{AreAnswered}

pub asking-append : (xs ys : List (List ℕ)) → asking (xs ++ ys) ≡ asking xs ++ asking ys
unfolding asking
asking-append xs ys = filter-append (λ line. not (is_blank line)) xs ys

pub with_line_feeds-append : (xs ys : List (List ℕ)) → with_line_feeds (xs ++ ys) ≡ with_line_feeds xs ++ with_line_feeds ys
unfolding with_line_feeds
with_line_feeds-append [] ys = refl
with_line_feeds-append (x ∷ xs) ys = ap (λ l. (x ++ line_feed ∷ []) ++ l) (with_line_feeds-append xs ys) ∙ sym (append_assoc (x ++ line_feed ∷ []) (with_line_feeds xs) (with_line_feeds ys))

module _ {S : Type 0} (answers : S → List ℕ → List ℕ → S → Type 0) where
  pub AreAnswered-none : (old new : S) → old ≡ new → AreAnswered answers old (asking []) [] new
  unfolding AreAnswered asking
  AreAnswered-none old new same = same

  pub AreAnswered-append : (old between new : S) (xs ys texts more : List (List ℕ)) → AreAnswered answers old xs texts between → AreAnswered answers between ys more new → AreAnswered answers old (xs ++ ys) (texts ++ more) new
  unfolding AreAnswered
  AreAnswered-append old between new [] ys [] more first later = subst (λ s. AreAnswered answers s ys more new) (sym first) later
  AreAnswered-append old between new [] ys (text ∷ texts) more first later = absurd first
  AreAnswered-append old between new (x ∷ xs) ys [] more first later = absurd first
  AreAnswered-append old between new (x ∷ xs) ys (text ∷ texts) more first later = (first.0, first.1, AreAnswered-append first.0 between new xs ys texts more first.2 later)
