use Rattle.std.proofs.Common.{◌≡◌, ◌∙◌, ap, map, refl, subst, true, Bor, List, ℕ}
use Rattle.std.proofs.lemmas.Result.{IfErr-weaker}
use Rattle.clap.specs.Words.{App, FailsBy, fault_of, is_simple_and_free, takes}
use Rattle.role_cli.proofs.Getters.{kind_at_err, none_at_ok}
use Rattle.role_cli.proofs.choice.matches.Goals as goal

pub returns-clause-none : goal.returns-clause-none
returns-clause-none c =
    let words = map (λ (s : Bor (List ℕ)). s.now) c.args.words.now in
    let kinds = subst (λ (a : App). is_simple_and_free a ≡ true → FailsBy (fault_of a words) c.try_get_matches_from.result) c.in_ok-command.ensures c.try_get_matches_from.ensures.kinds in
    none_at_ok _ c.try_get_matches_from.result (kinds refl)

pub returns-clause-kind : goal.returns-clause-kind
returns-clause-kind c =
    let words = map (λ (s : Bor (List ℕ)). s.now) c.args.words.now in
    let kinds = subst (λ (a : App). is_simple_and_free a ≡ true → FailsBy (fault_of a words) c.try_get_matches_from.result) c.in_ok-command.ensures c.try_get_matches_from.ensures.kinds in
    kind_at_err _ c.try_get_matches_from.result (kinds refl)

pub returns-clause-err : goal.returns-clause-err
returns-clause-err c =
    IfErr-weaker c.try_get_matches_from.result _ _ (λ e h t. h (ap (λ (a : App). takes a (map (λ (s : Bor (List ℕ)). s.now) c.args.words.now)) c.in_ok-command.ensures ∙ t)) c.try_get_matches_from.ensures.passes
