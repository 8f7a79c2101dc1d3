use Rattle.std.proofs.Common.{◌≡◌, ap, sym, ◌∙◌, rules}
use Rattle.std.specs.Option.{option_copied, option_map}
use Rattle.std.specs.Prelude.{find}
use Rattle.std.proofs.lemmas.Iterator.Consumers.{YieldsList-from_first}
use Rattle.std.proofs.lemmas.Iterator.Search.{find_from_yields_List}
use Rattle.rbac_sets.specs.Sets.{Triple}
use Rattle.chunked_sets.specs.Entries.{entries_left}
use Rattle.admin_mgr.specs.Authorization.{is_reached}
use Rattle.explanations.proofs.user_access.served_role.Goals as goal

pub returns-in_err-grant : goal.returns-in_err-grant
returns-in_err-grant c =
    let found : option_map (λ x. x.now) c.find.result ≡ find (λ (grant : Triple). is_reached c.args.order.now.edges c.args.held.now grant.2) c.args.granted.now =
    find_from_yields_List (λ (grant : Triple). is_reached c.args.order.now.edges c.args.held.now grant.2) c.find.new.self _ _ c.find.ensures.ran (YieldsList-from_first (λ x. x.now) entries_left _ c.iter.ensures) (λ x b q k. search rules) in
    ap option_copied c.from_residual.ensures ∙ ap (option_map (λ (grant : Triple). grant.2)) (ap (option_map (λ x. x.now)) (sym c.in_err-grant.was) ∙ found)

pub returns : goal.returns
returns c =
    let found : option_map (λ x. x.now) c.find.result ≡ find (λ (grant : Triple). is_reached c.args.order.now.edges c.args.held.now grant.2) c.args.granted.now =
    find_from_yields_List (λ (grant : Triple). is_reached c.args.order.now.edges c.args.held.now grant.2) c.find.new.self _ _ c.find.ensures.ran (YieldsList-from_first (λ x. x.now) entries_left _ c.iter.ensures) (λ x b q k. search rules) in
    ap (option_map (λ (grant : Triple). grant.2)) (ap (option_map (λ x. x.now)) (sym c.in_ok-grant.was) ∙ found)
