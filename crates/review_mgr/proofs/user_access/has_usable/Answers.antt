use Rattle.std.proofs.Common.{◌&&◌, rules}
use Rattle.std.proofs.lemmas.Iterator.Consumers.{YieldsList-from_first}
use Rattle.std.proofs.lemmas.Iterator.Search.{any_from_yields_List}
use Rattle.rbac_sets.specs.Sets.{Triple}
use Rattle.chunked_sets.specs.Entries.{entries_left}
use Rattle.admin_mgr.specs.UserAccess.{stands_alone}
use Rattle.admin_mgr.specs.private.HolderRoles.{is_reached}
use Rattle.review_mgr.proofs.user_access.has_usable.Goals as goal

pub returns : goal.returns
returns c = any_from_yields_List (λ (grant : Triple). is_reached c.args.state.now.facts.edges c.args.held.now grant.2 && stands_alone c.args.state.now.facts grant.2) c.any.new.self _ _ c.any.ensures.ran (YieldsList-from_first (λ x. x.now) entries_left _ c.iter.ensures) (λ x b q k. search rules)
