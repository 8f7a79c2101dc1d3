use Rattle.std.proofs.Common.{◌≡◌, nat_le, rules, ap, ◌∙◌}
use Rattle.std.proofs.lemmas.Iterator.Consumers.{YieldsList-from_first}
use Rattle.std.proofs.lemmas.Iterator.Search.{all_from_yields_List}
use Rattle.rbac_sets.specs.Sets.{Pair, Pairs, all, len, pair_cmp, seconds}
use Rattle.rbac_sets.specs.SortedSet.{set_of}
use Rattle.chunked_sets.specs.Entries.{entries_left}
use Rattle.admin_mgr.specs.StoredSets.{StoredSets}
use Rattle.admin_mgr.proofs.relations.gathered.StoredSets.have_one_user.Goals as goal

pub returns : goal.returns
unfolding all
returns c =
    let sessions : Pairs = set_of pair_cmp c.self.inside.large.sessions in
    let same : sessions ≡ c.args.self.now.facts.sessions = ap (λ (sets : StoredSets). sets.facts.sessions) c.self.view_is in
    all_from_yields_List (λ (session : Pair). nat_le (len (seconds sessions session.0)) 1) c.all.new.self _ _ c.all.ensures.ran
    (YieldsList-from_first (λ x. x.now) entries_left _ c.iter.ensures) (λ x b q k. search rules)
    ∙ ap (λ (s : Pairs). all (λ (session : Pair). nat_le (len (seconds s session.0)) 1) s) same
