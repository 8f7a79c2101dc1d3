-- The sets that the fields of `StoredSets` hold.
use Rattle.rbac_sets.specs.Sets.{pair_cmp, triple_cmp}
use Rattle.rbac_sets.specs.SortedSet.{set_of}
use Rattle.admin_mgr.specs.RowUpdates.{with_edges}
use Rattle.admin_mgr.specs.StoredSets.{StoredSets}
use Rattle.admin_mgr.specs.declared.relations.gathered.StoredSets.TheInside.{Inside}

abbrev pub stored_sets_of : Inside → StoredSets
stored_sets_of a = record {
  facts = with_edges (record a.relations.facts {
    assignments = set_of pair_cmp a.large.assignments;
    grants = set_of triple_cmp a.large.grants;
    sessions = set_of pair_cmp a.large.sessions;
  }) (set_of pair_cmp a.edges);
  pairs = set_of pair_cmp a.pairs;
}
