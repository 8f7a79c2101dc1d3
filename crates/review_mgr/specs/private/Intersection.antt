-- Roles that are both in a run of pairs and among the grants of a permission.
use Rattle.std.specs.Prelude.{Bool, true, List, get_or}
use Rattle.std.specs.List.{list_any}
use Rattle.std.specs.declared.cmp.Ordering.{Ordering}
use Rattle.rbac_sets.specs.Name.{fingerprint}
use Rattle.rbac_sets.specs.Sets.{Bytes, Pair, Triple, name_cmp, same_name}

-- byte order by the third name
abbrev pub third_cmp : Triple → Triple → Ordering
third_cmp p q = name_cmp p.2 q.2

-- whether the third name of one of the grants is the second name of one of the pairs
abbrev pub meets : List Pair → List Triple → Bool
meets pairs grants = list_any (λ (grant : Triple). list_any (λ (pair : Pair). same_name grant.2 pair.1) pairs) grants

-- whether a role may be one of those whose fingerprints are flagged: it isn't if the flag of its own fingerprint is false
abbrev pub may_have : List Bool → Bytes → Bool
may_have flags role = get_or flags (fingerprint role) true
