-- The order of pairs with one first name.
use Rattle.std.specs.declared.cmp.Ordering.{Ordering}
use Rattle.rbac_sets.specs.Sets.{Pair, name_cmp}

-- byte order by the second name
abbrev pub second_cmp : Pair → Pair → Ordering
second_cmp p q = name_cmp p.1 q.1
