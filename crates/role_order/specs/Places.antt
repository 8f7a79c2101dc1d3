-- The order of names by their places in a list.
use Rattle.std.specs.Prelude.{List, refl}
use Rattle.std.specs.Coded.{Coded, code_by, coded×, coded_list}
use Rattle.rbac_sets.specs.Sets.{Bytes, Pairs, coded_set, coded_name, coded_pair}

-- the edges of an order, and names that have places in a list
pub record Places : Type 0 where
  pub edges : Pairs
  pub names : List Bytes

abbrev pub coded_places : Coded Places
coded_places =
    code_by (Pairs × List Bytes) (coded× (coded_set coded_pair) (coded_list coded_name)) (λ p. (p.edges, p.names)) (λ p. record { edges = p.0; names = p.1 }) (λ _. refl)
