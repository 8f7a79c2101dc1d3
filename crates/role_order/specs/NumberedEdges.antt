-- Edges by the numbers of their names: the value of what an order keeps beside its pairs.
use Rattle.std.specs.Prelude.{ℕ, refl}
use Rattle.std.specs.Coded.{Coded, code_by, coded×, coded_list, coded_ℕ}
use Rattle.rbac_sets.specs.Sets.{Cardinalities, coded_set, coded_cardinality}
use Rattle.reach_bits.specs.Graph.{Graph}

-- the numbers of names, the edges between these numbers, and how many more names can be numbered without allocation
pub record NumberedEdges : Type 0 where
  pub numbers : Cardinalities
  pub graph : Graph
  pub room : ℕ

abbrev pub coded_edges : Coded NumberedEdges
coded_edges =
    code_by (Cardinalities × (Graph × ℕ)) (coded× (coded_set coded_cardinality) (coded× (coded_list (coded_list coded_ℕ)) coded_ℕ))
    (λ e. (e.numbers, (e.graph, e.room))) (λ p. record { numbers = p.0; graph = p.1.0; room = p.1.1 }) (λ _. refl)
