-- A state with the room that each of its sets has.
use Rattle.std.specs.Prelude.{refl, ℕ, List}
use Rattle.std.specs.Coded.{Coded, coded_ℕ, coded_list, coded×, code_by}
use Rattle.rbac_sets.specs.Sets.{pair_cmp, cardinality_cmp, Pair, Cardinality}
use Rattle.rbac_sets.specs.SortedSet.{Stored, set_of}
use Rattle.admin_mgr.specs.RbacState.{RbacState, Separation, coded_state}

-- The state, and for how many more entries each set has room without an allocation: by the number of its table, and for the role
-- hierarchy by its edges and its closure pairs.
pub record StateWithRoom : Type 0 where
  pub facts : RbacState
  pub room : List (ℕ × ℕ)
  pub edge_room : ℕ
  pub pair_room : ℕ

abbrev pub coded_state_with_room : Coded StateWithRoom
coded_state_with_room =
    code_by (RbacState × (List (ℕ × ℕ) × (ℕ × ℕ))) (coded× coded_state (coded× (coded_list (coded× coded_ℕ coded_ℕ)) (coded× coded_ℕ coded_ℕ)))
    (λ k. (k.facts, (k.room, (k.edge_room, k.pair_room))))
    (λ p. record { facts = p.0; room = p.1.0; edge_room = p.1.1.0; pair_room = p.1.1.1 }) (λ _. refl)

-- the separation of duty sets with these members and cardinalities
abbrev pub separation_of : Stored Pair → Stored Cardinality → Separation
separation_of members cardinalities = record { members = set_of pair_cmp members; cardinalities = set_of cardinality_cmp cardinalities }
