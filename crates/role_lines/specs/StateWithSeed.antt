-- A state with the room of its sets, and with the secret of its index.
use Rattle.std.specs.Prelude.{refl, ℕ, List}
use Rattle.std.specs.Coded.{Coded, coded×, code_by}
use Rattle.admin_mgr.specs.RbacState.{RbacState}
use Rattle.admin_mgr.specs.StateWithRoom.{StateWithRoom, coded_state_with_room}
use Rattle.bit_tables.specs.contracts.seed.Seed.{the_row}
use Rattle.bit_tables.specs.declared.seed.Seed.{Seed}

-- the state, the room that each of its sets has, and the secret by which its index finds names
pub record StateWithSeed : Type 0 where
  pub facts : RbacState
  pub room : List (ℕ × ℕ)
  pub edge_room : ℕ
  pub pair_room : ℕ
  pub seed : Seed

-- the state with its room alone
abbrev pub without_seed : StateWithSeed → StateWithRoom
without_seed state = record { facts = state.facts; room = state.room; edge_room = state.edge_room; pair_room = state.pair_room }

abbrev pub with_seed : StateWithRoom → Seed → StateWithSeed
with_seed kept seed = record { facts = kept.facts; room = kept.room; edge_room = kept.edge_room; pair_room = kept.pair_room; seed = seed }

abbrev pub coded_state_with_seed : Coded StateWithSeed
coded_state_with_seed =
    code_by (StateWithRoom × Seed) (coded× coded_state_with_room the_row.coded) (λ state. (without_seed state, state.seed)) (λ p. with_seed p.0 p.1) (λ _. refl)
