-- The secrets by which an index finds names, after changes of its tables.
use Rattle.std.proofs.Common.{◌≡◌, [], ◌∷◌, ◌∙◌, ap}
use Rattle.std.specs.HashMap.{hasher_of}
use Rattle.bit_tables.specs.declared.pair_table.PairTable.{PairTable}
use Rattle.bit_tables.specs.declared.table.BitTable.{BitTable}
use Rattle.bit_tables.specs.Tables.{seed_of}
use Rattle.access_index.specs.declared.index.AccessIndex.{AccessIndex}
use Rattle.access_index.specs.Index.{seeds_of}

-- they stay if only the rows of users change, and their secret doesn't
pub seeds_again : (index new : AccessIndex) → new ≡ record index { authorized = new.authorized } → hasher_of new.authorized ≡ hasher_of index.authorized → seeds_of new ≡ seeds_of index
seeds_again index new rest same =
    ap seeds_of rest ∙ (λ i. hasher_of index.numbers.numbers ∷ seed_of index.assigned ∷ seed_of index.sessions ∷ seed_of index.grants.rows ∷ same i ∷ [])

-- or if three tables change, and their secrets don't
pub seeds_fitted : (index : AccessIndex) (assigned sessions : BitTable) (grants : PairTable) → seed_of assigned ≡ seed_of index.assigned → seed_of sessions ≡ seed_of index.sessions → seed_of grants.rows ≡ seed_of index.grants.rows
    → seeds_of (record index { assigned = assigned; sessions = sessions; grants = grants }) ≡ seeds_of index
seeds_fitted index assigned sessions grants same_assigned same_sessions same_grants =
    λ i. hasher_of index.numbers.numbers ∷ same_assigned i ∷ same_sessions i ∷ same_grants i ∷ hasher_of index.authorized ∷ []
