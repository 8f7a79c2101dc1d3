-- An office in memory, as contracts see it.
use Rattle.std.specs.Prelude.{◌≡◌, ◌⊎◌, refl, ℕ, List, [], ◌∷◌, ◌++◌}
use Rattle.std.specs.Coded.{Coded, coded_ℕ, coded_list, coded×, code_by}
use Rattle.rbac_sets.specs.contracts.row.Row.{the_row}
use Rattle.rbac_sets.specs.declared.row.Row.{Row}
use Rattle.admin_mgr.specs.RbacState.{RbacState, coded_state}
use Rattle.bit_tables.specs.contracts.seed.Seed as seeds
use Rattle.bit_tables.specs.declared.seed.Seed.{Seed}
use Rattle.role_lines.specs.Outcome.{answer_to, after_line}
use Rattle.role_lines.specs.Revision.{revision_after_line}

-- its state, the secret by which its index finds names, how many commands it has accepted, the answer that it keeps, and the rows that
-- were added for the next load
pub record OfficeInMemory : Type 0 where
  pub facts : RbacState
  pub seed : Seed
  pub revision : ℕ
  pub kept : List ℕ
  pub rows : List Row

abbrev pub coded_office : Coded OfficeInMemory
coded_office =
    code_by (RbacState × (Seed × (ℕ × (List ℕ × List Row))))
    (coded× coded_state (coded× seeds.the_row.coded (coded× coded_ℕ (coded× (coded_list coded_ℕ) (coded_list the_row.coded)))))
    (λ o. (o.facts, (o.seed, (o.revision, (o.kept, o.rows)))))
    (λ p. record { facts = p.0; seed = p.1.0; revision = p.1.1.0; kept = p.1.1.1.0; rows = p.1.1.1.1 }) (λ _. refl)

-- an office with this state, this secret and this revision, and nothing else
abbrev pub starting : RbacState → Seed → ℕ → OfficeInMemory
starting S seed revision = record { facts = S; seed = seed; revision = revision; kept = []; rows = [] }

-- the same office without an answer
abbrev pub without_answer : OfficeInMemory → OfficeInMemory
without_answer office = record { facts = office.facts; seed = office.seed; revision = office.revision; kept = []; rows = office.rows }

-- the office after a line: it keeps the answer
abbrev pub after : OfficeInMemory → List ℕ → OfficeInMemory
after office line = record {
  facts = after_line office.facts line;
  seed = office.seed;
  revision = revision_after_line office.facts line office.revision;
  kept = answer_to office.facts line;
  rows = office.rows;
}

-- the same office with one more row for the next load, and without any
abbrev pub with_row : OfficeInMemory → Row → OfficeInMemory
with_row office row = record { facts = office.facts; seed = office.seed; revision = office.revision; kept = office.kept; rows = office.rows ++ row ∷ [] }

abbrev pub without_rows : OfficeInMemory → OfficeInMemory
without_rows office = record { facts = office.facts; seed = office.seed; revision = office.revision; kept = office.kept; rows = [] }

-- an allocation failed: what the line asks for was done, or nothing was. In both cases the office keeps no answer.
abbrev pub StopsAt : OfficeInMemory → List ℕ → OfficeInMemory → Type 0
StopsAt old line new = (new ≡ without_answer old) ⊎ (new ≡ without_answer (after old line))
