use Rattle.std.proofs.Common.{◌≡◌, rules, refl, inl, inr, true, false, IsSome}
use Rattle.sqlite.specs.Held.{state}
use Rattle.sqlite.proofs.StateLemmas.{survives_weaker}
use Rattle.role_tables.specs.OfficeTables.{Meta, tables_of}
use Rattle.role_tables.specs.OpeningChecks.{HasCommonTables}
use Rattle.role_tables.specs.TableContents.{contents_of}
use Rattle.role_tables.specs.private.NamedTables.{are_there}
use Rattle.role_tables.proofs.OfficeTables.There.{all_found, some_missed}
use Rattle.role_tables.proofs.content_checks.find_metas.Goals as goal

pub returns-then-not-are_there-clause-refused : goal.returns-then-not-are_there-clause-refused
returns-then-not-are_there-clause-refused g c =
    let none : are_there (state g.S.Store c.args.conn.now).now.schema (tables_of 1) ≡ false = search rules in
    inr (inr (refl, some_missed (state g.S.Store c.args.conn.now).now 1 (inl refl) none))

pub returns-clause-five : goal.returns-clause-five
returns-clause-five g c =
    let all : are_there (state g.S.Store c.args.conn.now).now.schema (tables_of 1) ≡ true = search rules in
    let five : HasCommonTables (contents_of (state g.S.Store c.args.conn.now).now) = all_found (state g.S.Store c.args.conn.now).now 1 (inl refl) all in
    search rules

pub returns-clause-seen : goal.returns-clause-seen
returns-clause-seen g c clean =
    let all : are_there (state g.S.Store c.args.conn.now).now.schema (tables_of 1) ≡ true = search rules in
    c.read_metas.ensures.seen clean (all_found (state g.S.Store c.args.conn.now).now 1 (inl refl) all Meta refl)

pub returns-clause-kept : goal.returns-clause-kept
returns-clause-kept g c clean =
    let all : are_there (state g.S.Store c.args.conn.now).now.schema (tables_of 1) ≡ true = search rules in
    c.read_metas.ensures.kept clean (all_found (state g.S.Store c.args.conn.now).now 1 (inl refl) all Meta refl)

pub returns-clause-survives : goal.returns-clause-survives
returns-clause-survives g c =
    let old = state g.S.Store c.args.conn.now in
    let all : are_there old.now.schema (tables_of 1) ≡ true = search rules in
    survives_weaker old (state g.S.Store c.read_metas.new.conn) (λ _. IsSome (contents_of old.now Meta) → ⊥) (λ _. ⊥) (λ _ db none. none (all_found old.now 1 (inl refl) all Meta refl)) c.read_metas.ensures.survives
