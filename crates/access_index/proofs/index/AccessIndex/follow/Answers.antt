use Rattle.std.proofs.Common.{not, sym, ◌∙◌, ap}
use Rattle.rbac_sets.specs.declared.row.Row.TheVariants.{NameRow}
use Rattle.rbac_sets.specs.declared.row.TheConstants.Row.{ROLE}
use Rattle.access_index.specs.Index.{number_of, rows_of}
use Rattle.access_index.specs.private.Changing.{rows_after}
use Rattle.access_index.proofs.BarLaws.{alone_without_juniors, unbarred_without_juniors}
use Rattle.access_index.proofs.IndexLaws.{keeps_same}
use Rattle.access_index.proofs.PlanLaws.{barred_after, barred_by_after, no_junior, nowhere, rows_of_plan, taken_gone}
use Rattle.access_index.proofs.SeedLaws.{seeds_again}
use Rattle.access_index.proofs.index.AccessIndex.follow.Goals as goal

pub change_bits-requires : goal.change_bits-requires
change_bits-requires c = (rows_of c.requires.0, c.take_authorized-users.ensures.keeps (rows_of c.requires.0) (c.forget_barred.ensures.keeps (rows_of c.requires.0) c.requires.1))

pub returns-clause-ok : goal.returns-clause-ok
returns-clause-ok c S T indexes turns good =
    let changes = c.args.changes.now in
    let barred = (rows_of T).barred in
    let barred_by = (rows_of T).barred_by in
    let before = record (rows_of S) { barred = barred; barred_by = barred_by } in
    let kept = c.in_ok-change_bits.ensures.ok before (c.take_authorized-users.ensures.keeps before (c.forget_barred.ensures.follows S T indexes turns)) in
    c.count_changed.ensures.keeps (rows_of T) (c.count_users.ensures.keeps (rows_of T) (c.free_numbers.ensures.keeps (rows_of T)
    (keeps_same c.change_bits.new.self (rows_after before changes) (rows_of T) (rows_of_plan S T changes turns barred barred_by) (λ role. sym (λ i. barred_after changes before i role))
    (λ set role. sym (λ i. barred_by_after changes before i set role)) kept)
    (λ role taken.
    let gone = taken_gone S T changes turns (NameRow ROLE role) taken in
    let alone = no_junior T good.well_formed role gone in
    nowhere T good.well_formed role gone barred barred_by (ap not (alone_without_juniors T good role alone)) (unbarred_without_juniors T good role alone))))

pub returns-clause-freed : goal.returns-clause-freed
returns-clause-freed c role taken =
    ap (λ index. number_of index role) c.count_changed.ensures.rest ∙ ap (λ index. number_of index role) c.count_users.ensures.rest ∙ c.free_numbers.ensures.freed role taken

pub returns-clause-seeds : goal.returns-clause-seeds
returns-clause-seeds c =
    seeds_again c.count_users.new.self c.count_changed.new.self c.count_changed.ensures.rest c.count_changed.ensures.seed
    ∙ seeds_again c.free_numbers.new.self c.count_users.new.self c.count_users.ensures.rest c.count_users.ensures.seed
    ∙ c.free_numbers.ensures.seeds ∙ c.change_bits.ensures.seeds
    ∙ seeds_again c.forget_barred.new.self c.take_authorized-users.new.self c.take_authorized-users.ensures.rest c.take_authorized-users.ensures.seed ∙ c.forget_barred.ensures.seeds
