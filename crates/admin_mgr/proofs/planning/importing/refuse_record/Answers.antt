use Rattle.std.proofs.Common.{◌≡◌, arith, ◌∙◌, ap}
use Rattle.rbac_sets.specs.Sets.{pair_cmp, len}
use Rattle.rbac_sets.specs.SortedSet.{set_of}
use Rattle.admin_mgr.proofs.Imports.RecordLaws.{added_len}
use Rattle.admin_mgr.proofs.planning.importing.refuse_record.Goals as goal

pub overflow_add-len : goal.overflow_add-len
overflow_add-len c =
    let few = added_len c.args.state.now.facts (set_of pair_cmp c.args.added.now) c.requires.good c.requires.apart in
    let held : c.len.result ≡ len c.args.state.now.facts.assignments = c.len.ensures ∙ ap len c.assignments-2.ensures in
    let since : c.len-2.result ≡ len (set_of pair_cmp c.args.added.now) = c.len-2.ensures in
    omega (arith, few, held, since)
