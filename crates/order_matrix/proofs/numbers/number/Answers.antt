use Rattle.std.proofs.Common.{rules, sym, ap, ◌∙◌}
use Rattle.std.specs.List.{slice_get}
use Rattle.std.specs.Ordering.{is_lt}
use Rattle.std.proofs.lemmas.List.Sorted.{IsPartitionPoint-from_clause}
use Rattle.rbac_sets.specs.Sets.{Bytes, name_cmp}
use Rattle.rbac_sets.specs.NameOrder.{name_total, rises}
use Rattle.rbac_sets.proofs.Runs.{lows_first, rise-sorted}
use Rattle.order_matrix.specs.Table.{number_in}
use Rattle.order_matrix.proofs.Places.{length-parted, slice_get-number_in}
use Rattle.std.proofs.Common.{inl}
use Rattle.order_matrix.proofs.numbers.number.Goals as goal

pub returns-clause-number : goal.returns-clause-number
unfolding number_in
returns-clause-number c =
    let names = c.args.names.now in
    let f = λ (y : Bytes). name_cmp y c.args.name.now in
    let rise = rise-sorted f name_cmp (λ x y below. rises name_total x y c.args.name.now (inl below)) names c.requires in
    let parts = IsPartitionPoint-from_clause (λ (y : Bytes). is_lt (f y)) names c.partition_point.result c.partition_point.ensures.partitioned (lows_first f names rise) (λ a r h called. (search rules, search rules)) in
    sym (length-parted (λ (y : Bytes). is_lt (f y)) names c.partition_point.result c.partition_point.ensures.bound parts.0 parts.1)

pub returns-clause-place : goal.returns-clause-place
unfolding number_in
returns-clause-place c here =
    let names = c.args.names.now in
    let f = λ (y : Bytes). name_cmp y c.args.name.now in
    let rise = rise-sorted f name_cmp (λ x y below. rises name_total x y c.args.name.now (inl below)) names c.requires in
    let parts = IsPartitionPoint-from_clause (λ (y : Bytes). is_lt (f y)) names c.partition_point.result c.partition_point.ensures.partitioned (lows_first f names rise) (λ a r h called. (search rules, search rules)) in
    ap (slice_get names) (sym (length-parted (λ (y : Bytes). is_lt (f y)) names c.partition_point.result c.partition_point.ensures.bound parts.0 parts.1))
    ∙ slice_get-number_in names c.args.name.now c.requires here
