use Rattle.std.proofs.Common.{ℕ, List, ◌++◌, ◌∷◌, [], sym, ◌∙◌, ap, map}
use Rattle.std.proofs.lemmas.List.{take_all}
use Rattle.std.proofs.lemmas.Simd.{map-map}
use Rattle.rbac_sets.specs.Sets.{Bytes, pair_cmp}
use Rattle.rbac_sets.specs.SortedSet.{set_of}
use Rattle.order_matrix.specs.Table.{numbers_of}
use Rattle.order_matrix.proofs.Mapped.{mapped_more_through}
use Rattle.admin_mgr.specs.private.HolderRoles.{run_of}
use Rattle.explanations.proofs.inheritance.number_roles.Goals as goal

pub loop-holder-preserved : goal.loop-holder-preserved
loop-holder-preserved c =
    let numbered : Bytes → Bytes × List ℕ = λ name. (name, numbers_of c.args.roles.now (run_of (set_of pair_cmp c.args.pairs.now) name) ++ c.args.more ∷ []) in
    mapped_more_through (λ holder. numbered holder.now) (λ one. (one.0.now, one.1.items))
    c.args.holders.now c.loop-holder.holder-index c.holder-item.result c.loop-holder-test.true c.holder-item.is c.loop-holder.numbered.items (c.holder-item.result, c.in_ok-numbers_with.field-0) c.push.new.self.items
    (λ i. (c.holder-item.result.now, (c.in_ok-numbers_with.ensures.ok ∙ ap (λ run. numbers_of c.args.roles.now run ++ c.args.more ∷ []) c.with_first-held.ensures) i))
    c.loop-holder.invariant c.in_ok-push.ensures.items

pub returns-clause-ok : goal.returns-clause-ok
returns-clause-ok c =
    let numbered : Bytes → Bytes × List ℕ = λ name. (name, numbers_of c.args.roles.now (run_of (set_of pair_cmp c.args.pairs.now) name) ++ c.args.more ∷ []) in
    c.loop-holder.invariant
    ∙ ap (map (λ holder. numbered holder.now)) (take_all c.loop-holder.holder-index c.args.holders.now c.loop-holder-test.false)
    ∙ sym (map-map numbered (λ holder. holder.now) c.args.holders.now)
