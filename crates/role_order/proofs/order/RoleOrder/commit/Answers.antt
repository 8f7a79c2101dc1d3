use Rattle.std.proofs.Common.{◌≡◌, ◌∙◌, ◌≤◌, length, refl, sym, ap, subst, arith}
use Rattle.rbac_sets.specs.Sets.{Pair, Pairs, pair_cmp, insert, IsDisjoint, len, members}
use Rattle.rbac_sets.specs.SortedSet.{set_of}
use Rattle.rbac_sets.proofs.Members.{len-members}
use Rattle.role_order.specs.Order.{IsClosure}
use Rattle.role_order.specs.Planned.{Order, Plan, Fits, changed}
use Rattle.role_order.proofs.Members.{disjoint-from}
use Rattle.role_order.proofs.Planning.{entries_are, stored_after, gained_apart, good_after, changed-adds, changed-takes}
use Rattle.role_order.proofs.Numbering.{added_apart, AreEdgesOf-added, AreEdgesOf-removed}
use Rattle.role_order.proofs.order.RoleOrder.commit.Goals as goal

pub merge_reserved-requires-clause-disjoint : goal.merge_reserved-requires-clause-disjoint
merge_reserved-requires-clause-disjoint c =
    let old : Pairs = c.args.self.now.edges in
    let pairs : Pairs = set_of pair_cmp c.self.inside.pairs in
    let closed : IsClosure old pairs = subst (λ (o : Order). IsClosure o.edges pairs) c.self.view_is c.self.invariant.1 in
    subst (IsDisjoint pairs) (sym (entries_are (set_of pair_cmp c.plan.inside.puts) c.into_entries.result.items c.into_entries.ensures.entries))
    (subst (λ (p : Plan). IsDisjoint pairs p.puts) (sym c.plan.view_is)
    (disjoint-from pairs c.args.plan.puts (gained_apart old (changed old c.args.plan) pairs c.args.plan.puts closed c.requires.fits.puts)))

pub merge_reserved-requires-clause-room : goal.merge_reserved-requires-clause-room
merge_reserved-requires-clause-room c =
    let room : len c.args.plan.puts ≤ c.self.inside.pairs.room = subst (λ (o : Order). len c.args.plan.puts ≤ o.pair_room) (sym c.self.view_is) c.requires.room.pairs in
    let count : len (set_of pair_cmp c.plan.inside.puts) ≤ c.self.inside.pairs.room = subst (λ (p : Plan). len p.puts ≤ c.self.inside.pairs.room) (sym c.plan.view_is) room in
    let items : length c.into_entries.result.items ≡ length (members (set_of pair_cmp c.plan.inside.puts)) = ap length c.into_entries.ensures.entries in
    omega (arith, count, items, len-members (set_of pair_cmp c.plan.inside.puts))

pub add-requires-clause-apart : goal.add-requires-clause-apart
add-requires-clause-apart c =
    let old : Pairs = set_of pair_cmp c.self.inside.edges in
    let shown : Plan = record {
      adds = c.plan.inside.adds;
      asc = c.plan.inside.asc;
      desc = c.plan.inside.desc;
      puts = set_of pair_cmp c.plan.inside.puts;
      takes = set_of pair_cmp c.plan.inside.takes;
      judged = c.plan.inside.judged;
    } in
    let fits : Fits old shown = subst (λ (p : Plan). Fits old p) (sym c.plan.view_is) (subst (λ (o : Order). Fits o.edges c.args.plan) (sym c.self.view_is) c.requires.fits) in
    (added_apart c.self.inside.numbered old shown c.plan.inside.ends.0 c.plan.inside.ends.1 c.self.invariant.2 c.if-adds.true
    (sym (ap (λ (p : Pair). p.0) c.plan.invariant)) (sym (ap (λ (p : Pair). p.1) c.plan.invariant)) fits).0

pub add-requires-clause-acyclic : goal.add-requires-clause-acyclic
add-requires-clause-acyclic c =
    let old : Pairs = set_of pair_cmp c.self.inside.edges in
    let shown : Plan = record {
      adds = c.plan.inside.adds;
      asc = c.plan.inside.asc;
      desc = c.plan.inside.desc;
      puts = set_of pair_cmp c.plan.inside.puts;
      takes = set_of pair_cmp c.plan.inside.takes;
      judged = c.plan.inside.judged;
    } in
    let fits : Fits old shown = subst (λ (p : Plan). Fits old p) (sym c.plan.view_is) (subst (λ (o : Order). Fits o.edges c.args.plan) (sym c.self.view_is) c.requires.fits) in
    (added_apart c.self.inside.numbered old shown c.plan.inside.ends.0 c.plan.inside.ends.1 c.self.invariant.2 c.if-adds.true
    (sym (ap (λ (p : Pair). p.0) c.plan.invariant)) (sym (ap (λ (p : Pair). p.1) c.plan.invariant)) fits).1

pub invariant_of-self : goal.invariant_of-self
invariant_of-self c =
    let old : Pairs = c.args.self.now.edges in
    let pairs : Pairs = set_of pair_cmp c.self.inside.pairs in
    let closed : IsClosure old pairs = subst (λ (o : Order). IsClosure o.edges pairs) c.self.view_is c.self.invariant.1 in
    let shown : Plan = record {
      adds = c.plan.inside.adds;
      asc = c.plan.inside.asc;
      desc = c.plan.inside.desc;
      puts = set_of pair_cmp c.plan.inside.puts;
      takes = set_of pair_cmp c.plan.inside.takes;
      judged = c.plan.inside.judged;
    } in
    let good = good_after old pairs c.args.plan (set_of pair_cmp c.insert_reserved.new.self) (set_of pair_cmp c.release.new.self) c.requires.fits closed
    (c.insert_reserved.ensures.inserted ∙ sym (changed-adds (set_of pair_cmp c.self.inside.edges) shown c.plan.inside.asc c.plan.inside.desc c.if-adds.true refl refl)
    ∙ (λ i. changed ((c.self.view_is i).edges) (c.plan.view_is i)))
    (stored_after pairs _ _ _ _ _ _ _ c.args.plan c.into_entries.ensures.entries c.as_slice.ensures (λ i. (c.plan.view_is i).puts) (λ i. (c.plan.view_is i).takes)
    c.merge_reserved.ensures.merged c.take_all.ensures.taken c.release.ensures.keeps) in
    let ends : c.plan.inside.ends ≡ (c.plan.inside.asc, c.plan.inside.desc) = c.plan.invariant in (
      good.0,
      good.1,
      AreEdgesOf-added c.self.inside.numbered c.add.new.self (set_of pair_cmp c.self.inside.edges) (set_of pair_cmp c.insert_reserved.new.self) c.plan.inside.ends.0 c.plan.inside.ends.1 c.self.invariant.2
          c.add.ensures (c.insert_reserved.ensures.inserted ∙ ap (λ (p : Pair). insert (set_of pair_cmp c.self.inside.edges) p) (sym ends)),
    )

pub invariant_of-self-else-adds : goal.invariant_of-self-else-adds
invariant_of-self-else-adds c =
    let old : Pairs = c.args.self.now.edges in
    let pairs : Pairs = set_of pair_cmp c.self.inside.pairs in
    let closed : IsClosure old pairs = subst (λ (o : Order). IsClosure o.edges pairs) c.self.view_is c.self.invariant.1 in
    let shown : Plan = record {
      adds = c.plan.inside.adds;
      asc = c.plan.inside.asc;
      desc = c.plan.inside.desc;
      puts = set_of pair_cmp c.plan.inside.puts;
      takes = set_of pair_cmp c.plan.inside.takes;
      judged = c.plan.inside.judged;
    } in
    let good = good_after old pairs c.args.plan (set_of pair_cmp c.remove-else-adds.new.self) (set_of pair_cmp c.release.new.self) c.requires.fits closed
    (c.remove-else-adds.ensures.removed ∙ sym (changed-takes (set_of pair_cmp c.self.inside.edges) shown c.plan.inside.asc c.plan.inside.desc c.if-adds.false refl refl)
    ∙ (λ i. changed ((c.self.view_is i).edges) (c.plan.view_is i)))
    (stored_after pairs _ _ _ _ _ _ _ c.args.plan c.into_entries.ensures.entries c.as_slice.ensures (λ i. (c.plan.view_is i).puts) (λ i. (c.plan.view_is i).takes)
    c.merge_reserved.ensures.merged c.take_all.ensures.taken c.release.ensures.keeps) in (
      good.0,
      good.1,
      AreEdgesOf-removed c.self.inside.numbered c.remove.new.self (set_of pair_cmp c.self.inside.edges) (set_of pair_cmp c.remove-else-adds.new.self) c.plan.inside.asc c.plan.inside.desc c.self.invariant.2
          c.remove.ensures.edges c.remove-else-adds.ensures.removed,
    )
