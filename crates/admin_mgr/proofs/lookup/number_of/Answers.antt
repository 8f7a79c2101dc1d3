use Rattle.std.proofs.Common.{◌≡◌, List, sym, ◌∙◌, ap}
use Rattle.std.specs.Prelude.{Option, Some, None, find}
use Rattle.std.specs.Option.{option_map, option_copied}
use Rattle.std.specs.List.{filter, slice_get}
use Rattle.rbac_sets.specs.Sets.{Bytes, Cardinality, cardinality_cmp, members, same_name}
use Rattle.rbac_sets.specs.SortedSet.{set_of}
use Rattle.rbac_sets.proofs.Lists.{find_filter}
use Rattle.admin_mgr.proofs.lookup.number_of.Goals as goal

-- the cardinality of the first entry of the run is the one that is found
found : (name : Bytes) (run entries : List Cardinality) (entry : Option Cardinality) → entry ≡ slice_get run 0 → run ≡ filter (λ (e : Cardinality). same_name e.0 name) entries →
    option_map (λ (e : Cardinality). e.1) entry ≡ option_map (λ (e : Cardinality). e.1) (find (λ (e : Cardinality). same_name e.0 name) entries)
found name run entries entry first runs =
    ap (option_map (λ (e : Cardinality). e.1)) (first ∙ ap (λ xs. slice_get xs 0) runs ∙ sym (find_filter (λ (e : Cardinality). same_name e.0 name) entries))

pub returns-in-Some : goal.returns-in-Some
returns-in-Some c = found c.args.name.now c.with_first.result.now (members (set_of cardinality_cmp c.args.numbers.now)) (Some c.in-Some.entry.now)
    (ap option_copied (sym c.in-Some.is) ∙ c.first.ensures.value) c.with_first.ensures

pub returns-in-None : goal.returns-in-None
returns-in-None c = found c.args.name.now c.with_first.result.now (members (set_of cardinality_cmp c.args.numbers.now)) None
    (ap option_copied (sym c.in-None.is) ∙ c.first.ensures.value) c.with_first.ensures
