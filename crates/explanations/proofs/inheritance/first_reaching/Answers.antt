use Rattle.std.proofs.Common.{◌≡◌, ℕ, List, rules, Bor, Vec, Global, refl, sym, ap, ◌∙◌}
use Rattle.std.specs.Option.{option_copied, option_map}
use Rattle.std.specs.Prelude.{Option, None, Some, find, map}
use Rattle.std.proofs.lemmas.Iterator.{YieldsList-from_slice}
use Rattle.std.proofs.lemmas.Iterator.Search.{find_from_yields_List}
use Rattle.rbac_sets.specs.Sets.{Bytes}
use Rattle.rbac_sets.specs.declared.name.Name.{Name}
use Rattle.order_matrix.specs.Table.{Table}
use Rattle.explanations.specs.private.Numbered.{first_reaching, has_too_many}
use Rattle.explanations.proofs.Finds.{find_map}
use Rattle.explanations.proofs.inheritance.first_reaching.Goals as goal

-- a holder as the function has it
abbrev Held : Type 0
Held = Bor Name × Vec ℕ Global

abbrev seen : Held → Bytes × List ℕ
seen one = (one.0.now, one.1.items)

-- its name
name_of : (found : Option (Bor Held)) → option_map (λ (x : Bor Held). x.now.0.now) found ≡ option_map (λ (one : Bytes × List ℕ). one.0) (option_map seen (option_map (λ (x : Bor Held). x.now) found))
name_of None = refl
name_of (Some x) = refl

found_is : (table : Table) (holders : List Held) (members : List ℕ) (n : ℕ) (found : Option (Bor Held)) → option_map (λ x. x.now) found ≡ find (λ one. has_too_many table one.1.items members n) holders
    → option_map (λ (x : Bor Held). x.now.0.now) found ≡ first_reaching table (map seen holders) members n
found_is table holders members n found is =
    name_of found
    ∙ ap (option_map (λ (one : Bytes × List ℕ). one.0)) (ap (option_map seen) is ∙ find_map seen (λ (one : Bytes × List ℕ). has_too_many table one.1 members n) holders)

pub returns-in_err-found : goal.returns-in_err-found
returns-in_err-found c =
    ap option_copied c.from_residual.ensures ∙ ap (option_map (λ (x : Bor Held). x.now.0.now)) (sym c.in_err-found.was)
    ∙ found_is c.args.table.now c.args.holders.now c.args.members.now c.args.cardinality c.find.result
    (find_from_yields_List (λ (one : Held). has_too_many c.args.table.now one.1.items c.args.members.now c.args.cardinality) c.find.new.self _ _ c.find.ensures.ran (YieldsList-from_slice _ c.iter.ensures.rest) (λ x b q k. search rules))

pub returns : goal.returns
returns c =
    ap (option_map (λ (x : Bor Held). x.now.0.now)) (sym c.in_ok-found.was)
    ∙ found_is c.args.table.now c.args.holders.now c.args.members.now c.args.cardinality c.find.result
    (find_from_yields_List (λ (one : Held). has_too_many c.args.table.now one.1.items c.args.members.now c.args.cardinality) c.find.new.self _ _ c.find.ensures.ran (YieldsList-from_slice _ c.iter.ensures.rest) (λ x b q k. search rules))
