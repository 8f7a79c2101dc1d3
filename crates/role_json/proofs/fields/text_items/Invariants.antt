use Rattle.std.proofs.Common.{◌≡◌, map, drop}
use Rattle.serde_json.specs.View.{items_view}
use Rattle.role_json.specs.Fields.{texts_in}
use Rattle.role_json.proofs.TextLists.{texts_with}
use Rattle.role_json.proofs.fields.text_items.Given as goal

abbrev pub invariant-loop-value : goal.invariant-loop-value
invariant-loop-value l = texts_in (items_view l.values) ≡ texts_with (map (λ s. s.now) l.texts.items) (drop l.value-index l.values)
