use Rattle.rbac_sets.specs.Sets.{name_cmp}
use Rattle.rbac_sets.specs.SortedSet.{set_of}
use Rattle.role_json.proofs.NameSets.{HasFirst}
use Rattle.role_json.proofs.fields.set_of_names.Given as goal

abbrev pub invariant-loop-text : goal.invariant-loop-text
invariant-loop-text l = HasFirst l.texts l.text-index (set_of name_cmp l.set)
