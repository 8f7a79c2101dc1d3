use Rattle.role_json.proofs.NameSets.{name_set-IsPermutation}
use Rattle.role_json.proofs.fields.checked_set.Goals as goal

pub returns-clause-err : goal.returns-clause-err
returns-clause-err c = rw (name_set-IsPermutation c.args.texts.items _ c.sort_unstable.ensures.permutation, ← c.deref.ensures.value) c.set_of_names.ensures.err
