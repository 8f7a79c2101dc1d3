use Rattle.std.proofs.Common.{None, ◌∙◌, ap}
use Rattle.std.specs.Str.{bytes_eq}
use Rattle.std.specs.Map.{update}
use Rattle.std.specs.HashMap.{get_by_text}
use Rattle.std.proofs.lemmas.Map.Text.{hash_map_updates_text}
use Rattle.access_index.proofs.ForgetLaws.{forget_one}
use Rattle.access_index.proofs.index.AccessIndex.forget_set.Goals as goal

pub returns-clause-forgets : goal.returns-clause-forgets
returns-clause-forgets c =
    forget_one (get_by_text c.args.self.now.by_set) (get_by_text c.remove.new.self) c.args.set.now
    (λ other. hash_map_updates_text c.as_str.result.now c.args.self.now.by_set c.remove.new.self None c.remove.ensures.updates other ∙ ap (λ bs. update bytes_eq (get_by_text c.args.self.now.by_set) bs None other) c.as_str.ensures.text)
