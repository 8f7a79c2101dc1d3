use Rattle.std.proofs.Common.{◌∙◌, ap, map}
use Rattle.std.proofs.lemmas.List.{take_all}
use Rattle.role_order.specs.private.Numbered.{number_of}
use Rattle.role_order.proofs.Numbering.{numbers_more}
use Rattle.role_order.proofs.numbered.Numbered.numbers_of.Goals as goal

pub loop-name-preserved : goal.loop-name-preserved
loop-name-preserved c =
    numbers_more c.args.self.now.numbers c.args.names.now c.loop-name.name-index c.name-item.result c.loop-name.numbers.items c.push.new.self.items c.number.result c.loop-name-test.true c.name-item.is
    c.number.ensures c.loop-name.invariant c.in_ok-push.ensures.items

pub returns-clause-numbers : goal.returns-clause-numbers
returns-clause-numbers c = c.loop-name.invariant ∙ ap (map (number_of c.args.self.now.numbers)) (take_all c.loop-name.name-index c.args.names.now c.loop-name-test.false)
