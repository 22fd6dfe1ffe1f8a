-- `count_last_choices` meets its contract, by the order of the symbols.
use Rattle.treating.proofs.Splitting.{last_more, last_same, last_none}
use Rattle.treating.proofs.split.count_last_choices.Goals as goal

pub returns-then-g-f : goal.returns-then-g-f
returns-then-g-f c = last_more c.args.f c.args.g c.args.m c.args.n c.if-g-f.true

pub returns-then-f-g : goal.returns-then-f-g
returns-then-f-g c = last_same c.args.f c.args.g c.args.m c.args.n c.min.result c.if-f-g.true c.min.ensures

pub returns : goal.returns
returns c = last_none c.args.f c.args.g c.args.m c.args.n c.if-g-f.false c.if-f-g.false
