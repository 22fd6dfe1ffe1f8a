-- `split` meets its contract: the limits are looked at before a line is put.
use mathlib.Core.Path.{refl}
use native.Mathlib.Omega.{arith}
use Rattle.walking.proofs.Treating.{treating_top, few_elements}
use Rattle.walking.proofs.SplitTurn.{count_elements, has_choices, choices_few, right_few, split_too_long, split_too_many, split_fits, split_goes_on}
use Rattle.walking.proofs.walk.Walk.split.Goals as goal

pub choices_of-choices-requires : goal.choices_of-choices-requires
choices_of-choices-requires c = has_choices c.requires

pub overflow_add-count : goal.overflow_add-count
overflow_add-count c = omega (arith, count_elements c.requires, few_elements c.requires.treating, right_few c.requires c.choices_of-choices.result c.choices_of-choices.ensures)

pub returns-then-too_long : goal.returns-then-too_long
returns-then-too_long c = let long = c.too_long.ensures.tells c.if-too_long.true in record { outcome = split_too_long c.requires c.choices_of-choices.result c.choices_of-choices.ensures long.0 long.1 }

pub overflow_add-number : goal.overflow_add-number
overflow_add-number c =
    omega (arith, (choices_few c.requires c.choices_of-choices.result c.choices_of-choices.ensures).0)

pub overflow_add-number-2 : goal.overflow_add-number-2
overflow_add-number-2 c =
    omega (arith, (choices_few c.requires c.choices_of-choices.result c.choices_of-choices.ensures).0, (choices_few c.requires c.choices_of-choices.result c.choices_of-choices.ensures).1)

pub overflow_add-self-2 : goal.overflow_add-self-2
overflow_add-self-2 c =
    omega (arith, (choices_few c.requires c.choices_of-choices.result c.choices_of-choices.ensures).0, (choices_few c.requires c.choices_of-choices.result c.choices_of-choices.ensures).1, c.requires.treating.holds.ordered, treating_top c.requires.treating)

pub returns-then-self-number : goal.returns-then-self-number
returns-then-self-number c =
    record { outcome = split_too_many c.requires c.choices_of-choices.result c.choices_of-choices.ensures (c.too_long.ensures.fits c.if-too_long.false) c.if-self-number.true }

pub push_choices-requires : goal.push_choices-requires
push_choices-requires c =
    split_fits c.requires c.choices_of-choices.result c.choices_of-choices.ensures (c.too_long.ensures.fits c.if-too_long.false) c.load.new.line c.load.ensures c.if-self-number.false _ refl

pub returns : goal.returns
returns c =
    rw c.turned.ensures (record { outcome = split_goes_on c.requires c.choices_of-choices.result c.choices_of-choices.ensures (c.too_long.ensures.fits c.if-too_long.false) c.load.new.line c.load.ensures c.if-self-number.false c.push_choices.new.memory _ refl c.push_choices.ensures })
