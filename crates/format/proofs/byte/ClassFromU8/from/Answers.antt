-- The conversion gives the class that document 01 says: each arm's range is that of a class.
use mathlib.Core.Path.{sym}
use native.Mathlib.Omega.{arith}
use Rattle.format.specs.Theory.Byte.{symbol_class, class_is_variable, class_between, class_behind}
use Rattle.format.proofs.byte.ClassFromU8.from.Goals as goal

pub returns-in-0-to-15 : goal.returns-in-0-to-15
returns-in-0-to-15 c = sym (symbol_class _ (omega arith))

pub returns-in-128-to-139 : goal.returns-in-128-to-139
returns-in-128-to-139 c = sym (class_is_variable _ (omega arith) (omega arith))

pub returns-in_default : goal.returns-in_default
returns-in_default c = sym (class_between _ (omega arith) (omega arith))

pub returns-in_default-2 : goal.returns-in_default-2
returns-in_default-2 c = sym (class_behind _ (omega arith))
