-- `scanning::text::digit_value` gives the digit's value: each arm's range is that of the definition.
use Rattle.std.proofs.Common.{sym, arith}
use Rattle.scanning.proofs.Digits.{digit_decimal, digit_letter, digit_low, digit_between, digit_high, number_some, number_none}
use Rattle.scanning.proofs.text.digit_value.Goals as goal

pub returns-in-48-to-57 : goal.returns-in-48-to-57
returns-in-48-to-57 c = sym (number_some _ _ (digit_decimal _ (omega arith) (omega arith)))

pub returns-in-97-to-102 : goal.returns-in-97-to-102
returns-in-97-to-102 c = sym (number_some _ _ (digit_letter _ (omega arith) (omega arith)))

pub returns-in_default : goal.returns-in_default
returns-in_default c = sym (number_none _ (digit_low _ (omega arith)))

pub returns-in_default-2 : goal.returns-in_default-2
returns-in_default-2 c = sym (number_none _ (digit_between _ (omega arith) (omega arith)))

pub returns-in_default-3 : goal.returns-in_default-3
returns-in_default-3 c = sym (number_none _ (digit_high _ (omega arith)))
