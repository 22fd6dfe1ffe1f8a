-- `scanning::text::block_digits` tells a block of digits. The loop's invariant: what is tested are digits, if `all` says so.
use Rattle.std.proofs.Common.{◌≡◌, true, take}
use Rattle.scanning.specs.ForContracts.Digits.{Digits}
use Rattle.scanning.proofs.text.block_digits.Given as goal

abbrev pub invariant-loop-c : goal.invariant-loop-c
invariant-loop-c l = l.all ≡ true → Digits (take l.c-index l.c-items)
