-- `resolve` meets its contract, for a symbol and for a variable.
use mathlib.Core.Path.{sym}
use Rattle.cells.specs.Theory.Resolved.{resolved_symbol, resolved_variable}
use Rattle.cells.proofs.nodes.resolve.Goals as goal

pub returns-then-byte-lt-FIRST_VARIABLE : goal.returns-then-byte-lt-FIRST_VARIABLE
returns-then-byte-lt-FIRST_VARIABLE c = sym (resolved_symbol c.args.nodes.now c.args.values.now c.args.i c.if-byte-lt-FIRST_VARIABLE.true)

pub returns : goal.returns
returns c = let e = resolved_variable c.args.nodes.now c.args.values.now c.args.i c.if-byte-lt-FIRST_VARIABLE.false in cc
