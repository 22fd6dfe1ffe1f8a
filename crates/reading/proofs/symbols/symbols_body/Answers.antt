-- `reading::symbols::symbols_body` is the definition's `symbols_body`.
use Rattle.reading.proofs.Arities.{no_body, no_symbols, many_symbols, other_count, body_read}
use Rattle.reading.proofs.symbols.symbols_body.Goals as goal
use Rattle.reading.proofs.symbols.symbols_body.Goals.{then-n-eq0-via-then-n-eq0, then-n-eq0-via-else-n-eq0+then-n-gt-SYMBOLS, then-n-eq0-via-else-n-eq0+else-n-gt-SYMBOLS+then-span-at}

pub returns-then-from-span : goal.returns-then-from-span
returns-then-from-span c = no_body _ _ _ c.if-from-span.true

pub returns-then-n-eq0 : goal.returns-then-n-eq0
returns-then-n-eq0 c = elim c.then-n-eq0.branch [
  | then-n-eq0-via-then-n-eq0 w ↦ no_symbols _ _ _ c.requires c.if-from-span.false c.byte_at-n.ensures w.if-n-eq0.true
  | then-n-eq0-via-else-n-eq0+then-n-gt-SYMBOLS w ↦ many_symbols _ _ _ c.requires c.if-from-span.false c.byte_at-n.ensures w.if-n-gt-SYMBOLS.true
  | then-n-eq0-via-else-n-eq0+else-n-gt-SYMBOLS+then-span-at w ↦ other_count _ _ _ c.requires c.if-from-span.false c.byte_at-n.ensures w.if-span-at.true
]

pub returns : goal.returns
returns c = body_read _ _ _ c.requires c.if-from-span.false _ c.byte_at-n.ensures c.if-span-at.false c.arities.result c.arities.ensures
