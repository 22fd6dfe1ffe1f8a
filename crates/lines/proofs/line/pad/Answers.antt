-- `pad` fills the rest of a line.
use Rattle.std.proofs.Common.{◌-◌, ap, ◌∙◌, drop, replicate, length-take-le, length-drop, sym, arith}
use Rattle.std.proofs.lemmas.List.{length-replicate}
use Rattle.format.specs.Limits.{no_position, record_bytes}
use Rattle.line_bytes.specs.Theory.Placed.{part_placed}
use Rattle.lines.proofs.line.pad.Goals as goal

pub returns : goal.returns
returns c =
    let behind = length-drop c.args.from c.args.line.now in
    let room = length-take-le (record_bytes - c.args.from) (drop c.args.from c.args.line.now) (omega (arith, c.requires.0, c.requires.1)) in
    part_placed _ _ _ _ _ (c.fill.ensures.after (λ y e. e) ∙ ap (λ n. replicate n no_position) room) (sym (length-replicate (record_bytes - c.args.from) no_position))
