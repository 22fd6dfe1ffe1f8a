-- What a line of the stated digits is: a frame, whose bytes its digits write.
use Prim.Native.Nat.{ℕ, suc, ◌+◌, ◌-◌, ◌*◌, ◌≤◌, ◌<◌}
use Rattle.std.specs.Prelude.{◌≡◌, List, ◌∷◌, length, take, drop}
use Rattle.std.proofs.Common.{sym, ◌∙◌, arith}
use Rattle.std.proofs.Math.Path.{ap}
use Rattle.std.proofs.Math.Option.{some}
use Rattle.sheet.specs.Text.{TextLine, ended, lines_of, frame_of}
use Rattle.sheet.specs.Theory.Text.{frame_bytes_small}
use Rattle.scanning.specs.ForContracts.Digits.{SpanReady, bytes_between, span_bytes}
use Rattle.reader.specs.declared.line.FrameLine.{FrameLine}
use Rattle.reader.specs.ForContracts.Lines.{IsLine}

module _ (text : List ℕ) (offset lines : ℕ) (l : FrameLine) (i : IsLine text offset lines l) where
  pub line_text : TextLine
  line_text = ended (take (l.digits.end - offset) (drop offset text))

  pub line_first : lines_of (drop offset text) ≡ line_text ∷ lines_of (drop (l.digits.end + 1) text)
  unfolding line_text
  line_first = i.framed.is_first

  pub line_frame : frame_of line_text ≡ some (span_bytes text l.digits)
  unfolding line_text
  line_frame = i.framed.is_frame ∙ ap (λ from. some (bytes_between text from l.digits.end)) (sym i.from_is)

  pub line_ready : SpanReady text l.digits
  unfolding line_text
  line_ready =
      record {
        pairs = suc i.framed.pairs;
        even = i.framed.even ∙ ap (◌+ 2 * suc i.framed.pairs) (sym i.from_is);
        inside = omega (arith, i.framed.inside);
        are_bytes = frame_bytes_small line_text (span_bytes text l.digits) line_frame;
      }

  pub line_some : l.digits.from < l.digits.end
  line_some = omega (arith, i.framed.even, i.from_is)

  -- A line has characters, LF among them, and ends within the text.
  pub line_long : offset + 1 ≤ l.digits.end + 1
  line_long = omega (arith, i.framed.even)

  pub line_inside : l.digits.end + 1 ≤ length text
  line_inside = omega (arith, i.framed.inside)
