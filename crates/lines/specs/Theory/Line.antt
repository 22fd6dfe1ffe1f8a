-- The laws of a line by its named parts.
use Rattle.std.specs.Prelude.{ℕ, ◌+◌, ◌-◌, ◌≤◌, ◌<◌, ◌≡◌, refl, [], ◌∷◌, map, length, get_or, take, drop}
use Rattle.std.proofs.Common.{sym, ap, ◌∙◌, length-drop, get_or-take, get_or-drop, ext_get_or, arith}
use Rattle.std.proofs.lemmas.List.{length-map}
use Rattle.std.proofs.Math.ListN.{get_or-map}
use Rattle.std.proofs.Math.Seq.{slice, length-slice}
use Rattle.format.specs.Limits.{max_elements}
use Rattle.solving.specs.Line.{greater, line, no_bindings}
use Rattle.bindings.specs.ForContracts.Bindings.{bindings_of}
use Rattle.line_bytes.specs.declared.element.Relation.TheVariants.{Greater}
use Rattle.line_bytes.specs.declared.element.Element.{Element as Held}
use Rattle.lines.specs.declared.line.Line.{Line as LineValue}
use Rattle.line_bytes.specs.ForContracts.Resting.{said, meaning, RestingLine, line_of}
use Rattle.lines.specs.ForContracts.Line.{opening_line, elements_from, Carries}

-- The walk's first line.
pub opening_means : (s t : ℕ) → line_of (opening_line s t) ≡ line no_bindings (greater s t ∷ [])
unfolding line_of opening_line bindings_of no_bindings
opening_means s t = refl

-- What stands in an element's place that was not filled in.
abbrev pub unfilled : Held
unfilled = record { relation = Greater 0 0 }

-- A line holds what rests if each of its elements from `reduced` on does.
pub elements_hold : (l : LineValue) (s : RestingLine) → length l.elements ≡ max_elements → length s.elements ≤ max_elements → l.bindings ≡ s.bindings → l.count ≡ length s.elements
    → l.reduced ≡ s.reduced → ((i : ℕ) → s.reduced ≤ i → i < l.count → meaning (get_or l.elements i unfilled) ≡ get_or s.elements i (greater 0 0)) → Carries l s
unfolding elements_from meaning said
elements_hold l s places few b c r e = record {
  bindings_are = b;
  count_is = c;
  reduced_is = r;
  elements_are = λ from h.
      let part = slice from l.count l.elements in
      let n : length (map meaning part) ≡ l.count - from = length-map part meaning ∙ length-slice from l.count l.elements (omega arith) in
      let m = length-drop from s.elements in
      ext_get_or (greater 0 0) (map meaning part) (drop from s.elements) (omega arith) (λ i k.
      get_or-map meaning part i unfilled
      ∙ (ap meaning (get_or-drop from (take l.count l.elements) i unfilled ∙ get_or-take l.count l.elements (from + i) unfilled (omega arith))
      ∙ (e (from + i) (omega arith) (omega arith) ∙ sym (get_or-drop from s.elements i (greater 0 0)))));
}
