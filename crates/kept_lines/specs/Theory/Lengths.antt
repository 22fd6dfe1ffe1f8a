-- How many bytes a kept line has.
use Rattle.std.specs.Prelude.{◌+◌, ◌*◌, ◌≡◌, List, length}
use Rattle.std.proofs.Common.{arith, length-append}
use Rattle.std.proofs.lemmas.List.{length-map}
use Rattle.format.specs.Limits.{variable_count}
use Rattle.solving.specs.Line.{Bindings, Element, line}
use Rattle.solving.specs.Theory.Records.{length_element_bytes}
use Rattle.line_bytes.specs.ForContracts.Layout.{first_element}
use Rattle.kept_lines.specs.ForContracts.Trimmed.{trimmed}

pub length_trimmed : (θ : Bindings) (es : List Element) → length θ ≡ variable_count → length (trimmed (line θ es)) ≡ first_element + 2 * length es
unfolding trimmed
length_trimmed θ es h = simp (length-append, length-map) (omega (arith, length_element_bytes es))
