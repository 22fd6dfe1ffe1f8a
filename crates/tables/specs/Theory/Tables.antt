-- The frames of a rule's table.
use Rattle.std.specs.Prelude.{ℕ, suc, ◌≡◌, List, length}
use Rattle.std.proofs.Common.{ap, ◌∙◌, arith}
use Rattle.std.proofs.lemmas.List.{length-map}
use Rattle.terms.specs.Equation.{Equation}
use Rattle.reducing.specs.Theory.Rules.{rule_of}
use Rattle.listing.specs.Listing.{table_frames, line_frame}
use Rattle.cursor.specs.ForContracts.Rest.{rule_frames}
use Rattle.cursor.specs.ForContracts.Stands.{LinesThere}
use Rattle.cursor.specs.Theory.Rest.{rule_frames_are}

-- A frame for the table, and one for each line.
pub frames_count : {es : List Equation} {rule lines : ℕ} {scratch : List ℕ} → LinesThere es rule lines scratch → length (rule_frames 0 es rule) ≡ suc lines
unfolding table_frames
frames_count {es} {rule} l =
    let o = rule_of es rule l.low in
    let (ls, turns, x, y, z) = l.there o.number o.equation o.direction o.numbered o.is in
    let fs = ap (rule_frames 0 es) o.is ∙ (rule_frames_are es o.number o.direction o.numbered ∙ ap (table_frames o.number o.equation o.direction) x) in
    ap length fs ∙ omega (arith, length-map ls (line_frame o.equation))
