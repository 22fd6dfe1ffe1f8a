-- The bytes of a resting line, and what a walk that has ended leaves.
use Rattle.std.specs.Prelude.{ℕ, ◌*◌, ◌≤◌, ◌≡◌, refl, List, [], ◌∷◌, ◌++◌, map, length, take}
use Rattle.std.proofs.Common.{ap, ◌∙◌, append-nil, arith}
use Rattle.std.proofs.Math.Option.{none, some}
use Rattle.format.specs.Limits.{max_lines, record_bytes}
use Rattle.solving.specs.Line.{Line, records}
use Rattle.solving.specs.Walk.{enough, turn}
use Rattle.bindings.specs.ForContracts.PrefixForm.{view_of}
use Rattle.bindings.specs.Theory.Bindings.{readable_slots}
use Rattle.line_bytes.specs.ForContracts.Resting.{RestingLine, line_of, resting_bytes}
use Rattle.line_bytes.specs.ForContracts.Layout.{line_bytes}
use Rattle.line_bytes.specs.Theory.Resting.{length_resting}
use Rattle.walking.specs.declared.walk.Walk.{Walk}
use Rattle.walking.specs.ForContracts.WellFormed.{WellFormed}
use Rattle.walking.specs.ForContracts.Walking.{table_reached, Walking}
use Rattle.walking.specs.Theory.Turn.{turn_none}

pub well_formed_length : {nodes sizes : List ℕ} (l : RestingLine) → WellFormed nodes sizes l → length (resting_bytes l) ≡ line_bytes
well_formed_length l s = length_resting l (readable_slots s.readable) s.few

-- Where no line is left the walk has ended, and what it ended with stands in the memory.
pub record EndedWith (nodes sizes memory : List ℕ) (w : Walk) (table : List Line) : Type 0 where
  pub comes : table_reached nodes sizes w ≡ some table
  pub no_turn : turn enough (view_of nodes sizes) table ≡ none
  pub count_is : length table ≡ w.done
  pub records_are : take (w.done * record_bytes) memory ≡ records table

pub ended : (nodes sizes memory : List ℕ) (w : Walk) (k : Walking nodes sizes memory w) → max_lines ≤ w.top → EndedWith nodes sizes memory w k.finished
ended nodes sizes memory w k h = go k.unfinished refl
  where
    go : (ls : List RestingLine) → k.unfinished ≡ ls → EndedWith nodes sizes memory w k.finished
    go [] e = record {
      comes = k.comes ∙ ap some (ap (λ l. k.finished ++ map line_of l) e ∙ append-nil k.finished);
      no_turn = turn_none (view_of nodes sizes) k.finished k.holds.all_finished;
      count_is = k.holds.done_is;
      records_are = k.holds.records_are;
    }
    go (l ∷ ls) e = absurd (omega (arith, k.holds.top_is, ap length e))
