-- An equation's row put before the subject's nodes.
use Rattle.std.specs.Prelude.{ℕ, ◌+◌, ◌-◌, ◌*◌, ◌≤◌, ◌≡◌, get_or}
use Rattle.std.proofs.Common.{sym, ◌∙◌, take_all, drop-drop, get_or-drop}
use Rattle.std.proofs.Math.Path.{ap}
use mathlib.Core.List.{List, ◌++◌, append_assoc}
use native.Mathlib.Omega.{arith}
use Rattle.std.proofs.Math.ListN.{length, take, drop, length-append, length-drop}
use Rattle.std.proofs.Math.Seq.{length-take-le, take-append-add, drop_at}
use Rattle.format.specs.Limits.{position_count, node_count}
use Rattle.format.specs.Buffer.{written}
use Rattle.terms.specs.Term.{Term}
use Rattle.terms.specs.Equation.{Equation}
use Rattle.terms.specs.declared.direction.Direction.{Direction}
use Rattle.terms.specs.Prefix.{equation_bytes}
use Rattle.terms.specs.ForContracts.Stored.{PartAt, GroundStored}
use Rattle.terms.specs.Theory.Limits.{positions_few}
use Rattle.reducing.specs.Match.{Match}
use Rattle.cells.specs.Theory.Cells.{SameFrom}
use Rattle.bindings.specs.ForContracts.Equation.{equation_sizes}
use Rattle.bindings.specs.Theory.Equation.{length_nodes, length_sizes}
use Rattle.kept_lines.specs.declared.trimmed.KeptLines.{KeptLines}
use Rattle.rules.specs.ForContracts.Rows.{row_bytes, RowIs, RuleIs}
use Rattle.rules.specs.Theory.Rows.{row_start, rule_row}
use Rattle.step_try.specs.ForContracts.Trying.{MatchedTry}

-- The first bytes of a row stand first, and behind them nothing changes.
pub record Fronted (before after : List ℕ) : Type 0 where
  pub same_length : length after ≡ length before
  pub behind : drop position_count after ≡ drop position_count before

module _ (from before after : List ℕ) (room : position_count ≤ length from) (whole : position_count ≤ length before) (copied : after ≡ written (take position_count from) before) where
  fronted : Fronted before after
  unfolding written
  fronted =
      let l = length-take-le position_count from room in
      let b : drop position_count after ≡ drop position_count before =
      ap (drop position_count) (copied ∙ ap (λ n. take position_count from ++ drop n before) l) ∙ drop_at (take position_count from) (drop position_count before) position_count l in
      record {
        same_length = ap length copied ∙ omega (arith, length-append (take position_count from) (drop (length (take position_count from)) before), length-drop (length (take position_count from)) before, l);
        behind = b;
      }

  front_part : {part : List ℕ} → PartAt from 0 part → length part ≤ position_count → PartAt after 0 part
  unfolding written
  front_part {part} p h =
      let l = length-take-le position_count from room in
      let m = position_count - length part in
      record {
        rest = take m p.rest ++ drop (length (take position_count from)) before;
        is = copied ∙ ap (◌++ drop (length (take position_count from)) before) (ap (take position_count) p.is ∙ split p.rest h)
            ∙ append_assoc part (take m p.rest) (drop (length (take position_count from)) before);
      }
    where
      split : (rest : List ℕ) → length part ≤ position_count → take position_count (part ++ rest) ≡ part ++ take (position_count - length part) rest
      split rest h =
          let k : position_count ≡ length part + (position_count - length part) = omega arith in
          ap (λ n. take n (part ++ rest)) k ∙ take-append-add part rest (position_count - length part)

-- What stands from the subject's first node on is kept.
module _ {before after : List ℕ} (f : Fronted before after) where
  part_kept : {i : ℕ} {part : List ℕ} → position_count ≤ i → PartAt before i part → PartAt after i part
  part_kept {i} {part} h p =
      let k = i - position_count in
      let e : position_count + k ≡ i = omega arith in
      let moved : (l : List ℕ) → drop i l ≡ drop k (drop position_count l) = λ l. ap (λ n. drop n l) (sym e) ∙ sym (drop-drop k position_count l) in
      record { rest = p.rest; is = moved after ∙ (ap (drop k) f.behind ∙ (sym (moved before) ∙ p.is)) }

  pub same_from : SameFrom position_count before after
  same_from = record {
    same_length = f.same_length;
    same = λ k h.
        let m = k - position_count in
        let e : position_count + m ≡ k = omega arith in
        let moved : (l : List ℕ) → get_or l k 0 ≡ get_or (drop position_count l) m 0 = λ l. ap (λ n. get_or l n 0) (sym e) ∙ sym (get_or-drop position_count l m 0) in
        moved after ∙ (ap (λ l. get_or l m 0) f.behind ∙ sym (moved before));
  }

module _ {nodes sizes nodes' sizes' : List ℕ} (n : Fronted nodes nodes') (l : Fronted sizes sizes') where
  pub ground_kept : {arities : List ℕ} {i : ℕ} {t : Term} → GroundStored nodes sizes arities i t → GroundStored nodes' sizes' arities i t
  ground_kept g = record {
    few_symbols = g.few_symbols;
    is_ground = g.is_ground;
    stored = record { bytes = part_kept n g.low g.stored.bytes; sizes_there = part_kept l g.low g.stored.sizes_there };
    low = g.low;
    within = g.within;
  }

module _ {equations lengths : List ℕ} {rule : ℕ} {table : List ℕ} {lines : KeptLines} {nodes sizes values arities : List ℕ} {i : ℕ} {e : Equation} {d : Direction} {subject : Term} {m : Match}
    (is : MatchedTry equations lengths rule table lines nodes sizes values arities i e d subject m) where
  pub row : RowIs equations lengths arities i e
  row = is.rule_is.row

-- The row of the rule, as it is copied.
module _ {equations lengths arities : List ℕ} {rule i : ℕ} {e : Equation} {d : Direction} (is : RuleIs equations lengths arities rule i e d) where
  slice_part : {all part : List ℕ} (k n : ℕ) → k ≡ n → length all ≡ row_bytes → PartAt all n part → PartAt (take (length all - k) (drop k all)) 0 part
  slice_part {all} {part} k n x l p =
      let whole = take_all (length all - k) (drop k all) (omega (arith, length-drop k all)) in
      record { rest = p.rest; is = whole ∙ (ap (λ m. drop m all) x ∙ p.is) }

  row_bytes_there : PartAt (take (length equations - row_start rule) (drop (row_start rule) equations)) 0 (equation_bytes e)
  row_bytes_there = slice_part (row_start rule) (i * position_count) (rule_row is) is.row.equations_length is.row.bytes

  row_sizes_there : PartAt (take (length lengths - row_start rule) (drop (row_start rule) lengths)) 0 (equation_sizes e)
  row_sizes_there = slice_part (row_start rule) (i * position_count) (rule_row is) is.row.lengths_length is.row.measured

  slice_room : (all : List ℕ) → length all ≡ row_bytes → position_count ≤ length (take (length all - row_start rule) (drop (row_start rule) all))
  slice_room all l =
      let whole = ap length (take_all (length all - row_start rule) (drop (row_start rule) all) (omega (arith, length-drop (row_start rule) all))) in
      omega (arith, whole, length-drop (row_start rule) all, rule_row is, is.row.inside)

  pub equations_room : position_count ≤ length (take (length equations - row_start rule) (drop (row_start rule) equations))
  equations_room = slice_room equations is.row.equations_length

  pub lengths_room : position_count ≤ length (take (length lengths - row_start rule) (drop (row_start rule) lengths))
  lengths_room = slice_room lengths is.row.lengths_length

  pub nodes_fronted : (nodes after : List ℕ) → length nodes ≡ node_count → after ≡ written (take position_count (take (length equations - row_start rule) (drop (row_start rule) equations))) nodes
      → Fronted nodes after × PartAt after 0 (equation_bytes e)
  nodes_fronted nodes after l x =
      let from = take (length equations - row_start rule) (drop (row_start rule) equations) in
      let fit : length (equation_bytes e) ≤ position_count = omega (arith, length_nodes e, positions_few is.row.limits) in
      (fronted from nodes after equations_room (omega arith) x, front_part from nodes after equations_room (omega arith) x row_bytes_there fit)

  pub sizes_fronted : (sizes after : List ℕ) → length sizes ≡ node_count → after ≡ written (take position_count (take (length lengths - row_start rule) (drop (row_start rule) lengths))) sizes
      → Fronted sizes after × PartAt after 0 (equation_sizes e)
  sizes_fronted sizes after l x =
      let from = take (length lengths - row_start rule) (drop (row_start rule) lengths) in
      let fit : length (equation_sizes e) ≤ position_count = omega (arith, length_sizes e, positions_few is.row.limits) in
      (fronted from sizes after lengths_room (omega arith) x, front_part from sizes after lengths_room (omega arith) x row_sizes_there fit)
