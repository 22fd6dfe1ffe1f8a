-- A row is loaded before the subject's nodes: the equation stands at the front, and all that stands from the subject's first node on is as before.
use Prim.Native.Nat.{ℕ, ◌<◌}
use mathlib.Core.Path.{◌≡◌, refl, ◌∙◌}
use mathlib.Core.Logic.{inl}
use mathlib.Core.Option
use mathlib.Core.Option.{Option, none, some}
use Rattle.std.specs.Prelude.{Option as StdOption, None, Some, MatchOption, is_some}
use borrow.Author.Tests.{lt-ltb}
use mathlib.Core.List.{List}
use native.Mathlib.Omega.{arith}
use lib.ListN.{length, get_or}
use lib.Dec.{ltb}
use Rattle.format.specs.Limits.{variable_count, position_count}
use Rattle.terms.specs.Term.{Term, Terms, var, app, nil, cons, Values}
use Rattle.terms.specs.Filling.{filling}
use Rattle.terms.specs.ForContracts.Limits.{VariablesBelow, AllVariablesBelow}
use Rattle.terms.specs.Equation.{Equation, value}
use Rattle.terms.specs.declared.direction.Direction.{Direction}
use Rattle.terms.specs.Prefix.{equation_bytes}
use Rattle.terms.specs.ForContracts.Stored.{PartAt, GroundStored, SubjectIs}
use Rattle.terms.specs.Theory.Variables.{VariablesIn, AllVariablesIn}
use Rattle.solving.specs.Judge.{first_holding}
use Rattle.bindings.specs.ForContracts.Equation.{equation_sizes}
use Rattle.reducing.specs.Match.{Match, values_of}
use Rattle.cells.specs.ForContracts.Cells.{SettledCells, Cleared}
use Rattle.cells.specs.Theory.Cells.{next_match}
use Rattle.step_match.specs.ForContracts.Matching.{SlotIs}
use Rattle.kept_lines.specs.declared.trimmed.KeptLines.{KeptLines}
use Rattle.kept_lines.specs.ForContracts.Holding.{LinesAre}
use Rattle.step_try.specs.ForContracts.Trying.{Settled, MatchedTry, LinesTell}
use Rattle.step_try.specs.Theory.Testable.{AtFront, lines_testable}
use Rattle.step_try.specs.Theory.Front.{Fronted, ground_kept, row, same_from}

-- All variables of a term are below the number of variables.
mutual
  below_in : (t : Term) → VariablesBelow variable_count t → VariablesIn (λ v. v < variable_count) t
  below_in (var v) h = h
  below_in (app f ts) h = all_below_in ts h

  all_below_in : (ts : Terms) → AllVariablesBelow variable_count ts → AllVariablesIn (λ v. v < variable_count) ts
  all_below_in nil h = tt
  all_below_in (cons t ts) h = (below_in t h.0, all_below_in ts h.1)

module _ {nodes sizes nodes' sizes' : List ℕ} (n : Fronted nodes nodes') (l : Fronted sizes sizes') where
  pub subject_kept : {arities : List ℕ} {t : Term} → SubjectIs nodes sizes arities t → SubjectIs nodes' sizes' arities t
  subject_kept s = record {
    nodes_length = n.same_length ∙ s.nodes_length;
    sizes_length = l.same_length ∙ s.sizes_length;
    symbols = λ i h. omega (arith, (same_from n).same i h, s.symbols i h);
    stored = ground_kept n l s.stored;
    inside = s.inside;
    filling_stored = ground_kept n l s.filling_stored;
  }

  pub settled_next : {ready ready' cells : List ℕ} (values : List ℕ) → Settled nodes sizes ready cells → length values ≡ variable_count → Cleared ready 0 position_count ready'
      → SettledCells nodes' sizes' values ready' cells
  settled_next values s v c = next_match s.are (same_from n) (same_from l) v c

-- The match gives each variable a term of the subject, or the filling.
module _ {equations lengths : List ℕ} {rule : ℕ} {table : List ℕ} {lines : KeptLines} {nodes sizes values arities : List ℕ} {i : ℕ} {e : Equation} {d : Direction} {subject : Term} {m : Match}
    (is : MatchedTry equations lengths rule table lines nodes sizes values arities i e d subject m) where
  abbrev ρ : Values
  ρ = values_of (filling arities) m

  slot_given : (v : ℕ) → v < variable_count → GroundStored nodes sizes arities (get_or values v 0) (ρ v)
  unfolding values_of
  slot_given v l = go (get_or m v none) (is.met.each v l)
    where
      go : (o : Option Term) → SlotIs nodes sizes arities o (get_or values v 0) → GroundStored nodes sizes arities (get_or values v 0) (Option.get_or o (filling arities))
      go none x = rw x is.subject_is.filling_stored
      go (some u) x = x.0

  -- 4. The lines can be tested once the row is loaded.
  module _ {nodes' sizes' : List ℕ} (n : Fronted nodes nodes') (l : Fronted sizes sizes') (bytes : PartAt nodes' 0 (equation_bytes e)) (measured : PartAt sizes' 0 (equation_sizes e)) where
    front : AtFront nodes' sizes' values arities e ρ (λ v. v < variable_count)
    front = record {
      few_symbols = (row is).few_symbols;
      limits = (row is).limits;
      left_fits = (row is).left_fits;
      right_fits = (row is).right_fits;
      bytes = bytes;
      measured = measured;
      given = λ v x. ground_kept n l (slot_given v x);
      left_variables = below_in e.left (row is).limits.left_variables;
      right_variables = below_in e.right (row is).limits.right_variables;
      slot = λ v x. inl x;
    }

    pub lines_are : LinesAre nodes' sizes' values ρ (value e ρ) table lines is.kept
    lines_are =
        let there = is.kept_there in
        record { ends = there.ends; room = omega (arith, there.room, there.table_room); there = there.there; testable = lines_testable front is.kept is.kept_are.proper }

  pub lines_tell : (r : StdOption ℕ) → MatchOption r (first_holding ρ (value e ρ) is.kept ≡ 0) (λ line. (0 < line) × (first_holding ρ (value e ρ) is.kept ≡ line)) → LinesTell (filling arities) e d m (is_some r)
  lines_tell r x = is.kept_are.tests ρ ∙ told r x
    where
      told : (r : StdOption ℕ) → MatchOption r (first_holding ρ (value e ρ) is.kept ≡ 0) (λ line. (0 < line) × (first_holding ρ (value e ρ) is.kept ≡ line)) → ltb 0 (first_holding ρ (value e ρ) is.kept) ≡ is_some r
      told None x = rw x refl
      told (Some line) x = lt-ltb 0 (first_holding ρ (value e ρ) is.kept) (omega (arith, x.0, x.1))
