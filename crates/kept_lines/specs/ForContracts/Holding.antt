-- Lines whose test the comparison can answer, and what the code of the test asks.
use Rattle.std.specs.Prelude.{ℕ, suc, ◌+◌, ◌*◌, ◌≤◌, ◌<◌, ◌≡◌, ◌⊎◌, List, [], ◌∷◌, map, length, get_or}
use Rattle.std.proofs.Math.Option.{none, some}
use Rattle.std.proofs.Math.Seq.{slice}
use Rattle.format.specs.Limits.{position_count, variable_count, max_elements}
use Rattle.format.specs.Lists.{Every}
use Rattle.terms.specs.Term.{Term, Values}
use Rattle.solving.specs.Line.{Bindings, Element, equal, greater, Line, line, binding_byte, element_bytes}
use Rattle.cells.specs.ForContracts.Nodes.{TermAt, resolved}
use Rattle.cells.specs.ForContracts.Cells.{BothGround}
use Rattle.kept_lines.specs.declared.trimmed.KeptLines.{KeptLines}
use Rattle.kept_lines.specs.ForContracts.Trimmed.{trimmed, trimmed_lines}

module _ (nodes sizes values : List ℕ) (ρ : Values) (value : ℕ → Term) where
  -- The node of position `p` stands for the instance of the equation's term there.
  pub record InstanceAt (p : ℕ) : Type 0 where
    pub inside : p < position_count
    pub stands : TermAt nodes sizes values p (value p)

  -- The variable's value is a term of the subject.
  pub record ValueAt (v : ℕ) : Type 0 where
    pub low : position_count ≤ get_or values v 0
    pub stands : TermAt nodes sizes values (get_or values v 0) (ρ v)

  -- The variable has no value, and what stands for it is not the instance at `p`.
  pub record NoValue (v p : ℕ) : Type 0 where
    pub absent : get_or values v 0 ≡ 0
    pub differs : ¬ (ρ v ≡ value p)

  pub record BindingTestable (v p : ℕ) : Type 0 where
    pub instance_there : InstanceAt p
    pub valued : ValueAt v ⊎ NoValue v p

  -- The slots of the variables from `v` upward.
  abbrev pub BindingsTestable : (v : ℕ) → Bindings → Type 0
  BindingsTestable v [] = Unit {0}
  BindingsTestable v (none ∷ θ) = BindingsTestable (suc v) θ
  BindingsTestable v (some p ∷ θ) = BindingTestable v p × BindingsTestable (suc v) θ

  -- One side of an inequality stands for a term of the subject.
  abbrev pub ElementTestable : Element → Type 0
  ElementTestable (equal p q) = ⊥
  ElementTestable (greater p q) = InstanceAt p × InstanceAt q × ((position_count ≤ resolved nodes values p) ⊎ (position_count ≤ resolved nodes values q)) × BothGround (value p) (value q)

  abbrev pub ElementsTestable : List Element → Type 0
  ElementsTestable = Every ElementTestable

  abbrev pub LineTestable : Line → Type 0
  LineTestable (line θ es) = (length θ ≡ variable_count) × (length es ≤ max_elements) × BindingsTestable 0 θ × ElementsTestable es

  abbrev pub LinesTestable : List Line → Type 0
  LinesTestable = Every LineTestable

  -- These bindings start at `at`; these elements stand from `from` to `end`; this line, these lines.
  pub record BindingsAre (table : List ℕ) (at : ℕ) (θ : Bindings) : Type 0 where
    pub whole : length θ ≡ variable_count
    pub room : at + variable_count ≤ length table
    pub there : slice at (at + variable_count) table ≡ map binding_byte θ
    pub testable : BindingsTestable 0 θ

  pub record ElementsAre (table : List ℕ) (from end : ℕ) (es : List Element) : Type 0 where
    pub ends : end ≡ from + 2 * length es
    pub room : end ≤ length table
    pub there : slice from end table ≡ element_bytes es
    pub testable : ElementsTestable es

  pub record LineIs (table : List ℕ) (at end : ℕ) (l : Line) : Type 0 where
    pub ends : end ≡ at + length (trimmed l)
    pub room : end ≤ length table
    pub there : slice at end table ≡ trimmed l
    pub testable : LineTestable l

  pub record LinesAre (table : List ℕ) (lines : KeptLines) (ls : List Line) : Type 0 where
    pub ends : lines.end ≡ lines.from + length (trimmed_lines ls)
    pub room : lines.end ≤ length table
    pub there : slice lines.from lines.end table ≡ trimmed_lines ls
    pub testable : LinesTestable ls

module _ (nodes sizes values : List ℕ) where
  pub record HasBinding (v p : ℕ) : Type 0 where
    pub assigned : Values
    pub value : ℕ → Term
    pub testable : BindingTestable nodes sizes values assigned value v p

  pub record HasInequality (p q : ℕ) : Type 0 where
    pub assigned : Values
    pub value : ℕ → Term
    pub testable : ElementTestable nodes sizes values assigned value (greater p q)

  pub record HasBindings (table : List ℕ) (at : ℕ) : Type 0 where
    pub assigned : Values
    pub value : ℕ → Term
    pub bindings : Bindings
    pub are : BindingsAre nodes sizes values assigned value table at bindings

  pub record HasElements (table : List ℕ) (from end : ℕ) : Type 0 where
    pub assigned : Values
    pub value : ℕ → Term
    pub elements : List Element
    pub are : ElementsAre nodes sizes values assigned value table from end elements

  pub record HasLine (table : List ℕ) (at end : ℕ) : Type 0 where
    pub assigned : Values
    pub value : ℕ → Term
    pub this : Line
    pub is : LineIs nodes sizes values assigned value table at end this

  pub record HasLines (table : List ℕ) (lines : KeptLines) : Type 0 where
    pub assigned : Values
    pub value : ℕ → Term
    pub these : List Line
    pub are : LinesAre nodes sizes values assigned value table lines these
