-- What the walk's code may rely on of a resting line.
use Rattle.std.specs.Prelude.{ℕ, ◌≤◌, ◌≡◌, List, length, take}
use Rattle.format.specs.Limits.{max_elements}
use Rattle.format.specs.Lists.{Every}
use Rattle.solving.specs.Line.{Element}
use Rattle.solving.specs.Walk.{enough, fully_reduced, treat}
use Rattle.solving.specs.ForContracts.Within.{AllWithin}
use Rattle.bindings.specs.ForContracts.PrefixForm.{view_of}
use Rattle.bindings.specs.ForContracts.Bindings.{bindings_of, Readable}
use Rattle.line_bytes.specs.ForContracts.Resting.{RestingLine}

-- All of these elements are fully reduced under the bindings.
abbrev pub KnownReduced : (nodes sizes bindings : List ℕ) → List Element → Type 0
KnownReduced nodes sizes bs = Every (λ e. treat enough (view_of nodes sizes) (bindings_of bs) e ≡ fully_reduced)

pub record WellFormed (nodes sizes : List ℕ) (l : RestingLine) : Type 0 where
  pub readable : Readable nodes sizes l.bindings
  pub within : AllWithin (length nodes) l.elements
  pub few : length l.elements ≤ max_elements
  pub known : l.reduced ≤ length l.elements
  pub reduced_known : KnownReduced nodes sizes l.bindings (take l.reduced l.elements)
