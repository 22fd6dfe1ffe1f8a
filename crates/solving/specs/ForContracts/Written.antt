-- Lines that can be written as records (document 01, 'The walk that solves s > t').
use Rattle.std.specs.Prelude.{ℕ, ◌≤◌, ◌<◌, ◌≡◌, List, [], ◌∷◌, length}
use Rattle.std.proofs.Math.Option.{some}
use Rattle.format.specs.Limits.{variable_count, max_elements}
use Rattle.format.specs.Lists.{Every}
use Rattle.solving.specs.Line.{Bindings, lookup, Element, equal, greater, Line, line}
use Rattle.solving.specs.ForContracts.Within.{AllWithin}

abbrev pub Inequality : Element → Type 0
Inequality (equal p q) = ⊥
Inequality (greater p q) = Unit {0}

abbrev pub Inequalities : List Element → Type 0
Inequalities = Every Inequality

-- A line to be written, where there are `n` positions.
pub record WrittenLine (n : ℕ) (θ : Bindings) (es : List Element) : Type 0 where
  pub slots : length θ ≡ variable_count
  pub bound_within : (v p : ℕ) → lookup θ v ≡ some p → p < n
  pub elements_within : AllWithin n es
  pub inequalities : Inequalities es
  pub few_elements : length es ≤ max_elements

abbrev pub WrittenLines : ℕ → List Line → Type 0
WrittenLines n [] = Unit {0}
WrittenLines n (line θ es ∷ ls) = WrittenLine n θ es × WrittenLines n ls
