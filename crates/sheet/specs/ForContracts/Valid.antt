-- What an accepted sheet has: its equations and tasks are over its symbols and within the limits.
use Rattle.std.specs.Prelude.{ℕ, ◌+◌, ◌≤◌, ◌≡◌, List, length}
use Rattle.std.proofs.Math.Option.{some}
use Rattle.format.specs.Limits.{max_symbols, max_arity, max_equations, max_tasks, max_task_nodes, max_steps}
use Rattle.format.specs.Lists.{entry, Every}
use Rattle.terms.specs.Term.{size, sizes, count, Ground, Grounds}
use Rattle.terms.specs.Equation.{Equation}
use Rattle.terms.specs.ForContracts.Limits.{WithinLimits}
use Rattle.terms.specs.ForContracts.Fits.{Fits}
use Rattle.sheet.specs.Sheet.{Task, run, judgement, comparison, Sheet, equation_width}

pub record ValidEquation (arities : List ℕ) (e : Equation) : Type 0 where
  pub left_fits : Fits arities e.left
  pub right_fits : Fits arities e.right
  pub limits : WithinLimits e

abbrev pub ValidTask : (arities : List ℕ) → List Equation → Task → Type 0
ValidTask arities es (run k s) = (k ≤ max_steps) × Ground arities s × (size s ≤ max_task_nodes)
ValidTask arities es (judgement n d ts) = (e : Equation) × (entry es n ≡ some e) × (count ts ≡ equation_width e) × Grounds arities ts × (sizes ts ≤ max_task_nodes)
ValidTask arities es (comparison s t) = Ground arities s × Ground arities t × (size s + size t ≤ max_task_nodes)

pub record ValidSymbols (arities : List ℕ) : Type 0 where
  pub some_symbol : 1 ≤ length arities
  pub few_symbols : length arities ≤ max_symbols
  pub low_arities : Every (λ a. a ≤ max_arity) arities
  pub constant : ℕ
  pub a_constant : entry arities constant ≡ some 0

-- A sheet as far as it is read.
pub record Valid (s : Sheet) : Type 0 where
  pub symbols : ValidSymbols s.arities
  pub equations : Every (ValidEquation s.arities) s.equations
  pub few_equations : length s.equations ≤ max_equations
  pub tasks : Every (ValidTask s.arities s.equations) s.tasks
  pub few_tasks : length s.tasks ≤ max_tasks
