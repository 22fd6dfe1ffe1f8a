-- The equations and tasks of an accepted sheet: how many bytes each has, and what a task is by its head.
use Rattle.std.specs.Prelude.{ℕ, ◌≤◌, ◌<◌, ◌≡◌, refl, List, length}
use Rattle.std.proofs.Common.{ap, length-append, arith}
use Rattle.format.specs.Limits.{max_equations, position_count}
use Rattle.format.specs.Theory.Lists.{entry_found, every_entry}
use Rattle.terms.specs.Term.{Term, Terms}
use Rattle.terms.specs.Equation.{Equation, direction_number}
use Rattle.terms.specs.declared.direction.Direction.{Direction}
use Rattle.terms.specs.Prefix.{prefix, equation_bytes}
use Rattle.terms.specs.Theory.Prefix.{length_prefix}
use Rattle.scanning.specs.declared.known.Known.{Known}
use Rattle.reading.specs.declared.seek.TaskHead.TheVariants.{Run, Judgement, Comparison}
use Rattle.sheet.specs.Sheet.{Task, run, judgement, comparison}
use Rattle.reading.specs.ForContracts.Seek.{Accepts, EquationIn, TaskIn, task_head}
use Rattle.sheet.specs.ForContracts.Valid.{ValidEquation}
use Rattle.sheet.specs.Theory.Accepted.{accepted_valid}

-- 1. Equations.
pub equation_few : (text : List ℕ) (e : ℕ) (q : Equation) → EquationIn text e q → length (equation_bytes q) ≤ position_count
unfolding equation_bytes
equation_few text e q (s, a, h) =
    let v = every_entry (ValidEquation s.arities) s.equations e (accepted_valid text s a).0.equations h in
    omega (arith, length-append (prefix q.left) (prefix q.right), length_prefix q.left, length_prefix q.right, v.limits.left_size, v.limits.right_size)

module _ (text : List ℕ) (known : Known) (e : ℕ) (a : Accepts text known) (l : e < known.equations) where
  pub equation_asked : (q : Equation) × EquationIn text e q
  equation_asked = let (s, r, k) = a in let (q, h) = entry_found s.equations e (omega (arith, k.equations_are)) in (q, (s, r, h))

  pub equation_low : e < max_equations
  equation_low = let (s, r, k) = a in omega (arith, k.equations_are, k.valid.few_equations)

-- 2. Tasks.
module _ (text : List ℕ) (known : Known) (k : ℕ) (a : Accepts text known) where
  pub task_asked : k < known.tasks → (t : Task) × TaskIn text k t
  task_asked l = let (s, r, g) = a in let (t, h) = entry_found s.tasks k (omega (arith, g.tasks_are)) in (t, (s, r, h))

-- 3. What a task is, by its head.
pub is_run : (t : Task) {k : ℕ} → task_head t ≡ Run k → (u : Term) × (t ≡ run k u)
is_run (run n u) {k} e = let d : n ≡ k = cc in (u, ap (λ m. run m u) d)
is_run (judgement n d ts) e = absurd cc
is_run (comparison u v) e = absurd cc

pub is_judgement : (t : Task) {e d : ℕ} → task_head t ≡ Judgement e d → (o : Direction) × (ts : Terms) × (t ≡ judgement e o ts) × (direction_number o ≡ d)
is_judgement (run k u) h = absurd cc
is_judgement (judgement n o ts) {e} {d} h =
    let x : n ≡ e = cc in
    let y : direction_number o ≡ d = cc in
    (o, ts, ap (λ m. judgement m o ts) x, y)
is_judgement (comparison u v) h = absurd cc

pub is_comparison : (t : Task) → task_head t ≡ Comparison → (u v : Term) × (t ≡ comparison u v)
is_comparison (run k u) e = absurd cc
is_comparison (judgement n d ts) e = absurd cc
is_comparison (comparison u v) e = (u, v, refl)
