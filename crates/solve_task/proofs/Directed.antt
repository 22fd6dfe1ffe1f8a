-- Calls that ask for an equation in a direction: the equation that is found, what such a call earns, and what a walk leaves in scratch.
use Prim.Native.Nat.{ℕ, ◌≤◌, ◌<◌}
use mathlib.Core.Path.{◌≡◌, refl, sym, ap, subst, ◌∙◌}
use mathlib.Core.Option.{Option, none, some}
use mathlib.Core.List.{List}
use lib.ListN.{length, take, drop}
use lib.Seq.{take_at, length-take-le}
use native.Mathlib.Omega.{arith}
use Rattle.format.specs.Limits.{max_symbols, position_count, scratch_bytes}
use Rattle.format.specs.Buffer.{written}
use Rattle.format.specs.declared.refusal.Refusal.TheVariants.{AbsentArgument as absent_argument}
use Rattle.format.specs.Lists.{entry}
use Rattle.format.specs.Theory.Lists.{entry_none, every_entry}
use Rattle.terms.specs.Equation.{Equation, direction_of}
use Rattle.terms.specs.declared.direction.Direction.{Direction}
use Rattle.terms.specs.Prefix.{equation_bytes}
use Rattle.scanning.specs.declared.known.Known.{Known}
use Rattle.sheet.specs.Sheet.{Sheet}
use Rattle.sheet.specs.Reading.{accepted, read}
use Rattle.scanning.specs.ForContracts.Scan.{known_arities}
use Rattle.scanning.specs.ForContracts.Known.{Roomy}
use Rattle.reading.specs.ForContracts.Seek.{Accepts, EquationIn, Decoded}
use Rattle.sheet.specs.ForContracts.Valid.{ValidEquation}
use Rattle.sheet.specs.Theory.Accepted.{accepted_valid}
use Rattle.reading.specs.Theory.Found.{equation_few, equation_asked}
use Rattle.outcomes.specs.Buffer.{refusal_number, filled, cleared}
use Rattle.outcomes.specs.Asked.{found, find, asked, Directed, directed_in, direction_asked}
use Rattle.outcomes.specs.Outcome.{TableOutcome, directed_answer}
use Rattle.outcomes.specs.Theory.Outcomes.{table_outcome, directed_answered}
use Rattle.outcomes.specs.Theory.Fill.{cleared_behind}
use Rattle.solve_equation.specs.ForContracts.Equation.{EquationIs, HasEquation}
use Rattle.walking.specs.ForContracts.Walking.{memory_bytes}

-- 1. The equation that is found: its bytes stand first in a buffer.
pub known_few : (sheet : List ℕ) {known : Known} → Accepts sheet known → Roomy known × (length (known_arities known) ≤ max_symbols)
known_few sheet a = let (s, r, g) = a in (g.roomy, omega (arith, ap length g.arities_are, g.valid.symbols.few_symbols))

module _ (sheet : List ℕ) (equation : ℕ) (known : Known) (a : Accepts sheet known) (there : equation < known.equations) (before bytes : List ℕ) (n : ℕ)
    (each : (q : Equation) → EquationIn sheet equation q → Decoded (equation_bytes q) before bytes n) where
  pub bytes_room : length bytes ≡ position_count → n ≤ length bytes
  bytes_room l = let (q, i) = equation_asked sheet known equation a there in omega (arith, (each q i).0, equation_few sheet equation q i)

  pub bytes_taken : length bytes ≡ position_count → n ≡ length (take n bytes)
  bytes_taken l = sym (length-take-le n bytes (bytes_room l))

  pub equation_is : (q : Equation) → EquationIn sheet equation q → EquationIs (take n bytes) (known_arities known) q
  unfolding equation_bytes written
  equation_is q i =
      let (l, b) = each q i in
      let (s, r, x) = i in
      let (s', r', g) = a in
      let e : accepted s' ≡ accepted s = sym r' ∙ r in
      let d : s' ≡ s = cc in
      let arities : s.arities ≡ known_arities known = sym (g.arities_are ∙ ap (λ s. s.arities) d) in
      let valid = subst (λ arities. ValidEquation arities q) arities (every_entry (ValidEquation s.arities) s.equations equation (accepted_valid sheet s r).0.equations x) in
      record {
        spelled = ap (take n) b ∙ take_at (equation_bytes q) (drop (length (equation_bytes q)) before) n (sym l);
        limits = valid.limits;
        left_fits = valid.left_fits;
        right_fits = valid.right_fits;
        few_symbols = (known_few sheet a).1;
      }

  pub equation_has : HasEquation (take n bytes) (known_arities known)
  equation_has = let (q, i) = equation_asked sheet known equation a there in record { equation = q; is = equation_is q i }

-- 2. What the call earns there.
module _ (gives : Directed → TableOutcome) (sheet table scratch : List ℕ) (equation direction : ℕ) where
  answer_of : (s : Sheet) → read sheet ≡ accepted s → (o : Option Equation) (d : Option Direction) → entry s.equations equation ≡ o → direction_of direction ≡ d
      → directed_answered gives sheet table scratch equation direction ≡ directed_answer gives table scratch (found (directed_in o d))
  unfolding asked find direction_asked
  answer_of s r o d x y =
      ap (λ x. directed_answer gives table scratch (find (direction_asked equation direction) x)) r
      ∙ ap (λ o. directed_answer gives table scratch (found (directed_in o (direction_of direction)))) x
      ∙ ap (λ d. directed_answer gives table scratch (found (directed_in o d))) y

  module _ (known : Known) (a : Accepts sheet known) where
    pub equation_absent : known.equations ≤ equation → {n : ℕ} → n ≡ refusal_number absent_argument 0 → directed_answered gives sheet table scratch equation direction ≡ table_outcome n table scratch
    unfolding directed_answer found directed_in
    equation_absent h e =
        let (s, r, g) = a in
        answer_of s r none (direction_of direction) (entry_none s.equations equation (omega (arith, g.equations_are))) refl ∙ ap (λ n. table_outcome n table scratch) (sym e)

    module _ (there : equation < known.equations) where
      pub direction_absent : direction_of direction ≡ none → {n : ℕ} → n ≡ refusal_number absent_argument 0 → directed_answered gives sheet table scratch equation direction ≡ table_outcome n table scratch
      unfolding directed_answer found directed_in
      direction_absent h e =
          let (q, (s, r, x)) = equation_asked sheet known equation a there in
          answer_of s r (some q) none x h ∙ ap (λ n. table_outcome n table scratch) (sym e)

      pub equation_answer : {d : Direction} → direction_of direction ≡ some d → {o : TableOutcome} (bytes arities : List ℕ) → ((q : Equation) → EquationIn sheet equation q → EquationIs bytes arities q)
          → ((e : Equation) → EquationIs bytes arities e → gives (record { equation = e; direction = d }) ≡ o) → directed_answered gives sheet table scratch equation direction ≡ o
      unfolding directed_answer found directed_in
      equation_answer {d} y bytes arities f w =
          let (q, i) = equation_asked sheet known equation a there in
          let (s, r, x) = i in
          answer_of s r (some q) (some d) x y ∙ w q (f q i)

-- 3. What is left after a walk.
pub walk_cleared : (scratch worked last : List ℕ) → drop memory_bytes worked ≡ drop memory_bytes scratch → last ≡ filled scratch_bytes 0 worked → last ≡ cleared scratch
walk_cleared scratch worked last = cleared_behind memory_bytes scratch worked last (omega arith)
