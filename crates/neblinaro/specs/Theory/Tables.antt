-- Demands 2 and 3 for tables, over what solve gives.
use Rattle.std.specs.Prelude.{ℕ, zero, suc, ◌≤◌, ◌<◌, ◌≡◌, refl, Bool, true, false, List, [], ◌∷◌, length}
use Rattle.std.proofs.Common.{ap, ◌∙◌, inl, inr, arith}
use Rattle.std.proofs.Math.Option.{Option, none, some}
use Rattle.format.specs.Limits.{position_count}
use Rattle.format.specs.declared.refusal.Refusal.TheVariants.{ShortBuffer as short_buffer, AbsentArgument as absent_argument}
use Rattle.format.specs.Buffer.{written}
use Rattle.format.specs.Lists.{entry}
use Rattle.format.specs.Theory.Lists.{every_entry}
use Rattle.terms.specs.Equation.{Equation, direction_of}
use Rattle.terms.specs.declared.direction.Direction.{Direction}
use Rattle.terms.specs.Theory.Limits.{positions_few}
use Rattle.sheet.specs.ForContracts.Valid.{ValidEquation}
use Rattle.sheet.specs.Theory.Accepted.{accepted_valid}
use Rattle.solving.specs.Line.{Bindings, lookup, Element, equal, greater, Line, line, records}
use Rattle.solving.specs.Walk.{Walked, solved, refused, solve}
use Rattle.solving.specs.ForContracts.Within.{AllWithin}
use Rattle.solving.specs.ForContracts.Written.{Inequalities, WrittenLines}
use Rattle.solving.proofs.Theory.Solve.{solve_exact, solved_lines}
use Rattle.outcomes.specs.Buffer.{fields, refusal_byte, cleared}
use Rattle.outcomes.specs.Asked.{found, find, asked, directed_in, direction_asked}
use Rattle.outcomes.specs.Outcome.{table_fits, table_unsolved, directed_answer, directed_call, solve_walked, solve_directed, solve_call}
use Rattle.neblinaro.specs.Demands.{DirectionNamed, BoundToPositions, BetweenPositions, Recorded, TableDemand, TablesDemanded, TablesExact, SolveServes, ServedOrHost, SolveRefusedByHost}
use Rattle.neblinaro.specs.Theory.Determined.{records_determine}
use Rattle.neblinaro.specs.Theory.Directed.{named_limits, directed_gives, directed_served}
use Rattle.outcomes.specs.Theory.Number.{fields_byte, refused_byte, refused_not_zero}

-- 1. What solve gives on a direction that solves: the records of that walk's table, its lines and its turns.
pub solve_gives : (sheet : List ℕ) (e d : ℕ) (table scratch : List ℕ) (n : DirectionNamed sheet e d) (ls : List Line) (t : ℕ) → table_fits table scratch ≡ true → solve n.equation n.direction ≡ solved ls t
    → solve_call sheet e d table scratch ≡ record { returned = fields (length ls) t 0; table = written (records ls) table; scratch = cleared scratch }
unfolding solve_call solve_directed solve_walked
solve_gives sheet e d table scratch n ls t f w = directed_gives (solve_directed e table scratch) sheet e d table scratch n f ∙ rw w

-- 2. The lines that the walk ends with can be written.
bound_below : {n : ℕ} → n ≤ position_count → (θ : Bindings) → ((v p : ℕ) → lookup θ v ≡ some p → p < n) → BoundToPositions θ
bound_below l [] h = tt
bound_below l (none ∷ θ) h = bound_below l θ (λ v p e. h (suc v) p e)
bound_below l (some q ∷ θ) h = (omega (arith, h zero q refl), bound_below l θ (λ v p e. h (suc v) p e))

elements_below : {n : ℕ} → n ≤ position_count → (es : List Element) → AllWithin n es → Inequalities es → BetweenPositions es
elements_below l [] h k = tt
elements_below l (equal p q ∷ es) h k = absurd k.0
elements_below l (greater p q ∷ es) h k = let (a, b) = h.0 in (omega arith, omega arith, elements_below l es h.1 k.1)

lines_recorded : {n : ℕ} → n ≤ position_count → (ls : List Line) → WrittenLines n ls → Recorded ls
lines_recorded l [] w = tt
lines_recorded l (line θ es ∷ ls) w =
    let x = w.0 in (x.slots, bound_below l θ x.bound_within, x.few_elements, elements_below l es x.elements_within x.inequalities, lines_recorded l ls w.1)

-- 3. The demands.
table_demand_of : (sheet : List ℕ) (e d : ℕ) (table scratch : List ℕ) (n : DirectionNamed sheet e d) (ls : List Line) (t : ℕ) → table_fits table scratch ≡ true → solve n.equation n.direction ≡ solved ls t
    → TableDemand sheet e d table scratch
unfolding written
table_demand_of sheet e d table scratch n ls t f w =
    let o = solve_gives sheet e d table scratch n ls t f w in
    let r = lines_recorded (positions_few (named_limits n)) ls (solved_lines n.equation (named_limits n) n.direction ls t w) in
    record {
      named = n;
      lines = ls;
      turns = t;
      walked = w;
      counts = ap (λ o. o.returned) o;
      bytes = ap (λ o. o.table) o;
      recorded = r;
      determined = λ others h e. records_determine others ls h r e;
      exact = solve_exact n.equation (named_limits n) n.direction ls t w;
    }

pub table_demand : (sheet : List ℕ) (e d : ℕ) (table scratch : List ℕ) → refusal_byte (solve_call sheet e d table scratch).returned ≡ 0 → TableDemand sheet e d table scratch
unfolding solve_call solve_directed solve_walked table_unsolved
table_demand sheet e d table scratch h = let k = directed_served (solve_directed e table scratch) sheet e d table scratch h in by k.named k.fits (solve k.named.equation k.named.direction) refl k.serves
  where
    by : (n : DirectionNamed sheet e d) → table_fits table scratch ≡ true → (w : Walked) → solve n.equation n.direction ≡ w → refusal_byte (solve_walked e table scratch w).returned ≡ 0 → TableDemand sheet e d table scratch
    by n f (refused r) w h = absurd (refused_not_zero r _ h)
    by n f (solved ls t) w h = table_demand_of sheet e d table scratch n ls t f w

pub tables_demanded : TablesDemanded
tables_demanded sheet e d table scratch h = table_demand sheet e d table scratch h

-- 4. On an accepted sheet no refusal but 11 or 12 meets solve on a direction that solves.
pub solve_refused_by_host : SolveRefusedByHost
unfolding solve_call solve_directed solve_walked directed_call directed_answer asked find found direction_asked directed_in
solve_refused_by_host sheet s e d table scratch r each = fits (table_fits table scratch)
  where
    parts : (o : Option Equation) (p : Option Direction) → entry s.equations e ≡ o → direction_of d ≡ p → ServedOrHost (directed_answer (solve_directed e table scratch) table scratch (found (directed_in o p))).returned
    parts none p x y = inr (inr (refused_byte absent_argument 0))
    parts (some q) none x y = inr (inr (refused_byte absent_argument 0))
    parts (some q) (some p) x y = let w = each q p x y in rw w.walked (inl (fields_byte (length w.table) w.turns 0))

    fits : (b : Bool) → ServedOrHost (directed_answer (solve_directed e table scratch) table scratch (asked b sheet (direction_asked e d))).returned
    fits false = inr (inl (refused_byte short_buffer 0))
    fits true = rw r (parts (entry s.equations e) (direction_of d) refl refl)

-- 5. What is asked for is given, and the tables of an accepted sheet are exact whatever is asked for.
pub solve_serves : SolveServes
solve_serves sheet s e d q o table scratch r x y w f =
    let n : DirectionNamed sheet e d = record { content = s; reads = r; equation = q; direction = o; equation_there = x; direction_there = y } in
    rw (solve_gives sheet e d table scratch n w.table w.turns f w.walked) (fields_byte _ _ _)

pub tables_exact : TablesExact
tables_exact sheet s r e q x d w ρ =
    let limits = (every_entry (ValidEquation s.arities) s.equations e (accepted_valid sheet s r).0.equations x).limits in
    solve_exact q limits d w.table w.turns w.walked ρ
