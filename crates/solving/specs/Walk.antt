-- The walk that solves s > t (document 01), over what stands at each position.
use Prim.Native.Nat.{ℕ, zero, suc, ◌≤◌, ◌<◌}
use Rattle.std.specs.Prelude.{◌≡◌, Bool, length, ltb}
use Rattle.std.proofs.Math.Bool.{true, false}
use Rattle.std.proofs.Math.Option
use Rattle.std.proofs.Math.Option.{Option, none, some}
use mathlib.Core.List.{List, [], ◌∷◌, ◌++◌, map}
use Rattle.std.proofs.Math.Decide.{ℕ_discrete, dec_lt}
use Rattle.format.specs.Limits.{variable_count, position_count, max_elements, max_lines, max_turns}
use Rattle.format.specs.declared.refusal.Refusal.{Refusal}
use Rattle.format.specs.declared.refusal.Refusal.TheVariants.{TooManyTurns as too_many_turns, TooManyElements as too_many_elements, TooManyLines as too_many_lines}
use Rattle.format.specs.Lists.{any}
use Rattle.terms.specs.Position.{Node, var_node, app_node}
use Rattle.terms.specs.Equation.{Equation, view, source_position, target_position}
use Rattle.terms.specs.declared.direction.Direction.{Direction}
use Rattle.solving.specs.Line.{Bindings, unbound, lookup, bind, Element, equal, greater, Line, line}

-- How deep the recursions through the bindings may go. `enough` is what the walk takes: a variable is bound to a term or to a higher
-- variable, and no descent meets more positions than there are. No larger fuel changes a turn of a table that the walk comes to (proofs/Theory/Fuel).
pub record Fuel : Type 0 where
  pub hops : ℕ
  pub occurs_depth : ℕ
  pub unify_depth : ℕ

abbrev pub enough_with : (variables : ℕ) → Fuel
enough_with variables = record { hops = variables; occurs_depth = suc position_count; unify_depth = suc position_count }

abbrev pub enough : Fuel
enough = enough_with variable_count

-- At least as much of each.
pub record AtLeast (least fuel : Fuel) : Type 0 where
  pub more_hops : least.hops ≤ fuel.hops
  pub deeper_occurs : least.occurs_depth ≤ fuel.occurs_depth
  pub deeper_unify : least.unify_depth ≤ fuel.unify_depth

-- "Terms are seen through the bindings: a bound variable stands for its term, repeatedly."
unfoldable pub bound_to : Bindings → Node → Option ℕ
bound_to θ (var_node v) = lookup θ v
bound_to θ (app_node f ps) = none

unfoldable pub occurs_in : (ℕ → Bool) → ℕ → Node → Bool
unfolding any ℕ_discrete
occurs_in occurs v (var_node w) = elim (ℕ_discrete v w) [ yes e ↦ true | no n ↦ false ]
occurs_in occurs v (app_node f ps) = any occurs ps

-- "bind to the term's position unless it occurs there"
unfoldable pub bind_unless : Bool → Bindings → ℕ → ℕ → Option Bindings
bind_unless true θ v p = none
bind_unless false θ v p = some (bind θ v p)

-- "Equal variables: nothing. Two unbound variables: bind the smaller number to the other's position."
unfoldable pub unify_variables : Bindings → (v w : ℕ) → ℕ → ℕ → Dec (v ≡ w) → Dec (v < w) → Option Bindings
unify_variables θ v w p q (yes e) l = some θ
unify_variables θ v w p q (no n) (yes l) = some (bind θ v q)
unify_variables θ v w p q (no n) (no m) = some (bind θ w p)

-- "left argument first", the bindings handed on.
unfoldable pub unify_each : (Bindings → ℕ → ℕ → Option Bindings) → Bindings → List ℕ → List ℕ → Option Bindings
unify_each unify θ [] [] = some θ
unify_each unify θ [] (q ∷ qs) = none
unify_each unify θ (p ∷ ps) [] = none
unify_each unify θ (p ∷ ps) (q ∷ qs) = elim (unify θ p q) [ none ↦ none | some θ' ↦ unify_each unify θ' ps qs ]

-- "for each i, si > t then si = t"
unfoldable pub argument_choices : List ℕ → ℕ → List (List Element)
argument_choices [] t = []
argument_choices (s ∷ ss) t = (greater s t ∷ []) ∷ (equal s t ∷ []) ∷ argument_choices ss t

-- "all s > tj"
unfoldable pub exceeds_each : ℕ → List ℕ → List Element
exceeds_each s [] = []
exceeds_each s (t ∷ ts) = greater s t ∷ exceeds_each s ts

-- "for each k the L3 list in argument order"
unfoldable pub lexicographic_choices : ℕ → List ℕ → List ℕ → List (List Element)
unfolding exceeds_each
lexicographic_choices s [] ts = []
lexicographic_choices s (s₁ ∷ ss) [] = []
lexicographic_choices s (s₁ ∷ ss) (t₁ ∷ ts) = (greater s₁ t₁ ∷ exceeds_each s ts) ∷ map (equal s₁ t₁ ∷◌) (lexicographic_choices s ss ts)

unfoldable pub precedence_choices : {g f : ℕ} → Dec (g < f) → ℕ → List ℕ → List (List Element)
unfolding exceeds_each
precedence_choices (yes l) s ts = exceeds_each s ts ∷ []
precedence_choices (no n) s ts = []

unfoldable pub same_symbol_choices : {f g : ℕ} → Dec (f ≡ g) → ℕ → List ℕ → List ℕ → List (List Element)
unfolding lexicographic_choices
same_symbol_choices (yes e) s ss ts = lexicographic_choices s ss ts
same_symbol_choices (no n) s ss ts = []

-- "Choices in order: for each i, si > t then si = t; then, if f > g, all s > tj; if f = g, for each k the L3 list in argument order."
unfoldable pub choices : (s t f g : ℕ) → List ℕ → List ℕ → List (List Element)
unfolding argument_choices precedence_choices same_symbol_choices ℕ_discrete dec_lt
choices s t f g ss ts = argument_choices ss t ++ precedence_choices (dec_lt g f) s ts ++ same_symbol_choices (ℕ_discrete f g) s ss ts

-- What becomes of an element: it is fully reduced, or these lines replace its line, each with the elements that stand in its place.
pub data Treatment : Type 0 where
  fully_reduced : Treatment
  becomes : List Line → Treatment

-- "Failure deletes the line, success the element."
unfoldable pub unified : Option Bindings → Treatment
unified none = becomes []
unified (some θ) = becomes (line θ [] ∷ [])

-- The other elements of the line, to the left and to the right.
unfoldable pub in_front : Element → Line → Line
in_front e (line θ es) = line θ (e ∷ es)

unfoldable pub behind : List Element → Line → Line
behind fs (line θ es) = line θ (es ++ fs)

-- How a walk ends: with a table, the last one or the one at which a test stops it (`walk_until`), and the turns taken by then; or refused.
pub data Walked : Type 0 where
  solved : List Line → ℕ → Walked
  refused : Refusal → Walked

-- "9, a line beyond 40 elements"
unfoldable pub crowded : Line → Bool
crowded (line θ es) = ltb max_elements (length es)

-- "9 before 10"; "10, a table beyond 255 lines after a turn, finished ones counted".
unfoldable pub over_limit : List Line → Option Refusal
unfolding any crowded
over_limit table = elim (any crowded table) [ true ↦ some too_many_elements | false ↦ elim (ltb max_lines (length table)) [ true ↦ some too_many_lines | false ↦ none ] ]

-- "at first the one line with s > t and no binding"
unfoldable pub opening : (vars s t : ℕ) → List Line
opening vars s t = line (unbound vars) (greater s t ∷ []) ∷ []

module _ (fuel : Fuel) (view : ℕ → Node) where
  unfoldable pub follow : ℕ → Bindings → ℕ → ℕ
  unfolding bound_to
  follow zero θ p = p
  follow (suc k) θ p = elim (bound_to θ (view p)) [ none ↦ p | some q ↦ follow k θ q ]

  -- "the position reached through the bindings"
  unfoldable pub reach : Bindings → ℕ → ℕ
  unfolding follow
  reach θ p = follow fuel.hops θ p

  -- Does the unbound variable `v` occur at `p`, through the bindings?
  unfoldable pub occurs : ℕ → Bindings → ℕ → ℕ → Bool
  unfolding occurs_in reach
  occurs zero θ v p = false
  occurs (suc k) θ v p = occurs_in (occurs k θ v) v (view (reach θ p))

  -- "Equality: unify, left argument first."
  unfoldable pub unify_nodes : (Bindings → ℕ → ℕ → Option Bindings) → Bindings → ℕ → ℕ → Node → Node → Option Bindings
  unfolding unify_variables bind_unless unify_each occurs ℕ_discrete dec_lt
  unify_nodes unify θ p q (var_node v) (var_node w) = unify_variables θ v w p q (ℕ_discrete v w) (dec_lt v w)
  unify_nodes unify θ p q (var_node v) (app_node g qs) = bind_unless (occurs fuel.occurs_depth θ v q) θ v q
  unify_nodes unify θ p q (app_node f ps) (var_node w) = bind_unless (occurs fuel.occurs_depth θ w p) θ w p
  unify_nodes unify θ p q (app_node f ps) (app_node g qs) = elim (ℕ_discrete f g) [ yes e ↦ unify_each unify θ ps qs | no n ↦ none ]

  unfoldable pub unify : ℕ → Bindings → ℕ → ℕ → Option Bindings
  unfolding unify_nodes reach
  unify zero θ p q = none
  unify (suc k) θ p q = unify_nodes (unify k) θ (reach θ p) (reach θ q) (view (reach θ p)) (view (reach θ q))

  -- "Inequality l > r", by what l and r are, seen through the bindings.
  unfoldable pub treat_greater : Bindings → ℕ → ℕ → Node → Node → Treatment
  unfolding occurs choices
  -- "l a variable occurring in r (or r itself): delete the line"
  treat_greater θ p q (var_node v) r = elim (occurs fuel.occurs_depth θ v q) [ true ↦ becomes [] | false ↦ fully_reduced ]
  -- "Else r a variable occurring in l: delete the element"
  treat_greater θ p q (app_node f ps) (var_node w) = elim (occurs fuel.occurs_depth θ w p) [ true ↦ becomes (line θ [] ∷ []) | false ↦ fully_reduced ]
  -- "Else both non-variables: the line is replaced, in its place, by one line per choice". "A side taken whole keeps its element's position".
  treat_greater θ p q (app_node f ps) (app_node g qs) = becomes (map (line θ) (choices p q f g ps qs))

  unfoldable pub treat : Bindings → Element → Treatment
  unfolding unified unify treat_greater reach
  treat θ (equal p q) = unified (unify fuel.unify_depth θ p q)
  treat θ (greater p q) = treat_greater θ p q (view (reach θ p)) (view (reach θ q))

  -- "the leftmost element that is not fully reduced", treated: the lines that replace the line. None: "A line is finished when all its elements are fully reduced."
  unfoldable pub treat_leftmost : Bindings → List Element → Option (List Line)
  unfolding treat in_front behind
  treat_leftmost θ [] = none
  treat_leftmost θ (e ∷ es) = elim (treat θ e) [ becomes ls ↦ some (map (behind es) ls) | fully_reduced ↦ Option.map (map (in_front e)) (treat_leftmost θ es) ]

  unfoldable pub treat_line : Line → Option (List Line)
  unfolding treat_leftmost
  treat_line (line θ es) = treat_leftmost θ es

  -- "Take the first unfinished line". "Treating it is one turn": the lines stand in its place. None: every line is finished.
  unfoldable pub turn : List Line → Option (List Line)
  unfolding treat_line
  turn [] = none
  turn (l ∷ ls) = elim (treat_line l) [ some new ↦ some (new ++ ls) | none ↦ Option.map (l ∷◌) (turn ls) ]

  -- The walk from a table, `taken` turns taken and `left` left: "8, a turn beyond 10,000", "8 before 9 before 10". `over` says what a new table earns.
  -- It ends too at a table that passes the test `stop`, looked over after each turn that is not refused.
  unfoldable pub walk_until : (over : List Line → Option Refusal) → (stop : List Line → Bool) → (left taken : ℕ) → List Line → Walked
  unfolding turn
  walk_until over stop zero taken table = elim (turn table) [ none ↦ solved table taken | some new ↦ refused too_many_turns ]
  walk_until over stop (suc left) taken table =
      elim (turn table) [
        | none ↦ solved table taken
        | some new ↦ elim (over new) [ some r ↦ refused r | none ↦ elim (stop new) [ true ↦ solved new (suc taken) | false ↦ walk_until over stop left (suc taken) new ] ]
      ]

  -- The walk that solves s > t, for any limits on tables (`over`) and turns (`most`) and any test that stops it (`stop`). Each line has `vars` slots for bindings.
  unfoldable pub walk_within : (over : List Line → Option Refusal) → (stop : List Line → Bool) → (most vars : ℕ) → (s t : ℕ) → Walked
  unfolding walk_until opening
  walk_within over stop most vars s t = walk_until over stop most 0 (opening vars s t)

  -- The walk of document 01, with any number of variables: "At most 10,000 turns."
  unfoldable pub walk_with : (variables : ℕ) → (s t : ℕ) → Walked
  unfolding walk_within over_limit
  walk_with = walk_within over_limit (λ table. false) max_turns

  -- With the sheet's number of variables.
  unfoldable pub walk : (s t : ℕ) → Walked
  unfolding walk_with
  walk = walk_with variable_count

-- The walk of one direction of an equation, with any number of variables and with the sheet's.
unfoldable pub solve_with : (variables : ℕ) → Equation → Direction → Walked
unfolding walk_with view source_position target_position
solve_with variables e d = walk_with (enough_with variables) (view e) variables (source_position e d) (target_position e d)

unfoldable pub solve : Equation → Direction → Walked
unfolding solve_with walk
solve = solve_with variable_count

-- "a direction solves if its walk earns none of 8 to 10; its table is the one that this walk ends with"
pub record Solves (e : Equation) (d : Direction) : Type 0 where
  pub table : List Line
  pub turns : ℕ
  pub walked : solve e d ≡ solved table turns
