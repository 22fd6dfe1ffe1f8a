-- What stands at the positions of an equation: arguments behind their symbol, variables that are numbered, and the instances of the terms.
use Rattle.std.specs.Prelude.{ℕ, ◌+◌, ◌≤◌, ◌<◌}
use Rattle.std.proofs.Math.Path.{◌≡◌, refl}
use Rattle.std.proofs.Common.{ap}
use mathlib.Core.List.{List, [], ◌∷◌}
use native.Mathlib.Omega.{arith}
use Rattle.format.specs.Limits.{variable_count}
use Rattle.format.specs.Lists.{Every}
use Rattle.format.specs.Theory.Lists.{every_append, every_get_or}
use Rattle.terms.specs.Term.{Term, Terms, var, app, nil, cons, size, Values, inst, insts}
use Rattle.terms.specs.Position.{subterms, subterms_of, starts, Node, var_node, app_node, node_at}
use Rattle.terms.specs.Equation.{Equation, term_at, view, value}
use Rattle.terms.specs.Theory.Position.{size_pos}
use Rattle.terms.specs.Theory.Subterms.{subterms_have}
use Rattle.terms.specs.ForContracts.Limits.{VariablesBelow, AllVariablesBelow, WithinLimits, positions}
use Rattle.terms.specs.Theory.Positions.{Segment, term_head, first_segment, rest_segment, all_subterms, arguments_at, segment_within}

-- A position is one of a list.
pub data In (c : ℕ) : List ℕ → Type 0 where
  head : {ps : List ℕ} → In c (c ∷ ps)
  tail : {p : ℕ} {ps : List ℕ} → In c ps → In c (p ∷ ps)

-- `n` positions, each argument behind its symbol, the variables numbered below `vars`.
pub record Layout (view : ℕ → Node) (vars n : ℕ) : Type 0 where
  pub variable_low : (p v : ℕ) → view p ≡ var_node v → v < vars
  pub argument_behind : (p f c : ℕ) (ps : List ℕ) → view p ≡ app_node f ps → In c ps → p < c
  pub argument_within : (p f c : ℕ) (ps : List ℕ) → view p ≡ app_node f ps → In c ps → c < n

unfoldable pub values_at : (ℕ → Term) → List ℕ → Terms
values_at value [] = nil
values_at value (p ∷ ps) = cons (value p) (values_at value ps)

-- `value p` is the instance of the term at `p`, where `ρ` gives the values of the variables.
pub record Model (view : ℕ → Node) (ρ : Values) (value : ℕ → Term) : Type 0 where
  pub at_variable : (p v : ℕ) → view p ≡ var_node v → value p ≡ ρ v
  pub at_symbol : (p f : ℕ) (ps : List ℕ) → view p ≡ app_node f ps → value p ≡ app f (values_at value ps)

-- The starts of a list of terms lie in its segment, and the terms stand there.
module _ (e : Equation) where
  starts_range : (ts : Terms) (b c : ℕ) → Segment (all_subterms e) b (subterms_of ts) → In c (starts ts b) → (b ≤ c) × (c < positions e)
  unfolding starts size
  starts_range nil b c s i = elim i [ ]
  starts_range (cons t ts) b c s i = go (starts_range ts (b + size t) c (rest_segment t ts s)) b refl i
    where
      go : (In c (starts ts (b + size t)) → (b + size t ≤ c) × (c < positions e)) → (x : ℕ) → x ≡ b → In c (x ∷ starts ts (b + size t)) → (b ≤ c) × (c < positions e)
      go ih x d head = (omega arith, omega (arith, segment_within e (cons t ts) s, size_pos t))
      go ih x d (tail j) = let (u, w) = ih j in (omega arith, w)

  starts_values : (ρ : Values) (ts : Terms) (b : ℕ) → Segment (all_subterms e) b (subterms_of ts) → values_at (value e ρ) (starts ts b) ≡ insts ρ ts
  unfolding starts values_at inst value
  starts_values ρ nil b s = refl
  starts_values ρ (cons t ts) b s = cc (ap (inst ρ) (term_head t (var 0) (first_segment t ts s)), starts_values ρ ts (b + size t) (rest_segment t ts s))

-- Every subterm of a term has its variables below `n`, if the term has.
subterms_below : (n : ℕ) (t : Term) → VariablesBelow n t → Every (VariablesBelow n) (subterms t)
subterms_below n = subterms_have (VariablesBelow n) (AllVariablesBelow n) (λ f ts h. h) (λ t ts h. h)

module _ (e : Equation) where
  -- The term and the arguments of a symbol at a position.
  pub symbol_at : (p f : ℕ) (ps : List ℕ) → view e p ≡ app_node f ps → (ts : Terms) × (term_at e p ≡ app f ts) × (ps ≡ starts ts (p + 1))
  unfolding view
  symbol_at p f ps x = go (term_at e p) refl x
    where
      go : (t : Term) → term_at e p ≡ t → node_at p t ≡ app_node f ps → (ts : Terms) × (term_at e p ≡ app f ts) × (ps ≡ starts ts (p + 1))
      go (var v) y x = let z : ◌≡◌ {A = ℕ} 0 1 = cc in absurd (omega arith)
      go (app g ts) y x = let z : g ≡ f = cc in (ts, cc, cc)

  pub variable_at : (p v : ℕ) → view e p ≡ var_node v → term_at e p ≡ var v
  unfolding view
  variable_at p v x = go (term_at e p) refl x
    where
      go : (t : Term) → term_at e p ≡ t → node_at p t ≡ var_node v → term_at e p ≡ var v
      go (var w) y x = let z : w ≡ v = cc in cc
      go (app f ts) y x = let z : ◌≡◌ {A = ℕ} 0 1 = cc in absurd (omega arith)

  -- The positions of an equation whose variables are numbered below `vars`.
  variables_below : (vars : ℕ) → 0 < vars → VariablesBelow vars e.left → VariablesBelow vars e.right → (p : ℕ) → VariablesBelow vars (term_at e p)
  unfolding term_at
  variables_below vars some l r p =
      let a = subterms_below vars e.left l in
      let b = subterms_below vars e.right r in
      every_get_or (VariablesBelow vars) (all_subterms e) p (var 0) (every_append (VariablesBelow vars) (subterms e.left) (subterms e.right) a b) some

  pub layout_below : (vars : ℕ) → 0 < vars → VariablesBelow vars e.left → VariablesBelow vars e.right → Layout (view e) vars (positions e)
  layout_below vars some l r = record { variable_low = low; argument_behind = λ p f c ps x i. (range p f c ps x i).0; argument_within = λ p f c ps x i. (range p f c ps x i).1 }
    where
      low : (p v : ℕ) → view e p ≡ var_node v → v < vars
      low p v x = rw (variable_at p v x) at (variables_below vars some l r p)

      range : (p f c : ℕ) (ps : List ℕ) → view e p ≡ app_node f ps → In c ps → (p < c) × (c < positions e)
      range p f c ps x i =
          let (ts, y, z) = symbol_at p f ps x in
          let (a, b) = starts_range e ts (p + 1) c (arguments_at e p f ts y) (rw z at i) in
          (omega arith, b)

  pub layout : WithinLimits e → Layout (view e) variable_count (positions e)
  layout w = layout_below variable_count (omega arith) w.left_variables w.right_variables

  -- At any values the instances are a model.
  pub model : (ρ : Values) → Model (view e) ρ (value e ρ)
  unfolding value
  model ρ = record { at_variable = λ p v x. rw (variable_at p v x); at_symbol = at_symbol }
    where
      at_symbol : (p f : ℕ) (ps : List ℕ) → view e p ≡ app_node f ps → value e ρ p ≡ app f (values_at (value e ρ) ps)
      at_symbol p f ps x =
          let (ts, y, z) = symbol_at p f ps x in
          rw (z, starts_values e ρ ts (p + 1) (arguments_at e p f ts y), y)
