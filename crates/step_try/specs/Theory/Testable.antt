-- Lines of an equation whose nodes stand before the subject's can be tested: each position stands for the instance there, and an irreducible inequality has a side that
-- is a term of the subject.
use Rattle.std.specs.Prelude.{ℕ, suc, ◌+◌, ◌-◌, ◌≤◌, ◌<◌, ◌≡◌, refl, ◌⊎◌, List, [], ◌∷◌, ◌++◌, map, length}
use Rattle.std.proofs.Common.{sym, ◌∙◌, inl, inr, append-nil}
use Rattle.std.proofs.Math.Path.{ap, subst}
use Rattle.std.proofs.Math.Option.{none, some}
use native.Mathlib.Omega.{arith}
use Rattle.std.proofs.Math.ListN.{get_or}
use Rattle.format.specs.Limits.{max_symbols, first_variable, variable_count, position_count}
use Rattle.terms.specs.Term.{Term, Terms, var, nil, cons, size, sizes, Values, Ground}
use Rattle.terms.specs.Position.{subterms, subterms_of}
use Rattle.terms.specs.Prefix.{prefix, equation_bytes}
use Rattle.terms.specs.Equation.{Equation, term_at, view, value}
use Rattle.terms.specs.ForContracts.Limits.{WithinLimits, positions}
use Rattle.terms.specs.ForContracts.Fits.{Fits}
use Rattle.terms.specs.ForContracts.Stored.{PartAt, GroundStored}
use Rattle.terms.specs.Theory.Limits.{positions_few}
use Rattle.terms.specs.Theory.Stored.{stored_head}
use Rattle.terms.specs.Theory.Variables.{VariablesIn}
use Rattle.terms.specs.Theory.Ground.{instance_ground}
use Rattle.terms.specs.Theory.View.{variable_at}
use Rattle.solving.specs.Line.{Bindings, lookup, Element, equal, greater, Line, line}
use Rattle.solving.specs.ForContracts.Within.{AllWithin}
use Rattle.solving.specs.ForContracts.Written.{WrittenLines}
use Rattle.bindings.specs.ForContracts.Equation.{equation_sizes}
use Rattle.cells.specs.ForContracts.Nodes.{ValueOf, GroundAt, RowDenotes, more, resolved}
use Rattle.cells.specs.Theory.Nodes.{ground_denotes}
use Rattle.cells.specs.Theory.Stored.{TermStored, TermsStored, stored_denotes, stored_row_subterm, ground_row_denotes}
use Rattle.solve_equation.specs.Theory.Equation.{sides, sides_spelled}
use Rattle.cells.specs.Theory.Resolved.{resolved_variable}
use Rattle.kept_lines.specs.ForContracts.Holding.{InstanceAt, BindingTestable, BindingsTestable, ElementsTestable, LinesTestable}
use Rattle.rules.specs.ForContracts.Lines.{VariableAt, HaveVariable, AllHaveVariable, ProperLines}

-- A ground term that is stored stands there.
pub stored_ground : {nodes sizes arities : List ℕ} {i : ℕ} {t : Term} → GroundStored nodes sizes arities i t → GroundAt nodes sizes i t
unfolding prefix subterms size
stored_ground {nodes} {sizes} {arities} {i} {t} g = first (ground_row_denotes arities g.few_symbols (cons t nil) (g.is_ground, tt)
    (subst (PartAt nodes i) (sym (append-nil (prefix t))) g.stored.bytes)
    (subst (λ l. PartAt sizes i (map size l)) (sym (append-nil (subterms t))) g.stored.sizes_there) (omega (arith, g.within)))
  where
    first : {end : ℕ} → RowDenotes nodes sizes (λ v u. ⊥) i end (cons t nil) → GroundAt nodes sizes i t
    first (more a r) = a

-- The equation's sides stand at the front, and each of its variables has as its value a term of the subject.
pub record AtFront (nodes sizes values arities : List ℕ) (e : Equation) (ρ : Values) (P : ℕ → Type 0) : Type 0 where
  pub few_symbols : length arities ≤ max_symbols
  pub limits : WithinLimits e
  pub left_fits : Fits arities e.left
  pub right_fits : Fits arities e.right
  pub bytes : PartAt nodes 0 (equation_bytes e)
  pub measured : PartAt sizes 0 (equation_sizes e)
  pub given : (v : ℕ) → P v → GroundStored nodes sizes arities (get_or values v 0) (ρ v)
  pub left_variables : VariablesIn P e.left
  pub right_variables : VariablesIn P e.right
  -- A variable that has no value (in a judgement, one above the highest of its equation) stands for itself.
  pub slot : (v : ℕ) → v < variable_count → P v ⊎ ((get_or values v 0 ≡ 0) × (ρ v ≡ var v))

module _ {nodes stored_sizes values arities : List ℕ} {e : Equation} {ρ : Values} {P : ℕ → Type 0} (front : AtFront nodes stored_sizes values arities e ρ P) where
  given_value : (v : ℕ) → P v → ValueOf nodes stored_sizes values v (ρ v)
  given_value v h = record { is_ground = stored_ground (front.given v h) }

  abbrev Stored : ℕ → Term → Type 0
  Stored = TermStored arities front.few_symbols nodes stored_sizes (ValueOf nodes stored_sizes values) ρ P given_value

  sides_parts : subterms e.left ++ subterms e.right ≡ subterms_of (sides e)
  unfolding subterms
  sides_parts = ap (subterms e.left ++◌) (sym (append-nil (subterms e.right)))

  sides_size : sizes (sides e) ≡ positions e
  unfolding size
  sides_size = omega arith

  abbrev AllStored : ℕ → Terms → Type 0
  AllStored = TermsStored arities front.few_symbols nodes stored_sizes (ValueOf nodes stored_sizes values) ρ P given_value

  position_stored : (p : ℕ) → p < positions e → Stored p (term_at e p)
  unfolding term_at equation_sizes
  position_stored p h =
      let all : AllStored 0 (sides e) = record {
        fit = (front.left_fits, (front.right_fits, tt));
        few = (front.left_variables, (front.right_variables, tt));
        bytes = subst (PartAt nodes 0) (sides_spelled e) front.bytes;
        sizes_there = subst (λ l. PartAt stored_sizes 0 (map size l)) sides_parts front.measured;
        within = omega (arith, sides_size, positions_few front.limits);
      } in
      let same : 0 + p ≡ p = omega arith in
      subst (λ l. Stored p (get_or l p (var 0))) (sym sides_parts)
      (subst (λ i. Stored i (get_or (subterms_of (sides e)) p (var 0))) same
      (stored_row_subterm arities front.few_symbols nodes stored_sizes (ValueOf nodes stored_sizes values) ρ P given_value (sides e) 0 p (var 0) all (omega (arith, sides_size))))

  instance_at : (p : ℕ) → p < positions e → InstanceAt nodes stored_sizes values ρ (value e ρ) p
  unfolding value
  instance_at p h = record {
    inside = omega (arith, positions_few front.limits);
    stands = stored_denotes arities front.few_symbols nodes stored_sizes (ValueOf nodes stored_sizes values) ρ P given_value (term_at e p) p (position_stored p h);
  }

  position_ground : (p : ℕ) → p < positions e → Ground arities (value e ρ p)
  unfolding value
  position_ground p h =
      let s = position_stored p h in
      instance_ground arities ρ P (λ v x. (front.given v x).is_ground) (term_at e p) s.fits s.few

  -- A variable of the equation resolves to a node of the subject.
  variable_low : (p v : ℕ) → Stored p (var v) → position_count ≤ resolved nodes values p
  unfolding prefix
  variable_low p v s =
      let b : get_or nodes p 0 ≡ first_variable + v = stored_head s.bytes in
      let n : get_or nodes p 0 - first_variable ≡ v = omega arith in
      let r = resolved_variable nodes values p (omega arith) ∙ ap (λ w. get_or values w 0) n in
      omega (arith, r, (front.given v s.few).low)

  variable_resolves : (p : ℕ) → p < positions e → VariableAt (view e) p → position_count ≤ resolved nodes values p
  variable_resolves p h (v, x) = variable_low p v (subst (Stored p) (variable_at e p v x) (position_stored p h))

  elements_testable : (es : List Element) → AllWithin (positions e) es → HaveVariable (view e) es → ElementsTestable nodes stored_sizes values ρ (value e ρ) es
  elements_testable [] w h = tt
  elements_testable (equal p q ∷ es) w h = absurd h
  elements_testable (greater p q ∷ es) w h = (
    (
      instance_at p w.0.0,
      instance_at q w.0.1,
      elim h.0 [ inl x ↦ inl (variable_resolves p w.0.0 x) | inr x ↦ inr (variable_resolves q w.0.1 x) ],
      record { arities = arities; first = position_ground p w.0.0; second = position_ground q w.0.1 },
    ),
    elements_testable es w.1 h.1,
  )

  binding_testable : (v p : ℕ) → v < variable_count → p < positions e → BindingTestable nodes stored_sizes values ρ (value e ρ) v p
  binding_testable v p l h = record {
    instance_there = instance_at p h;
    valued = elim (front.slot v l) [
      | inl x ↦ inl (record { low = (front.given v x).low; stands = ground_denotes (stored_ground (front.given v x)) })
      | inr x ↦ inr (record { absent = x.0; differs = λ y. subst (Ground arities) (sym y ∙ x.1) (position_ground p h) })
    ];
  }

  bindings_testable : (v : ℕ) (θ : Bindings) → v + length θ ≡ variable_count → ((w p : ℕ) → lookup θ w ≡ some p → p < positions e)
      → BindingsTestable nodes stored_sizes values ρ (value e ρ) v θ
  bindings_testable v [] l h = tt
  bindings_testable v (none ∷ θ) l h = bindings_testable (suc v) θ (omega arith) (λ w p x. h (suc w) p x)
  bindings_testable v (some p ∷ θ) l h = (binding_testable v p (omega arith) (h 0 p refl), bindings_testable (suc v) θ (omega arith) (λ w q x. h (suc w) q x))

  pub lines_testable : (ls : List Line) → ProperLines e ls → LinesTestable nodes stored_sizes values ρ (value e ρ) ls
  lines_testable ls proper = go ls proper.written proper.irreducible
    where
      go : (ls : List Line) → WrittenLines (positions e) ls → AllHaveVariable (view e) ls → LinesTestable nodes stored_sizes values ρ (value e ρ) ls
      go [] w h = tt
      go (line θ es ∷ ls) w h = (
        (w.0.slots, w.0.few_elements, bindings_testable 0 θ (omega (arith, w.0.slots)) w.0.bound_within, elements_testable es w.0.elements_within h.0),
        go ls w.1 h.1,
      )
