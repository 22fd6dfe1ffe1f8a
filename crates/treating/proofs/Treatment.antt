-- What an inequality asks for, by what stands at the positions reached.
use Prim.Native.Nat.{ℕ, ◌-◌, ◌≤◌, ◌<◌}
use mathlib.Core.Path.{◌≡◌, refl, sym, ◌∙◌}
use mathlib.Core.Bool.{Bool, true, false}
use mathlib.Core.List.{List, [], ◌∷◌}
use lib.ListN.{length, get_or}
use Rattle.format.specs.Limits.{first_variable}
use Rattle.terms.specs.Position.{var_node, app_node}
use Rattle.solving.specs.Line.{greater, line}
use Rattle.solving.specs.Walk.{enough, reach, occurs, Treatment, fully_reduced, becomes, treat_greater, treat}
use Rattle.solving.specs.ForContracts.Within.{Within}
use Rattle.line_bytes.specs.declared.element.Relation.TheVariants.{Equal, Greater}
use Rattle.line_bytes.specs.declared.element.Element.{Element as Held}
use Rattle.treating.specs.declared.treat.Sides.{Sides}
use Rattle.treating.specs.declared.treat.Treatment.{Treatment as Found}
use Rattle.line_bytes.specs.ForContracts.Resting.{meaning}
use Rattle.line_bytes.specs.Theory.Element.{says_equal, says_greater}
use Rattle.treating.specs.declared.treat.Treatment.TheVariants.{Reduced, DropLine, DropElement, Unify, Split}
use Rattle.bindings.specs.ForContracts.PrefixForm.{view_of, arguments_of}
use Rattle.bindings.specs.ForContracts.Bindings.{bindings_of}
use Rattle.treating.specs.ForContracts.Treatment.{Treated}
use Rattle.bindings.specs.Theory.PrefixForm.{symbol_there, variable_there}

module _ (nodes sizes bs : List ℕ) (p q s : ℕ) (at_p : s ≡ reach enough (view_of nodes sizes) (bindings_of bs) p) where
  left_variable : (v : ℕ) → view_of nodes sizes s ≡ var_node v → (o : Bool) → occurs enough (view_of nodes sizes) enough.occurs_depth (bindings_of bs) v q ≡ o
      → treat enough (view_of nodes sizes) (bindings_of bs) (greater p q) ≡ (elim o as (λ x. Treatment) [ true ↦ becomes [] | false ↦ fully_reduced ])
  unfolding treat treat_greater
  left_variable v d o e = rw (sym at_p, d, e, treat_greater)

  module _ (i : s < length nodes) (h : first_variable ≤ get_or nodes s 0) (v : ℕ) (x : v ≡ get_or nodes s 0 - first_variable) where
    pub left_drops : true ≡ occurs enough (view_of nodes sizes) enough.occurs_depth (bindings_of bs) v q → Treated nodes sizes bs (greater p q) DropLine
    left_drops o = record { asks = left_variable v (variable_there nodes sizes s v i h x) true (sym o) }

    pub left_reduced : false ≡ occurs enough (view_of nodes sizes) enough.occurs_depth (bindings_of bs) v q → Treated nodes sizes bs (greater p q) Reduced
    left_reduced o = record { asks = left_variable v (variable_there nodes sizes s v i h x) false (sym o) }

  module _ (t : ℕ) (at_q : t ≡ reach enough (view_of nodes sizes) (bindings_of bs) q) where
    right_variable : (f w : ℕ) (ps : List ℕ) → view_of nodes sizes s ≡ app_node f ps → view_of nodes sizes t ≡ var_node w → (o : Bool)
        → occurs enough (view_of nodes sizes) enough.occurs_depth (bindings_of bs) w p ≡ o
        → treat enough (view_of nodes sizes) (bindings_of bs) (greater p q) ≡ (elim o as (λ x. Treatment) [ true ↦ becomes (line (bindings_of bs) [] ∷ []) | false ↦ fully_reduced ])
    unfolding treat treat_greater
    right_variable f w ps d c o e = rw (sym at_p, sym at_q, d, c, e, treat_greater)

    module _ (i : s < length nodes) (h : get_or nodes s 0 < first_variable) (j : t < length nodes) where
      module _ (k : first_variable ≤ get_or nodes t 0) (w : ℕ) (x : w ≡ get_or nodes t 0 - first_variable) where
        pub right_drops : true ≡ occurs enough (view_of nodes sizes) enough.occurs_depth (bindings_of bs) w p → Treated nodes sizes bs (greater p q) DropElement
        right_drops o = record { asks = right_variable (get_or nodes s 0) w (arguments_of sizes s) (symbol_there nodes sizes s i h) (variable_there nodes sizes t w j k x) true (sym o) }

        pub right_reduced : false ≡ occurs enough (view_of nodes sizes) enough.occurs_depth (bindings_of bs) w p → Treated nodes sizes bs (greater p q) Reduced
        right_reduced o = record { asks = right_variable (get_or nodes s 0) w (arguments_of sizes s) (symbol_there nodes sizes s i h) (variable_there nodes sizes t w j k x) false (sym o) }

      pub splits : get_or nodes t 0 < first_variable → Treated nodes sizes bs (greater p q) (Split (record { left = p; right = q }) (record { left = s; right = t }))
      splits k = record { asks = record { element = refl; left_reached = at_p; right_reached = at_q; left_within = i; right_within = j; left_symbol = h; right_symbol = k } }

-- What an element asks for, by its relation.
module _ (e : Held) (p q : ℕ) (d : Sides) (x : d ≡ record { left = p; right = q }) where
  pub asks_unify : (nodes sizes bs : List ℕ) → e.relation ≡ Equal p q → Treated nodes sizes bs (meaning e) (Unify d)
  asks_unify nodes sizes bs y = record { asks = says_equal e p q y ∙ rw x }

  pub asks_as_greater : (nodes sizes bs : List ℕ) (r : Found) → e.relation ≡ Greater p q → Treated nodes sizes bs (greater d.left d.right) r → Treated nodes sizes bs (meaning e) r
  asks_as_greater nodes sizes bs r y t = rw (says_greater e p q y) (rw x at t)

  pub greater_within : (n : ℕ) → e.relation ≡ Greater p q → Within n (meaning e) → (d.left < n) × (d.right < n)
  greater_within n y w = let h : Within n (greater p q) = rw (says_greater e p q y) at w in rw x h
