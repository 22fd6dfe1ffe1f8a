-- What an element asks for, and what a turn makes of its line.
use Rattle.std.specs.Prelude.{ℕ, ◌≡◌, refl, List, [], ◌∷◌, map, get_or}
use Rattle.std.proofs.Math.Path.{sym, ap}
use Rattle.std.proofs.Common.{◌∙◌, arith}
use Rattle.std.proofs.Math.Option.{Option, none, some}
use Rattle.terms.specs.Position.{app_node}
use Rattle.solving.specs.Line.{Bindings, Element, equal, greater, Line, line}
use Rattle.solving.specs.Walk.{enough, reach, choices, fully_reduced, unified, becomes, unify, treat_greater, treat}
use Rattle.bindings.specs.ForContracts.PrefixForm.{view_of, arguments_of}
use Rattle.bindings.specs.ForContracts.Bindings.{bindings_of}
use Rattle.bindings.specs.Theory.PrefixForm.{symbol_there}
use Rattle.treating.specs.declared.treat.Sides.{Sides}
use Rattle.treating.specs.declared.treat.Treatment.{Treatment as Found}
use Rattle.treating.specs.declared.treat.Treatment.TheVariants.{Reduced, DropLine, DropElement, Unify, Split}
use Rattle.treating.specs.ForContracts.Treatment.{BothSymbols, Treated}

module _ (nodes sizes bs : List ℕ) (p q s : ℕ) (at_p : s ≡ reach enough (view_of nodes sizes) (bindings_of bs) p) where
  module _ (t : ℕ) (at_q : t ≡ reach enough (view_of nodes sizes) (bindings_of bs) q) where
    pub both_symbols : (f g : ℕ) (ps qs : List ℕ) → view_of nodes sizes s ≡ app_node f ps → view_of nodes sizes t ≡ app_node g qs
        → treat enough (view_of nodes sizes) (bindings_of bs) (greater p q) ≡ becomes (map (line (bindings_of bs)) (choices p q f g ps qs))
    unfolding treat treat_greater
    both_symbols f g ps qs d e = rw (sym at_p, sym at_q, d, e, treat_greater)

-- What the choices are.
pub split_becomes : {nodes sizes bs : List ℕ} {e : Element} {sides terms : Sides} → BothSymbols nodes sizes bs e sides terms
    → treat enough (view_of nodes sizes) (bindings_of bs) e
    ≡ becomes (map (line (bindings_of bs)) (choices sides.left sides.right (get_or nodes terms.left 0) (get_or nodes terms.right 0) (arguments_of sizes terms.left) (arguments_of sizes terms.right)))
split_becomes {nodes} {sizes} {bs} {e} {sides} {terms} b =
    let s = terms.left in
    let t = terms.right in
    ap (treat enough (view_of nodes sizes) (bindings_of bs)) b.element
    ∙ both_symbols nodes sizes bs sides.left sides.right s b.left_reached t b.right_reached (get_or nodes s 0) (get_or nodes t 0) (arguments_of sizes s) (arguments_of sizes t)
    (symbol_there nodes sizes s b.left_within b.left_symbol) (symbol_there nodes sizes t b.right_within b.right_symbol)

-- No equality is fully reduced.
pub unified_not : (o : Option Bindings) → unified o ≡ fully_reduced → ⊥
unfolding unified
unified_not none d = let z : ◌≡◌ {A = ℕ} 0 1 = cc in absurd (omega arith)
unified_not (some θ) d = let z : ◌≡◌ {A = ℕ} 0 1 = cc in absurd (omega arith)

module _ (nodes sizes bs : List ℕ) (e : Element) (p q : ℕ) (d : e ≡ equal p q) where
  unified_none : unify enough (view_of nodes sizes) enough.unify_depth (bindings_of bs) p q ≡ none → treat enough (view_of nodes sizes) (bindings_of bs) e ≡ becomes []
  unfolding treat unified
  unified_none x = ap (treat enough (view_of nodes sizes) (bindings_of bs)) d ∙ ap unified x

  unified_some : (θ : Bindings) → unify enough (view_of nodes sizes) enough.unify_depth (bindings_of bs) p q ≡ some θ → treat enough (view_of nodes sizes) (bindings_of bs) e ≡ becomes (line θ [] ∷ [])
  unfolding treat unified
  unified_some θ x = ap (treat enough (view_of nodes sizes) (bindings_of bs)) d ∙ ap unified x

-- An element that is not fully reduced becomes some lines.
pub asks_becomes : (nodes sizes bs : List ℕ) (e : Element) (t : Found) → Treated nodes sizes bs e t → (t ≡ Reduced → ⊥) → (ms : List Line) × (treat enough (view_of nodes sizes) (bindings_of bs) e ≡ becomes ms)
asks_becomes nodes sizes bs e Reduced a n = absurd (n refl)
asks_becomes nodes sizes bs e DropLine a n = ([], a.asks)
asks_becomes nodes sizes bs e DropElement a n = (line (bindings_of bs) [] ∷ [], a.asks)
asks_becomes nodes sizes bs e (Unify sides) a n = unifies sides.left sides.right (unify enough (view_of nodes sizes) enough.unify_depth (bindings_of bs) sides.left sides.right) a.asks refl
  where
    unifies : (p q : ℕ) (o : Option Bindings) → e ≡ equal p q → unify enough (view_of nodes sizes) enough.unify_depth (bindings_of bs) p q ≡ o
        → (ms : List Line) × (treat enough (view_of nodes sizes) (bindings_of bs) e ≡ becomes ms)
    unifies p q none d x = ([], unified_none nodes sizes bs e p q d x)
    unifies p q (some θ) d x = (line θ [] ∷ [], unified_some nodes sizes bs e p q d θ x)
asks_becomes nodes sizes bs e (Split sides terms) a n = (_, split_becomes a.asks)
