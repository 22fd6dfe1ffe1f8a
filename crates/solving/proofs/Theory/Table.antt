-- What every line of every table of the walk has: proper bindings, and elements at positions of the equation.
use Rattle.std.specs.Prelude.{ℕ, ◌<◌, Bool, true, false}
use Rattle.std.proofs.Math.Path.{◌≡◌, refl}
use Rattle.std.proofs.Math.Option
use Rattle.std.proofs.Math.Option.{Option, none, some}
use mathlib.Core.List.{List, [], ◌∷◌, ◌++◌, map}
use Rattle.std.proofs.Math.Decide.{ℕ_discrete, dec_lt}
use Rattle.std.proofs.Common.{arith}
use Rattle.format.specs.Theory.Lists.{every_append}
use Rattle.terms.specs.Position.{Node, var_node, app_node}
use Rattle.terms.specs.Theory.View.{In, head, tail, Layout}
use Rattle.solving.specs.Line.{Bindings, Element, equal, greater, Line, line}
use Rattle.solving.specs.Walk.{Fuel, reach, occurs, unify, argument_choices, exceeds_each, lexicographic_choices, precedence_choices, same_symbol_choices, choices, Treatment, fully_reduced, becomes, unified, in_front, behind, treat_greater, treat, treat_leftmost, turn}
use Rattle.solving.specs.ForContracts.Within.{Within, AllWithin}
use Rattle.solving.proofs.Theory.Reach.{Sufficient}
use Rattle.solving.specs.ForContracts.Bindings.{Proper}
use Rattle.solving.proofs.Theory.Unified.{unified_proper, unify_gives}

module _ (view : ℕ → Node) (vars n : ℕ) where
  abbrev pub ProperLine : Line → Type 0
  ProperLine (line θ es) = Proper view vars n θ × AllWithin n es

  abbrev pub ProperTable : List Line → Type 0
  ProperTable [] = Unit {0}
  ProperTable (l ∷ ls) = ProperLine l × ProperTable ls

  proper_in_front : (e : Element) → Within n e → (ls : List Line) → ProperTable ls → ProperTable (map (in_front e) ls)
  unfolding in_front
  proper_in_front e x [] h = tt
  proper_in_front e x (line θ es ∷ ls) h = ((h.0.0, (x, h.0.1)), proper_in_front e x ls h.1)

  proper_behind : (fs : List Element) → AllWithin n fs → (ls : List Line) → ProperTable ls → ProperTable (map (behind fs) ls)
  unfolding behind
  proper_behind fs x [] h = tt
  proper_behind fs x (line θ es ∷ ls) h = ((h.0.0, every_append (Within n) es fs h.0.1 x), proper_behind fs x ls h.1)

  proper_append : (a b : List Line) → ProperTable a → ProperTable b → ProperTable (a ++ b)
  proper_append [] b h k = k
  proper_append (l ∷ a) b h k = (h.0, proper_append a b h.1 k)

-- The positions of the choices.
module _ (n : ℕ) where
  abbrev EachWithin : List (List Element) → Type 0
  EachWithin [] = Unit {0}
  EachWithin (es ∷ ess) = AllWithin n es × EachWithin ess

  abbrev ArgumentsWithin : List ℕ → Type 0
  ArgumentsWithin ps = (c : ℕ) → In c ps → c < n

  each_append : (a b : List (List Element)) → EachWithin a → EachWithin b → EachWithin (a ++ b)
  each_append [] b h k = k
  each_append (es ∷ a) b h k = (h.0, each_append a b h.1 k)

  each_cons : (e : Element) → Within n e → (a : List (List Element)) → EachWithin a → EachWithin (map (e ∷◌) a)
  each_cons e x [] h = tt
  each_cons e x (es ∷ a) h = ((x, h.0), each_cons e x a h.1)

  module _ (s t : ℕ) (i : s < n) (j : t < n) where
    argument_within : (ss : List ℕ) → ArgumentsWithin ss → EachWithin (argument_choices ss t)
    unfolding argument_choices
    argument_within [] h = tt
    argument_within (s₁ ∷ ss) h = (((h s₁ head, j), tt), (((h s₁ head, j), tt), argument_within ss (λ c k. h c (tail k))))

    exceeds_within : (ts : List ℕ) → ArgumentsWithin ts → AllWithin n (exceeds_each s ts)
    unfolding exceeds_each
    exceeds_within [] h = tt
    exceeds_within (t₁ ∷ ts) h = ((i, h t₁ head), exceeds_within ts (λ c k. h c (tail k)))

    lexicographic_within : (ss ts : List ℕ) → ArgumentsWithin ss → ArgumentsWithin ts → EachWithin (lexicographic_choices s ss ts)
    unfolding lexicographic_choices
    lexicographic_within [] ts h k = tt
    lexicographic_within (s₁ ∷ ss) [] h k = tt
    lexicographic_within (s₁ ∷ ss) (t₁ ∷ ts) h k = (
      ((h s₁ head, k t₁ head), exceeds_within ts (λ c x. k c (tail x))),
      each_cons (equal s₁ t₁) (h s₁ head, k t₁ head) (lexicographic_choices s ss ts) (lexicographic_within ss ts (λ c x. h c (tail x)) (λ c x. k c (tail x))),
    )

    precedence_within : {g f : ℕ} (d : Dec (g < f)) (ts : List ℕ) → ArgumentsWithin ts → EachWithin (precedence_choices d s ts)
    unfolding precedence_choices
    precedence_within (yes l) ts h = (exceeds_within ts h, tt)
    precedence_within (no l) ts h = tt

    same_symbol_within : {f g : ℕ} (d : Dec (f ≡ g)) (ss ts : List ℕ) → ArgumentsWithin ss → ArgumentsWithin ts → EachWithin (same_symbol_choices d s ss ts)
    unfolding same_symbol_choices
    same_symbol_within (yes e) ss ts h k = lexicographic_within ss ts h k
    same_symbol_within (no e) ss ts h k = tt

    choices_within : (f g : ℕ) (ss ts : List ℕ) → ArgumentsWithin ss → ArgumentsWithin ts → EachWithin (choices s t f g ss ts)
    unfolding choices
    choices_within f g ss ts h k =
        let a = precedence_choices (dec_lt g f) s ts in
        let b = same_symbol_choices (ℕ_discrete f g) s ss ts in
        each_append (argument_choices ss t ++ a) b (each_append (argument_choices ss t) a (argument_within ss h) (precedence_within (dec_lt g f) ts k)) (same_symbol_within (ℕ_discrete f g) ss ts h k)

-- A turn keeps the table proper.
module _ {fuel : Fuel} {view : ℕ → Node} {vars n : ℕ} (lay : Layout view vars n) (suf : Sufficient vars n fuel) where
  lines_proper : (θ : Bindings) → Proper view vars n θ → (ess : List (List Element)) → EachWithin n ess → ProperTable view vars n (map (line θ) ess)
  lines_proper θ h [] k = tt
  lines_proper θ h (es ∷ ess) k = ((h, k.0), lines_proper θ h ess k.1)

  module _ (θ : Bindings) (p q : ℕ) (ls : List Line) (pr : Proper view vars n θ) (i : p < n) (j : q < n) where
    equal_proper : (o : Option Bindings) → unify fuel view fuel.unify_depth θ p q ≡ o → unified o ≡ becomes ls → ProperTable view vars n ls
    unfolding unified
    equal_proper none e d = let x : ls ≡ [] = cc in rw x tt
    equal_proper (some θ') e d = let x : ls ≡ line θ' [] ∷ [] = cc in
        rw x ((unified_proper lay (unify_gives lay suf fuel.unify_depth θ θ' p q pr i j e) pr i j, tt), tt)

    delete_line : (b : Bool) → (elim b as (λ x. Treatment) [ true ↦ becomes [] | false ↦ fully_reduced ]) ≡ becomes ls → ProperTable view vars n ls
    delete_line true d = let x : ls ≡ [] = cc in rw x tt
    delete_line false d = let z : ◌≡◌ {A = ℕ} 0 1 = cc in absurd (omega arith)

    delete_element : (b : Bool) → (elim b as (λ x. Treatment) [ true ↦ becomes (line θ [] ∷ []) | false ↦ fully_reduced ]) ≡ becomes ls → ProperTable view vars n ls
    delete_element true d = let x : ls ≡ line θ [] ∷ [] = cc in rw x ((pr, tt), tt)
    delete_element false d = let z : ◌≡◌ {A = ℕ} 0 1 = cc in absurd (omega arith)

    greater_proper : (x y : Node) → view (reach fuel view θ p) ≡ x → view (reach fuel view θ q) ≡ y → treat_greater fuel view θ p q x y ≡ becomes ls → ProperTable view vars n ls
    unfolding treat_greater
    greater_proper (var_node v) y a b d = delete_line (occurs fuel view fuel.occurs_depth θ v q) d
    greater_proper (app_node f ps) (var_node w) a b d = delete_element (occurs fuel view fuel.occurs_depth θ w p) d
    greater_proper (app_node f ps) (app_node g qs) a b d = let x : ls ≡ map (line θ) (choices p q f g ps qs) = cc in
        rw x (lines_proper θ pr (choices p q f g ps qs) (choices_within n p q i j f g ps qs (λ c k. lay.argument_within _ f c ps a k) (λ c k. lay.argument_within _ g c qs b k)))

  pub treat_proper : (θ : Bindings) (e : Element) (ls : List Line) → Proper view vars n θ → Within n e → treat fuel view θ e ≡ becomes ls → ProperTable view vars n ls
  unfolding treat
  treat_proper θ (equal p q) ls pr k d = equal_proper θ p q ls pr k.0 k.1 (unify fuel view fuel.unify_depth θ p q) refl d
  treat_proper θ (greater p q) ls pr k d = greater_proper θ p q ls pr k.0 k.1 (view (reach fuel view θ p)) (view (reach fuel view θ q)) refl refl d

  pub leftmost_proper : (θ : Bindings) (es : List Element) (ls : List Line) → Proper view vars n θ → AllWithin n es → treat_leftmost fuel view θ es ≡ some ls → ProperTable view vars n ls
  unfolding treat_leftmost
  leftmost_proper θ [] ls pr h d = let z : ◌≡◌ {A = ℕ} 0 1 = cc in absurd (omega arith)
  leftmost_proper θ (e ∷ es) ls pr h d = go (leftmost_proper θ es) (treat fuel view θ e) refl d
    where
      IH : Type 0
      IH = (ls : List Line) → Proper view vars n θ → AllWithin n es → treat_leftmost fuel view θ es ≡ some ls → ProperTable view vars n ls

      later : IH → (o : Option (List Line)) → treat_leftmost fuel view θ es ≡ o → Option.map (map (in_front e)) o ≡ some ls → ProperTable view vars n ls
      later ih none x d = let z : ◌≡◌ {A = ℕ} 0 1 = cc in absurd (omega arith)
      later ih (some ms) x d = let y : ls ≡ map (in_front e) ms = cc in rw y (proper_in_front view vars n e h.0 ms (ih ms pr h.1 x))

      go : IH → (t : Treatment) → treat fuel view θ e ≡ t
          → (elim t as (λ x. Option (List Line)) [ becomes ms ↦ some (map (behind es) ms) | fully_reduced ↦ Option.map (map (in_front e)) (treat_leftmost fuel view θ es) ]) ≡ some ls
          → ProperTable view vars n ls
      go ih fully_reduced x d = later ih (treat_leftmost fuel view θ es) refl d
      go ih (becomes ms) x d = let y : ls ≡ map (behind es) ms = cc in rw y (proper_behind view vars n es h.1 ms (treat_proper θ e ms pr h.0 x))

  pub turn_proper : (table new : List Line) → ProperTable view vars n table → turn fuel view table ≡ some new → ProperTable view vars n new
  unfolding turn
  turn_proper [] new h d = let z : ◌≡◌ {A = ℕ} 0 1 = cc in absurd (omega arith)
  turn_proper (line θ es ∷ ls) new h d = go (turn_proper ls) (treat_leftmost fuel view θ es) refl d
    where
      IH : Type 0
      IH = (new : List Line) → ProperTable view vars n ls → turn fuel view ls ≡ some new → ProperTable view vars n new

      later : IH → (o : Option (List Line)) → turn fuel view ls ≡ o → Option.map (line θ es ∷◌) o ≡ some new → ProperTable view vars n new
      later ih none x d = let z : ◌≡◌ {A = ℕ} 0 1 = cc in absurd (omega arith)
      later ih (some ms) x d = let y : new ≡ line θ es ∷ ms = cc in rw y (h.0, ih ms h.1 x)

      go : IH → (o : Option (List Line)) → treat_leftmost fuel view θ es ≡ o
          → (elim o as (λ x. Option (List Line)) [ some ms ↦ some (ms ++ ls) | none ↦ Option.map (line θ es ∷◌) (turn fuel view ls) ]) ≡ some new → ProperTable view vars n new
      go ih none x d = later ih (turn fuel view ls) refl d
      go ih (some ms) x d = let y : new ≡ ms ++ ls = cc in rw y (proper_append view vars n ms ls (leftmost_proper θ es ms h.0.0 h.0.1 x) h.1)
