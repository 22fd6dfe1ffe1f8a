-- With more slots than variables the walk takes the same turns, and its lines have the same bindings and elements.
use Prim.Native.Nat.{ℕ, zero, suc, ◌<◌}
use Rattle.std.specs.Prelude.{◌≡◌, Bool, ◌||◌, length, ltb}
use Rattle.std.proofs.Math.Path.{refl, ap}
use Rattle.std.proofs.Common.{◌∙◌}
use Rattle.std.proofs.Math.Bool.{true, false}
use Rattle.std.proofs.Math.Option
use Rattle.std.proofs.Math.Option.{Option, none, some}
use mathlib.Core.List.{List, [], ◌∷◌, ◌++◌, map}
use Rattle.std.proofs.lemmas.List.{length-map}
use Rattle.std.proofs.Math.Decide.{ℕ_discrete, dec_lt}
use Rattle.format.specs.Limits.{max_lines}
use Rattle.format.specs.declared.refusal.Refusal.{Refusal}
use Rattle.format.specs.declared.refusal.Refusal.TheVariants.{TooManyTurns as too_many_turns, TooManyElements as too_many_elements, TooManyLines as too_many_lines}
use Rattle.format.specs.Lists.{any}
use Rattle.terms.specs.Position.{Node, var_node, app_node}
use Rattle.terms.specs.Theory.View.{Layout}
use Rattle.solving.specs.Line.{Bindings, Element, equal, greater, Line, line}
use Rattle.solving.specs.Walk.{Fuel, bound_to, follow, reach, occurs_in, occurs, bind_unless, unify_variables, unify_each, unify_nodes, unify, choices, Treatment, fully_reduced, becomes, unified, in_front, behind, treat_greater, treat, treat_leftmost, treat_line, turn, Walked, solved, refused, crowded, over_limit, walk_until}
use Rattle.solving.proofs.Theory.Reach.{Sufficient}
use Rattle.solving.proofs.Theory.Table.{ProperTable, turn_proper}
use Rattle.twelve_variables.specs.Theory.Padded.{padded, padded_line, padded_table, padded_walk}
use Rattle.twelve_variables.specs.Theory.Slots.{padded_get_or, Alike, alike_padded, alike_set, alike_then, alike_if}

module _ (extra : ℕ) where
  padded_bound : (θ : Bindings) (x : Node) → bound_to (padded extra θ) x ≡ bound_to θ x
  unfolding bound_to
  padded_bound θ (var_node v) = padded_get_or extra θ v
  padded_bound θ (app_node f ps) = refl

  module _ (fuel : Fuel) (view : ℕ → Node) where
    padded_follow : (k : ℕ) (θ : Bindings) (p : ℕ) → follow fuel view k (padded extra θ) p ≡ follow fuel view k θ p
    unfolding follow
    padded_follow zero θ p = refl
    padded_follow (suc k) θ p = λ i. elim (padded_bound θ (view p) i) as (λ x. ℕ) [ none ↦ p | some q ↦ padded_follow k θ q i ]

    padded_reach : (θ : Bindings) (p : ℕ) → reach fuel view (padded extra θ) p ≡ reach fuel view θ p
    unfolding reach
    padded_reach θ p = padded_follow fuel.hops θ p

    padded_occurs : (k : ℕ) (θ : Bindings) (v p : ℕ) → occurs fuel view k (padded extra θ) v p ≡ occurs fuel view k θ v p
    unfolding occurs
    padded_occurs zero θ v p = refl
    padded_occurs (suc k) θ v p = λ i. occurs_in (λ q. padded_occurs k θ v q i) v (view (padded_reach θ p i))

    module _ (vars : ℕ) (low : (p v : ℕ) → view p ≡ var_node v → v < vars) where
      abbrev pub Unifies : ℕ → Type 0
      Unifies k = (θ : Bindings) (p q : ℕ) → length θ ≡ vars → Alike vars extra (unify fuel view k θ p q) (unify fuel view k (padded extra θ) p q)

      variables_alike : (θ : Bindings) (v w p q : ℕ) (d : Dec (v ≡ w)) (l : Dec (v < w)) → length θ ≡ vars → v < vars → w < vars
          → Alike vars extra (unify_variables θ v w p q d l) (unify_variables (padded extra θ) v w p q d l)
      unfolding unify_variables
      variables_alike θ v w p q (yes e) l h a b = (h, refl)
      variables_alike θ v w p q (no n) (yes l) h a b = alike_set vars extra θ v q h a
      variables_alike θ v w p q (no n) (no m) h a b = alike_set vars extra θ w p h b

      unless_alike : (θ : Bindings) (v p : ℕ) (b : Bool) → length θ ≡ vars → v < vars → Alike vars extra (bind_unless b θ v p) (bind_unless b (padded extra θ) v p)
      unfolding bind_unless
      unless_alike θ v p true h l = tt
      unless_alike θ v p false h l = alike_set vars extra θ v p h l

      each_alike : (k : ℕ) → Unifies k → (θ : Bindings) (ps qs : List ℕ) → length θ ≡ vars
          → Alike vars extra (unify_each (unify fuel view k) θ ps qs) (unify_each (unify fuel view k) (padded extra θ) ps qs)
      unfolding unify_each
      each_alike k u θ [] [] h = (h, refl)
      each_alike k u θ [] (q ∷ qs) h = tt
      each_alike k u θ (p ∷ ps) [] h = tt
      each_alike k u θ (p ∷ ps) (q ∷ qs) h =
          alike_then vars extra (λ η. unify_each (unify fuel view k) η ps qs) (λ η. each_alike k u η ps qs) (unify fuel view k θ p q) (unify fuel view k (padded extra θ) p q) (u θ p q h)

      nodes_alike : (k : ℕ) → Unifies k → (θ : Bindings) (p q : ℕ) (x y : Node) → length θ ≡ vars → ((v : ℕ) → x ≡ var_node v → v < vars) → ((v : ℕ) → y ≡ var_node v → v < vars)
          → Alike vars extra (unify_nodes fuel view (unify fuel view k) θ p q x y) (unify_nodes fuel view (unify fuel view k) (padded extra θ) p q x y)
      unfolding unify_nodes
      nodes_alike k u θ p q (var_node v) (var_node w) h a b = variables_alike θ v w p q (ℕ_discrete v w) (dec_lt v w) h (a v refl) (b w refl)
      nodes_alike k u θ p q (var_node v) (app_node g qs) h a b = rw (padded_occurs fuel.occurs_depth θ v q) (unless_alike θ v q (occurs fuel view fuel.occurs_depth θ v q) h (a v refl))
      nodes_alike k u θ p q (app_node f ps) (var_node w) h a b = rw (padded_occurs fuel.occurs_depth θ w p) (unless_alike θ w p (occurs fuel view fuel.occurs_depth θ w p) h (b w refl))
      nodes_alike k u θ p q (app_node f ps) (app_node g qs) h a b =
          alike_if vars extra (unify_each (unify fuel view k) θ ps qs) (unify_each (unify fuel view k) (padded extra θ) ps qs) (each_alike k u θ ps qs h) (ℕ_discrete f g)

      pub unify_alike : (k : ℕ) → Unifies k
      unfolding unify
      unify_alike zero θ p q h = tt
      unify_alike (suc k) θ p q h =
          rw (padded_reach θ p, padded_reach θ q)
          (nodes_alike k (unify_alike k) θ (reach fuel view θ p) (reach fuel view θ q) (view (reach fuel view θ p)) (view (reach fuel view θ q)) h (low (reach fuel view θ p)) (low (reach fuel view θ q)))

      abbrev padded_treatment : Treatment → Treatment
      padded_treatment fully_reduced = fully_reduced
      padded_treatment (becomes ls) = becomes (padded_table extra ls)

      padded_choices : (θ : Bindings) (css : List (List Element)) → map (line (padded extra θ)) css ≡ padded_table extra (map (line θ) css)
      padded_choices θ [] = refl
      padded_choices θ (es ∷ css) = ap (line (padded extra θ) es ∷◌) (padded_choices θ css)

      padded_greater : (θ : Bindings) (p q : ℕ) (x y : Node) → treat_greater fuel view (padded extra θ) p q x y ≡ padded_treatment (treat_greater fuel view θ p q x y)
      unfolding treat_greater
      padded_greater θ p q (var_node v) y = rw (padded_occurs fuel.occurs_depth θ v q, treat_greater) (go (occurs fuel view fuel.occurs_depth θ v q))
        where
          go : (b : Bool) → elim b as (λ x. Treatment) [ true ↦ becomes [] | false ↦ fully_reduced ] ≡ padded_treatment (elim b as (λ x. Treatment) [ true ↦ becomes [] | false ↦ fully_reduced ])
          go true = refl
          go false = refl
      padded_greater θ p q (app_node f ps) (var_node w) = rw (padded_occurs fuel.occurs_depth θ w p, treat_greater) (go (occurs fuel view fuel.occurs_depth θ w p))
        where
          go : (b : Bool) → elim b as (λ x. Treatment) [ true ↦ becomes (line (padded extra θ) [] ∷ []) | false ↦ fully_reduced ]
              ≡ padded_treatment (elim b as (λ x. Treatment) [ true ↦ becomes (line θ [] ∷ []) | false ↦ fully_reduced ])
          go true = refl
          go false = refl
      padded_greater θ p q (app_node f ps) (app_node g qs) = ap becomes (padded_choices θ (choices p q f g ps qs))

      padded_treat : (θ : Bindings) (e : Element) → length θ ≡ vars → treat fuel view (padded extra θ) e ≡ padded_treatment (treat fuel view θ e)
      unfolding treat
      padded_treat θ (equal p q) h =
          ap unified (alike_padded vars extra (unify fuel view fuel.unify_depth θ p q) (unify fuel view fuel.unify_depth (padded extra θ) p q) (unify_alike fuel.unify_depth θ p q h))
          ∙ go (unify fuel view fuel.unify_depth θ p q)
        where
          go : (o : Option Bindings) → unified (Option.map (padded extra) o) ≡ padded_treatment (unified o)
          go none = refl
          go (some η) = refl
      padded_treat θ (greater p q) h = rw (padded_reach θ p, padded_reach θ q) (padded_greater θ p q (view (reach fuel view θ p)) (view (reach fuel view θ q)))

      padded_behind : (es : List Element) (ls : List Line) → map (behind es) (padded_table extra ls) ≡ padded_table extra (map (behind es) ls)
      unfolding behind
      padded_behind es [] = refl
      padded_behind es (line θ fs ∷ ls) = ap (line (padded extra θ) (fs ++ es) ∷◌) (padded_behind es ls)

      padded_front : (e : Element) (ls : List Line) → map (in_front e) (padded_table extra ls) ≡ padded_table extra (map (in_front e) ls)
      unfolding in_front
      padded_front e [] = refl
      padded_front e (line θ fs ∷ ls) = ap (line (padded extra θ) (e ∷ fs) ∷◌) (padded_front e ls)

      padded_leftmost : (θ : Bindings) (es : List Element) → length θ ≡ vars → treat_leftmost fuel view (padded extra θ) es ≡ Option.map (padded_table extra) (treat_leftmost fuel view θ es)
      unfolding treat_leftmost
      padded_leftmost θ [] h = refl
      padded_leftmost θ (e ∷ es) h = (λ i. placed (padded_treat θ e h i) (padded_leftmost θ es h i)) ∙ go (treat fuel view θ e) (treat_leftmost fuel view θ es)
        where
          placed : Treatment → Option (List Line) → Option (List Line)
          placed t rest = elim t [ becomes ls ↦ some (map (behind es) ls) | fully_reduced ↦ Option.map (map (in_front e)) rest ]

          go : (t : Treatment) (o : Option (List Line)) → placed (padded_treatment t) (Option.map (padded_table extra) o) ≡ Option.map (padded_table extra) (placed t o)
          go (becomes ls) o = ap some (padded_behind es ls)
          go fully_reduced none = refl
          go fully_reduced (some ls) = ap some (padded_front e ls)

      padded_append : (a b : List Line) → padded_table extra a ++ padded_table extra b ≡ padded_table extra (a ++ b)
      padded_append [] b = refl
      padded_append (l ∷ a) b = ap (padded_line extra l ∷◌) (padded_append a b)

      padded_turn : (n : ℕ) (table : List Line) → ProperTable view vars n table → turn fuel view (padded_table extra table) ≡ Option.map (padded_table extra) (turn fuel view table)
      unfolding turn treat_line
      padded_turn n [] h = refl
      padded_turn n (line θ es ∷ ls) h = (λ i. replaced (padded_leftmost θ es h.0.0.slots i) (padded_turn n ls h.1 i)) ∙ go (treat_leftmost fuel view θ es) (turn fuel view ls)
        where
          replaced : Option (List Line) → Option (List Line) → Option (List Line)
          replaced o rest = elim o [ some new ↦ some (new ++ padded_table extra ls) | none ↦ Option.map (line (padded extra θ) es ∷◌) rest ]

          before : Option (List Line) → Option (List Line) → Option (List Line)
          before o rest = elim o [ some new ↦ some (new ++ ls) | none ↦ Option.map (line θ es ∷◌) rest ]

          go : (o rest : Option (List Line)) → replaced (Option.map (padded_table extra) o) (Option.map (padded_table extra) rest) ≡ Option.map (padded_table extra) (before o rest)
          go (some new) rest = ap some (padded_append new ls)
          go none none = refl
          go none (some new) = refl

  pub padded_over : (table : List Line) → over_limit (padded_table extra table) ≡ over_limit table
  unfolding over_limit
  padded_over table = λ i. elim (crowd table i) as (λ x. Option Refusal) [ true ↦ some too_many_elements | false ↦ elim (ltb max_lines (length-map table (padded_line extra) i)) as (λ x. Option Refusal) [ true ↦ some too_many_lines | false ↦ none ] ]
    where
      one : (l : Line) → crowded (padded_line extra l) ≡ crowded l
      one (line θ es) = refl

      crowd : (ls : List Line) → any crowded (padded_table extra ls) ≡ any crowded ls
      crowd [] = refl
      crowd (l ∷ ls) = λ i. one l i || crowd ls i

  module _ {fuel : Fuel} {view : ℕ → Node} {vars n : ℕ} (lay : Layout view vars n) (suf : Sufficient vars n fuel) where
    -- Under limits and a test that overlook free slots.
    module _ (over : List Line → Option Refusal) (stop : List Line → Bool) (over_same : (table : List Line) → over (padded_table extra table) ≡ over table) (stop_same : (table : List Line) → stop (padded_table extra table) ≡ stop table) where
      pub padded_until : (left taken : ℕ) (table : List Line) → ProperTable view vars n table
          → walk_until fuel view over stop left taken (padded_table extra table) ≡ padded_walk extra (walk_until fuel view over stop left taken table)
      unfolding walk_until
      padded_until zero taken table h = ap last (padded_turn fuel view vars lay.variable_low n table h) ∙ go (turn fuel view table)
        where
          last : Option (List Line) → Walked
          last o = elim o [ none ↦ solved (padded_table extra table) taken | some new ↦ refused too_many_turns ]

          go : (o : Option (List Line)) → last (Option.map (padded_table extra) o) ≡ padded_walk extra (elim o as (λ x. Walked) [ none ↦ solved table taken | some new ↦ refused too_many_turns ])
          go none = refl
          go (some new) = refl
      padded_until (suc left) taken table h = ap (next (padded_table extra table)) (padded_turn fuel view vars lay.variable_low n table h) ∙ go (padded_until left (suc taken)) (turn fuel view table) refl
        where
          limited : Option Refusal → Bool → List Line → Walked → Walked
          limited o b new w = elim o [ some r ↦ refused r | none ↦ elim b [ true ↦ solved new (suc taken) | false ↦ w ] ]

          next : List Line → Option (List Line) → Walked
          next old o = elim o [ none ↦ solved old taken | some new ↦ limited (over new) (stop new) new (walk_until fuel view over stop left (suc taken) new) ]

          kept : (o : Option Refusal) (b : Bool) (new : List Line) (w : Walked) → limited o b (padded_table extra new) (padded_walk extra w) ≡ padded_walk extra (limited o b new w)
          kept none true new w = refl
          kept none false new w = refl
          kept (some r) b new w = refl

          go : ((new : List Line) → ProperTable view vars n new → walk_until fuel view over stop left (suc taken) (padded_table extra new) ≡ padded_walk extra (walk_until fuel view over stop left (suc taken) new))
              → (o : Option (List Line)) → turn fuel view table ≡ o → next (padded_table extra table) (Option.map (padded_table extra) o) ≡ padded_walk extra (next table o)
          go ih none e = refl
          go ih (some new) e =
              (λ i. limited (over_same new i) (stop_same new i) (padded_table extra new) (ih new (turn_proper lay suf table new h e) i)) ∙ kept (over new) (stop new) new (walk_until fuel view over stop left (suc taken) new)
