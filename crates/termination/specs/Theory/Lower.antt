-- Every turn replaces a line by lower ones: fewer variables are unbound, or the bindings stay and the elements weigh less. So the turns from every table end.
use Prim.Native.Nat.{ℕ, zero, suc, ◌+◌, ◌*◌, ◌≤◌, ◌<◌}
use Rattle.std.proofs.Math.Path.{◌≡◌, refl}
use Rattle.std.specs.Prelude.{◌⊎◌, Bool, length}
use Rattle.std.proofs.Math.Logic.{inl, inr}
use Rattle.std.proofs.Math.Bool.{true, false}
use Rattle.std.proofs.Math.Option
use Rattle.std.proofs.Math.Option.{Option, none, some}
use mathlib.Core.List.{List, [], ◌∷◌, ◌++◌, map}
use Rattle.std.proofs.Common.{arith}
use Rattle.format.specs.Lists.{Every}
use Rattle.terms.specs.Position.{Node, var_node, app_node}
use Rattle.terms.specs.Theory.View.{In, Layout}
use Rattle.solving.specs.Line.{Bindings, Element, equal, greater, Line, line}
use Rattle.solving.specs.Walk.{Fuel, reach, occurs, unify, choices, Treatment, fully_reduced, becomes, unified, in_front, behind, treat_greater, treat, treat_leftmost, treat_line}
use Rattle.solving.specs.ForContracts.Seen.{Reaches}
use Rattle.solving.specs.ForContracts.Bindings.{Proper}
use Rattle.solving.specs.ForContracts.Within.{Within, AllWithin}
use Rattle.solving.specs.Theory.Rank.{reaches_le}
use Rattle.solving.proofs.Theory.Reach.{Sufficient, reach_reaches}
use Rattle.solving.proofs.Theory.Unified.{unify_gives}
use Rattle.solving.proofs.Theory.Table.{ProperTable, leftmost_proper}
use Rattle.termination.specs.Theory.Unbound.{unbound_count, Narrows, unified_narrows}
use Rattle.termination.specs.Theory.Weight.{power, power_pos, power_step, weight, weigh, weigh_append, Light, light_choices}
use Rattle.termination.specs.Theory.Turns.{Halts, halts_append, halts_nil, halts_finished, halts_treated}

module _ {fuel : Fuel} {view : ℕ → Node} {vars n : ℕ} (lay : Layout view vars n) (suf : Sufficient vars n fuel) (width : ℕ)
    (few : (p f : ℕ) (ps : List ℕ) → view p ≡ app_node f ps → length ps ≤ width) where
  module _ (θ : Bindings) (pr : Proper view vars n θ) where
    sum : List Element → ℕ
    sum es = weigh width pr.height es

    -- A line that comes of one with these bindings: the bindings are the same and the elements weigh less than `b`, or fewer variables are unbound.
    abbrev Lower : ℕ → Line → Type 0
    Lower b (line θ' fs) = ((θ' ≡ θ) × (sum fs < b)) ⊎ (unbound_count θ' < unbound_count θ)

    abbrev AllLower : ℕ → List Line → Type 0
    AllLower b = Every (Lower b)

    lower_lines : (b : ℕ) (ess : List (List Element)) → Light width pr.height b ess → AllLower (suc b) (map (line θ) ess)
    unfolding sum
    lower_lines b [] h = tt
    lower_lines b (fs ∷ ess) h = (inl (refl, omega arith), lower_lines b ess h.1)

    lower_in_front : (b : ℕ) (e : Element) (ls : List Line) → AllLower b ls → AllLower (power width (weight width pr.height e) + b) (map (in_front e) ls)
    unfolding sum weigh in_front
    lower_in_front b e [] h = tt
    lower_in_front b e (line θ' fs ∷ ls) h = (go h.0, lower_in_front b e ls h.1)
      where
        go : Lower b (line θ' fs) → Lower (power width (weight width pr.height e) + b) (line θ' (e ∷ fs))
        go (inl x) = inl (x.0, omega arith)
        go (inr x) = inr x

    lower_behind : (b : ℕ) (es : List Element) (ls : List Line) → AllLower b ls → AllLower (b + sum es) (map (behind es) ls)
    unfolding sum behind
    lower_behind b es [] h = tt
    lower_behind b es (line θ' fs ∷ ls) h = (go h.0, lower_behind b es ls h.1)
      where
        go : Lower b (line θ' fs) → Lower (b + sum es) (line θ' (fs ++ es))
        go (inl x) = inl (x.0, omega (arith, weigh_append width pr.height fs es))
        go (inr x) = inr x

    lower_more : (b c : ℕ) → b ≤ c → (ls : List Line) → AllLower b ls → AllLower c ls
    lower_more b c l [] h = tt
    lower_more b c l (line θ' fs ∷ ls) h = (go h.0, lower_more b c l ls h.1)
      where
        go : Lower b (line θ' fs) → Lower c (line θ' fs)
        go (inl x) = inl (x.0, omega arith)
        go (inr x) = inr x

    -- The treatment of an element.
    module _ (p q : ℕ) (i : p < n) (j : q < n) (ls : List Line) where
      abbrev top : ℕ
      top = power width (suc (pr.height p + pr.height q))

      equal_lower : (o : Option Bindings) → unify fuel view fuel.unify_depth θ p q ≡ o → unified o ≡ becomes ls → AllLower top ls
      unfolding unified sum weigh
      equal_lower none e d = let x : ls ≡ [] = cc in rw x tt
      equal_lower (some θ') e d =
          let x : ls ≡ line θ' [] ∷ [] = cc in
          rw x (go (unified_narrows (unify_gives lay suf fuel.unify_depth θ θ' p q pr i j e)), tt)
        where
          go : Narrows θ θ' → Lower top (line θ' [])
          go (inl x) = inl (x, power_pos width (suc (pr.height p + pr.height q)))
          go (inr x) = inr x

      delete_line : (b : Bool) → (elim b as (λ x. Treatment) [ true ↦ becomes [] | false ↦ fully_reduced ]) ≡ becomes ls → AllLower top ls
      delete_line true d = let x : ls ≡ [] = cc in rw x tt
      delete_line false d = let z : ◌≡◌ {A = ℕ} 0 1 = cc in absurd (omega arith)

      delete_element : (b : Bool) → (elim b as (λ x. Treatment) [ true ↦ becomes (line θ [] ∷ []) | false ↦ fully_reduced ]) ≡ becomes ls → AllLower top ls
      unfolding sum weigh
      delete_element true d = let x : ls ≡ line θ [] ∷ [] = cc in rw x (inl (refl, power_pos width (suc (pr.height p + pr.height q))), tt)
      delete_element false d = let z : ◌≡◌ {A = ℕ} 0 1 = cc in absurd (omega arith)

      greater_lower : (x y : Node) → view (reach fuel view θ p) ≡ x → view (reach fuel view θ q) ≡ y → treat_greater fuel view θ p q x y ≡ becomes ls → AllLower top ls
      unfolding treat_greater
      greater_lower (var_node v) y a b d = delete_line (occurs fuel view fuel.occurs_depth θ v q) d
      greater_lower (app_node f ps) (var_node w) a b d = delete_element (occurs fuel view fuel.occurs_depth θ w p) d
      greater_lower (app_node f ps) (app_node g qs) a b d =
          let x : ls ≡ map (line θ) (choices p q f g ps qs) = cc in
          let h = pr.height p + pr.height q in
          let under : (r t k : ℕ) (cs : List ℕ) → Reaches view θ r t → view t ≡ app_node k cs → (c : ℕ) → In c cs → pr.height c < pr.height r =
          λ r t k cs m e c u. omega (arith, pr.falls.down t k c cs e u, reaches_le pr.falls m) in
          rw x (lower_more (suc ((width + 1) * power width h)) (power width (suc h)) (omega (arith, power_step width h)) (map (line θ) (choices p q f g ps qs))
          (lower_lines ((width + 1) * power width h) (choices p q f g ps qs)
          (light_choices width pr.height p q h refl f g ps qs (few (reach fuel view θ q) g qs b) (under p (reach fuel view θ p) f ps (reach_reaches lay suf pr p) a) (under q (reach fuel view θ q) g qs (reach_reaches lay suf pr q) b))))

    treat_lower : (e : Element) (ls : List Line) → Within n e → treat fuel view θ e ≡ becomes ls → AllLower (power width (weight width pr.height e)) ls
    unfolding treat
    treat_lower (equal p q) ls k d = equal_lower p q k.0 k.1 ls (unify fuel view fuel.unify_depth θ p q) refl d
    treat_lower (greater p q) ls k d = greater_lower p q k.0 k.1 ls (view (reach fuel view θ p)) (view (reach fuel view θ q)) refl refl d

    leftmost_lower : (es : List Element) (ls : List Line) → AllWithin n es → treat_leftmost fuel view θ es ≡ some ls → AllLower (sum es) ls
    unfolding treat_leftmost sum weigh
    leftmost_lower [] ls h d = let z : ◌≡◌ {A = ℕ} 0 1 = cc in absurd (omega arith)
    leftmost_lower (e ∷ es) ls h d = go (leftmost_lower es) (treat fuel view θ e) refl d
      where
        IH : Type 0
        IH = (ls : List Line) → AllWithin n es → treat_leftmost fuel view θ es ≡ some ls → AllLower (sum es) ls

        later : IH → (o : Option (List Line)) → treat_leftmost fuel view θ es ≡ o → Option.map (map (in_front e)) o ≡ some ls
            → AllLower (power width (weight width pr.height e) + sum es) ls
        later ih none x d = let z : ◌≡◌ {A = ℕ} 0 1 = cc in absurd (omega arith)
        later ih (some ms) x d = let y : ls ≡ map (in_front e) ms = cc in rw y (lower_in_front (sum es) e ms (ih ms h.1 x))

        go : IH → (t : Treatment) → treat fuel view θ e ≡ t
            → (elim t as (λ x. Option (List Line)) [ becomes ms ↦ some (map (behind es) ms) | fully_reduced ↦ Option.map (map (in_front e)) (treat_leftmost fuel view θ es) ]) ≡ some ls
            → AllLower (power width (weight width pr.height e) + sum es) ls
        go ih fully_reduced x d = later ih (treat_leftmost fuel view θ es) refl d
        go ih (becomes ms) x d = let y : ls ≡ map (behind es) ms = cc in rw y (lower_behind (power width (weight width pr.height e)) es ms (treat_lower e ms h.0 x))

  -- So the turns from one line end: by the number of unbound variables, then by the weight.
  abbrev Halting : Bindings → Type 0
  Halting θ = (es : List Element) → AllWithin n es → Halts fuel view (line θ es ∷ [])

  module _ (θ : Bindings) (pr : Proper view vars n θ) (fewer : (η : Bindings) → unbound_count η < unbound_count θ → Proper view vars n η → Halting η) where
    all_halt : (k : ℕ) → ((fs : List Element) → sum θ pr fs < k → AllWithin n fs → Halts fuel view (line θ fs ∷ [])) → (b : ℕ) → b ≤ k → (ls : List Line)
        → ProperTable view vars n ls → AllLower θ pr b ls → Halts fuel view ls
    all_halt k ih b l [] t h = halts_nil fuel view
    all_halt k ih b l (line η fs ∷ ls) t h = halts_append fuel view (go h.0) (all_halt k ih b l ls t.1 h.1)
      where
        go : Lower θ pr b (line η fs) → Halts fuel view (line η fs ∷ [])
        go (inl x) = rw x.0 (ih fs (omega arith) t.0.1)
        go (inr x) = fewer η x t.0.0 fs t.0.1

    by_weight : (k : ℕ) (es : List Element) → sum θ pr es < k → AllWithin n es → Halts fuel view (line θ es ∷ [])
    unfolding treat_line
    by_weight zero es l w = absurd (omega arith)
    by_weight (suc k) es l w = go (by_weight k) (treat_leftmost fuel view θ es) refl
      where
        go : ((fs : List Element) → sum θ pr fs < k → AllWithin n fs → Halts fuel view (line θ fs ∷ [])) → (o : Option (List Line)) → treat_leftmost fuel view θ es ≡ o → Halts fuel view (line θ es ∷ [])
        go ih none e = halts_finished fuel view (line θ es) e
        go ih (some ls) e = halts_treated fuel view (line θ es) ls e
            (all_halt k ih (sum θ pr es) (omega arith) ls (leftmost_proper lay suf θ es ls pr w e) (leftmost_lower θ pr es ls w e))

  by_unbound : (k : ℕ) (θ : Bindings) → unbound_count θ < k → Proper view vars n θ → Halting θ
  by_unbound zero θ l pr es w = absurd (omega arith)
  by_unbound (suc k) θ l pr es w = by_weight θ pr (λ η x prη. by_unbound k η (omega arith) prη) (suc (sum θ pr es)) es (omega arith) w

  pub line_halts : (θ : Bindings) → Proper view vars n θ → Halting θ
  line_halts θ pr = by_unbound (suc (unbound_count θ)) θ (omega arith) pr

  -- The turns from every proper table end.
  pub table_halts : (table : List Line) → ProperTable view vars n table → Halts fuel view table
  table_halts [] h = halts_nil fuel view
  table_halts (line θ es ∷ ls) h = halts_append fuel view (line_halts θ h.0.0 es h.0.1) (table_halts ls h.1)
