-- Free slots say nothing: the same line is the first that holds.
use Prim.Native.Nat.{ℕ, zero, suc, ◌+◌, ◌<◌}
use Rattle.std.specs.Prelude.{◌≡◌, ◌↔◌}
use Rattle.std.proofs.Math.Path.{refl, ap}
use Rattle.std.proofs.Common.{◌∙◌}
use Rattle.std.proofs.Math.Option.{none, some}
use mathlib.Core.List.{List, [], ◌∷◌}
use Rattle.terms.specs.Term.{Term, Values}
use Rattle.terms.specs.Equation.{Equation, value}
use Rattle.terms.specs.declared.direction.Direction.{Direction}
use Rattle.solving.specs.Line.{Bindings, Line, line}
use Rattle.solving.specs.Walk.{Walked, solved, refused, solve_with}
use Rattle.solving.specs.Holds.{BindingsHold, LineHolds}
use Rattle.solving.specs.Judge.{line_holds?, first_holding}
use Rattle.reducing.specs.Test.{holding_in, holding_line_with}
use Rattle.twelve_variables.specs.Theory.Padded.{padded, padded_line, padded_table, padded_walk}
use Rattle.twelve_variables.specs.Theory.Few.{Few}
use Rattle.twelve_variables.specs.Theory.Solve.{solve_padded}

module _ (extra : ℕ) (ρ : Values) (value : ℕ → Term) where
  none_hold : (n v : ℕ) → BindingsHold ρ value v (padded n [])
  none_hold zero v = tt
  none_hold (suc n) v = none_hold n (suc v)

  padded_hold : (v : ℕ) (θ : Bindings) → BindingsHold ρ value v (padded extra θ) ↔ BindingsHold ρ value v θ
  padded_hold v [] = (λ h. tt, λ h. none_hold extra v)
  padded_hold v (none ∷ θ) = padded_hold (suc v) θ
  padded_hold v (some p ∷ θ) = let (a, b) = padded_hold (suc v) θ in (λ h. (h.0, a h.1), λ h. (h.0, b h.1))

  padded_line_holds : (l : Line) → LineHolds ρ value (padded_line extra l) ↔ LineHolds ρ value l
  padded_line_holds (line θ es) = let (a, b) = padded_hold 0 θ in (λ h. (a h.0, h.1), λ h. (b h.0, h.1))

  pub padded_holding : (table : List Line) → first_holding ρ value (padded_table extra table) ≡ first_holding ρ value table
  unfolding first_holding
  padded_holding [] = refl
  padded_holding (l ∷ ls) =
      go (padded_line_holds l) (line_holds? ρ value (padded_line extra l)) (line_holds? ρ value l) ∙ ap (λ n. elim (line_holds? ρ value l) as (λ x. ℕ) [ yes h ↦ 1 | no m ↦ next n ]) (padded_holding ls)
    where
      next : ℕ → ℕ
      next n = elim n [ zero ↦ 0 | suc i ↦ suc (suc i) ]

      go : {A B : Type 0} → A ↔ B → (c : Dec A) (d : Dec B)
          → ◌≡◌ {A = ℕ} (elim c [ yes h ↦ 1 | no m ↦ next (first_holding ρ value (padded_table extra ls)) ]) (elim d [ yes h ↦ 1 | no m ↦ next (first_holding ρ value (padded_table extra ls)) ])
      go s (yes a) (yes b) = refl
      go s (yes a) (no m) = absurd (m (s.0 a))
      go s (no m) (yes b) = absurd (m (s.1 b))
      go s (no m) (no k) = refl

padded_holding_in : (extra : ℕ) (e : Equation) (ρ : Values) (w : Walked) → holding_in e ρ (padded_walk extra w) ≡ holding_in e ρ w
unfolding holding_in
padded_holding_in extra e ρ (solved table n) = padded_holding extra ρ (value e ρ) table
padded_holding_in extra e ρ (refused r) = refl

pub holding_same : (few extra : ℕ) → 0 < few → (e : Equation) → Few few e → (d : Direction) (ρ : Values) → holding_line_with (few + extra) e d ρ ≡ holding_line_with few e d ρ
unfolding holding_line_with
holding_same few extra positive e w d ρ = ap (holding_in e ρ) (solve_padded few extra positive e w d) ∙ padded_holding_in extra e ρ (solve_with few e d)
