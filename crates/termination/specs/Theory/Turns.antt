-- The turns from a table, as many as there are: they end for a table if they end for each of its lines.
use Rattle.std.specs.Prelude.{ℕ}
use Rattle.std.proofs.Math.Path.{◌≡◌, refl}
use Rattle.std.proofs.Common.{ap, ◌∙◌, arith}
use Rattle.std.proofs.Math.Option.{Option, none, some, map}
use mathlib.Core.List.{List, [], ◌∷◌, ◌++◌, append_assoc}
use Rattle.terms.specs.Position.{Node}
use Rattle.solving.specs.Line.{Line}
use Rattle.solving.specs.Walk.{Fuel, treat_line, turn}

module _ (fuel : Fuel) (view : ℕ → Node) where
  pub data Halts : List Line → Type 0 where
    no_turn : {table : List Line} → turn fuel view table ≡ none → Halts table
    one_turn : {table new : List Line} → turn fuel view table ≡ some new → Halts new → Halts table

  turn_first : (a a' b : List Line) → turn fuel view a ≡ some a' → turn fuel view (a ++ b) ≡ some (a' ++ b)
  unfolding turn
  turn_first [] a' b e = let z : ◌≡◌ {A = ℕ} 0 1 = cc in absurd (omega arith)
  turn_first (l ∷ ls) a' b e = go (turn_first ls) (treat_line fuel view l) e
    where
      IH : Type 0
      IH = (x b : List Line) → turn fuel view ls ≡ some x → turn fuel view (ls ++ b) ≡ some (x ++ b)

      stay : IH → (o : Option (List Line)) → turn fuel view ls ≡ o → map (l ∷◌) o ≡ some a' → map (l ∷◌) (turn fuel view (ls ++ b)) ≡ some (a' ++ b)
      stay ih none d e = let z : ◌≡◌ {A = ℕ} 0 1 = cc in absurd (omega arith)
      stay ih (some x) d e = let y : (l ∷ x) ≡ a' = cc in rw (ih x b d, ← y)

      go : IH → (s : Option (List Line)) → (elim s as (λ x. Option (List Line)) [ some new ↦ some (new ++ ls) | none ↦ map (l ∷◌) (turn fuel view ls) ]) ≡ some a'
          → (elim s as (λ x. Option (List Line)) [ some new ↦ some (new ++ (ls ++ b)) | none ↦ map (l ∷◌) (turn fuel view (ls ++ b)) ]) ≡ some (a' ++ b)
      go ih none e = stay ih (turn fuel view ls) refl e
      go ih (some new) e = let y : (new ++ ls) ≡ a' = cc in rw (← y, append_assoc new ls b)

  turn_second : (a b : List Line) → turn fuel view a ≡ none → turn fuel view (a ++ b) ≡ map (a ++◌) (turn fuel view b)
  unfolding turn
  turn_second [] b e = go (turn fuel view b)
    where
      go : (o : Option (List Line)) → o ≡ map ([] ++◌) o
      go none = refl
      go (some x) = refl
  turn_second (l ∷ ls) b e = go (turn_second ls b) (treat_line fuel view l) e
    where
      IH : Type 0
      IH = turn fuel view ls ≡ none → turn fuel view (ls ++ b) ≡ map (ls ++◌) (turn fuel view b)

      out : (o : Option (List Line)) → map (l ∷◌) (map (ls ++◌) o) ≡ map ((l ∷ ls) ++◌) o
      out none = refl
      out (some x) = refl

      stay : IH → (o : Option (List Line)) → turn fuel view ls ≡ o → map (l ∷◌) o ≡ none → map (l ∷◌) (turn fuel view (ls ++ b)) ≡ map ((l ∷ ls) ++◌) (turn fuel view b)
      stay ih none d e = rw (ih d) (out (turn fuel view b))
      stay ih (some x) d e = let z : ◌≡◌ {A = ℕ} 0 1 = cc in absurd (omega arith)

      go : IH → (s : Option (List Line)) → ◌≡◌ {A = Option (List Line)} (elim s [ some new ↦ some (new ++ ls) | none ↦ map (l ∷◌) (turn fuel view ls) ]) none
          → (elim s as (λ x. Option (List Line)) [ some new ↦ some (new ++ (ls ++ b)) | none ↦ map (l ∷◌) (turn fuel view (ls ++ b)) ]) ≡ map ((l ∷ ls) ++◌) (turn fuel view b)
      go ih none e = stay ih (turn fuel view ls) refl e
      go ih (some new) e = let z : ◌≡◌ {A = ℕ} 0 1 = cc in absurd (omega arith)

  halts_second : (a : List Line) → turn fuel view a ≡ none → {b : List Line} → Halts b → Halts (a ++ b)
  halts_second a e (no_turn {table = b} d) = no_turn (turn_second a b e ∙ ap (map (a ++◌)) d)
  halts_second a e (one_turn {table = b} d h) = one_turn (turn_second a b e ∙ ap (map (a ++◌)) d) (halts_second a e h)

  pub halts_append : {a b : List Line} → Halts a → Halts b → Halts (a ++ b)
  halts_append (no_turn {table = a} e) k = halts_second a e k
  halts_append {b = b} (one_turn {table = a} {new = a'} e h) k = one_turn (turn_first a a' b e) (halts_append h k)

  pub halts_nil : Halts []
  unfolding turn
  halts_nil = no_turn {table = []} refl

  -- A line that is finished, and one that a turn replaces by lines whose turns end.
  pub halts_finished : (l : Line) → treat_line fuel view l ≡ none → Halts (l ∷ [])
  unfolding turn
  halts_finished l e = no_turn {table = l ∷ []} (rw (e, turn))

  pub halts_treated : (l : Line) (ls : List Line) → treat_line fuel view l ≡ some ls → Halts ls → Halts (l ∷ [])
  unfolding turn
  halts_treated l ls e h = one_turn {table = l ∷ []} {new = ls ++ []} (rw (e, turn)) (halts_append h halts_nil)
