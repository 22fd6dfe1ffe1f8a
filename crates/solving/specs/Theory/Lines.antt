-- When some line of a table holds that is made from other lines.
use Rattle.std.specs.Prelude.{ℕ, ◌⊎◌}
use Rattle.std.proofs.Math.Logic.{inl, inr}
use mathlib.Core.List.{List, [], ◌∷◌, ◌++◌, map}
use Rattle.terms.specs.Term.{Term, Values}
use Rattle.solving.specs.Line.{Bindings, Element, Line, line}
use Rattle.solving.specs.Walk.{in_front, behind}
use Rattle.solving.specs.Holds.{BindingsHold, ElementHolds, ElementsHold, SomeLineHolds}
use Rattle.solving.specs.Theory.Choices.{SomeHolds}

module _ (ρ : Values) (value : ℕ → Term) where
  elements_append : (es fs : List Element) → ElementsHold ρ value es → ElementsHold ρ value fs → ElementsHold ρ value (es ++ fs)
  elements_append [] fs h k = k
  elements_append (e ∷ es) fs h k = (h.0, elements_append es fs h.1 k)

  elements_split : (es fs : List Element) → ElementsHold ρ value (es ++ fs) → ElementsHold ρ value es × ElementsHold ρ value fs
  elements_split [] fs h = (tt, h)
  elements_split (e ∷ es) fs h = let (x, y) = elements_split es fs h.1 in ((h.0, x), y)

  -- An element put in front of each line.
  pub in_front_to : (e : Element) (ls : List Line) → ElementHolds ρ value e → SomeLineHolds ρ value ls → SomeLineHolds ρ value (map (in_front e) ls)
  unfolding in_front
  in_front_to e [] x h = h
  in_front_to e (line θ es ∷ ls) x (inl h) = inl (h.0, (x, h.1))
  in_front_to e (line θ es ∷ ls) x (inr h) = inr (in_front_to e ls x h)

  pub in_front_from : (e : Element) (ls : List Line) → SomeLineHolds ρ value (map (in_front e) ls) → ElementHolds ρ value e × SomeLineHolds ρ value ls
  unfolding in_front
  in_front_from e [] h = absurd h
  in_front_from e (line θ es ∷ ls) (inl h) = (h.1.0, inl (h.0, h.1.1))
  in_front_from e (line θ es ∷ ls) (inr h) = let (x, y) = in_front_from e ls h in (x, inr y)

  -- Elements put behind those of each line.
  pub behind_to : (fs : List Element) (ls : List Line) → ElementsHold ρ value fs → SomeLineHolds ρ value ls → SomeLineHolds ρ value (map (behind fs) ls)
  unfolding behind
  behind_to fs [] x h = h
  behind_to fs (line θ es ∷ ls) x (inl h) = inl (h.0, elements_append es fs h.1 x)
  behind_to fs (line θ es ∷ ls) x (inr h) = inr (behind_to fs ls x h)

  pub behind_from : (fs : List Element) (ls : List Line) → SomeLineHolds ρ value (map (behind fs) ls) → SomeLineHolds ρ value ls × ElementsHold ρ value fs
  unfolding behind
  behind_from fs [] h = absurd h
  behind_from fs (line θ es ∷ ls) (inl h) = let (x, y) = elements_split es fs h.1 in (inl (h.0, x), y)
  behind_from fs (line θ es ∷ ls) (inr h) = let (x, y) = behind_from fs ls h in (inr x, y)

  -- One line for each choice.
  pub choice_lines_to : (θ : Bindings) → BindingsHold ρ value 0 θ → (ess : List (List Element)) → SomeHolds ρ value ess → SomeLineHolds ρ value (map (line θ) ess)
  choice_lines_to θ b [] h = h
  choice_lines_to θ b (es ∷ ess) (inl h) = inl (b, h)
  choice_lines_to θ b (es ∷ ess) (inr h) = inr (choice_lines_to θ b ess h)

  pub choice_lines_from : (θ : Bindings) (ess : List (List Element)) → SomeLineHolds ρ value (map (line θ) ess) → BindingsHold ρ value 0 θ × SomeHolds ρ value ess
  choice_lines_from θ [] h = absurd h
  choice_lines_from θ (es ∷ ess) (inl h) = (h.0, inl h.1)
  choice_lines_from θ (es ∷ ess) (inr h) = let (x, y) = choice_lines_from θ ess h in (x, inr y)

  -- A table in two parts.
  pub lines_left : (a b : List Line) → SomeLineHolds ρ value a → SomeLineHolds ρ value (a ++ b)
  lines_left [] b h = absurd h
  lines_left (l ∷ a) b (inl h) = inl h
  lines_left (l ∷ a) b (inr h) = inr (lines_left a b h)

  pub lines_right : (a b : List Line) → SomeLineHolds ρ value b → SomeLineHolds ρ value (a ++ b)
  lines_right [] b h = h
  lines_right (l ∷ a) b h = inr (lines_right a b h)

  pub lines_split : (a b : List Line) → SomeLineHolds ρ value (a ++ b) → SomeLineHolds ρ value a ⊎ SomeLineHolds ρ value b
  lines_split [] b h = inr h
  lines_split (l ∷ a) b (inl h) = inl (inl h)
  lines_split (l ∷ a) b (inr h) = elim (lines_split a b h) [ inl x ↦ inl (inr x) | inr y ↦ inr y ]
