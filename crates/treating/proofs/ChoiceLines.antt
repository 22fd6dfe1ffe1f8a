-- The choices of an inequality: the bytes of their lines, how many there are, and how long.
use Prim.Native.Nat.{ℕ, suc, min, ◌+◌, ◌<◌}
use mathlib.Core.Path.{◌≡◌, refl, ap, ap₂, ◌∙◌}
use mathlib.Core.List.{List, [], ◌∷◌, ◌++◌, map, append_assoc, append-nil}
use lib.ListN.{length, length-append, length-map}
use native.Mathlib.Decide.{ℕ_discrete, dec_lt}
use native.Mathlib.Omega.{arith}
use Rattle.solving.specs.Line.{Element, equal}
use Rattle.solving.specs.Walk.{argument_choices, exceeds_each, lexicographic_choices, precedence_choices, same_symbol_choices, choices}
use Rattle.line_bytes.specs.ForContracts.Resting.{marks, padding, resting_bytes}
use Rattle.line_bytes.specs.ForContracts.Room.{lines_bytes, front_bytes, back_bytes}
use Rattle.treating.specs.ForContracts.Choices.{choices_bytes}
use Rattle.treating.specs.ForContracts.Children.{child}
use Rattle.treating.specs.ForContracts.Splitting.{AllLong}
use Rattle.line_bytes.specs.Theory.Resting.{marks_append}

-- 1. Their bytes, where all choices have `n` elements.
pub child_bytes : (bs : List ℕ) (pre post cs : List Element) → resting_bytes (child bs pre post cs)
    ≡ front_bytes bs (length pre + length cs + length post) pre ++ (marks cs ++ back_bytes (length pre + length cs + length post) post (length pre))
unfolding resting_bytes front_bytes back_bytes
child_bytes bs pre post cs =
    let c : length (pre ++ (cs ++ post)) ≡ length pre + length cs + length post = length-append pre (cs ++ post) ∙ omega (arith, length-append cs post) in
    let m : marks (pre ++ (cs ++ post)) ≡ marks pre ++ (marks cs ++ marks post) = marks_append pre (cs ++ post) ∙ ap (marks pre ++◌) (marks_append cs post) in
    ap₂ (λ n x. bs ++ (n ∷ (x ++ (padding n ++ (length pre ∷ []))))) c m ∙ simp append_assoc

pub children_bytes : (bs : List ℕ) (pre post : List Element) (n : ℕ) (css : List (List Element)) → AllLong n css
    → lines_bytes (map (child bs pre post) css) ≡ choices_bytes (front_bytes bs (length pre + n + length post) pre) (back_bytes (length pre + n + length post) post (length pre)) css
unfolding lines_bytes choices_bytes
children_bytes bs pre post n [] h = refl
children_bytes bs pre post n (cs ∷ css) h =
    ap₂ ◌++◌
    (child_bytes bs pre post cs ∙ ap (λ k. front_bytes bs (length pre + k + length post) pre ++ (marks cs ++ back_bytes (length pre + k + length post) post (length pre))) h.0)
    (children_bytes bs pre post n css h.1)

pub exceeds_long : (p : ℕ) (ts : List ℕ) → length (exceeds_each p ts) ≡ length ts
unfolding exceeds_each
exceeds_long p [] = refl
exceeds_long p (t ∷ ts) = omega (arith, exceeds_long p ts)

long_map : (n : ℕ) (e : Element) (css : List (List Element)) → AllLong n css → AllLong (suc n) (map (e ∷◌) css)
long_map n e [] h = tt
long_map n e (cs ∷ css) h = (omega (arith, h.0), long_map n e css h.1)

pub lexicographic_long : (p : ℕ) (ss ts : List ℕ) → AllLong (length ts) (lexicographic_choices p ss ts)
unfolding lexicographic_choices
lexicographic_long p [] ts = tt
lexicographic_long p (s ∷ ss) [] = tt
lexicographic_long p (s ∷ ss) (t ∷ ts) = (omega (arith, exceeds_long p ts), long_map (length ts) (equal s t) (lexicographic_choices p ss ts) (lexicographic_long p ss ts))

pub lexicographic_count : (p : ℕ) (ss ts : List ℕ) → length (lexicographic_choices p ss ts) ≡ min (length ss) (length ts)
unfolding lexicographic_choices
lexicographic_count p [] ts = omega arith
lexicographic_count p (s ∷ ss) [] = omega arith
lexicographic_count p (s ∷ ss) (t ∷ ts) = omega (arith, length-map (lexicographic_choices p ss ts) (equal s t ∷◌), lexicographic_count p ss ts)

-- 2. The choices by the order of the symbols.
module _ (p q f g : ℕ) (ss ts : List ℕ) where
  pub choices_less : f < g → choices p q f g ss ts ≡ argument_choices ss q
  unfolding choices precedence_choices same_symbol_choices
  choices_less h = go (dec_lt g f) (ℕ_discrete f g)
    where
      go : (d : Dec (g < f)) (e : Dec (f ≡ g)) → argument_choices ss q ++ precedence_choices d p ts ++ same_symbol_choices e p ss ts ≡ argument_choices ss q
      go (yes d) e = absurd (omega arith)
      go (no d) (yes e) = absurd (omega arith)
      go (no d) (no e) = append-nil (argument_choices ss q ++ []) ∙ append-nil (argument_choices ss q)

  pub choices_more : g < f → choices p q f g ss ts ≡ argument_choices ss q ++ (exceeds_each p ts ∷ [])
  unfolding choices precedence_choices same_symbol_choices
  choices_more h = go (dec_lt g f) (ℕ_discrete f g)
    where
      go : (d : Dec (g < f)) (e : Dec (f ≡ g)) → argument_choices ss q ++ precedence_choices d p ts ++ same_symbol_choices e p ss ts ≡ argument_choices ss q ++ (exceeds_each p ts ∷ [])
      go (no d) e = absurd (d h)
      go (yes d) (yes e) = absurd (omega arith)
      go (yes d) (no e) = append-nil (argument_choices ss q ++ (exceeds_each p ts ∷ []))

  pub choices_same : f ≡ g → choices p q f g ss ts ≡ argument_choices ss q ++ lexicographic_choices p ss ts
  unfolding choices precedence_choices same_symbol_choices
  choices_same h = go (dec_lt g f) (ℕ_discrete f g)
    where
      go : (d : Dec (g < f)) (e : Dec (f ≡ g)) → argument_choices ss q ++ precedence_choices d p ts ++ same_symbol_choices e p ss ts ≡ argument_choices ss q ++ lexicographic_choices p ss ts
      go (yes d) e = absurd (omega arith)
      go (no d) (no e) = absurd (e h)
      go (no d) (yes e) = ap (◌++ lexicographic_choices p ss ts) (append-nil (argument_choices ss q))
