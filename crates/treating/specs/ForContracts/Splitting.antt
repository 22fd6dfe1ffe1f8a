-- The choices of an inequality between two terms that are no variables.
use Rattle.std.specs.Prelude.{ℕ, ◌+◌, ◌*◌, ◌≤◌, ◌<◌, ◌≡◌, Bool, true, false, List, ◌∷◌, ◌++◌, map, length, get_or}
use Rattle.format.specs.Limits.{variable_count, max_elements}
use Rattle.format.specs.Lists.{Every}
use Rattle.solving.specs.Line.{Element}
use Rattle.solving.specs.Walk.{argument_choices, choices}
use Rattle.terms.specs.ForContracts.Arguments.{arguments_at}
use Rattle.bindings.specs.ForContracts.PrefixForm.{Row, arguments_of}
use Rattle.treating.specs.declared.split.CountedArguments.{CountedArguments}
use Rattle.treating.specs.declared.treat.Sides.{Sides}
use Rattle.treating.specs.declared.split.Choices.{Choices}
use Rattle.line_bytes.specs.ForContracts.Resting.{equality_mark, resting_bytes}
use Rattle.line_bytes.specs.ForContracts.Layout.{line_bytes, placed}
use Rattle.line_bytes.specs.ForContracts.Room.{lines_bytes}
use Rattle.treating.specs.ForContracts.Children.{child}

-- Lists of `n` elements.
abbrev pub AllLong : ℕ → List (List Element) → Type 0
AllLong n = Every (λ cs. length cs ≡ n)

-- "then, if f > g, all s > tj; if f = g, for each k the L3 list in argument order": the choices behind those of the arguments, how many they are, and how long.
pub record LastChoices (p q f g : ℕ) (ss ts : List ℕ) (last : ℕ) : Type 0 where
  pub lasts : List (List Element)
  pub are : choices p q f g ss ts ≡ argument_choices ss q ++ lasts
  pub long : AllLong (length ts) lasts
  pub count : length lasts ≡ last

pub record CountsLastChoices (f g m n r : ℕ) : Type 0 where
  pub counts : (p q : ℕ) (ss ts : List ℕ) → length ss ≡ m → length ts ≡ n → LastChoices p q f g ss ts r
  pub few : r ≤ m + 1

-- Whether some choice of `elements` elements comes last and is too long.
pub record TooLong (last elements : ℕ) (r : Bool) : Type 0 where
  pub tells : r ≡ true → (0 < last) × (max_elements < elements)
  pub fits : r ≡ false → 0 < last → elements ≤ max_elements

-- The arguments of the term at `p`.
abbrev pub span_of : (sizes : List ℕ) → ℕ → CountedArguments
span_of sizes p = record { row = arguments_at sizes p; count = length (arguments_of sizes p) }

pub record HasArguments (sizes : List ℕ) (p : ℕ) : Type 0 where
  pub inside : p < length sizes
  pub row : Row sizes (p + 1) (p + get_or sizes p 0) (arguments_of sizes p)
  pub within : p + get_or sizes p 0 ≤ length sizes

-- The choices of l > r at these positions, where the terms reached are no variables; `last` of them come behind those of the arguments.
abbrev pub choices_at : (nodes sizes : List ℕ) (at : ℕ) (sides terms : Sides) (last : ℕ) → Choices
choices_at nodes sizes at sides terms last = record {
  at = at;
  p = sides.left;
  q = sides.right;
  f = get_or nodes terms.left 0;
  g = get_or nodes terms.right 0;
  left = span_of sizes terms.left;
  right = span_of sizes terms.right;
  last = last;
}

pub record HasChoices (nodes sizes : List ℕ) (sides terms : Sides) : Type 0 where
  pub left_within : terms.left < length nodes
  pub right_within : terms.right < length nodes
  pub left_arguments : HasArguments sizes terms.left
  pub right_arguments : HasArguments sizes terms.right
  pub left_low : sides.left < equality_mark
  pub right_low : sides.right < equality_mark

pub record ChoicesOf (nodes sizes : List ℕ) (at : ℕ) (sides terms : Sides) (r : Choices) : Type 0 where
  pub is : r ≡ choices_at nodes sizes at sides terms r.last
  pub count_last_choices : CountsLastChoices (get_or nodes terms.left 0) (get_or nodes terms.right 0) (length (arguments_of sizes terms.left)) (length (arguments_of sizes terms.right)) r.last

-- Element `at` of the line, p > q, is to be replaced by the choices of f(ss) and g(ts).
pub record Splitting (sizes line : List ℕ) (d : Choices) (bindings : List ℕ) (pre post : List Element) (ss ts : List ℕ) : Type 0 where
  pub element : Element
  pub reduced : ℕ
  pub slots : length bindings ≡ variable_count
  pub line_is : line ≡ resting_bytes (record { bindings = bindings; elements = pre ++ (element ∷ post); reduced = reduced })
  pub at_is : length pre ≡ d.at
  pub left_row : Row sizes d.left.row.from d.left.row.end ss
  pub right_row : Row sizes d.right.row.from d.right.row.end ts
  pub left_within : d.left.row.end ≤ length sizes
  pub right_within : d.right.row.end ≤ length sizes
  pub few_sizes : length sizes ≤ equality_mark
  pub count_is : length ts ≡ d.right.count
  pub last_choices : LastChoices d.p d.q d.f d.g ss ts d.last
  pub few : length pre + (1 + length post) ≤ max_elements
  pub last_few : 0 < d.last → length pre + (d.right.count + length post) ≤ max_elements

pub record ChoicesFit (sizes line memory : List ℕ) (d : Choices) (to : ℕ) : Type 0 where
  pub bindings : List ℕ
  pub pre : List Element
  pub post : List Element
  pub left : List ℕ
  pub right : List ℕ
  pub facts : Splitting sizes line d bindings pre post left right
  pub room : to + line_bytes * length (choices d.p d.q d.f d.g left right) ≤ length memory

pub record PushesChoices (sizes line memory : List ℕ) (d : Choices) (to : ℕ) (memory' : List ℕ) : Type 0 where
  pub pushes : (bindings : List ℕ) (pre post : List Element) (ss ts : List ℕ) → Splitting sizes line d bindings pre post ss ts
      → memory' ≡ placed to (lines_bytes (map (child bindings pre post) (choices d.p d.q d.f d.g ss ts))) memory
