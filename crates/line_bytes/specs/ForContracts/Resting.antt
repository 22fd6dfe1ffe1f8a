-- Lines as they rest in the memory of the walk: the bindings' bytes, the number of elements, the elements, each as two bytes, what fills their places up,
-- and how many of the first ones are known to be fully reduced.
use Rattle.std.specs.Prelude.{ℕ, ◌+◌, ◌-◌, ◌*◌, ◌<◌, true, false, List, [], ◌∷◌, ◌++◌, length, replicate, ltb}
use Rattle.format.specs.Limits.{max_elements, no_position}
use Rattle.solving.specs.Line.{Element, equal, greater, Line, line}
use Rattle.line_bytes.specs.declared.element.Relation.{Relation}
use Rattle.line_bytes.specs.declared.element.Relation.TheVariants.{Equal, Greater}
use Rattle.line_bytes.specs.declared.element.Element.{Element as Held}
use Rattle.bindings.specs.ForContracts.Bindings.{bindings_of}

-- What the code's element says.
unfoldable pub said : Relation → Element
said (Equal p q) = equal p q
said (Greater p q) = greater p q

unfoldable pub meaning : Held → Element
unfolding said
meaning e = said e.relation

-- An equality is marked by the high bit of its first position.
abbrev pub equality_mark : ℕ
equality_mark = 0x80

unfoldable pub marked : (a b : ℕ) → Element
marked a b = elim (ltb a equality_mark) [ true ↦ greater a b | false ↦ equal (a - equality_mark) b ]

unfoldable pub marks : List Element → List ℕ
marks [] = []
marks (equal p q ∷ es) = (equality_mark + p) ∷ q ∷ marks es
marks (greater p q ∷ es) = p ∷ q ∷ marks es

-- An equality's first position leaves room for the mark.
abbrev pub Markable : List Element → Type 0
Markable [] = Unit {0}
Markable (equal p q ∷ es) = (p < equality_mark) × Markable es
Markable (greater p q ∷ es) = Markable es

-- A line that rests.
pub record RestingLine : Type 0 where
  pub bindings : List ℕ
  pub elements : List Element
  pub reduced : ℕ

unfoldable pub line_of : RestingLine → Line
unfolding bindings_of
line_of l = line (bindings_of l.bindings) l.elements

-- "(ff after the last)"
unfoldable pub padding : ℕ → List ℕ
padding count = replicate (2 * (max_elements - count)) no_position

unfoldable pub resting_bytes : RestingLine → List ℕ
unfolding marks padding
resting_bytes l = l.bindings ++ (length l.elements ∷ (marks l.elements ++ (padding (length l.elements) ++ (l.reduced ∷ []))))
