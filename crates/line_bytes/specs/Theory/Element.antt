-- The code's elements and what they say.
use Rattle.std.specs.Prelude.{ℕ, ◌+◌, ◌-◌, ◌≤◌, ◌<◌, ◌≡◌, List, get_or}
use Rattle.std.proofs.Math.Path.{sym}
use Rattle.std.proofs.Common.{ap, lt-ltb, le-ltb}
use Rattle.solving.specs.Line.{equal, greater}
use Rattle.line_bytes.specs.declared.element.Relation.TheVariants.{Equal, Greater}
use Rattle.line_bytes.specs.declared.element.Element.{Element as Held}
use Rattle.line_bytes.specs.ForContracts.Resting.{said, meaning, equality_mark, marked}

-- Two bytes read as an element.
pub marked_greater : (a b : ℕ) → a < equality_mark → marked a b ≡ greater a b
unfolding marked
marked_greater a b h = rw (lt-ltb a equality_mark h, marked)

pub marked_equal : (a b : ℕ) → equality_mark ≤ a → marked a b ≡ equal (a - equality_mark) b
unfolding marked
marked_equal a b h = rw (le-ltb a equality_mark h, marked)

module _ (bytes : List ℕ) (at : ℕ) where
  pub element_greater : get_or bytes at 0 < equality_mark
      → meaning (record { relation = Greater (get_or bytes at 0) (get_or bytes (at + 1) 0) }) ≡ marked (get_or bytes at 0) (get_or bytes (at + 1) 0)
  unfolding meaning said
  element_greater h = sym (marked_greater (get_or bytes at 0) (get_or bytes (at + 1) 0) h)

  pub element_equal : equality_mark ≤ get_or bytes at 0
      → meaning (record { relation = Equal (get_or bytes at 0 - equality_mark) (get_or bytes (at + 1) 0) }) ≡ marked (get_or bytes at 0) (get_or bytes (at + 1) 0)
  unfolding meaning said
  element_equal h = sym (marked_equal (get_or bytes at 0) (get_or bytes (at + 1) 0) h)

-- An element by its relation.
pub says_equal : (e : Held) (p q : ℕ) → e.relation ≡ Equal p q → meaning e ≡ equal p q
unfolding meaning said
says_equal e p q x = ap said x

pub says_greater : (e : Held) (p q : ℕ) → e.relation ≡ Greater p q → meaning e ≡ greater p q
unfolding meaning said
says_greater e p q x = ap said x
