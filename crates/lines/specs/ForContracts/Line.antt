-- A line by its named parts, and the bytes that it stands for.
use Rattle.std.specs.Prelude.{ℕ, ◌+◌, ◌-◌, ◌*◌, ◌≤◌, ◌<◌, ◌≡◌, List, [], ◌∷◌, ◌++◌, map, length, get_or, take, drop, replicate}
use Rattle.std.proofs.Math.Seq.{slice}
use Rattle.format.specs.Limits.{variable_count, max_elements, no_position}
use Rattle.solving.specs.Line.{Element, greater}
use Rattle.lines.specs.declared.line.Line.{Line}
use Rattle.line_bytes.specs.ForContracts.Layout.{count_place, reduced_place, line_bytes, placed}
use Rattle.line_bytes.specs.ForContracts.Resting.{meaning, Markable, RestingLine, resting_bytes}

-- "up to 40 elements": the first `count` of its places.
unfoldable pub resting_of : Line → RestingLine
unfolding meaning
resting_of l = record { bindings = l.bindings; elements = map meaning (take l.count l.elements); reduced = l.reduced }

-- "at first the one line with s > t and no binding"
unfoldable pub opening_line : (s t : ℕ) → RestingLine
opening_line s t = record { bindings = replicate variable_count no_position; elements = greater s t ∷ []; reduced = 0 }

-- The line's bytes can be written: none of its elements is known to be fully reduced.
pub record Writable (l : Line) : Type 0 where
  pub few : l.count ≤ max_elements
  pub fresh : l.reduced ≡ 0
  pub markable : Markable (resting_of l).elements

-- The bindings and the counts of the line that rests at `place`.
pub record HasHead (memory : List ℕ) (place : ℕ) (l : Line) : Type 0 where
  pub bindings_are : l.bindings ≡ slice place (place + variable_count) memory
  pub count_is : l.count ≡ get_or memory (place + count_place) 0
  pub reduced_is : l.reduced ≡ get_or memory (place + reduced_place) 0
  pub places : length l.elements ≡ max_elements

-- What the elements from number `from` on say.
unfoldable pub elements_from : Line → ℕ → List Element
elements_from l from = map meaning (slice from l.count l.elements)

-- There is room for them from `to` on.
pub record ElementsFit (l : Line) (from to : ℕ) (bytes : List ℕ) : Type 0 where
  pub few : l.count ≤ max_elements
  pub within : from ≤ l.count
  pub markable : Markable (elements_from l from)
  pub room : to + 2 * (l.count - from) ≤ length bytes

-- The line holds what rests: the bindings, the counts, and each element that is not known to be fully reduced.
pub record Carries (l : Line) (s : RestingLine) : Type 0 where
  pub bindings_are : l.bindings ≡ s.bindings
  pub count_is : l.count ≡ length s.elements
  pub reduced_is : l.reduced ≡ s.reduced
  pub elements_are : (from : ℕ) → s.reduced ≤ from → elements_from l from ≡ drop from s.elements

-- The line without its element `at`; those in front of it are known to be fully reduced.
abbrev pub without : (at : ℕ) → RestingLine → RestingLine
without at s = record { bindings = s.bindings; elements = take at s.elements ++ drop (at + 1) s.elements; reduced = at }

-- The line rests at `place`, and element `at` is one of those that it holds.
pub record RemovalFits (l : Line) (place at : ℕ) (memory : List ℕ) : Type 0 where
  pub resting : RestingLine
  pub holds : Carries l resting
  pub there : slice place (place + line_bytes) memory ≡ resting_bytes resting
  pub whole : place + line_bytes ≤ length memory
  pub slots : length resting.bindings ≡ variable_count
  pub few : length resting.elements ≤ max_elements
  pub markable : Markable (drop (at + 1) resting.elements)
  pub known : resting.reduced ≤ at
  pub inside : at < length resting.elements

pub record Removes (l : Line) (place at : ℕ) (before after : List ℕ) : Type 0 where
  pub removes : (s : RestingLine) → Carries l s → slice place (place + line_bytes) before ≡ resting_bytes s → length s.bindings ≡ variable_count → length s.elements ≤ max_elements
      → at < length s.elements → s.reduced ≤ at → after ≡ placed place (resting_bytes (without at s)) before
