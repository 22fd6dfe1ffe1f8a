-- The records of a written table: their length, and that they are bytes.
use Prim.Native.Nat.{ℕ, zero, suc, ◌*◌, ◌-◌, ◌≤◌, ◌<◌}
use Rattle.std.specs.Prelude.{◌≡◌, refl, replicate}
use Rattle.std.proofs.Common.{◌∙◌, length-append}
use Rattle.std.proofs.Math.Option.{none, some}
use mathlib.Core.List.{List, [], ◌∷◌, ◌++◌, map}
use Rattle.std.proofs.Math.ListN.{length}
use Rattle.std.proofs.lemmas.List.{length-map, length-replicate}
use native.Mathlib.Omega.{arith}
use Rattle.format.specs.Limits.{variable_count, max_elements, max_lines, record_bytes, table_bytes, no_position}
use Rattle.format.specs.Lists.{Every}
use Rattle.format.specs.Theory.Lists.{every_append}
use Rattle.solving.specs.Line.{Bindings, lookup, Element, equal, greater, Line, line, binding_byte, element_bytes, record_of, records}
use Rattle.solving.specs.ForContracts.Within.{AllWithin}
use Rattle.solving.specs.ForContracts.Written.{WrittenLine, WrittenLines}

-- "records are 93 bytes" (document 02, W9).
pub length_element_bytes : (es : List Element) → length (element_bytes es) ≡ 2 * length es
unfolding element_bytes
length_element_bytes [] = refl
length_element_bytes (equal p q ∷ es) = omega (arith, length_element_bytes es)
length_element_bytes (greater p q ∷ es) = omega (arith, length_element_bytes es)

pub length_record_of : (θ : Bindings) (es : List Element) → length θ ≡ variable_count → length es ≤ max_elements → length (record_of (line θ es)) ≡ record_bytes
unfolding record_of
length_record_of θ es l f = simp (length-append, length-map, length-replicate) (omega (arith, length_element_bytes es))

pub length_record : {n : ℕ} (θ : Bindings) (es : List Element) → WrittenLine n θ es → length (record_of (line θ es)) ≡ record_bytes
length_record θ es w = length_record_of θ es w.slots w.few_elements

pub length_records : (n : ℕ) (table : List Line) → WrittenLines n table → length (records table) ≡ length table * record_bytes
unfolding records
length_records n [] w = refl
length_records n (line θ es ∷ ls) w = length-append (record_of (line θ es)) (records ls) ∙ omega (arith, length_record θ es w.0, length_records n ls w.1)

pub records_fit : (n : ℕ) (table : List Line) → WrittenLines n table → length table ≤ max_lines → length (records table) ≤ table_bytes
records_fit n table w l = omega (arith, length_records n table w)

-- Each is a byte, where there are at most 256 positions.
abbrev pub AllBelow : ℕ → List ℕ → Type 0
AllBelow n = Every (λ b. b < n)

module _ (n : ℕ) where
  below_replicate : (k b : ℕ) → b < n → AllBelow n (replicate k b)
  below_replicate zero b h = tt
  below_replicate (suc k) b h = (h, below_replicate k b h)

module _ {n : ℕ} (small : n ≤ 256) where
  bindings_bytes : (θ : Bindings) → ((v p : ℕ) → lookup θ v ≡ some p → p < n) → AllBelow 256 (map binding_byte θ)
  unfolding binding_byte
  bindings_bytes [] h = tt
  bindings_bytes (none ∷ θ) h = (omega arith, bindings_bytes θ (λ v p e. h (suc v) p e))
  bindings_bytes (some q ∷ θ) h = (omega (arith, h zero q refl), bindings_bytes θ (λ v p e. h (suc v) p e))

  elements_bytes : (es : List Element) → AllWithin n es → AllBelow 256 (element_bytes es)
  unfolding element_bytes
  elements_bytes [] h = tt
  elements_bytes (equal p q ∷ es) h = let (a, b) = h.0 in (omega arith, (omega arith, elements_bytes es h.1))
  elements_bytes (greater p q ∷ es) h = let (a, b) = h.0 in (omega arith, (omega arith, elements_bytes es h.1))

  pub record_is_bytes : (θ : Bindings) (es : List Element) → WrittenLine n θ es → AllBelow 256 (record_of (line θ es))
  unfolding record_of
  record_is_bytes θ es w =
      every_append (λ b. b < 256) (map binding_byte θ ++ length es ∷ element_bytes es) (replicate (2 * (max_elements - length es)) no_position)
      (every_append (λ b. b < 256) (map binding_byte θ) (length es ∷ element_bytes es) (bindings_bytes θ w.bound_within) (omega (arith, w.few_elements), elements_bytes es w.elements_within))
      (below_replicate 256 (2 * (max_elements - length es)) no_position (omega arith))

  pub records_are_bytes : (table : List Line) → WrittenLines n table → AllBelow 256 (records table)
  unfolding records
  records_are_bytes [] w = tt
  records_are_bytes (line θ es ∷ ls) w = every_append (λ b. b < 256) (record_of (line θ es)) (records ls) (record_is_bytes θ es w.0) (records_are_bytes ls w.1)
