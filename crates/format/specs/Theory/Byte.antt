-- Laws of the classes of node bytes: which bytes are in a class, and which class a byte is in.
use Rattle.std.specs.Prelude.{ℕ, ◌+◌, ◌-◌, ◌≤◌, ◌<◌, Bool, ◌&&◌}
use Rattle.std.proofs.Math.Path.{◌≡◌, refl}
use Rattle.std.proofs.Common.{sym, ap, ◌∙◌, arith}
use Rattle.std.proofs.Math.Bool.{true, false}
use Rattle.std.proofs.Math.Dec.{leb, ltb}
use borrow.Author.Tests.{ltb-true, leb-true, lt-ltb, le-ltb, le-leb, lt-leb}
use Rattle.format.specs.Limits.{max_symbols, variable_count, first_variable}
use Rattle.format.specs.Byte.{Class, symbol, variable, foreign, is_variable_with, class_of_with, class_of}

pub symbol_class : (f : ℕ) → f < max_symbols → class_of f ≡ symbol f
unfolding class_of
symbol_class f h = rw (lt-ltb f max_symbols h, class_of, class_of_with)

pub variable_class : (v : ℕ) → v < variable_count → class_of (first_variable + v) ≡ variable v
unfolding class_of
variable_class v h = go (ltb b max_symbols) (leb first_variable b) (ltb b (first_variable + variable_count)) (le-ltb b max_symbols (omega arith)) (le-leb first_variable b (omega arith)) (lt-ltb b (first_variable + variable_count) (omega arith))
  where
    b : ℕ
    b = first_variable + v

    less : b - first_variable ≡ v
    less = omega arith

    go : (r s t : Bool) → r ≡ false → s ≡ true → t ≡ true
        → elim r as (λ t. Class) [ true ↦ symbol b | false ↦ elim (s && t) as (λ t. Class) [ true ↦ variable (b - first_variable) | false ↦ foreign ] ] ≡ variable v
    go true s t c d e = let z : ◌≡◌ {A = ℕ} 0 1 = cc in absurd (omega arith)
    go false false t c d e = let z : ◌≡◌ {A = ℕ} 0 1 = cc in absurd (omega arith)
    go false true false c d e = let z : ◌≡◌ {A = ℕ} 0 1 = cc in absurd (omega arith)
    go false true true c d e = ap variable less

pub class_symbol : (b f : ℕ) → class_of b ≡ symbol f → (b ≡ f) × (f < max_symbols)
unfolding class_of
class_symbol b f e = go (ltb b max_symbols) refl e
  where
    other : (t : Bool) → elim t as (λ t. Class) [ true ↦ variable (b - first_variable) | false ↦ foreign ] ≡ symbol f → (b ≡ f) × (f < max_symbols)
    other true e = let z : ◌≡◌ {A = ℕ} 0 1 = cc in absurd (omega arith)
    other false e = let z : ◌≡◌ {A = ℕ} 0 1 = cc in absurd (omega arith)

    go : (t : Bool) → ltb b max_symbols ≡ t
        → elim t as (λ t. Class) [ true ↦ symbol b | false ↦ elim (is_variable_with variable_count b) as (λ t. Class) [ true ↦ variable (b - first_variable) | false ↦ foreign ] ] ≡ symbol f
        → (b ≡ f) × (f < max_symbols)
    go true d e = let x : b ≡ f = cc in (x, omega (arith, ltb-true b max_symbols d))
    go false d e = other (is_variable_with variable_count b) e

-- With any number of variables.
module _ (variables : ℕ) where
  pub class_variable_with : (b v : ℕ) → class_of_with variables b ≡ variable v → (b ≡ first_variable + v) × (v < variables)
  unfolding class_of_with
  class_variable_with b v e = go (ltb b max_symbols) e
    where
      inside : (s t : Bool) → leb first_variable b ≡ s → ltb b (first_variable + variables) ≡ t
          → elim (s && t) as (λ t. Class) [ true ↦ variable (b - first_variable) | false ↦ foreign ] ≡ variable v
          → (b ≡ first_variable + v) × (v < variables)
      inside true true c d e = let x : b - first_variable ≡ v = cc in (omega (arith, leb-true first_variable b c), omega (arith, leb-true first_variable b c, ltb-true b (first_variable + variables) d))
      inside true false c d e = let z : ◌≡◌ {A = ℕ} 0 1 = cc in absurd (omega arith)
      inside false t c d e = let z : ◌≡◌ {A = ℕ} 0 1 = cc in absurd (omega arith)

      go : (t : Bool) → elim t as (λ t. Class) [ true ↦ symbol b | false ↦ elim (is_variable_with variables b) as (λ t. Class) [ true ↦ variable (b - first_variable) | false ↦ foreign ] ] ≡ variable v
          → (b ≡ first_variable + v) × (v < variables)
      go true e = let z : ◌≡◌ {A = ℕ} 0 1 = cc in absurd (omega arith)
      go false e = inside (leb first_variable b) (ltb b (first_variable + variables)) refl refl e

  class_is_foreign : (b : ℕ) → max_symbols ≤ b → (leb first_variable b && ltb b (first_variable + variables)) ≡ false → class_of_with variables b ≡ foreign
  unfolding class_of_with
  class_is_foreign b h i = go (ltb b max_symbols) (leb first_variable b && ltb b (first_variable + variables)) (le-ltb b max_symbols h) i
    where
      go : (s t : Bool) → s ≡ false → t ≡ false → elim s as (λ t. Class) [ true ↦ symbol b | false ↦ elim t as (λ t. Class) [ true ↦ variable (b - first_variable) | false ↦ foreign ] ] ≡ foreign
      go true t d e = let z : ◌≡◌ {A = ℕ} 0 1 = cc in absurd (omega arith)
      go false true d e = let z : ◌≡◌ {A = ℕ} 0 1 = cc in absurd (omega arith)
      go false false d e = refl

  pub class_behind_with : (b : ℕ) → first_variable + variables ≤ b → class_of_with variables b ≡ foreign
  class_behind_with b h = class_is_foreign b (omega arith) (ap (leb first_variable b &&◌) (le-ltb b (first_variable + variables) h) ∙ none (leb first_variable b))
    where
      none : (t : Bool) → (t && false) ≡ false
      none true = refl
      none false = refl

pub class_variable : (b v : ℕ) → class_of b ≡ variable v → (b ≡ first_variable + v) × (v < variable_count)
unfolding class_of
class_variable = class_variable_with variable_count

pub class_is_variable : (b : ℕ) → first_variable ≤ b → b < first_variable + variable_count → class_of b ≡ variable (b - first_variable)
class_is_variable b h i = let e : first_variable + (b - first_variable) ≡ b = omega arith in ap class_of (sym e) ∙ variable_class (b - first_variable) (omega arith)

-- A byte between the symbols and the variables, and one behind the variables.
pub class_between : (b : ℕ) → max_symbols ≤ b → b < first_variable → class_of b ≡ foreign
unfolding class_of
class_between b h i = class_is_foreign variable_count b h (ap (◌&& ltb b (first_variable + variable_count)) (lt-leb first_variable b i))

pub class_behind : (b : ℕ) → first_variable + variable_count ≤ b → class_of b ≡ foreign
unfolding class_of
class_behind = class_behind_with variable_count
