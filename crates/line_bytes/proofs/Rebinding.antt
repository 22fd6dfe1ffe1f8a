-- A line's bindings, compared byte by byte with others.
use Prim.Native.Nat.{ℕ, ◌+◌, ◌≤◌, ◌<◌}
use mathlib.Core.Path.{◌≡◌, refl, sym, ap, ap₂, ◌∙◌}
use mathlib.Core.Bool.{true, false}
use mathlib.Core.List.{List, [], ◌∷◌, ◌++◌}
use lib.ListN.{length, get_or, take}
use lib.Seq.{slice, length-slice, take_all, take-suc, get_or-take, get_or-drop}
use native.Mathlib.Numerals.{add-one}
use native.Mathlib.Omega.{arith}
use Rattle.format.specs.Limits.{variable_count}
use Rattle.line_bytes.specs.ForContracts.Rebind.{Differ}

-- The bindings of the line at `place`, and each byte of them.
abbrev pub bindings_at : (memory : List ℕ) (place : ℕ) → List ℕ
bindings_at memory place = slice place (place + variable_count) memory

binding_byte_at : (memory : List ℕ) (place i : ℕ) → i < variable_count → get_or (bindings_at memory place) i 0 ≡ get_or memory (place + i) 0
binding_byte_at memory place i h = get_or-drop place (take (place + variable_count) memory) i 0 ∙ get_or-take (place + variable_count) memory (place + i) 0 (omega arith)

-- The first `i` are the same.
pub record Comparing (memory : List ℕ) (place : ℕ) (bindings : List ℕ) (i : ℕ) : Type 0 where
  pub within : i ≤ variable_count
  pub same : take i (bindings_at memory place) ≡ take i bindings

pub comparing_start : (memory : List ℕ) (place : ℕ) (bindings : List ℕ) → Comparing memory place bindings 0
comparing_start memory place bindings = record { within = omega arith; same = refl }

module _ {memory : List ℕ} {place : ℕ} {bindings : List ℕ} {i : ℕ} (c : Comparing memory place bindings i) where
  pub comparing_differs : i < variable_count → (get_or memory (place + i) 0 ≡ get_or bindings i 0 → ⊥) → Differ (bindings_at memory place) bindings true
  comparing_differs h n = record {
    other = λ z e. n (sym (binding_byte_at memory place i h) ∙ ap (λ l. get_or l i 0) e);
    same = λ z. let m : ◌≡◌ {A = ℕ} 0 1 = cc in absurd (omega arith);
  }

  module _ (x : place + variable_count ≤ length memory) (y : length bindings ≡ variable_count) where
    slots : length (bindings_at memory place) ≡ variable_count
    slots = omega (arith, length-slice place (place + variable_count) memory x)

    pub comparing_next : i < variable_count → get_or memory (place + i) 0 ≡ get_or bindings i 0 → Comparing memory place bindings (i + 1)
    comparing_next h e =
        let a = bindings_at memory place in
        let l = slots in
        record {
          within = omega arith;
          same =
              ap (λ n. take n a) (add-one i)
              ∙ (take-suc a i 0 (omega arith)
              ∙ (ap₂ (λ l v. l ++ (v ∷ [])) c.same (binding_byte_at memory place i h ∙ e)
              ∙ (sym (take-suc bindings i 0 (omega arith)) ∙ ap (λ n. take n bindings) (sym (add-one i)))));
        }

    pub comparing_done : variable_count ≤ i → Differ (bindings_at memory place) bindings false
    comparing_done h =
        let l = slots in
        record {
          other = λ z. let n : ◌≡◌ {A = ℕ} 0 1 = cc in absurd (omega arith);
          same = λ z. sym (take_all i (bindings_at memory place) (omega arith)) ∙ (c.same ∙ take_all i bindings (omega arith));
        }
