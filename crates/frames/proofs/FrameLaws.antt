-- The parts of a line's frame, one after the other.
use Prim.Native.Nat.{ℕ}
use mathlib.Core.Path.{◌≡◌, sym, ap, ap₂, ◌∙◌}
use mathlib.Core.List.{List, [], ◌∷◌, ◌++◌, flat_map, append_assoc}
use lib.ListN.{length}
use Rattle.sheet.specs.Text.{LF}
use Rattle.terms.specs.Equation.{Equation}
use Rattle.solving.specs.Line.{Bindings, Element, line}
use Rattle.listing.specs.Listing.{line_kind, digits, printed, binding_count, binding_terms, element_terms, line_frame}
use Rattle.listing.specs.ForContracts.Appended.{Appended}
use Rattle.listing.specs.Theory.Printed.{digits_append}
use Rattle.listing.specs.Theory.Appended.{appended_join, appended_text}

module _ (e : Equation) (θ : Bindings) (es : List Element) where
  abbrev bindings : List ℕ
  bindings = binding_terms e 0 θ

  abbrev elements : List ℕ
  elements = flat_map (element_terms e) es

  line_text : {n k : ℕ} → n ≡ binding_count θ → k ≡ length es
      → digits (line_kind ∷ n ∷ []) ++ (digits bindings ++ (digits (k ∷ []) ++ (digits elements ++ LF ∷ []))) ≡ printed (line_frame e (line θ es) ∷ [])
  unfolding digits printed line_frame
  line_text {n} {k} x y =
      let front = line_kind ∷ binding_count θ ∷ bindings in
      let back = length es ∷ elements in
      ap₂ (λ a b. digits (line_kind ∷ a ∷ []) ++ (digits bindings ++ (digits (b ∷ []) ++ (digits elements ++ LF ∷ [])))) x y
      ∙ (sym (append_assoc (digits front) (digits back) (LF ∷ [])) ∙ ap (◌++ LF ∷ []) (sym (digits_append front back)))

  pub line_appended : {n k : ℕ} {o₀ o₁ o₂ o₃ o₄ o₅ : List ℕ} {a₀ a₁ a₂ a₃ a₄ a₅ : ℕ} → n ≡ binding_count θ → k ≡ length es
      → Appended o₀ a₀ (digits (line_kind ∷ n ∷ [])) o₁ a₁ → Appended o₁ a₁ (digits (binding_terms e 0 θ)) o₂ a₂ → Appended o₂ a₂ (digits (k ∷ [])) o₃ a₃
      → Appended o₃ a₃ (digits (flat_map (element_terms e) es)) o₄ a₄ → Appended o₄ a₄ (LF ∷ []) o₅ a₅ → Appended o₀ a₀ (printed (line_frame e (line θ es) ∷ [])) o₅ a₅
  line_appended {n} {k} x y p q r s t =
      appended_text (line_text x y)
      (appended_join (digits (line_kind ∷ n ∷ [])) (digits bindings ++ (digits (k ∷ []) ++ (digits elements ++ LF ∷ []))) p
      (appended_join (digits bindings) (digits (k ∷ []) ++ (digits elements ++ LF ∷ [])) q
      (appended_join (digits (k ∷ [])) (digits elements ++ LF ∷ []) r
      (appended_join (digits elements) (LF ∷ []) s t))))
