-- Laws for the code of tasks' bodies.
use Rattle.std.proofs.Common.{◌≡◌, ℕ, zero, suc, ◌+◌, ◌-◌, ◌*◌, ◌<◌, ◌≤◌, ◌⊎◌, List, [], ◌∷◌, map, length, get_or, sym, refl, ap, ◌∙◌, subst, ⊎_elim, arith}
use mathlib.Core.Option.{none, some}
use denote.Enum.Declared.{tag_of}
use Rattle.format.specs.contracts.kind.FrameKind.{the_type}
use Rattle.format.specs.Limits.{variable_count}
use Rattle.format.specs.Lists.{entry}
use Rattle.format.specs.declared.kind.FrameKind.{FrameKind}
use Rattle.format.specs.declared.kind.FrameKind.TheVariants.{Symbols as symbols_kind, Equation as equation_kind, Run as run_kind, Judgement as judgement_kind, Comparison as comparison_kind, Unknown as unknown_kind}
use Rattle.format.specs.Refusal.{Result, refuse}
use Rattle.format.specs.declared.refusal.Refusal.TheVariants.{FrameOrder, FrameBytes, AbsentDirection}
use Rattle.format.specs.Theory.Lists.{every_entry, entry_found}
use Rattle.terms.specs.Equation.{Equation, direction_of}
use Rattle.terms.specs.declared.direction.Direction.{Direction}
use Rattle.scanning.specs.declared.known.Known.{Known}
use Rattle.std.specs.Prelude.{Result as Outcome}
use Rattle.format.specs.declared.refusal.Refusal.{Refusal}
use Rattle.sheet.specs.Sheet.{run, judgement, comparison, Sheet, equation_width}
use Rattle.sheet.specs.Frame.{ground_terms, first_term, second_term, run_body, values_body, judgement_body, comparison_body}
use Rattle.scanning.specs.ForContracts.Digits.{pair_at, bytes_between, BodyReady}
use Rattle.scanning.specs.ForContracts.Scan.{known_arities, Matches, task_result}
use Rattle.scanning.specs.ForContracts.Known.{KnowsSheet}
use Rattle.sheet.specs.ForContracts.Valid.{ValidEquation}
use Rattle.sheet.specs.Theory.Width.{equation_width_low}
use Rattle.scanning.specs.Theory.Status.{matches_map}
use Rattle.scanning.specs.Theory.Listed.{get_or_listed}
use Rattle.scanning.specs.Theory.Between.{between_end, between_cons, first_byte, body_behind}

-- 1. The status of equal results; the frame behind its first byte.
matches_same : {A : Type 0} {r s : Result A} (o : Outcome (Unit {0}) Refusal) → r ≡ s → Matches r o → Matches s o
matches_same o e h = subst (λ r. Matches r o) e h

no_entry : {A : Type 0} (xs : List A) (i : ℕ) → length xs ≤ i → entry xs i ≡ none
unfolding entry
no_entry [] i l = refl
no_entry (x ∷ xs) zero l = absurd (omega arith)
no_entry (x ∷ xs) (suc i) l = no_entry xs i (omega arith)

no_direction : (d : ℕ) → 1 < d → direction_of d ≡ none
unfolding direction_of
no_direction zero h = absurd (omega arith)
no_direction (suc zero) h = absurd (omega arith)
no_direction (suc (suc d)) h = refl

some_direction : (d : ℕ) → d ≤ 1 → (o : Direction) × (direction_of d ≡ some o)
unfolding direction_of
some_direction zero h = (_, refl)
some_direction (suc zero) h = (_, refl)
some_direction (suc (suc d)) h = absurd (omega arith)

width_entry : (es : List Equation) (i : ℕ) (q : Equation) → entry es i ≡ some q → get_or (map equation_width es) i 0 ≡ equation_width q
unfolding entry
width_entry [] i q e = absurd cc
width_entry (x ∷ es) zero q e = let d : x ≡ q = cc in ap equation_width d
width_entry (x ∷ es) (suc i) q e = width_entry es i q e

module _ (k : Known) (s : Sheet) (knows : KnowsSheet k s) where
  same_arities : {A : Type 0} (g : List ℕ → Result A) (o : Outcome (Unit {0}) Refusal) → Matches (g (known_arities k)) o → Matches (g s.arities) o
  same_arities g o h = matches_same o (ap g knows.arities_are) h

  -- 2. A run.
  pub run_early : (text : List ℕ) (from end : ℕ) → from ≡ end → run_body s (bytes_between text from end) ≡ refuse FrameBytes
  unfolding run_body
  run_early text from end e = ap (run_body s) (between_end text from end (omega arith))

  pub run_read : (text : List ℕ) (from end : ℕ) → BodyReady text from end → (from ≡ end → ⊥) → (o : Outcome (Unit {0}) Refusal)
      → Matches (ground_terms (known_arities k) 1 (bytes_between text (from + 2) end)) o
      → Matches (run_body s (bytes_between text from end)) o
  unfolding run_body
  run_read text from end f n o h =
      matches_same o (ap (run_body s) (sym (first_byte text from end f n)))
      (matches_map (λ ts. run (pair_at text from) (first_term ts)) (ground_terms s.arities 1 (bytes_between text (from + 2) end)) o
      (same_arities (λ as'. ground_terms as' 1 (bytes_between text (from + 2) end)) o h))

  -- 3. A comparison.
  pub comparison_read : (bs : List ℕ) (o : Outcome (Unit {0}) Refusal) → Matches (ground_terms (known_arities k) 2 bs) o → Matches (comparison_body s bs) o
  unfolding comparison_body
  comparison_read bs o h =
      matches_map (λ ts. comparison (first_term ts) (second_term ts)) (ground_terms s.arities 2 bs) o (same_arities (λ as'. ground_terms as' 2 bs) o h)

  -- 4. A judgement.
  pub judgement_short : (text : List ℕ) (from end : ℕ) → BodyReady text from end → end - from < 4
      → judgement_body s (bytes_between text from end) ≡ refuse FrameBytes
  unfolding judgement_body
  judgement_short text from end f h = go f.pairs f.even
    where
      go : (m : ℕ) → end ≡ from + 2 * m → judgement_body s (bytes_between text from end) ≡ refuse FrameBytes
      go zero e = ap (judgement_body s) (between_end text from end (omega arith))
      go (suc zero) e =
          ap (judgement_body s)
          (between_cons text from end (omega arith) f.inside ∙ ap (pair_at text from ∷◌) (between_end text (from + 2) end (omega arith)))
      go (suc (suc m)) e = absurd (omega arith)

  module _ (text : List ℕ) (from end : ℕ) (f : BodyReady text from end) (h : 4 ≤ end - from) where
    not_end : from ≡ end → ⊥
    not_end e = omega arith

    not_end₂ : from + 2 ≡ end → ⊥
    not_end₂ e = omega arith

    pub behind_two : BodyReady text (from + 4) end
    behind_two =
        let e : from + 2 + 2 ≡ from + 4 = omega arith in
        subst (λ n. BodyReady text n end) e (body_behind text (from + 2) end (body_behind text from end f not_end) not_end₂)

    two_bytes : bytes_between text from end ≡ pair_at text from ∷ pair_at text (from + 2) ∷ bytes_between text (from + 4) end
    two_bytes = let e : from + 2 + 2 ≡ from + 4 = omega arith in first_byte text from end f not_end ∙ ap (pair_at text from ∷◌) (first_byte text (from + 2) end (body_behind text from end f not_end) not_end₂ ∙ ap (λ n. pair_at text (from + 2) ∷ bytes_between text n end) e)

    body_is : judgement_body s (bytes_between text from end) ≡ values_body s (pair_at text from) (entry s.equations (pair_at text from)) (direction_of (pair_at text (from + 2))) (bytes_between text (from + 4) end)
    unfolding judgement_body
    body_is = ap (judgement_body s) two_bytes

    pub equation_absent : {e : ℕ} → e ≡ pair_at text from → k.equations ≤ e → judgement_body s (bytes_between text from end) ≡ refuse AbsentDirection
    unfolding values_body
    equation_absent d l =
        body_is
        ∙ ap (λ q. values_body s (pair_at text from) q (direction_of (pair_at text (from + 2))) (bytes_between text (from + 4) end)) (no_entry s.equations (pair_at text from) (omega (arith, knows.equations_are)))

    module _ (e : ℕ) (at_e : e ≡ pair_at text from) (there : e < k.equations) where
      named : (q : Equation) × (entry s.equations e ≡ some q)
      named = entry_found s.equations e (omega (arith, knows.equations_are))

      pub direction_absent : {d : ℕ} → d ≡ pair_at text (from + 2) → 1 < d → judgement_body s (bytes_between text from end) ≡ refuse AbsentDirection
      unfolding values_body
      direction_absent {d} x l =
          let (q, i) = named in
          let j : entry s.equations (pair_at text from) ≡ some q = ap (entry s.equations) (sym at_e) ∙ i in
          body_is
          ∙ ap (λ o. values_body s (pair_at text from) o (direction_of (pair_at text (from + 2))) (bytes_between text (from + 4) end)) j
          ∙ ap (λ o. values_body s (pair_at text from) (some q) o (bytes_between text (from + 4) end)) (no_direction (pair_at text (from + 2)) (omega arith))

      width_known : (q : Equation) → entry s.equations e ≡ some q → get_or k.widths e 0 ≡ equation_width q
      width_known q i = sym (get_or_listed k.equations k.widths e there) ∙ ap (λ ws. get_or ws e 0) knows.widths_are ∙ width_entry s.equations e q i

      -- A width is that of at most as many variables as there are.
      pub width_few : get_or k.widths e 0 ≤ variable_count
      width_few =
          let (q, i) = named in
          omega (arith, width_known q i, equation_width_low q (every_entry (ValidEquation s.arities) s.equations e knows.valid.equations i).limits)

      pub judgement_read : {d : ℕ} → d ≡ pair_at text (from + 2) → d ≤ 1 → {w : ℕ} → w ≡ get_or k.widths e 0 → (o : Outcome (Unit {0}) Refusal)
          → Matches (ground_terms (known_arities k) w (bytes_between text (from + 4) end)) o
          → Matches (judgement_body s (bytes_between text from end)) o
      unfolding values_body
      judgement_read {d} x l {w} y o h =
          let (q, i) = named in
          let j : entry s.equations (pair_at text from) ≡ some q = ap (entry s.equations) (sym at_e) ∙ i in
          let (p, z) = some_direction (pair_at text (from + 2)) (omega arith) in
          let v : w ≡ equation_width q = y ∙ width_known q i in
          matches_same o (sym (body_is
          ∙ ap (λ o. values_body s (pair_at text from) o (direction_of (pair_at text (from + 2))) (bytes_between text (from + 4) end)) j
          ∙ ap (λ o. values_body s (pair_at text from) (some q) o (bytes_between text (from + 4) end)) z))
          (matches_map (λ ts. judgement (pair_at text from) p ts) (ground_terms s.arities (equation_width q) (bytes_between text (from + 4) end)) o
          (subst (λ n. Matches (ground_terms s.arities n (bytes_between text (from + 4) end)) o) v (same_arities (λ as'. ground_terms as' w (bytes_between text (from + 4) end)) o h)))

-- 5. A task by its kind.
-- The kinds that are no task's, by their numbers in the code.
pub other_kind : (s : Sheet) (kind : FrameKind) (bs : List ℕ) → (tag_of the_type kind ≡ 0) ⊎ (tag_of the_type kind ≡ 1) ⊎ (tag_of the_type kind ≡ 5)
    → task_result s kind bs ≡ refuse FrameOrder
unfolding task_result
other_kind s symbols_kind bs h = refl
other_kind s equation_kind bs h = refl
other_kind s run_kind bs h = absurd (⊎_elim (λ e. omega arith) (λ e. ⊎_elim (λ e. omega arith) (λ e. omega arith) e) h)
other_kind s judgement_kind bs h = absurd (⊎_elim (λ e. omega arith) (λ e. ⊎_elim (λ e. omega arith) (λ e. omega arith) e) h)
other_kind s comparison_kind bs h = absurd (⊎_elim (λ e. omega arith) (λ e. ⊎_elim (λ e. omega arith) (λ e. omega arith) e) h)
other_kind s unknown_kind bs h = refl

pub run_kind_is : (s : Sheet) {kind : FrameKind} (bs : List ℕ) (o : Outcome (Unit {0}) Refusal) → kind ≡ run_kind → Matches (run_body s bs) o
    → Matches (task_result s kind bs) o
unfolding task_result
run_kind_is s bs o e h = subst (λ kind. Matches (task_result s kind bs) o) (sym e) h

pub judgement_kind_is : (s : Sheet) {kind : FrameKind} (bs : List ℕ) (o : Outcome (Unit {0}) Refusal) → kind ≡ judgement_kind → Matches (judgement_body s bs) o
    → Matches (task_result s kind bs) o
unfolding task_result
judgement_kind_is s bs o e h = subst (λ kind. Matches (task_result s kind bs) o) (sym e) h

pub comparison_kind_is : (s : Sheet) {kind : FrameKind} (bs : List ℕ) (o : Outcome (Unit {0}) Refusal) → kind ≡ comparison_kind → Matches (comparison_body s bs) o
    → Matches (task_result s kind bs) o
unfolding task_result
comparison_kind_is s bs o e h = subst (λ kind. Matches (task_result s kind bs) o) (sym e) h
