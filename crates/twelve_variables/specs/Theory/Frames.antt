-- With more variables than the equations have, the frames of a sheet are the same.
use Prim.Native.Nat.{ℕ, zero, suc, ◌+◌, ◌<◌}
use Rattle.std.specs.Prelude.{◌≡◌}
use Rattle.std.proofs.Math.Path.{refl, ap}
use Rattle.std.proofs.Common.{◌∙◌}
use Rattle.std.proofs.Math.Option.{Option, none, some}
use mathlib.Core.List.{List, [], ◌∷◌, ◌++◌, map, flat_map}
use Rattle.std.proofs.Math.ListN.{length, length-map}
use Rattle.format.specs.Limits.{first_variable}
use Rattle.format.specs.Lists.{entry, Every}
use Rattle.format.specs.Theory.Lists.{every_entry}
use Rattle.terms.specs.Term.{Term, Values}
use Rattle.terms.specs.Equation.{Equation, direction_number, term_at}
use Rattle.terms.specs.declared.direction.Direction.{Direction}
use Rattle.terms.specs.declared.direction.Direction.TheVariants.{LeftRight as left_right, RightLeft as right_left}
use Rattle.terms.specs.Prefix.{prefix}
use Rattle.terms.specs.Filling.{filling}
use Rattle.sheet.specs.Sheet.{Task, run, judgement, comparison, Sheet}
use Rattle.sheet.specs.Reading.{Reading, refused_at, accepted}
use Rattle.solving.specs.Line.{Bindings, Line, line}
use Rattle.solving.specs.Walk.{Walked, solved, refused, solve_with}
use Rattle.reducing.specs.Test.{given_values}
use Rattle.reducing.specs.Walks.{WalkRefusal, equation_line, first_refusal_with}
use Rattle.listing.specs.Listing.{two_bytes, binding_count, binding_terms, element_terms, line_frame, table_frames, run_frames, judgement_frame, table_kind, line_kind, total_kind, equation_frames_with, holding_with, task_frames_with, steps_taken_with, sheet_frames_with, walked_frames_with, frames_with}
use Rattle.twelve_variables.specs.Theory.Padded.{padded, padded_line, padded_table, padded_walk}
use Rattle.twelve_variables.specs.Theory.Few.{Few}
use Rattle.twelve_variables.specs.Theory.Solve.{solve_padded}
use Rattle.twelve_variables.specs.Theory.Judge.{holding_same}
use Rattle.twelve_variables.specs.Theory.Runs.{line_run_same}
use Rattle.twelve_variables.specs.Theory.Sheet.{FewSheet}

-- The frames of a table: free slots print nothing.
count_free : (n : ℕ) → binding_count (padded n []) ≡ 0
unfolding binding_count
count_free zero = refl
count_free (suc n) = count_free n

terms_free : (e : Equation) (n v : ℕ) → binding_terms e v (padded n []) ≡ []
unfolding binding_terms
terms_free e zero v = refl
terms_free e (suc n) v = terms_free e n (suc v)

module _ (extra : ℕ) where
  padded_count : (θ : Bindings) → binding_count (padded extra θ) ≡ binding_count θ
  unfolding binding_count
  padded_count [] = count_free extra
  padded_count (none ∷ θ) = padded_count θ
  padded_count (some p ∷ θ) = ap suc (padded_count θ)

  padded_terms : (e : Equation) (v : ℕ) (θ : Bindings) → binding_terms e v (padded extra θ) ≡ binding_terms e v θ
  unfolding binding_terms
  padded_terms e v [] = terms_free e extra v
  padded_terms e v (none ∷ θ) = padded_terms e (suc v) θ
  padded_terms e v (some p ∷ θ) = ap (λ bs. (first_variable + v) ∷ prefix (term_at e p) ++ bs) (padded_terms e (suc v) θ)

  padded_frame : (e : Equation) (l : Line) → line_frame e (padded_line extra l) ≡ line_frame e l
  unfolding line_frame
  padded_frame e (line θ es) = λ i. line_kind ∷ padded_count θ i ∷ padded_terms e 0 θ i ++ length es ∷ flat_map (element_terms e) es

  padded_frames : (e : Equation) (ls : List Line) → map (line_frame e) (padded_table extra ls) ≡ map (line_frame e) ls
  padded_frames e [] = refl
  padded_frames e (l ∷ ls) = λ i. padded_frame e l i ∷ padded_frames e ls i

  table_same : (n : ℕ) (e : Equation) (d : Direction) (w : Walked) → table_frames n e d (padded_walk extra w) ≡ table_frames n e d w
  unfolding table_frames
  table_same n e d (solved ls t) = λ i. (table_kind ∷ n ∷ direction_number d ∷ length-map ls (padded_line extra) i ∷ two_bytes t) ∷ padded_frames e ls i
  table_same n e d (refused r) = refl

module _ (few extra : ℕ) (positive : 0 < few) where
  solved_same : (n : ℕ) (e : Equation) (d : Direction) → Few few e → table_frames n e d (solve_with (few + extra) e d) ≡ table_frames n e d (solve_with few e d)
  solved_same n e d w = ap (table_frames n e d) (solve_padded few extra positive e w d) ∙ table_same extra n e d (solve_with few e d)

  equations_same : (n : ℕ) (es : List Equation) → Every (Few few) es → equation_frames_with (few + extra) n es ≡ equation_frames_with few n es
  unfolding equation_frames_with
  equations_same n [] w = refl
  equations_same n (e ∷ es) w = λ i. solved_same n e left_right w.0 i ++ solved_same n e right_left w.0 i ++ equations_same (suc n) es w.1 i

  -- The first refusal of the walks.
  outcome : ℕ → Walked → Walked → Option WalkRefusal → Option WalkRefusal
  outcome e a b rest =
      elim a [
        | refused r ↦ some (record { refusal = r; line = equation_line e })
        | solved ls n ↦ elim b [ refused r ↦ some (record { refusal = r; line = equation_line e }) | solved ls' n' ↦ rest ]
      ]

  outcome_same : (e : ℕ) (a b : Walked) (rest : Option WalkRefusal) → outcome e (padded_walk extra a) (padded_walk extra b) rest ≡ outcome e a b rest
  unfolding outcome
  outcome_same e (refused r) b rest = refl
  outcome_same e (solved ls n) (refused r) rest = refl
  outcome_same e (solved ls n) (solved ls' n') rest = refl

  refusal_same : (n : ℕ) (es : List Equation) → Every (Few few) es → first_refusal_with (few + extra) n es ≡ first_refusal_with few n es
  unfolding first_refusal_with outcome
  refusal_same n [] w = refl
  refusal_same n (e ∷ es) w =
      (λ i. outcome n (solve_padded few extra positive e w.0 left_right i) (solve_padded few extra positive e w.0 right_left i) (refusal_same (suc n) es w.1 i))
      ∙ outcome_same n (solve_with few e left_right) (solve_with few e right_left) (first_refusal_with few (suc n) es)

  module _ (filling : Term) (es : List Equation) (w : Every (Few few) es) where
    judged_same : (n : ℕ) (d : Direction) (ρ : Values) → holding_with (few + extra) (entry es n) d ρ ≡ holding_with few (entry es n) d ρ
    unfolding holding_with
    judged_same n d ρ = go (entry es n) refl
      where
        go : (o : Option Equation) → entry es n ≡ o → holding_with (few + extra) o d ρ ≡ holding_with few o d ρ
        go none x = refl
        go (some e) x = holding_same few extra positive e (every_entry (Few few) es n w x) d ρ

    task_same : (t : Task) → task_frames_with (few + extra) filling es t ≡ task_frames_with few filling es t
    unfolding task_frames_with
    task_same (run k s) = ap (run_frames s) (line_run_same few extra positive filling es w k s)
    task_same (judgement n d ts) = ap (λ h. judgement_frame h ∷ []) (judged_same n d (given_values ts))
    task_same (comparison s t) = refl

    steps_same : (ts : List Task) → steps_taken_with (few + extra) filling es ts ≡ steps_taken_with few filling es ts
    unfolding steps_taken_with
    steps_same [] = refl
    steps_same (run k s ∷ ts) = λ i. length (line_run_same few extra positive filling es w k s i).steps + steps_same ts i
    steps_same (judgement n d vs ∷ ts) = steps_same ts
    steps_same (comparison s t ∷ ts) = steps_same ts

  sheet_same : (s : Sheet) → Every (Few few) s.equations → sheet_frames_with (few + extra) s ≡ sheet_frames_with few s
  unfolding sheet_frames_with
  sheet_same s w = λ i. equations_same 0 s.equations w i ++ flat_map (λ t. task_same (filling s.arities) s.equations w t i) s.tasks ++ (total_kind ∷ two_bytes (steps_same (filling s.arities) s.equations w s.tasks i)) ∷ []

  pub frames_same : (r : Reading Sheet) → FewSheet few positive r → frames_with (few + extra) r ≡ frames_with few r
  unfolding frames_with walked_frames_with
  frames_same (refused_at r n) w = refl
  frames_same (accepted s) w = ap (walked_frames_with (few + extra) s) (refusal_same 0 s.equations w) ∙ go (first_refusal_with few 0 s.equations)
    where
      go : (o : Option WalkRefusal) → walked_frames_with (few + extra) s o ≡ walked_frames_with few s o
      go none = sheet_same s w
      go (some r) = refl
