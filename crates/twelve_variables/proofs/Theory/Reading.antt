-- With more variables a text is read alike, or it has one of the new variables at a node and is refused as 5 without them.
use Prim.Native.Nat.{ℕ, zero, suc, ◌+◌, ◌-◌, ◌<◌}
use Rattle.std.proofs.Math.Path.{◌≡◌, refl, ap}
use Rattle.std.proofs.Common.{sym, ◌∙◌, lt-ltb, le-ltb, arith}
use Rattle.std.specs.Prelude.{◌⊎◌, Bool, ◌&&◌, length, ltb}
use Rattle.std.proofs.Math.Logic.{inl, inr}
use Rattle.std.proofs.Math.Bool.{true, false}
use Rattle.std.proofs.Math.Option.{Option, none, some}
use mathlib.Core.List.{List, [], ◌∷◌}
use Rattle.std.proofs.Math.Dec.{leb}
use Rattle.std.proofs.Math.Decide.{dec_lt}
use Rattle.format.specs.Limits.{first_variable, max_symbols, max_side_nodes, max_task_nodes, max_text}
use Rattle.format.specs.Refusal.{Result, refuse, give, result_map}
use Rattle.format.specs.declared.refusal.Refusal.TheVariants.{TextLength as text_length, Digits as digits, FrameOrder as frame_order, FrameBytes as frame_bytes}
use Rattle.format.specs.declared.byte.Class.{Class}
use Rattle.format.specs.declared.byte.Class.TheVariants.{Symbol as symbol, Variable as variable, Foreign as foreign}
use Rattle.format.specs.Kind.{kind_of}
use Rattle.format.specs.declared.kind.FrameKind.{FrameKind}
use Rattle.format.specs.declared.kind.FrameKind.TheVariants.{Symbols as symbols_kind, Equation as equation_kind, Run as run_kind, Judgement as judgement_kind, Comparison as comparison_kind, Unknown as unknown_kind}
use Rattle.format.specs.Byte.{class_of_with}
use Rattle.format.specs.Lists.{entry, Every}
use Rattle.format.specs.Theory.Byte.{class_behind_with}
use Rattle.terms.specs.Term.{Terms}
use Rattle.terms.specs.Equation.{Equation, direction_of}
use Rattle.terms.specs.declared.direction.Direction.{Direction}
use Rattle.terms.specs.Prefix.{put_node, terms_of_with}
use Rattle.sheet.specs.Sheet.{run, judgement, comparison, Sheet, equation_width}
use Rattle.sheet.specs.Text.{TextLine, lines_of, frame_of}
use Rattle.sheet.specs.Frame.{State, start, within, in_order, after_node, all_read, first_term, second_term, with_equation, with_task, scan_with, ground_terms_with, scan_sides_with, equation_body_with, run_body_with, values_body_with, judgement_body_with, comparison_body_with, read_body_with, read_frame_with}
use Rattle.sheet.specs.Reading.{Reading, refused_at, read_line_with, read_lines_with, read_with}
use Rattle.twelve_variables.specs.Uses.{node_bytes, Old, OldFrame, UsesOld}

module _ (few extra : ℕ) where
  abbrev AllOld : List ℕ → Type 0
  AllOld = Every (Old few extra)

  -- Refused as 5 with `few`, for something that is not so if all bytes are old, or the same with both numbers.
  abbrev Alike : {A : Type 0} → (old : Type 0) → (less more : Result A) → Type 0
  Alike old less more = ((less ≡ refuse frame_bytes) × (old → ⊥)) ⊎ (more ≡ less)

  alike_map : {A B : Type 0} {old : Type 0} (f : A → B) (less more : Result A) → Alike old less more → Alike old (result_map f less) (result_map f more)
  unfolding result_map
  alike_map f less more (inl e) = inl (ap (result_map f) e.0, e.1)
  alike_map f less more (inr e) = inr (ap (result_map f) e)

  alike_then : {A : Type 0} {old : Type 0} (less mid more : Result A) → more ≡ mid → Alike old less mid → Alike old less more
  alike_then less mid more p (inl e) = inl e
  alike_then less mid more p (inr e) = inr (p ∙ e)

  -- 1. A byte is foreign with `few` and a variable with more, or of the same class.
  test_same : (b : ℕ) → Old few extra b → ltb b (first_variable + (few + extra)) ≡ ltb b (first_variable + few)
  test_same b (inl h) = lt-ltb b (first_variable + (few + extra)) (omega arith) ∙ sym (lt-ltb b (first_variable + few) h)
  test_same b (inr h) = le-ltb b (first_variable + (few + extra)) h ∙ sym (le-ltb b (first_variable + few) (omega arith))

  class_same : (b : ℕ) → Old few extra b → class_of_with (few + extra) b ≡ class_of_with few b
  unfolding class_of_with
  class_same b h = λ i. elim (ltb b max_symbols) as (λ x. Class) [ true ↦ symbol b | false ↦ elim (leb first_variable b && test_same b h i) as (λ x. Class) [ true ↦ variable (b - first_variable) | false ↦ foreign ] ]

  abbrev New : ℕ → Type 0
  New b = (class_of_with few b ≡ foreign) × (Old few extra b → ⊥)

  new_or_old : (b : ℕ) → New b ⊎ Old few extra b
  new_or_old b = go (dec_lt b (first_variable + few)) (dec_lt b (first_variable + (few + extra)))
    where
      go : Dec (b < first_variable + few) → Dec (b < first_variable + (few + extra)) → New b ⊎ Old few extra b
      go (yes l) d = inr (inl l)
      go (no n) (yes l) = inl (class_behind_with few b (omega arith), neither)
        where
          neither : Old few extra b → ⊥
          neither (inl h) = omega arith
          neither (inr h) = omega arith
      go (no n) (no m) = inr (inr (omega arith))

  foreign_refused : (arities : List ℕ) (is_ground : Bool) (need : ℕ) → after_node arities is_ground foreign need ≡ refuse frame_bytes
  unfolding after_node
  foreign_refused arities true need = refl
  foreign_refused arities false need = refl

  terms_same : (arities bs : List ℕ) → AllOld bs → terms_of_with (few + extra) arities bs ≡ terms_of_with few arities bs
  unfolding terms_of_with
  terms_same arities [] h = refl
  terms_same arities (b ∷ bs) h = λ i. put_node arities (class_same b h.0 i) (terms_same arities bs h.1 i)

  -- 2. A scan.
  scan_alike : (arities : List ℕ) (is_ground : Bool) (bs : List ℕ) (need room : ℕ) → Alike (AllOld bs) (scan_with few arities is_ground bs need room) (scan_with (few + extra) arities is_ground bs need room)
  unfolding scan_with
  scan_alike arities is_ground [] zero room = inr refl
  scan_alike arities is_ground [] (suc need) room = inr refl
  scan_alike arities is_ground (b ∷ bs) zero room = inr refl
  scan_alike arities is_ground (b ∷ bs) (suc need) zero = inr refl
  scan_alike arities is_ground (b ∷ bs) (suc need) (suc room) = go (λ n. scan_alike arities is_ground bs n room) (new_or_old b)
    where
      less : ℕ → Result (List ℕ)
      less n = scan_with few arities is_ground bs n room

      more : ℕ → Result (List ℕ)
      more n = scan_with (few + extra) arities is_ground bs n room

      IH : Type 0
      IH = (n : ℕ) → Alike (AllOld bs) (less n) (more n)

      next : (ℕ → Result (List ℕ)) → Result ℕ → Result (List ℕ)
      next k o = elim o [ refuse r ↦ refuse r | give n ↦ k n ]

      behind : (l m : Result (List ℕ)) → Alike (AllOld bs) l m → Alike (AllOld (b ∷ bs)) l m
      behind l m (inl e) = inl (e.0, λ h. e.1 h.1)
      behind l m (inr e) = inr e

      each : IH → (o : Result ℕ) → Alike (AllOld (b ∷ bs)) (next less o) (next more o)
      each ih (refuse r) = inr refl
      each ih (give n) = behind (less n) (more n) (ih n)

      go : IH → New b ⊎ Old few extra b → Alike (AllOld (b ∷ bs)) (next less (after_node arities is_ground (class_of_with few b) need)) (next more (after_node arities is_ground (class_of_with (few + extra) b) need))
      go ih (inl x) = inl (ap (λ c. next less (after_node arities is_ground c need)) x.0 ∙ ap (next less) (foreign_refused arities is_ground need), λ h. x.1 h.0)
      go ih (inr o) =
          let node : Class → Result ℕ = λ c. after_node arities is_ground c need in
          alike_then (next less (node (class_of_with few b))) (next more (node (class_of_with few b))) (next more (node (class_of_with (few + extra) b)))
          (ap (λ c. next more (node c)) (class_same b o)) (each ih (node (class_of_with few b)))

  -- The bytes in front of what a scan leaves are old.
  scan_old : (arities : List ℕ) (is_ground : Bool) (bs : List ℕ) (need room : ℕ) (rest : List ℕ) → scan_with few arities is_ground bs need room ≡ give rest → AllOld rest → AllOld bs
  unfolding scan_with
  scan_old arities is_ground [] need room rest e h = tt
  scan_old arities is_ground (b ∷ bs) zero room rest e h = let x : rest ≡ b ∷ bs = cc in rw x at h
  scan_old arities is_ground (b ∷ bs) (suc need) zero rest e h = let z : ◌≡◌ {A = ℕ} 0 1 = cc in absurd (omega arith)
  scan_old arities is_ground (b ∷ bs) (suc need) (suc room) rest e h = go (λ n x. scan_old arities is_ground bs n room rest x h) (new_or_old b) e
    where
      next : Result ℕ → Result (List ℕ)
      next o = elim o [ refuse r ↦ refuse r | give n ↦ scan_with few arities is_ground bs n room ]

      IH : Type 0
      IH = (n : ℕ) → scan_with few arities is_ground bs n room ≡ give rest → AllOld bs

      each : IH → (o : Result ℕ) → next o ≡ give rest → AllOld bs
      each ih (refuse r) e = let z : ◌≡◌ {A = ℕ} 0 1 = cc in absurd (omega arith)
      each ih (give n) e = ih n e

      go : IH → New b ⊎ Old few extra b → next (after_node arities is_ground (class_of_with few b) need) ≡ give rest → AllOld (b ∷ bs)
      go ih (inl x) e =
          let y : next (after_node arities is_ground (class_of_with few b) need) ≡ refuse frame_bytes = ap (λ c. next (after_node arities is_ground c need)) x.0 ∙ ap next (foreign_refused arities is_ground need) in
          let z : ◌≡◌ {A = ℕ} 0 1 = cc in
          absurd (omega arith)
      go ih (inr o) e = (o, each ih (after_node arities is_ground (class_of_with few b) need) e)

  -- What a scan leaves of old bytes is old.
  scan_rest : (arities : List ℕ) (is_ground : Bool) (bs : List ℕ) (need room : ℕ) (rest : List ℕ) → scan_with few arities is_ground bs need room ≡ give rest → AllOld bs → AllOld rest
  unfolding scan_with
  scan_rest arities is_ground [] zero room rest e h = let x : [] ≡ rest = cc in rw (← x) h
  scan_rest arities is_ground [] (suc need) room rest e h = let z : ◌≡◌ {A = ℕ} 0 1 = cc in absurd (omega arith)
  scan_rest arities is_ground (b ∷ bs) zero room rest e h = let x : b ∷ bs ≡ rest = cc in rw (← x) h
  scan_rest arities is_ground (b ∷ bs) (suc need) zero rest e h = let z : ◌≡◌ {A = ℕ} 0 1 = cc in absurd (omega arith)
  scan_rest arities is_ground (b ∷ bs) (suc need) (suc room) rest e h = go (λ n x. scan_rest arities is_ground bs n room rest x h.1) (after_node arities is_ground (class_of_with few b) need) e
    where
      go : ((n : ℕ) → scan_with few arities is_ground bs n room ≡ give rest → AllOld rest)
          → (o : Result ℕ) → ◌≡◌ {A = Result (List ℕ)} (elim o [ refuse r ↦ refuse r | give n ↦ scan_with few arities is_ground bs n room ]) (give rest) → AllOld rest
      go ih (refuse r) e = let z : ◌≡◌ {A = ℕ} 0 1 = cc in absurd (omega arith)
      go ih (give n) e = ih n e

  -- 3. The body of a frame.
  read_alike : {old : Type 0} (ts us : Terms) (less more : Result (List ℕ)) → Alike old less more → (less ≡ give [] → us ≡ ts) → Alike old (all_read ts less) (all_read us more)
  unfolding all_read
  read_alike ts us less more (inl e) k = inl (ap (all_read ts) e.0, e.1)
  read_alike ts us less more (inr e) k = inr (ap (all_read us) e ∙ go less k)
    where
      go : (o : Result (List ℕ)) → (o ≡ give [] → us ≡ ts) → all_read us o ≡ all_read ts o
      go (refuse r) k = refl
      go (give []) k = ap give (k refl)
      go (give (c ∷ cs)) k = refl

  ground_alike : {A : Type 0} (f : Terms → A) (arities : List ℕ) (n : ℕ) (bs : List ℕ) → Alike (AllOld bs) (result_map f (ground_terms_with few arities n bs)) (result_map f (ground_terms_with (few + extra) arities n bs))
  unfolding ground_terms_with
  ground_alike f arities n bs =
      alike_map f (ground_terms_with few arities n bs) (ground_terms_with (few + extra) arities n bs)
      (read_alike (terms_of_with few arities bs) (terms_of_with (few + extra) arities bs) (scan_with few arities true bs n max_task_nodes) (scan_with (few + extra) arities true bs n max_task_nodes)
      (scan_alike arities true bs n max_task_nodes) (λ e. terms_same arities bs (scan_old arities true bs n max_task_nodes [] e tt)))

  sides_alike : (arities bs : List ℕ) → Alike (AllOld bs) (scan_sides_with few arities bs) (scan_sides_with (few + extra) arities bs)
  unfolding scan_sides_with
  sides_alike arities bs = go (scan_with few arities false bs 1 max_side_nodes) (scan_with (few + extra) arities false bs 1 max_side_nodes) refl (scan_alike arities false bs 1 max_side_nodes)
    where
      second : (variables : ℕ) → Result (List ℕ) → Result (List ℕ)
      second variables o = elim o [ refuse r ↦ refuse r | give rest ↦ scan_with variables arities false rest 1 max_side_nodes ]

      front : (rest : List ℕ) → (AllOld bs → AllOld rest) → (l m : Result (List ℕ)) → Alike (AllOld rest) l m → Alike (AllOld bs) l m
      front rest k l m (inl e) = inl (e.0, λ h. e.1 (k h))
      front rest k l m (inr e) = inr e

      same : (o : Result (List ℕ)) → scan_with few arities false bs 1 max_side_nodes ≡ o → Alike (AllOld bs) (second few o) (second (few + extra) o)
      same (refuse r) d = inr refl
      same (give rest) d = front rest (scan_rest arities false bs 1 max_side_nodes rest d) (second few (give rest)) (second (few + extra) (give rest)) (scan_alike arities false rest 1 max_side_nodes)

      go : (less more : Result (List ℕ)) → scan_with few arities false bs 1 max_side_nodes ≡ less → Alike (AllOld bs) less more → Alike (AllOld bs) (second few less) (second (few + extra) more)
      go less more d (inl e) = inl (ap (second few) e.0, e.1)
      go less more d (inr e) = alike_then (second few less) (second (few + extra) less) (second (few + extra) more) (ap (second (few + extra)) e) (same less d)

  sides_old : (arities bs : List ℕ) → scan_sides_with few arities bs ≡ give [] → AllOld bs
  unfolding scan_sides_with
  sides_old arities bs e = go (scan_with few arities false bs 1 max_side_nodes) refl e
    where
      go : (o : Result (List ℕ)) → scan_with few arities false bs 1 max_side_nodes ≡ o → ◌≡◌ {A = Result (List ℕ)} (elim o [ refuse r ↦ refuse r | give rest ↦ scan_with few arities false rest 1 max_side_nodes ]) (give []) → AllOld bs
      go (refuse r) d e = let z : ◌≡◌ {A = ℕ} 0 1 = cc in absurd (omega arith)
      go (give rest) d e = scan_old arities false bs 1 max_side_nodes rest d (scan_old arities false rest 1 max_side_nodes [] e tt)

  equation_alike : (arities bs : List ℕ) → Alike (AllOld bs) (equation_body_with few arities bs) (equation_body_with (few + extra) arities bs)
  unfolding equation_body_with
  equation_alike arities bs =
      alike_map (λ ts. record { left = first_term ts; right = second_term ts }) (all_read (terms_of_with few arities bs) (scan_sides_with few arities bs)) (all_read (terms_of_with (few + extra) arities bs) (scan_sides_with (few + extra) arities bs))
      (read_alike (terms_of_with few arities bs) (terms_of_with (few + extra) arities bs) (scan_sides_with few arities bs) (scan_sides_with (few + extra) arities bs)
      (sides_alike arities bs) (λ e. terms_same arities bs (sides_old arities bs e)))

  abbrev OldNodes : FrameKind → List ℕ → Type 0
  OldNodes kind bs = AllOld (node_bytes kind bs)

  run_alike : (s : Sheet) (bs : List ℕ) → Alike (OldNodes run_kind bs) (run_body_with few s bs) (run_body_with (few + extra) s bs)
  unfolding run_body_with node_bytes
  run_alike s [] = inr refl
  run_alike s (k ∷ bs) = ground_alike (λ ts. run k (first_term ts)) s.arities 1 bs

  values_alike : (s : Sheet) (e : ℕ) (q : Option Equation) (d : Option Direction) (bs : List ℕ) → Alike (AllOld bs) (values_body_with few s e q d bs) (values_body_with (few + extra) s e q d bs)
  unfolding values_body_with
  values_alike s e none d bs = inr refl
  values_alike s e (some q) none bs = inr refl
  values_alike s e (some q) (some d) bs = ground_alike (λ ts. judgement e d ts) s.arities (equation_width q) bs

  judgement_alike : (s : Sheet) (bs : List ℕ) → Alike (OldNodes judgement_kind bs) (judgement_body_with few s bs) (judgement_body_with (few + extra) s bs)
  unfolding judgement_body_with node_bytes
  judgement_alike s [] = inr refl
  judgement_alike s (e ∷ []) = inr refl
  judgement_alike s (e ∷ d ∷ bs) = values_alike s e (entry s.equations e) (direction_of d) bs

  comparison_alike : (s : Sheet) (bs : List ℕ) → Alike (AllOld bs) (comparison_body_with few s bs) (comparison_body_with (few + extra) s bs)
  unfolding comparison_body_with
  comparison_alike s bs = ground_alike (λ ts. comparison (first_term ts) (second_term ts)) s.arities 2 bs

  body_alike : (state : State) (kind : FrameKind) (bs : List ℕ) → Alike (OldNodes kind bs) (read_body_with few state kind bs) (read_body_with (few + extra) state kind bs)
  unfolding read_body_with node_bytes
  body_alike start kind bs = inr refl
  body_alike (within s) symbols_kind bs = inr refl
  body_alike (within s) equation_kind bs = alike_map (with_equation s) (equation_body_with few s.arities bs) (equation_body_with (few + extra) s.arities bs) (equation_alike s.arities bs)
  body_alike (within s) run_kind bs = alike_map (with_task s) (run_body_with few s bs) (run_body_with (few + extra) s bs) (run_alike s bs)
  body_alike (within s) judgement_kind bs = alike_map (with_task s) (judgement_body_with few s bs) (judgement_body_with (few + extra) s bs) (judgement_alike s bs)
  body_alike (within s) comparison_kind bs = alike_map (with_task s) (comparison_body_with few s bs) (comparison_body_with (few + extra) s bs) (comparison_alike s bs)
  body_alike (within s) unknown_kind bs = inr refl

  -- 4. A frame, a line, a text.
  frame_alike : (state : State) (bs : List ℕ) → Alike (OldFrame few extra (some bs)) (read_frame_with few state bs) (read_frame_with (few + extra) state bs)
  unfolding read_frame_with
  frame_alike state [] = inr refl
  frame_alike state (b ∷ body) = go (in_order state (kind_of b))
    where
      go : (t : Bool) → Alike {A = State} (OldNodes (kind_of b) body) (elim t [ true ↦ read_body_with few state (kind_of b) body | false ↦ refuse frame_order ]) (elim t [ true ↦ read_body_with (few + extra) state (kind_of b) body | false ↦ refuse frame_order ])
      go true = body_alike state (kind_of b) body
      go false = inr refl

  abbrev OldLine : TextLine → Type 0
  OldLine line = OldFrame few extra (frame_of line)

  line_alike : (state : State) (line : TextLine) → Alike (OldLine line) (read_line_with few state line) (read_line_with (few + extra) state line)
  unfolding read_line_with
  line_alike state line = go (frame_of line)
    where
      go : (o : Option (List ℕ)) → Alike {A = State} (OldFrame few extra o) (elim o [ none ↦ refuse digits | some bs ↦ read_frame_with few state bs ]) (elim o [ none ↦ refuse digits | some bs ↦ read_frame_with (few + extra) state bs ])
      go none = inr refl
      go (some bs) = frame_alike state bs

  abbrev pub ReadAlike : (old : Type 0) → (less more : Reading Sheet) → Type 0
  ReadAlike old less more = ((n : ℕ) × (less ≡ refused_at frame_bytes n) × (old → ⊥)) ⊎ (more ≡ less)

  lines_alike : (state : State) (n : ℕ) (ls : List TextLine) → ReadAlike (Every OldLine ls) (read_lines_with few state n ls) (read_lines_with (few + extra) state n ls)
  unfolding read_lines_with
  lines_alike state n [] = inr refl
  lines_alike state n (line ∷ ls) = go (λ next. lines_alike next (suc n) ls) (read_line_with few state line) (read_line_with (few + extra) state line) (line_alike state line)
    where
      rest : (variables : ℕ) → Result State → Reading Sheet
      rest variables o = elim o [ refuse x ↦ refused_at x (suc n) | give next ↦ read_lines_with variables next (suc n) ls ]

      IH : Type 0
      IH = (next : State) → ReadAlike (Every OldLine ls) (read_lines_with few next (suc n) ls) (read_lines_with (few + extra) next (suc n) ls)

      behind : (l m : Reading Sheet) → ReadAlike (Every OldLine ls) l m → ReadAlike (Every OldLine (line ∷ ls)) l m
      behind l m (inl e) = inl (e.0, e.1, λ h. e.2 h.1)
      behind l m (inr e) = inr e

      same : IH → (o : Result State) → ReadAlike (Every OldLine (line ∷ ls)) (rest few o) (rest (few + extra) o)
      same ih (refuse x) = inr refl
      same ih (give next) = behind (rest few (give next)) (rest (few + extra) (give next)) (ih next)

      onward : (less more : Result State) → more ≡ less → ReadAlike (Every OldLine (line ∷ ls)) (rest few less) (rest (few + extra) less) → ReadAlike (Every OldLine (line ∷ ls)) (rest few less) (rest (few + extra) more)
      onward less more p (inl e) = inl e
      onward less more p (inr e) = inr (ap (rest (few + extra)) p ∙ e)

      go : IH → (less more : Result State) → Alike (OldLine line) less more → ReadAlike (Every OldLine (line ∷ ls)) (rest few less) (rest (few + extra) more)
      go ih less more (inl e) = inl (suc n, ap (rest few) e.0, λ h. e.1 h.0)
      go ih less more (inr e) = onward less more e (same ih less)

  pub reads_alike : (text : List ℕ) → ReadAlike (UsesOld few extra text) (read_with few text) (read_with (few + extra) text)
  unfolding read_with
  reads_alike text = go (leb 1 (length text) && leb (length text) max_text)
    where
      go : (t : Bool) → ReadAlike (UsesOld few extra text) (elim t [ true ↦ read_lines_with few start 0 (lines_of text) | false ↦ refused_at text_length 0 ]) (elim t [ true ↦ read_lines_with (few + extra) start 0 (lines_of text) | false ↦ refused_at text_length 0 ])
      go true = lines_alike start 0 (lines_of text)
      go false = inr refl
