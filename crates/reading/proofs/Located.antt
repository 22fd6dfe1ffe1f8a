-- Lemmas for the code that finds a frame: which line an equation or a task is, and a task's frame taken apart.
use Prim.Native.Nat.{ℕ, ◌+◌, ◌≤◌, ◌<◌}
use mathlib.Core.Path.{◌≡◌, refl, sym, ap, subst, ◌∙◌}
use mathlib.Core.List.{List, ◌∷◌, ◌++◌}
use lib.ListN.{length}
use native.Mathlib.Omega.{arith}
use Rattle.format.specs.Kind.{kind_byte, kind_of}
use Rattle.format.specs.declared.kind.FrameKind.{FrameKind}
use Rattle.format.specs.declared.kind.FrameKind.TheVariants.{Equation as equation_kind, Run as run_kind, Judgement as judgement_kind, Comparison as comparison_kind}
use Rattle.format.specs.Theory.Kind.{kind_of_byte}
use Rattle.format.specs.Limits.{max_equations, max_tasks, position_count, max_byte}
use Rattle.terms.specs.Equation.{Equation, direction_number}
use Rattle.terms.specs.Prefix.{prefix, prefixes, equation_bytes}
use Rattle.scanning.specs.declared.known.Known.{Known}
use Rattle.reading.specs.declared.seek.TaskHead.TheVariants.{Run, Judgement, Comparison}
use Rattle.sheet.specs.Sheet.{Task, run, judgement, comparison}
use Rattle.sheet.specs.ForContracts.Frames.{equation_frame, task_frame}
use Rattle.sheet.specs.Reading.{accepted}
use Rattle.scanning.specs.ForContracts.Digits.{pair_at}
use Rattle.reading.specs.ForContracts.Seek.{Accepts, AllFrames, FrameIn, EquationIn, TaskIn, Spans, TaskAt, task_terms}
use Rattle.reading.proofs.Seeking.{all_frames, equation_line_is, task_line_is}
use Rattle.reading.proofs.Decode.{spans_inside, spans_byte, spans_first, spans_behind}
use Rattle.reading.specs.Theory.Found.{equation_few, equation_asked, task_asked}

-- 1. Equations.
equation_line : (text : List ℕ) (e : ℕ) (q : Equation) → EquationIn text e q → FrameIn text (e + 1) (equation_frame q)
equation_line text e q (s, a, h) = equation_line_is text s a e h

module _ (text : List ℕ) (known : Known) (e : ℕ) (a : Accepts text known) (l : e < known.equations) where
  pub equation_wanted : AllFrames text × ((frame : List ℕ) × FrameIn text (e + 1) frame)
  equation_wanted = let (q, h) = equation_asked text known e a l in (all_frames text h.0 h.1, (equation_frame q, equation_line text e q h))

  module _ (from end : ℕ) (f : (frame : List ℕ) → FrameIn text (e + 1) frame → Spans text from end frame) where
    pub equation_inside : from + 2 ≤ length text
    unfolding equation_frame
    equation_inside =
        let (q, h) = equation_asked text known e a l in
        spans_inside text from end (kind_byte equation_kind) (equation_bytes q) (f (equation_frame q) (equation_line text e q h))

    pub equation_spans : (q : Equation) → EquationIn text e q → Spans text (from + 2) end (equation_bytes q)
    unfolding equation_frame
    equation_spans q h = spans_behind text from end (kind_byte equation_kind) (equation_bytes q) (f (equation_frame q) (equation_line text e q h))

    pub equation_room : {room : ℕ} → position_count ≤ room → (bs : List ℕ) × Spans text (from + 2) end bs × (length bs ≤ room)
    equation_room m = let (q, h) = equation_asked text known e a l in (equation_bytes q, equation_spans q h, omega (arith, equation_few text e q h))

-- 2. Tasks.
module _ (text : List ℕ) (known : Known) (k : ℕ) (a : Accepts text known) where
  pub task_line : (t : Task) → TaskIn text k t → FrameIn text (known.equations + k + 1) (task_frame t)
  task_line t (r, b, h) =
      let (s, c, g) = a in
      let e : accepted s ≡ accepted r = sym c ∙ b in
      let d : s ≡ r = cc in
      task_line_is text r b known.equations k (g.equations_are ∙ ap (λ x. length x.equations) d) h

  pub task_wanted : k < known.tasks → AllFrames text × ((frame : List ℕ) × FrameIn text (known.equations + k + 1) frame)
  task_wanted l = let (t, h) = task_asked text known k a l in (all_frames text h.0 h.1, (task_frame t, task_line t h))

  pub task_low : k < known.tasks → (known.equations ≤ max_equations) × (k < max_tasks)
  task_low l = let (s, r, g) = a in (omega (arith, g.equations_are, g.valid.few_equations), omega (arith, g.tasks_are, g.valid.few_tasks))

-- 3. A task's frame, by its first byte.
module _ (text : List ℕ) (from end : ℕ) where
  behind_two : {b c : ℕ} {bs : List ℕ} → Spans text from end (b ∷ c ∷ bs) → (pair_at text (from + 2) ≡ c) × Spans text (from + 4) end bs
  behind_two {b} {c} {bs} h =
      let x = spans_behind text from end b (c ∷ bs) h in
      let e : from + 2 + 2 ≡ from + 4 = omega arith in
      (spans_first text (from + 2) end c bs x, subst (λ m. Spans text m end bs) e (spans_behind text (from + 2) end c bs x))

  -- A task's frame begins with its kind.
  abbrev task_kind : Task → FrameKind
  task_kind (run k u) = run_kind
  task_kind (judgement n d ts) = judgement_kind
  task_kind (comparison u v) = comparison_kind

  behind_kind : (t : Task) → (bs : List ℕ) × (task_frame t ≡ kind_byte (task_kind t) ∷ bs)
  unfolding task_frame
  behind_kind (run k u) = (k ∷ prefix u, refl)
  behind_kind (judgement n d ts) = (n ∷ direction_number d ∷ prefixes ts, refl)
  behind_kind (comparison u v) = (prefix u ++ prefix v, refl)

  module _ (t : Task) (h : Spans text from end (task_frame t)) where
    begins : Spans text from end (kind_byte (task_kind t) ∷ (behind_kind t).0)
    begins = subst (Spans text from end) (behind_kind t).1 h

    pub head_inside : from + 2 ≤ length text
    head_inside = spans_inside text from end (kind_byte (task_kind t)) (behind_kind t).0 begins

    pub head_byte : pair_at text from ≤ max_byte
    head_byte = spans_byte text from end (kind_byte (task_kind t)) (behind_kind t).0 begins

    kind_is : {kind : FrameKind} → kind ≡ kind_of (pair_at text from) → kind ≡ task_kind t
    kind_is e = e ∙ ap kind_of (spans_first text from end (kind_byte (task_kind t)) (behind_kind t).0 begins) ∙ kind_of_byte (task_kind t)

  module _ {kind : FrameKind} (e : kind ≡ kind_of (pair_at text from)) where
    pub run_inside : kind ≡ run_kind → (t : Task) → Spans text from end (task_frame t) → from + 4 ≤ length text
    unfolding task_frame
    run_inside d (run k u) h = omega (arith, spans_inside text (from + 2) end k (prefix u) (spans_behind text from end (kind_byte run_kind) (k ∷ prefix u) h))
    run_inside d (judgement n o ts) h = let x = sym d ∙ kind_is (judgement n o ts) h e in absurd cc
    run_inside d (comparison u v) h = let x = sym d ∙ kind_is (comparison u v) h e in absurd cc

    pub run_found : kind ≡ run_kind → {b : ℕ} → b ≡ pair_at text (from + 2) → (t : Task) → Spans text from end (task_frame t)
        → TaskAt text t (record { head = Run b; terms = record { from = from + 4; end = end } })
    unfolding task_frame task_terms
    run_found d x (run k u) h = let (y, z) = behind_two h in (ap Run (x ∙ y), z)
    run_found d x (judgement n o ts) h = let y = sym d ∙ kind_is (judgement n o ts) h e in absurd cc
    run_found d x (comparison u v) h = let y = sym d ∙ kind_is (comparison u v) h e in absurd cc

    pub judgement_inside : kind ≡ judgement_kind → (t : Task) → Spans text from end (task_frame t) → from + 6 ≤ length text
    unfolding task_frame
    judgement_inside d (run k u) h = let x = sym d ∙ kind_is (run k u) h e in absurd cc
    judgement_inside d (judgement n o ts) h = omega (arith, spans_inside text (from + 4) end (direction_number o) (prefixes ts) (behind_two h).1)
    judgement_inside d (comparison u v) h = let x = sym d ∙ kind_is (comparison u v) h e in absurd cc

    pub judgement_found : kind ≡ judgement_kind → {b c : ℕ} → b ≡ pair_at text (from + 2) → c ≡ pair_at text (from + 4) → (t : Task)
        → Spans text from end (task_frame t)
        → TaskAt text t (record { head = Judgement b c; terms = record { from = from + 6; end = end } })
    unfolding task_frame task_terms
    judgement_found d x y (run k u) h = let w = sym d ∙ kind_is (run k u) h e in absurd cc
    judgement_found d {b} {c} x y (judgement n o ts) h =
        let (z, w) = behind_two h in
        let f = spans_first text (from + 4) end (direction_number o) (prefixes ts) w in
        let g : from + 4 + 2 ≡ from + 6 = omega arith in
        let i : b ≡ n = x ∙ z in
        let j : c ≡ direction_number o = y ∙ f in
        (cc, subst (λ m. Spans text m end (prefixes ts)) g (spans_behind text (from + 4) end (direction_number o) (prefixes ts) w))
    judgement_found d x y (comparison u v) h = let w = sym d ∙ kind_is (comparison u v) h e in absurd cc

    pub comparison_found : (kind ≡ run_kind → ⊥) → (kind ≡ judgement_kind → ⊥) → (t : Task) → Spans text from end (task_frame t)
        → TaskAt text t (record { head = Comparison; terms = record { from = from + 2; end = end } })
    unfolding task_frame task_terms
    comparison_found d f (run k u) h = absurd (d (kind_is (run k u) h e))
    comparison_found d f (judgement n o ts) h = absurd (f (kind_is (judgement n o ts) h e))
    comparison_found d f (comparison u v) h = (refl, spans_behind text from end (kind_byte comparison_kind) (prefix u ++ prefix v) h)
