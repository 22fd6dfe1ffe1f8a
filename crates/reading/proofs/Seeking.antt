-- Laws for finding a frame of an accepted sheet: lines by their number, and the frames that they are.
use Prim.Native.Nat.{ℕ, zero, suc, ◌+◌, ◌-◌, ◌≤◌, ◌<◌}
use mathlib.Core.Path.{◌≡◌, refl, sym, ap, subst, ◌∙◌}
use mathlib.Core.Option.{none, some}
use mathlib.Core.List.{List, [], ◌∷◌, ◌++◌, map}
use lib.ListN.{length, drop, length-map, drop_of_length-le}
use native.Mathlib.Numerals.{add-one}
use native.Mathlib.Omega.{arith}
use Rattle.format.specs.Lists.{Every, entry}
use Rattle.terms.specs.Equation.{Equation}
use Rattle.sheet.specs.Text.{TextLine, lines_of, frame_of}
use Rattle.sheet.specs.Sheet.{Task, Sheet}
use Rattle.sheet.specs.ForContracts.Frames.{equation_frame, task_frame, frames_of}
use Rattle.sheet.specs.Reading.{accepted, read}
use Rattle.scanning.specs.ForContracts.Digits.{span_bytes, NoFrame}
use Rattle.reader.specs.declared.line.FrameLine.{FrameLine}
use Rattle.reader.specs.declared.line.BrokenLine.{BrokenLine}
use Rattle.reader.specs.declared.reader.Reader.{Reader}
use Rattle.std.specs.Prelude.{Option, None, Some, Result, Ok, Err, MatchOption}
use Rattle.std.specs.Iterator.{Yields, SkipsThenYields}
use Rattle.reader.specs.ForContracts.Lines.{IsLine, LineStep}
use Rattle.reader.specs.Theory.Lines.{line_text, line_first, line_frame, line_ready, line_long}
use Rattle.reading.specs.ForContracts.Seek.{IsFrame, AllFrames, FrameIn, Spans}
use Rattle.sheet.specs.Theory.Frames.{Framed, accepted_frames}

-- 1. The loop over a text's lines: behind `lines` of them stands what is left, the line that is looked for among it.
pub record Seeking (text : List ℕ) (n offset lines : ℕ) : Type 0 where
  pub not_passed : lines ≤ n
  pub counted : lines ≤ offset
  pub frames : AllFrames (drop offset text)
  pub same : entry (lines_of (drop offset text)) (n - lines) ≡ entry (lines_of text) n

pub seeking_start : (text : List ℕ) (n : ℕ) → AllFrames text → Seeking text n 0 0
seeking_start text n a = let z : n - 0 ≡ n = omega arith in record { not_passed = omega arith; counted = omega arith; frames = a; same = ap (entry (lines_of text)) z }

no_lines : (n : ℕ) {line : TextLine} → entry (lines_of []) n ≡ some line → ⊥
unfolding lines_of entry
no_lines n e = absurd cc

module _ (text : List ℕ) (n offset lines : ℕ) (g : Seeking text n offset lines) where
  -- The text has not ended, and its next line is a frame.
  seeking_ended : length text ≤ offset → {frame : List ℕ} → FrameIn text n frame → ⊥
  seeking_ended h (line, e, f) = no_lines (n - lines) (ap (λ t. entry (lines_of t) (n - lines)) (sym (drop_of_length-le text h)) ∙ g.same ∙ e)

  seeking_broken : NoFrame text offset → ⊥
  seeking_broken l =
      let ((frame, e), more) = subst (Every IsFrame) l.is_first g.frames in
      let x : none ≡ some frame = sym l.no_frame ∙ e in
      absurd cc

  module _ (l : FrameLine) (i : IsLine text offset lines l) where
    pub seeking_found : n < l.number → (frame : List ℕ) → FrameIn text n frame → Spans text l.digits.from l.digits.end frame
    unfolding entry
    seeking_found h frame (line, e, f) =
        let z : 0 ≡ n - lines = omega (arith, g.not_passed, i.number_is) in
        let x : some (line_text text offset lines l i) ≡ some line =
        sym (ap (λ rs. entry rs 0) (line_first text offset lines l i)) ∙ ap (entry (lines_of (drop offset text))) z ∙ g.same ∙ e in
        let y : some (span_bytes text l.digits) ≡ some frame = sym (line_frame text offset lines l i) ∙ (cc) in
        record { ready = line_ready text offset lines l i; writes = cc }

    pub seeking_next : l.number ≤ n → Seeking text n (l.digits.end + 1) l.number
    unfolding entry
    seeking_next h =
        let z : n - lines ≡ suc (n - l.number) = omega (arith, i.number_is) in
        let first = line_first text offset lines l i in
        record {
          not_passed = h;
          counted = omega (arith, g.counted, i.number_is, line_long text offset lines l i);
          frames = (subst (Every IsFrame) first g.frames).1;
          same = sym (ap (λ rs. entry rs (n - lines)) first ∙ ap (entry (line_text text offset lines l i ∷ lines_of (drop (l.digits.end + 1) text))) z) ∙ g.same;
        }

-- What a reader gives behind the lines that it skips is the frame.
abbrev pub FrameFound : (text frame : List ℕ) → Option (Result FrameLine BrokenLine) → Type 0
FrameFound text frame r = (l : FrameLine) × (r ≡ Some (Ok l)) × Spans text l.digits.from l.digits.end frame

module _ (text : List ℕ) (n : ℕ) (frame : List ℕ) (f : FrameIn text n frame) where
  record Sought (r : Reader) : Type 0 where
    same : r.sheet.now ≡ text
    seeking : Seeking text n r.offset r.lines

  sought_step : (s t : Reader) (l : FrameLine) → Sought s → LineStep s (Some (Ok l)) t → l.number ≤ n → Sought t
  sought_step s t l g h i =
      let line = subst (λ x. IsLine x s.offset s.lines l) g.same h.read in
      record {
        same = ap (λ x. x.now) h.same ∙ g.same;
        seeking = rw (h.stands.0, h.stands.1) (seeking_next text n s.offset s.lines g.seeking l line i);
      }

  sought_passed : (xs : List (Result FrameLine BrokenLine)) (s t : Reader) → Sought s → s.lines + length xs ≤ n → Yields LineStep s xs t
      → Sought t × (t.lines ≡ s.lines + length xs)
  sought_passed [] s t g h e = rw (← e) (g, omega arith)
  sought_passed (Ok l ∷ xs) s t g h (j, step, e) =
      let low : j.lines ≡ s.lines + 1 = omega (arith, step.read.number_is, step.stands.1) in
      let (at_t, counted) = sought_passed xs j t (sought_step s j l g step (omega (arith, step.read.number_is))) (omega (arith, low)) e in
      (at_t, omega (arith, low, counted))
  sought_passed (Err b ∷ xs) s t g h (j, step, e) = absurd (seeking_broken text n s.offset s.lines g.seeking (subst (λ x. NoFrame x s.offset) g.same step.read.2))

  pub frame_found : (s u : Reader) (r : Option (Result FrameLine BrokenLine)) → s.sheet.now ≡ text → s.offset ≡ 0 → s.lines ≡ 0 → AllFrames text
      → SkipsThenYields LineStep s n r u → FrameFound text frame r
  frame_found s u r e o l₀ a (xs, (t, passed, step), m) = go r step m
    where
      begun : Sought s
      begun = record { same = e; seeking = rw (o, l₀) (seeking_start text n a) }

      go : (r : Option (Result FrameLine BrokenLine)) → LineStep t r u → MatchOption r (length xs ≤ n) (λ _. length xs ≡ n) → FrameFound text frame r
      go (Some (Ok l)) h m =
          let (g, counted) = sought_passed xs s t begun (omega (arith, l₀)) passed in
          let line = subst (λ x. IsLine x t.offset t.lines l) g.same h.read in
          (l, refl, seeking_found text n t.offset t.lines g.seeking l line (omega (arith, line.number_is)) frame f)
      go (Some (Err b)) h m =
          let (g, counted) = sought_passed xs s t begun (omega (arith, l₀)) passed in
          absurd (seeking_broken text n t.offset t.lines g.seeking (subst (λ x. NoFrame x t.offset) g.same h.read.2))
      go None h m =
          let (g, counted) = sought_passed xs s t begun (omega (arith, l₀)) passed in
          absurd (seeking_ended text n t.offset t.lines g.seeking (subst (λ x. length x ≤ t.offset) g.same h.read) f)

-- 2. The frames of a sheet by their number.
entry_map : {A B : Type 0} (f : A → B) (xs : List A) (i : ℕ) {x : A} → entry xs i ≡ some x → entry (map f xs) i ≡ some (f x)
unfolding entry
entry_map f [] i e = absurd cc
entry_map f (y ∷ xs) zero {x} e = let d : y ≡ x = cc in ap (λ a. some (f a)) d
entry_map f (y ∷ xs) (suc i) e = entry_map f xs i e

entry_front : {A : Type 0} (xs ys : List A) (i : ℕ) {x : A} → entry xs i ≡ some x → entry (xs ++ ys) i ≡ some x
unfolding entry
entry_front [] ys i e = absurd cc
entry_front (y ∷ xs) ys zero e = e
entry_front (y ∷ xs) ys (suc i) e = entry_front xs ys i e

entry_behind : {A : Type 0} (xs ys : List A) (n i : ℕ) → n ≡ length xs → entry (xs ++ ys) (n + i) ≡ entry ys i
unfolding entry
entry_behind [] ys n i e = let z : n + i ≡ i = omega arith in ap (entry ys) z
entry_behind (x ∷ xs) ys zero i e = absurd (omega arith)
entry_behind (x ∷ xs) ys (suc n) i e = let z : suc n + i ≡ suc (n + i) = omega arith in ap (entry (x ∷ xs ++ ys)) z ∙ entry_behind xs ys n i (omega arith)

framed_line : (rs : List TextLine) (fs : List (List ℕ)) → Framed rs fs → (n : ℕ) {frame : List ℕ} → entry fs n ≡ some frame
    → (line : TextLine) × (entry rs n ≡ some line) × (frame_of line ≡ some frame)
unfolding entry
framed_line rs [] e n h = absurd cc
framed_line [] (f ∷ fs) e n h = absurd cc
framed_line (r ∷ rs) (f ∷ fs) e zero {frame} h =
    let x : frame_of r ≡ some f = cc in
    let y : f ≡ frame = cc in
    (r, refl, x ∙ ap some y)
framed_line (r ∷ rs) (f ∷ fs) e (suc n) h = let x : map frame_of rs ≡ map some fs = cc in framed_line rs fs x n h

framed_every : (rs : List TextLine) (fs : List (List ℕ)) → Framed rs fs → Every IsFrame rs
framed_every [] fs e = tt
framed_every (r ∷ rs) [] e = absurd cc
framed_every (r ∷ rs) (f ∷ fs) e =
    let x : frame_of r ≡ some f = cc in
    let y : map frame_of rs ≡ map some fs = cc in
    ((f, x), framed_every rs fs y)

module _ (text : List ℕ) (s : Sheet) (a : read text ≡ accepted s) where
  pub all_frames : AllFrames text
  all_frames = framed_every (lines_of text) (frames_of s) (accepted_frames text s a)

  line_is : (n : ℕ) {frame : List ℕ} → entry (frames_of s) n ≡ some frame → FrameIn text n frame
  line_is n e = framed_line (lines_of text) (frames_of s) (accepted_frames text s a) n e

  pub equation_line_is : (e : ℕ) {q : Equation} → entry s.equations e ≡ some q → FrameIn text (e + 1) (equation_frame q)
  unfolding frames_of entry
  equation_line_is e {q} h =
      subst (λ n. FrameIn text n (equation_frame q)) (sym (add-one e))
      (line_is (suc e) (entry_front (map equation_frame s.equations) (map task_frame s.tasks) e (entry_map equation_frame s.equations e h)))

  pub task_line_is : (n k : ℕ) → n ≡ length s.equations → {t : Task} → entry s.tasks k ≡ some t → FrameIn text (n + k + 1) (task_frame t)
  unfolding frames_of entry
  task_line_is n k e {t} h =
      subst (λ m. FrameIn text m (task_frame t)) (sym (add-one (n + k)))
      (line_is (suc (n + k)) (entry_behind (map equation_frame s.equations) (map task_frame s.tasks) n k (e ∙ sym (length-map s.equations equation_frame)) ∙ entry_map task_frame s.tasks k h))
