-- Laws for the loop over a text's lines: what is left of the text decides.
use Prim.Native.Nat.{ℕ, suc, ◌+◌, ◌≤◌, ◌<◌}
use mathlib.Core.Path.{◌≡◌, refl, ap, subst, ◌∙◌}
use mathlib.Core.Bool.{Bool, true, false, ◌&&◌}
use mathlib.Core.Option.{Option, none, some}
use mathlib.Core.List.{List, ◌∷◌}
use lib.ListN.{length, drop, drop_of_length-le}
use lib.Dec.{leb}
use borrow.Author.Tests.{le-leb, lt-leb}
use native.Mathlib.Omega.{arith}
use Rattle.format.specs.Limits.{max_text}
use Rattle.format.specs.Refusal.{Result, refuse, give}
use Rattle.format.specs.declared.refusal.Refusal.{Refusal}
use Rattle.format.specs.declared.refusal.Refusal.TheVariants.{TextLength, Digits, FrameOrder}
use Rattle.scanning.specs.declared.known.Known.{Known}
use Rattle.std.specs.Prelude.{Some, None, Ok, Err, MatchResult}
use Rattle.std.specs.Prelude.{Option as Found, Result as Outcome}
use Rattle.sheet.specs.Text.{TextLine, lines_of, frame_of}
use Rattle.sheet.specs.Sheet.{Sheet}
use Rattle.sheet.specs.Frame.{State, start, within, read_frame}
use Rattle.sheet.specs.Reading.{Reading, refused_at, accepted, read_line, finish, read_lines, read}
use Rattle.scanning.specs.ForContracts.Digits.{span_bytes, SpanReady, NoFrame}
use Rattle.reader.specs.declared.line.FrameLine.{FrameLine}
use Rattle.reader.specs.declared.line.BrokenLine.{BrokenLine}
use Rattle.reader.specs.declared.reader.Reader.{Reader}
use Rattle.reader.specs.ForContracts.Lines.{IsLine, NextRead, LineStep}
use Rattle.reading.specs.declared.read.RefusedAt.{RefusedAt}
use Rattle.reader.specs.Theory.Lines.{line_text, line_first, line_frame, line_ready, line_some, line_long, line_inside}
use Rattle.scanning.specs.ForContracts.Known.{none_known}
use Rattle.reading.specs.ForContracts.Read.{Knows, FrameRead, SheetRead}

-- 1. The length of the text.
sized : (text : List ℕ) → Bool → Reading Sheet
sized text t = elim t [ true ↦ read_lines start 0 (lines_of text) | false ↦ refused_at TextLength 0 ]

pub empty_text : (text : List ℕ) → length text ≡ 0 → read text ≡ refused_at TextLength 0
unfolding read sized
empty_text text e = ap (λ t. sized text (t && leb (length text) max_text)) (lt-leb 1 (length text) (omega arith))

pub long_text : (text : List ℕ) → max_text < length text → read text ≡ refused_at TextLength 0
unfolding read sized
long_text text h = ap (λ t. sized text (leb 1 (length text) && t)) (lt-leb (length text) max_text h) ∙ ap (sized text) (and_false (leb 1 (length text)))
  where
    and_false : (a : Bool) → (a && false) ≡ false
    and_false true = refl
    and_false false = refl

right_text : (text : List ℕ) → 1 ≤ length text → length text ≤ max_text → read text ≡ read_lines start 0 (lines_of text)
unfolding read sized
right_text text n h =
    ap (sized text) (both (leb 1 (length text)) (leb (length text) max_text) (le-leb 1 (length text) (omega arith)) (le-leb (length text) max_text h))
  where
    both : (x y : Bool) → x ≡ true → y ≡ true → (x && y) ≡ true
    both x y d e = ap (◌&& y) d ∙ e

-- 2. The lines passed.
pub record Passing (text : List ℕ) (k : Known) (offset lines : ℕ) : Type 0 where
  pub state : State
  pub knows : Knows k state
  pub inside : offset ≤ length text
  pub counted : lines ≤ offset
  pub same : read text ≡ read_lines state lines (lines_of (drop offset text))

pub passing_start : (text : List ℕ) (k : Known) → 1 ≤ length text → length text ≤ max_text → none_known k → Passing text k 0 0
passing_start text k n h g = record { state = start; knows = g; inside = omega arith; counted = omega arith; same = right_text text n h }

after_line : (lines : ℕ) (more : List TextLine) → Result State → Reading Sheet
after_line lines more r = elim r [ refuse x ↦ refused_at x (suc lines) | give next ↦ read_lines next (suc lines) more ]

lines_step : (state : State) (lines : ℕ) (text_line : TextLine) (more : List TextLine) (r : Result State) → read_line state text_line ≡ r
    → read_lines state lines (text_line ∷ more) ≡ after_line lines more r
unfolding read_lines after_line
lines_step state lines text_line more r e = ap (after_line lines more) e

by_frame : State → Option (List ℕ) → Result State
by_frame state o = elim o [ none ↦ refuse Digits | some bs ↦ read_frame state bs ]

broken_line : (state : State) (text_line : TextLine) → frame_of text_line ≡ none → read_line state text_line ≡ refuse Digits
unfolding read_line by_frame
broken_line state text_line e = ap (by_frame state) e

line_framed : (state : State) (text_line : TextLine) (bs : List ℕ) → frame_of text_line ≡ some bs → read_line state text_line ≡ read_frame state bs
unfolding read_line by_frame
line_framed state text_line bs e = ap (by_frame state) e

module _ (text : List ℕ) (k : Known) (offset lines : ℕ) (p : Passing text k offset lines) where
  pub line_broken : {n : ℕ} → n ≡ lines + 1 → NoFrame text offset → read text ≡ refused_at Digits n
  unfolding after_line
  line_broken {n} e f =
      let z : suc lines ≡ n = omega arith in
      p.same
      ∙ ap (read_lines p.state lines) f.is_first
      ∙ lines_step p.state lines f.line f.more (refuse Digits) (broken_line p.state f.line f.no_frame)
      ∙ ap (refused_at Digits) z

  module _ (l : FrameLine) (i : IsLine text offset lines l) where
    -- The line's number is no greater than the text is long.
    pub line_low : l.number ≤ length text
    line_low = omega (arith, i.number_is, line_long text offset lines l i, line_inside text offset lines l i, p.counted)

    passed_line : (r : Result State) → read_frame p.state (span_bytes text l.digits) ≡ r → read text ≡ after_line lines (lines_of (drop (l.digits.end + 1) text)) r
    passed_line r e =
        p.same
        ∙ ap (read_lines p.state lines) (line_first text offset lines l i)
        ∙ lines_step p.state lines (line_text text offset lines l i) (lines_of (drop (l.digits.end + 1) text)) r
        (line_framed p.state (line_text text offset lines l i) (span_bytes text l.digits) (line_frame text offset lines l i) ∙ e)

    next_number : suc lines ≡ l.number
    next_number = omega (arith, i.number_is)

    pub line_refused : {x : Refusal} → ((state : State) → Knows k state → FrameRead (read_frame state (span_bytes text l.digits)) (Err x))
        → read text ≡ refused_at x l.number
    unfolding after_line
    line_refused {x} h = passed_line (refuse x) (h p.state p.knows) ∙ ap (refused_at x) next_number

    pub line_next : (k' : Known) → ((state : State) → Knows k state → FrameRead (read_frame state (span_bytes text l.digits)) (Ok k'))
        → Passing text k' (l.digits.end + 1) l.number
    unfolding after_line
    line_next k' h =
        let (next, r, g) = h p.state p.knows in
        record {
          state = next;
          knows = g;
          inside = line_inside text offset lines l i;
          counted = omega (arith, p.counted, i.number_is, line_long text offset lines l i);
          same = passed_line (give next) r ∙ ap (λ n. read_lines next n (lines_of (drop (l.digits.end + 1) text))) next_number;
        }

  -- 3. The end of the text.
  at_end : length text ≤ offset → read text ≡ finish p.state lines
  unfolding lines_of read_lines
  at_end h = p.same ∙ ap (λ xs. read_lines p.state lines (lines_of xs)) (drop_of_length-le text h)

  pub no_equations : length text ≤ offset → k.equations ≡ 0 → read text ≡ refused_at FrameOrder lines
  unfolding finish
  no_equations h e = at_end h ∙ go p.state p.knows
    where
      go : (state : State) → Knows k state → finish state lines ≡ refused_at FrameOrder lines
      go start g = refl
      go (within s) g = pick (leb 1 (length s.equations)) (lt-leb 1 (length s.equations) (omega (arith, g.equations_are)))
        where
          pick : (t : Bool) → t ≡ false
              → ◌≡◌ {A = Reading Sheet} (elim t [ true ↦ accepted s | false ↦ refused_at FrameOrder lines ]) (refused_at FrameOrder lines)
          pick true d = absurd cc
          pick false d = refl

  pub all_accepted : length text ≤ offset → (k.equations ≡ 0 → ⊥) → SheetRead text (Ok k)
  unfolding finish
  all_accepted h n = go p.state p.knows (at_end h)
    where
      go : (state : State) → Knows k state → read text ≡ finish state lines → SheetRead text (Ok k)
      go start g e = absurd (n g.1)
      go (within s) g e = (s, e ∙ pick (leb 1 (length s.equations)) (le-leb 1 (length s.equations) (omega (arith, g.equations_are))), g)
        where
          pick : (t : Bool) → t ≡ true → ◌≡◌ {A = Reading Sheet} (elim t [ true ↦ accepted s | false ↦ refused_at FrameOrder lines ]) (accepted s)
          pick true d = refl
          pick false d = absurd cc

-- 4. A reader that has passed the lines.
pub record PassedBy (text : List ℕ) (k : Known) (r : Reader) (lines : ℕ) : Type 0 where
  pub same : r.sheet.now ≡ text
  pub counted : r.lines ≡ lines
  pub passing : Passing text k r.offset lines

pub passed_start : (text : List ℕ) (k : Known) {r : Reader} → r.sheet.now ≡ text → r.offset ≡ 0 → r.lines ≡ 0 → 1 ≤ length text → length text ≤ max_text → none_known k
    → PassedBy text k r 0
passed_start text k e o l n h g = record { same = e; counted = l; passing = rw o (passing_start text k n h g) }

module _ {text : List ℕ} {k : Known} {r t : Reader} {lines : ℕ} (few : length text ≤ max_text) (g : PassedBy text k r lines) where
  read_next : {x : Found (Outcome FrameLine BrokenLine)} → LineStep r x t → NextRead text r.offset lines x
  read_next {x} h = subst (λ s. NextRead s r.offset lines x) g.same (subst (λ n. NextRead r.sheet.now r.offset n x) g.counted h.read)

  pub broken_refused : {b : BrokenLine} → LineStep r (Some (Err b)) t → SheetRead text (Err (record { why = Digits; line = b.number }))
  broken_refused h =
      let line = read_next h in
      (line_broken text k r.offset lines g.passing line.0 line.2, omega (arith, g.passing.counted, line.0, line.1))

  pub frame_ready : {l : FrameLine} → LineStep r (Some (Ok l)) t → SpanReady text l.digits × (l.digits.from < l.digits.end) × ((state : State) × Knows k state)
  frame_ready {l} h =
      let line = read_next h in
      (line_ready text r.offset lines l line, line_some text r.offset lines l line, (g.passing.state, g.passing.knows))

  pub frame_refused : {l : FrameLine} → LineStep r (Some (Ok l)) t → (o : Outcome Known Refusal)
      → ((state : State) → Knows k state → FrameRead (read_frame state (span_bytes text l.digits)) o)
      → (P : Refusal → Type 0) {e : RefusedAt} → MatchResult o (λ x. ◌≡◌ {A = Outcome Known RefusedAt} (Err e) (Ok x)) P
      → ((x : Refusal) → P x → e ≡ record { why = x; line = l.number })
      → SheetRead text (Err e)
  frame_refused {l} h (Ok x) f P m told = absurd cc
  frame_refused {l} h (Err x) f P m told =
      let line = read_next h in
      rw (told x m) (line_refused text k r.offset lines g.passing l line f, omega (arith, line_low text k r.offset lines g.passing l line))

  pub frame_passed : {l : FrameLine} → LineStep r (Some (Ok l)) t → (o : Outcome Known Refusal)
      → ((state : State) → Knows k state → FrameRead (read_frame state (span_bytes text l.digits)) o)
      → {k' : Known} → MatchResult o (λ x. ◌≡◌ {A = Outcome Known RefusedAt} (Ok k') (Ok x)) (λ x. ⊥)
      → PassedBy text k' t l.number
  frame_passed {l} h (Ok k₁) f {k' = k'} m =
      let e : k₁ ≡ k' = cc in
      record {
        same = ap (λ s. s.now) h.same ∙ g.same;
        counted = h.stands.1;
        passing = rw h.stands.0 (line_next text k r.offset lines g.passing l (read_next h) k' (subst (λ n. (state : State) → Knows k state → FrameRead (read_frame state (span_bytes text l.digits)) (Ok n)) e f));
      }
  frame_passed {l} h (Err x) f m = absurd m

  pub ended_refused : LineStep r None t → k.equations ≡ 0 → SheetRead text (Err (record { why = FrameOrder; line = lines }))
  ended_refused h e = (no_equations text k r.offset lines g.passing (read_next h) e, omega (arith, g.passing.counted, g.passing.inside))

  pub ended_accepted : LineStep r None t → (k.equations ≡ 0 → ⊥) → SheetRead text (Ok k)
  ended_accepted h n = all_accepted text k r.offset lines g.passing (read_next h) n
