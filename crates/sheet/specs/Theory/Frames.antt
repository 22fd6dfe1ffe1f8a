-- The lines of an accepted text are the frames of its sheet, in order.
use Rattle.std.specs.Prelude.{ℕ, zero, suc, Bool, true, false, ◌&&◌, length, leb, ltb, eqb}
use Rattle.std.proofs.Math.Path.{◌≡◌, refl, ap, ap₂}
use Rattle.std.proofs.Common.{sym, subst, ◌∙◌, eqb-true, arith}
use Rattle.std.proofs.Math.Option.{Option, none, some}
use mathlib.Core.List.{List, [], ◌∷◌, ◌++◌, map, append_assoc, append-nil, map-append}
use Rattle.format.specs.Limits.{max_equations, max_text}
use Rattle.format.specs.Kind.{kind_byte, kind_of}
use Rattle.format.specs.declared.kind.FrameKind.{FrameKind}
use Rattle.format.specs.declared.kind.FrameKind.TheVariants.{Symbols as symbols_kind, Equation as equation_kind, Run as run_kind, Judgement as judgement_kind, Comparison as comparison_kind, Unknown as unknown_kind}
use Rattle.format.specs.Theory.Kind.{byte_of_kind}
use Rattle.format.specs.Refusal.{Result, refuse, give}
use Rattle.format.specs.declared.refusal.Refusal.TheVariants.{SymbolFrame as symbol_frame, FrameOrder as frame_order, Digits as digits, TextLength as text_length}
use Rattle.format.specs.Lists.{entry}
use Rattle.format.specs.Theory.Lists.{and_true}
use Rattle.terms.specs.Term.{nil, cons}
use Rattle.terms.specs.Equation.{Equation, direction_number, direction_of}
use Rattle.terms.specs.declared.direction.Direction.{Direction}
use Rattle.terms.specs.declared.direction.Direction.TheVariants.{LeftRight as left_right, RightLeft as right_left}
use Rattle.terms.specs.Prefix.{prefix, prefixes, equation_bytes}
use Rattle.sheet.specs.Text.{TextLine, lines_of, frame_of}
use Rattle.sheet.specs.Sheet.{Task, run, judgement, comparison, Sheet, equation_width}
use Rattle.sheet.specs.Frame.{State, start, within, takes_equation, in_order, symbols_right, symbols_body, ground_terms, first_term, second_term, equation_body, run_body, values_body, judgement_body, comparison_body, with_equation, with_task, read_body, read_kind, read_frame}
use Rattle.sheet.specs.ForContracts.Frames.{symbols_frame, equation_frame, task_frame, frames_of}
use Rattle.sheet.specs.Reading.{Reading, refused_at, accepted, read_line, finish, read_lines, read}
use Rattle.sheet.specs.ForContracts.Valid.{Valid}
use Rattle.sheet.specs.Theory.Frame.{mapped, ground_terms_given, one_term, two_terms, equation_given}
use Rattle.sheet.specs.Theory.Accepted.{ValidState, symbols_counted, no_length, line_kept}

-- 1. What is read is what is spelled: the tasks' bodies.
direction_back : (n : ℕ) (d : Direction) → direction_of n ≡ some d → direction_number d ≡ n
unfolding direction_of direction_number
direction_back zero left_right e = refl
direction_back zero right_left e = let x : ◌≡◌ {A = Direction} left_right right_left = cc in ap direction_number (sym x)
direction_back (suc zero) left_right e = let x : ◌≡◌ {A = Direction} right_left left_right = cc in ap direction_number (sym x)
direction_back (suc zero) right_left e = refl
direction_back (suc (suc n)) d e = let z : ◌≡◌ {A = ℕ} 0 1 = cc in absurd (omega arith)

module _ (s : Sheet) (v : Valid s) where
  run_spelled : (bs : List ℕ) (t : Task) → run_body s bs ≡ give t → kind_byte run_kind ∷ bs ≡ task_frame t
  unfolding run_body task_frame prefix
  run_spelled [] t e = let z : ◌≡◌ {A = ℕ} 0 1 = cc in absurd (omega arith)
  run_spelled (k ∷ bs) t e =
      let (ts, x, y) = mapped (λ ts. run k (first_term ts)) (ground_terms s.arities 1 bs) t e in
      let g = ground_terms_given s.arities v.symbols.few_symbols 1 bs ts x in
      let o : bs ≡ prefixes (cons (first_term ts) nil) = g.spelled ∙ ap prefixes (one_term ts g.counted) in
      ap (λ u. kind_byte run_kind ∷ k ∷ u) (o ∙ append-nil (prefix (first_term ts))) ∙ ap task_frame y

  judgement_spelled : (bs : List ℕ) (t : Task) → judgement_body s bs ≡ give t → kind_byte judgement_kind ∷ bs ≡ task_frame t
  unfolding judgement_body values_body task_frame
  judgement_spelled [] t e = let z : ◌≡◌ {A = ℕ} 0 1 = cc in absurd (omega arith)
  judgement_spelled (n ∷ []) t e = let z : ◌≡◌ {A = ℕ} 0 1 = cc in absurd (omega arith)
  judgement_spelled (n ∷ d ∷ bs) t e = go (entry s.equations n) (direction_of d) refl e
    where
      go : (q : Option Equation) (o : Option Direction) → direction_of d ≡ o → values_body s n q o bs ≡ give t
          → kind_byte judgement_kind ∷ n ∷ d ∷ bs ≡ task_frame t
      go none o i e = let z : ◌≡◌ {A = ℕ} 0 1 = cc in absurd (omega arith)
      go (some q) none i e = let z : ◌≡◌ {A = ℕ} 0 1 = cc in absurd (omega arith)
      go (some q) (some o) i e =
          let (ts, x, y) = mapped (λ ts. judgement n o ts) (ground_terms s.arities (equation_width q) bs) t e in
          let g = ground_terms_given s.arities v.symbols.few_symbols (equation_width q) bs ts x in
          ap₂ (λ a u. kind_byte judgement_kind ∷ n ∷ a ∷ u) (sym (direction_back d o i)) g.spelled ∙ ap task_frame y

  comparison_spelled : (bs : List ℕ) (t : Task) → comparison_body s bs ≡ give t → kind_byte comparison_kind ∷ bs ≡ task_frame t
  unfolding comparison_body task_frame prefix
  comparison_spelled bs t e =
      let (ts, x, y) = mapped (λ ts. comparison (first_term ts) (second_term ts)) (ground_terms s.arities 2 bs) t e in
      let g = ground_terms_given s.arities v.symbols.few_symbols 2 bs ts x in
      let o : bs ≡ prefixes (cons (first_term ts) (cons (second_term ts) nil)) = g.spelled ∙ ap prefixes (two_terms ts g.counted) in
      ap (kind_byte comparison_kind ∷◌) (o ∙ ap (prefix (first_term ts) ++◌) (append-nil (prefix (second_term ts)))) ∙ ap task_frame y

-- 2. Each line adds its frame.
abbrev pub frames_so_far : State → List (List ℕ)
frames_so_far start = []
frames_so_far (within s) = frames_of s

equation_added : (s : Sheet) (e : Equation) → takes_equation s ≡ true → frames_so_far (with_equation s e) ≡ frames_of s ++ (equation_frame e ∷ [])
unfolding takes_equation with_equation frames_of
equation_added s e t =
    let (a, b) = and_true (eqb (length s.tasks) 0) (ltb (length s.equations) max_equations) t in
    let none : s.tasks ≡ [] = no_length s.tasks (eqb-true (length s.tasks) 0 a) in
    let f = equation_frame in
    ap (symbols_frame s.arities ∷◌) (
    ap (λ ts. map f (s.equations ++ (e ∷ [])) ++ map task_frame ts) none
    ∙ append-nil (map f (s.equations ++ (e ∷ [])))
    ∙ map-append f s.equations (e ∷ [])
    ∙ ap (◌++ (f e ∷ [])) (sym (append-nil (map f s.equations)) ∙ ap (λ ts. map f s.equations ++ map task_frame ts) (sym none))
    )

task_added : (s : Sheet) (t : Task) → frames_so_far (with_task s t) ≡ frames_of s ++ (task_frame t ∷ [])
unfolding with_task frames_of
task_added s t =
    let es = map equation_frame s.equations in
    ap (symbols_frame s.arities ∷◌)
    (ap (es ++◌) (map-append task_frame s.tasks (t ∷ [])) ∙ sym (append_assoc es (map task_frame s.tasks) (task_frame t ∷ [])))

symbols_added : (bs : List ℕ) (state : State) → symbols_body bs ≡ give state → frames_so_far state ≡ (kind_byte symbols_kind ∷ bs) ∷ []
unfolding symbols_body frames_of symbols_frame
symbols_added [] state e = let z : ◌≡◌ {A = ℕ} 0 1 = cc in absurd (omega arith)
symbols_added (n ∷ arities) state e = go (symbols_right n arities) refl e
  where
    go : (t : Bool) → symbols_right n arities ≡ t
        → ◌≡◌ {A = Result State} (elim t [ true ↦ give (within (record { arities = arities; equations = []; tasks = [] })) | false ↦ refuse symbol_frame ]) (give state)
        → frames_so_far state ≡ (kind_byte symbols_kind ∷ n ∷ arities) ∷ []
    go true d e =
        let x : within (record { arities = arities; equations = []; tasks = [] }) ≡ state = cc in
        subst (λ st. frames_so_far st ≡ (kind_byte symbols_kind ∷ n ∷ arities) ∷ []) x
        (ap (λ m. (kind_byte symbols_kind ∷ m ∷ arities) ∷ []) (symbols_counted n arities d))
    go false d e = let z : ◌≡◌ {A = ℕ} 0 1 = cc in absurd (omega arith)

equation_spelled : (e : Equation) (bs : List ℕ) → bs ≡ prefix e.left ++ prefix e.right → equation_frame e ≡ kind_byte equation_kind ∷ bs
unfolding equation_frame equation_bytes
equation_spelled e bs h = ap (kind_byte equation_kind ∷◌) (sym h)

body_added : (state next : State) (kind : FrameKind) (bs : List ℕ) → ValidState state → in_order state kind ≡ true → read_body state kind bs ≡ give next
    → frames_so_far next ≡ frames_so_far state ++ ((kind_byte kind ∷ bs) ∷ [])
unfolding in_order read_body
body_added start next symbols_kind bs v o e = symbols_added bs next e
body_added start next equation_kind bs v o e = let z : ◌≡◌ {A = ℕ} 0 1 = cc in absurd (omega arith)
body_added start next run_kind bs v o e = let z : ◌≡◌ {A = ℕ} 0 1 = cc in absurd (omega arith)
body_added start next judgement_kind bs v o e = let z : ◌≡◌ {A = ℕ} 0 1 = cc in absurd (omega arith)
body_added start next comparison_kind bs v o e = let z : ◌≡◌ {A = ℕ} 0 1 = cc in absurd (omega arith)
body_added start next unknown_kind bs v o e = let z : ◌≡◌ {A = ℕ} 0 1 = cc in absurd (omega arith)
body_added (within s) next symbols_kind bs v o e = let z : ◌≡◌ {A = ℕ} 0 1 = cc in absurd (omega arith)
body_added (within s) next equation_kind bs v o e =
    let (q, x, y) = mapped (with_equation s) (equation_body s.arities bs) next e in
    let r = equation_given s.arities v.symbols.few_symbols bs q x in
    ap frames_so_far (sym y) ∙ equation_added s q o ∙ ap (λ u. frames_of s ++ (u ∷ [])) (equation_spelled q bs r.spelled)
body_added (within s) next run_kind bs v o e =
    let (t, x, y) = mapped (with_task s) (run_body s bs) next e in
    ap frames_so_far (sym y) ∙ task_added s t ∙ ap (λ u. frames_of s ++ (u ∷ [])) (sym (run_spelled s v bs t x))
body_added (within s) next judgement_kind bs v o e =
    let (t, x, y) = mapped (with_task s) (judgement_body s bs) next e in
    ap frames_so_far (sym y) ∙ task_added s t ∙ ap (λ u. frames_of s ++ (u ∷ [])) (sym (judgement_spelled s v bs t x))
body_added (within s) next comparison_kind bs v o e =
    let (t, x, y) = mapped (with_task s) (comparison_body s bs) next e in
    ap frames_so_far (sym y) ∙ task_added s t ∙ ap (λ u. frames_of s ++ (u ∷ [])) (sym (comparison_spelled s v bs t x))
body_added (within s) next unknown_kind bs v o e = let z : ◌≡◌ {A = ℕ} 0 1 = cc in absurd (omega arith)

-- A frame in order is of a known kind.
kind_known : (state : State) (kind : FrameKind) → in_order state kind ≡ true → kind ≡ unknown_kind → ⊥
unfolding in_order
kind_known start kind o e = let d : in_order start unknown_kind ≡ true = subst (λ k. in_order start k ≡ true) e o in let z : ◌≡◌ {A = ℕ} 0 1 = cc in omega arith
kind_known (within s) kind o e =
    let d : in_order (within s) unknown_kind ≡ true = subst (λ k. in_order (within s) k ≡ true) e o in
    let z : ◌≡◌ {A = ℕ} 0 1 = cc in
    omega arith

frame_added : (state next : State) (bs : List ℕ) → ValidState state → read_frame state bs ≡ give next → frames_so_far next ≡ frames_so_far state ++ (bs ∷ [])
unfolding read_frame read_kind
frame_added state next [] v e = let z : ◌≡◌ {A = ℕ} 0 1 = cc in absurd (omega arith)
frame_added state next (b ∷ bs) v e = go (in_order state (kind_of b)) refl e
  where
    go : (t : Bool) → in_order state (kind_of b) ≡ t
        → ◌≡◌ {A = Result State} (elim t [ true ↦ read_body state (kind_of b) bs | false ↦ refuse frame_order ]) (give next)
        → frames_so_far next ≡ frames_so_far state ++ ((b ∷ bs) ∷ [])
    go true o e =
        body_added state next (kind_of b) bs v o e
        ∙ ap (λ m. frames_so_far state ++ ((m ∷ bs) ∷ [])) (sym (byte_of_kind b (kind_of b) refl (kind_known state (kind_of b) o)))
    go false o e = let z : ◌≡◌ {A = ℕ} 0 1 = cc in absurd (omega arith)

line_added : (state next : State) (line : TextLine) → ValidState state → read_line state line ≡ give next
    → (bs : List ℕ) × (frame_of line ≡ some bs) × (frames_so_far next ≡ frames_so_far state ++ (bs ∷ []))
unfolding read_line
line_added state next line v e = go (frame_of line) refl e
  where
    go : (o : Option (List ℕ)) → frame_of line ≡ o → ◌≡◌ {A = Result State} (elim o [ none ↦ refuse digits | some bs ↦ read_frame state bs ]) (give next)
        → (bs : List ℕ) × (frame_of line ≡ some bs) × (frames_so_far next ≡ frames_so_far state ++ (bs ∷ []))
    go none d e = let z : ◌≡◌ {A = ℕ} 0 1 = cc in absurd (omega arith)
    go (some bs) d e = (bs, d, frame_added state next bs v e)

-- 3. All lines.
abbrev pub Framed : List TextLine → List (List ℕ) → Type 0
Framed rs fs = map frame_of rs ≡ map some fs

finish_frames : (state : State) (n : ℕ) (s : Sheet) → finish state n ≡ accepted s → frames_of s ≡ frames_so_far state ++ []
unfolding finish
finish_frames start n s e = let z : ◌≡◌ {A = ℕ} 0 1 = cc in absurd (omega arith)
finish_frames (within r) n s e = go (leb 1 (length r.equations)) e
  where
    go : (t : Bool) → ◌≡◌ {A = Reading Sheet} (elim t [ true ↦ accepted r | false ↦ refused_at frame_order n ]) (accepted s) → frames_of s ≡ frames_of r ++ []
    go true e = let x : r ≡ s = cc in ap frames_of (sym x) ∙ sym (append-nil (frames_of r))
    go false e = let z : ◌≡◌ {A = ℕ} 0 1 = cc in absurd (omega arith)

lines_framed : (state : State) (n : ℕ) (rs : List TextLine) (s : Sheet) → ValidState state → read_lines state n rs ≡ accepted s
    → (fs : List (List ℕ)) × Framed rs fs × (frames_of s ≡ frames_so_far state ++ fs)
unfolding read_lines
lines_framed state n [] s v e = ([], refl, finish_frames state n s e)
lines_framed state n (line ∷ rs) s v e = go (λ next w x. lines_framed next (suc n) rs s w x) (read_line state line) refl e
  where
    go : ((next : State) → ValidState next → read_lines next (suc n) rs ≡ accepted s → (fs : List (List ℕ)) × Framed rs fs × (frames_of s ≡ frames_so_far next ++ fs))
        → (r : Result State) → read_line state line ≡ r
        → ◌≡◌ {A = Reading Sheet} (elim r [ refuse x ↦ refused_at x (suc n) | give next ↦ read_lines next (suc n) rs ]) (accepted s)
        → (fs : List (List ℕ)) × Framed (line ∷ rs) fs × (frames_of s ≡ frames_so_far state ++ fs)
    go ih (refuse x) d e = let z : ◌≡◌ {A = ℕ} 0 1 = cc in absurd (omega arith)
    go ih (give next) d e =
        let (fs, x, y) = ih next (line_kept state next line v d) e in
        let (bs, f, g) = line_added state next line v d in
        (bs ∷ fs, ap₂ (λ a as'. a ∷ as') f x, y ∙ ap (◌++ fs) g ∙ append_assoc (frames_so_far state) (bs ∷ []) fs)

-- The lines of an accepted text are the frames of its sheet.
pub accepted_frames : (text : List ℕ) (s : Sheet) → read text ≡ accepted s → Framed (lines_of text) (frames_of s)
unfolding read
accepted_frames text s e = go (leb 1 (length text) && leb (length text) max_text) e
  where
    go : (t : Bool) → ◌≡◌ {A = Reading Sheet} (elim t [ true ↦ read_lines start 0 (lines_of text) | false ↦ refused_at text_length 0 ]) (accepted s)
        → Framed (lines_of text) (frames_of s)
    go true e = let (fs, x, y) = lines_framed start 0 (lines_of text) s tt e in x ∙ ap (map some) (sym y)
    go false e = let z : ◌≡◌ {A = ℕ} 0 1 = cc in absurd (omega arith)
