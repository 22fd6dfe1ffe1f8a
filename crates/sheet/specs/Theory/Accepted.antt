-- An accepted sheet is valid: each line that is not refused keeps the sheet so.
use Rattle.std.specs.Prelude.{ℕ, suc, ◌≤◌, Bool, true, false, ◌&&◌, length, ltb, leb, eqb}
use Rattle.std.proofs.Math.Path.{◌≡◌, refl, ap, subst}
use Rattle.std.proofs.Common.{sym, ◌∙◌, length-append, ltb-true, leb-true, eqb-true, arith}
use Rattle.std.proofs.Math.Option.{Option, none, some}
use mathlib.Core.List.{List, [], ◌∷◌, ◌++◌}
use Rattle.format.specs.Limits.{max_symbols, max_arity, max_equations, max_tasks, max_task_nodes, max_text}
use Rattle.format.specs.Kind.{kind_of}
use Rattle.format.specs.declared.kind.FrameKind.{FrameKind}
use Rattle.format.specs.declared.kind.FrameKind.TheVariants.{Symbols as symbols_kind, Equation as equation_kind, Run as run_kind, Judgement as judgement_kind, Comparison as comparison_kind, Unknown as unknown_kind}
use Rattle.format.specs.Refusal.{Result, refuse, give}
use Rattle.format.specs.declared.refusal.Refusal.TheVariants.{SymbolFrame as symbol_frame, FrameOrder as frame_order, Digits as digits, TextLength as text_length}
use Rattle.format.specs.Lists.{entry, any, all, Every}
use Rattle.format.specs.Theory.Lists.{every_append, every_map, and_true, all_true, any_true}
use Rattle.terms.specs.Term.{Terms, nil, cons, size, sizes, count, Ground, Grounds}
use Rattle.terms.specs.Equation.{Equation, direction_of}
use Rattle.terms.specs.declared.direction.Direction.{Direction}
use Rattle.sheet.specs.Text.{TextLine, lines_of, frame_of}
use Rattle.sheet.specs.Sheet.{Task, run, judgement, comparison, Sheet, equation_width}
use Rattle.sheet.specs.Frame.{State, start, within, takes_equation, takes_task, in_order, symbols_right, symbols_body, ground_terms, first_term, second_term, equation_body, run_body, values_body, judgement_body, comparison_body, with_equation, with_task, read_body, read_kind, read_frame}
use Rattle.sheet.specs.Reading.{Reading, refused_at, accepted, read_line, finish, read_lines, read}
use Rattle.sheet.specs.ForContracts.Bytes.{Bytes}
use Rattle.sheet.specs.Theory.Text.{frame_bytes_small}
use Rattle.sheet.specs.ForContracts.Valid.{ValidEquation, ValidTask, ValidSymbols, Valid}
use Rattle.sheet.specs.Theory.Frame.{mapped, ground_terms_given, one_term, two_terms, equation_given}

-- 1. The symbols.
-- The tests of a symbol frame, one by one.
record SymbolsRight (n : ℕ) (arities : List ℕ) : Type 0 where
  at_least : leb 1 n ≡ true
  at_most : leb n max_symbols ≡ true
  as_many : eqb (length arities) n ≡ true
  each_low : all (λ a. leb a max_arity) arities ≡ true
  some_zero : any (λ a. eqb a 0) arities ≡ true

symbols_tests : (n : ℕ) (arities : List ℕ) → symbols_right n arities ≡ true → SymbolsRight n arities
unfolding symbols_right
symbols_tests n arities e =
    let low : Bool = all (λ a. leb a max_arity) arities in
    let (abcd, has) = and_true (leb 1 n && leb n max_symbols && eqb (length arities) n && low) (any (λ a. eqb a 0) arities) e in
    let (abc, each) = and_true (leb 1 n && leb n max_symbols && eqb (length arities) n) low abcd in
    let (ab, same) = and_true (leb 1 n && leb n max_symbols) (eqb (length arities) n) abc in
    let (a, b) = and_true (leb 1 n) (leb n max_symbols) ab in
    record { at_least = a; at_most = b; as_many = same; each_low = each; some_zero = has }

pub symbols_counted : (n : ℕ) (arities : List ℕ) → symbols_right n arities ≡ true → length arities ≡ n
symbols_counted n arities e = eqb-true (length arities) n (symbols_tests n arities e).as_many

symbols_valid : (n : ℕ) (arities : List ℕ) → symbols_right n arities ≡ true → ValidSymbols arities
symbols_valid n arities e =
    let t = symbols_tests n arities e in
    let (i, x, at, is_zero) = any_true (λ a. eqb a 0) arities t.some_zero in
    let len : length arities ≡ n = symbols_counted n arities e in
    record {
      some_symbol = omega (arith, leb-true 1 n t.at_least);
      few_symbols = omega (arith, leb-true n max_symbols t.at_most);
      low_arities = every_map (λ a h. leb-true a max_arity h) arities (all_true (λ a. leb a max_arity) arities t.each_low);
      constant = i;
      a_constant = at ∙ ap some (eqb-true x 0 is_zero);
    }

abbrev no_tasks : List ℕ → Sheet
no_tasks arities = record { arities = arities; equations = []; tasks = [] }

-- What holds of a state between two lines.
abbrev pub ValidState : State → Type 0
ValidState start = Unit {0}
ValidState (within s) = Valid s

symbols_kept : (bs : List ℕ) (state : State) → symbols_body bs ≡ give state → ValidState state
unfolding symbols_body
symbols_kept [] state e = let z : ◌≡◌ {A = ℕ} 0 1 = cc in absurd (omega arith)
symbols_kept (n ∷ arities) state e = go (symbols_right n arities) refl e
  where
    go : (t : Bool) → symbols_right n arities ≡ t
        → ◌≡◌ {A = Result State} (elim t [ true ↦ give (within (no_tasks arities)) | false ↦ refuse symbol_frame ]) (give state) → ValidState state
    go true d e =
        let x : within (no_tasks arities) ≡ state = cc in
        subst ValidState x (record { symbols = symbols_valid n arities d; equations = tt; few_equations = omega arith; tasks = tt; few_tasks = omega arith })
    go false d e = let z : ◌≡◌ {A = ℕ} 0 1 = cc in absurd (omega arith)

-- 2. An equation: there is no task yet, so no task can lose its equation.
pub no_length : {A : Type 0} (xs : List A) → length xs ≡ 0 → xs ≡ []
no_length [] e = refl
no_length (x ∷ xs) e = absurd (omega arith)

equation_kept : (s : Sheet) (e : Equation) → Valid s → takes_equation s ≡ true → ValidEquation s.arities e → ValidState (with_equation s e)
unfolding takes_equation with_equation
equation_kept s e v t ve =
    let (a, b) = and_true (eqb (length s.tasks) 0) (ltb (length s.equations) max_equations) t in
    let none : s.tasks ≡ [] = no_length s.tasks (eqb-true (length s.tasks) 0 a) in
    record {
      symbols = v.symbols;
      equations = every_append (ValidEquation s.arities) s.equations (e ∷ []) v.equations (ve, tt);
      few_equations = omega (arith, ltb-true (length s.equations) max_equations b, length-append s.equations (e ∷ []));
      tasks = subst (Every (ValidTask s.arities (s.equations ++ (e ∷ [])))) (sym none) tt;
      few_tasks = v.few_tasks;
    }

-- 3. The tasks.
task_kept : (s : Sheet) (t : Task) → Valid s → takes_task s ≡ true → ValidTask s.arities s.equations t → ValidState (with_task s t)
unfolding takes_task with_task
task_kept s t v k vt =
    let (a, b) = and_true (leb 1 (length s.equations)) (ltb (length s.tasks) max_tasks) k in
    record {
      symbols = v.symbols;
      equations = v.equations;
      few_equations = v.few_equations;
      tasks = every_append (ValidTask s.arities s.equations) s.tasks (t ∷ []) v.tasks (vt, tt);
      few_tasks = omega (arith, ltb-true (length s.tasks) max_tasks b, length-append s.tasks (t ∷ []));
    }

module _ (s : Sheet) (v : Valid s) where
  abbrev TaskGiven : Task → Type 0
  TaskGiven t = ValidTask s.arities s.equations t

  one_ground : (ts : Terms) → count ts ≡ 1 → Grounds s.arities ts → sizes ts ≤ max_task_nodes
      → Ground s.arities (first_term ts) × (size (first_term ts) ≤ max_task_nodes)
  unfolding size
  one_ground ts c g l =
      let e : ts ≡ cons (first_term ts) nil = one_term ts c in
      let h : Grounds s.arities (cons (first_term ts) nil) = subst (Grounds s.arities) e g in
      (h.0, omega (arith, ap sizes e))

  run_given : (bs : List ℕ) (t : Task) → Bytes bs → run_body s bs ≡ give t → TaskGiven t
  unfolding run_body
  run_given [] t small e = let z : ◌≡◌ {A = ℕ} 0 1 = cc in absurd (omega arith)
  run_given (k ∷ bs) t small e =
      let (ts, x, y) = mapped (λ ts. run k (first_term ts)) (ground_terms s.arities 1 bs) t e in
      let g = ground_terms_given s.arities v.symbols.few_symbols 1 bs ts x in
      let (h, l) = one_ground ts g.counted g.grounded g.few in
      subst TaskGiven y (small.0, h, l)

  judgement_given : (bs : List ℕ) (t : Task) → judgement_body s bs ≡ give t → TaskGiven t
  unfolding judgement_body values_body
  judgement_given [] t e = let z : ◌≡◌ {A = ℕ} 0 1 = cc in absurd (omega arith)
  judgement_given (n ∷ []) t e = let z : ◌≡◌ {A = ℕ} 0 1 = cc in absurd (omega arith)
  judgement_given (n ∷ d ∷ bs) t e = go (entry s.equations n) (direction_of d) refl e
    where
      go : (q : Option Equation) (o : Option Direction) → entry s.equations n ≡ q → values_body s n q o bs ≡ give t → TaskGiven t
      go none o i e = let z : ◌≡◌ {A = ℕ} 0 1 = cc in absurd (omega arith)
      go (some q) none i e = let z : ◌≡◌ {A = ℕ} 0 1 = cc in absurd (omega arith)
      go (some q) (some o) i e =
          let (ts, x, y) = mapped (λ ts. judgement n o ts) (ground_terms s.arities (equation_width q) bs) t e in
          let g = ground_terms_given s.arities v.symbols.few_symbols (equation_width q) bs ts x in
          subst TaskGiven y (q, i, g.counted, g.grounded, g.few)

  comparison_given : (bs : List ℕ) (t : Task) → comparison_body s bs ≡ give t → TaskGiven t
  unfolding comparison_body size
  comparison_given bs t e =
      let (ts, x, y) = mapped (λ ts. comparison (first_term ts) (second_term ts)) (ground_terms s.arities 2 bs) t e in
      let g = ground_terms_given s.arities v.symbols.few_symbols 2 bs ts x in
      let d : ts ≡ cons (first_term ts) (cons (second_term ts) nil) = two_terms ts g.counted in
      let h : Grounds s.arities (cons (first_term ts) (cons (second_term ts) nil)) = subst (Grounds s.arities) d g.grounded in
      subst TaskGiven y (h.0, h.1.0, omega (arith, ap sizes d, g.few))

-- 4. A frame, a line, all lines.
body_kept : (state next : State) (kind : FrameKind) (bs : List ℕ) → Bytes bs → ValidState state → in_order state kind ≡ true
    → read_body state kind bs ≡ give next → ValidState next
unfolding in_order read_body
body_kept start next kind bs small v o e = symbols_kept bs next e
body_kept (within s) next symbols_kind bs small v o e = let z : ◌≡◌ {A = ℕ} 0 1 = cc in absurd (omega arith)
body_kept (within s) next equation_kind bs small v o e =
    let (q, x, y) = mapped (with_equation s) (equation_body s.arities bs) next e in
    subst ValidState y (equation_kept s q v o (equation_given s.arities v.symbols.few_symbols bs q x).valid)
body_kept (within s) next run_kind bs small v o e =
    let (t, x, y) = mapped (with_task s) (run_body s bs) next e in
    subst ValidState y (task_kept s t v o (run_given s v bs t small x))
body_kept (within s) next judgement_kind bs small v o e =
    let (t, x, y) = mapped (with_task s) (judgement_body s bs) next e in
    subst ValidState y (task_kept s t v o (judgement_given s v bs t x))
body_kept (within s) next comparison_kind bs small v o e =
    let (t, x, y) = mapped (with_task s) (comparison_body s bs) next e in
    subst ValidState y (task_kept s t v o (comparison_given s v bs t x))
body_kept (within s) next unknown_kind bs small v o e = let z : ◌≡◌ {A = ℕ} 0 1 = cc in absurd (omega arith)

pub kind_kept : (state next : State) (kind : FrameKind) (bs : List ℕ) → Bytes bs → ValidState state → read_kind state kind bs ≡ give next → ValidState next
unfolding read_kind
kind_kept state next kind bs small v e = go (in_order state kind) refl e
  where
    go : (t : Bool) → in_order state kind ≡ t → ◌≡◌ {A = Result State} (elim t [ true ↦ read_body state kind bs | false ↦ refuse frame_order ]) (give next)
        → ValidState next
    go true o e = body_kept state next kind bs small v o e
    go false o e = let z : ◌≡◌ {A = ℕ} 0 1 = cc in absurd (omega arith)

frame_kept : (state next : State) (bs : List ℕ) → Bytes bs → ValidState state → read_frame state bs ≡ give next → ValidState next
unfolding read_frame
frame_kept state next [] small v e = let z : ◌≡◌ {A = ℕ} 0 1 = cc in absurd (omega arith)
frame_kept state next (b ∷ bs) small v e = kind_kept state next (kind_of b) bs small.1 v e

pub line_kept : (state next : State) (line : TextLine) → ValidState state → read_line state line ≡ give next → ValidState next
unfolding read_line
line_kept state next line v e = go (frame_of line) refl e
  where
    go : (o : Option (List ℕ)) → frame_of line ≡ o → ◌≡◌ {A = Result State} (elim o [ none ↦ refuse digits | some bs ↦ read_frame state bs ]) (give next)
        → ValidState next
    go none d e = let z : ◌≡◌ {A = ℕ} 0 1 = cc in absurd (omega arith)
    go (some bs) d e = frame_kept state next bs (frame_bytes_small line bs d) v e

-- What `finish` accepts has an equation.
finished : (state : State) (n : ℕ) (s : Sheet) → ValidState state → finish state n ≡ accepted s → Valid s × (1 ≤ length s.equations)
unfolding finish
finished start n s v e = let z : ◌≡◌ {A = ℕ} 0 1 = cc in absurd (omega arith)
finished (within r) n s v e = go (leb 1 (length r.equations)) refl e
  where
    go : (t : Bool) → leb 1 (length r.equations) ≡ t → ◌≡◌ {A = Reading Sheet} (elim t [ true ↦ accepted r | false ↦ refused_at frame_order n ]) (accepted s)
        → Valid s × (1 ≤ length s.equations)
    go true d e = let x : r ≡ s = cc in subst (λ s. Valid s × (1 ≤ length s.equations)) x (v, leb-true 1 (length r.equations) d)
    go false d e = let z : ◌≡◌ {A = ℕ} 0 1 = cc in absurd (omega arith)

lines_kept : (state : State) (n : ℕ) (rs : List TextLine) (s : Sheet) → ValidState state → read_lines state n rs ≡ accepted s
    → Valid s × (1 ≤ length s.equations)
unfolding read_lines
lines_kept state n [] s v e = finished state n s v e
lines_kept state n (line ∷ rs) s v e = go (λ next. lines_kept next (suc n) rs s) (read_line state line) refl e
  where
    go : ((next : State) → ValidState next → read_lines next (suc n) rs ≡ accepted s → Valid s × (1 ≤ length s.equations)) → (r : Result State)
        → read_line state line ≡ r
        → ◌≡◌ {A = Reading Sheet} (elim r [ refuse x ↦ refused_at x (suc n) | give next ↦ read_lines next (suc n) rs ]) (accepted s) → Valid s × (1 ≤ length s.equations)
    go ih (refuse x) d e = let z : ◌≡◌ {A = ℕ} 0 1 = cc in absurd (omega arith)
    go ih (give next) d e = ih next (line_kept state next line v d) e

-- An accepted sheet is valid, and has an equation.
pub accepted_valid : (text : List ℕ) (s : Sheet) → read text ≡ accepted s → Valid s × (1 ≤ length s.equations)
unfolding read
accepted_valid text s e = go (leb 1 (length text) && leb (length text) max_text) e
  where
    go : (t : Bool) → ◌≡◌ {A = Reading Sheet} (elim t [ true ↦ read_lines start 0 (lines_of text) | false ↦ refused_at text_length 0 ]) (accepted s)
        → Valid s × (1 ≤ length s.equations)
    go true e = lines_kept start 0 (lines_of text) s tt e
    go false e = let z : ◌≡◌ {A = ℕ} 0 1 = cc in absurd (omega arith)
