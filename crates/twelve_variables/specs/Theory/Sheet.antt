-- The equations of a sheet that is accepted with `few` variables: their variables are numbered below `few`, and their sides have at most 32 nodes.
use Prim.Native.Nat.{ℕ, zero, suc, ◌<◌}
use Rattle.std.specs.Prelude.{◌≡◌, Bool, ◌&&◌, length}
use Rattle.std.proofs.Math.Path.{refl}
use Rattle.std.proofs.Math.Bool.{true, false}
use Rattle.std.proofs.Math.Option.{Option, none, some}
use mathlib.Core.List.{List, [], ◌∷◌}
use Rattle.std.proofs.Math.Dec.{leb}
use Rattle.format.specs.Limits.{max_text}
use Rattle.format.specs.Refusal.{Result, refuse, give, result_map}
use Rattle.format.specs.declared.refusal.Refusal.TheVariants.{TextLength as text_length, Digits as digits, FrameOrder as frame_order, SymbolFrame as symbol_frame}
use Rattle.format.specs.declared.byte.Class.{Class}
use Rattle.format.specs.declared.byte.Class.TheVariants.{Symbol as symbol, Variable as variable, Foreign as foreign}
use Rattle.format.specs.Kind.{kind_of}
use Rattle.format.specs.declared.kind.FrameKind.{FrameKind}
use Rattle.format.specs.declared.kind.FrameKind.TheVariants.{Symbols as symbols_kind, Equation as equation_kind, Run as run_kind, Judgement as judgement_kind, Comparison as comparison_kind, Unknown as unknown_kind}
use Rattle.format.specs.Byte.{class_of_with}
use Rattle.format.specs.Lists.{Every}
use Rattle.format.specs.Theory.Byte.{class_variable_with}
use Rattle.format.specs.Theory.Lists.{every_append}
use Rattle.terms.specs.Term.{Terms, var, nil, cons, nth, arity}
use Rattle.terms.specs.Equation.{Equation}
use Rattle.terms.specs.Prefix.{take_terms, drop_terms, put_node, terms_of_with}
use Rattle.terms.specs.ForContracts.Limits.{VariablesBelow, AllVariablesBelow}
use Rattle.sheet.specs.Sheet.{Task, Sheet}
use Rattle.sheet.specs.Text.{TextLine, lines_of, frame_of}
use Rattle.sheet.specs.Frame.{State, start, within, in_order, symbols_right, symbols_body, all_read, first_term, second_term, with_equation, with_task, scan_sides_with, equation_body_with, run_body_with, judgement_body_with, comparison_body_with, read_body_with, read_frame_with}
use Rattle.sheet.specs.Reading.{Reading, refused_at, accepted, finish, read_line_with, read_lines_with, read_with}
use Rattle.twelve_variables.specs.Theory.Few.{Few}
use Rattle.twelve_variables.specs.Theory.Scan.{sides_small}

module _ (few : ℕ) (positive : 0 < few) where
  take_low : (n : ℕ) (ts : Terms) → AllVariablesBelow few ts → AllVariablesBelow few (take_terms n ts)
  unfolding take_terms
  take_low zero ts h = tt
  take_low (suc n) nil h = tt
  take_low (suc n) (cons t ts) h = (h.0, take_low n ts h.1)

  drop_low : (n : ℕ) (ts : Terms) → AllVariablesBelow few ts → AllVariablesBelow few (drop_terms n ts)
  unfolding drop_terms
  drop_low zero ts h = h
  drop_low (suc n) nil h = tt
  drop_low (suc n) (cons t ts) h = drop_low n ts h.1

  put_low : (arities : List ℕ) (c : Class) (ts : Terms) → ((v : ℕ) → c ≡ variable v → v < few) → AllVariablesBelow few ts → AllVariablesBelow few (put_node arities c ts)
  unfolding put_node
  put_low arities (symbol f) ts k h = (take_low (arity arities f) ts h, drop_low (arity arities f) ts h)
  put_low arities (variable v) ts k h = (k v refl, h)
  put_low arities foreign ts k h = h

  terms_low : (arities bs : List ℕ) → AllVariablesBelow few (terms_of_with few arities bs)
  unfolding terms_of_with
  terms_low arities [] = tt
  terms_low arities (b ∷ bs) = put_low arities (class_of_with few b) (terms_of_with few arities bs) (λ v e. (class_variable_with few b v e).1) (terms_low arities bs)

  nth_low : (ts : Terms) (i : ℕ) → AllVariablesBelow few ts → VariablesBelow few (nth ts i (var 0))
  unfolding nth
  nth_low nil i h = positive
  nth_low (cons t ts) zero h = h.0
  nth_low (cons t ts) (suc i) h = nth_low ts i h.1

  abbrev FewState : State → Type 0
  FewState start = Unit {0}
  FewState (within s) = Every (Few few) s.equations

  abbrev Keeps : Result State → Type 0
  Keeps (refuse r) = Unit {0}
  Keeps (give next) = FewState next

  equation_keeps : (s : Sheet) (bs : List ℕ) → FewState (within s) → Keeps (result_map (with_equation s) (equation_body_with few s.arities bs))
  unfolding equation_body_with with_equation
  equation_keeps s bs l = go (scan_sides_with few s.arities bs) refl
    where
      ts : Terms
      ts = terms_of_with few s.arities bs

      read : Equation
      read = record { left = first_term ts; right = second_term ts }

      read_few : scan_sides_with few s.arities bs ≡ give [] → Few few read
      read_few e =
          let low = terms_low s.arities bs in
          let (a, b) = sides_small few s.arities bs e in
          record { left_variables = nth_low ts 0 low; right_variables = nth_low ts 1 low; left_size = a; right_size = b }

      go : (o : Result (List ℕ)) → scan_sides_with few s.arities bs ≡ o → Keeps (result_map (with_equation s) (result_map (λ ts. record { left = first_term ts; right = second_term ts }) (all_read ts o)))
      go (refuse r) e = tt
      go (give []) e = every_append (Few few) s.equations (read ∷ []) l (read_few e, tt)
      go (give (c ∷ cs)) e = tt

  task_keeps : (s : Sheet) (r : Result Task) → FewState (within s) → Keeps (result_map (with_task s) r)
  unfolding result_map with_task
  task_keeps s (refuse r) l = tt
  task_keeps s (give t) l = l

  symbols_keeps : (bs : List ℕ) → Keeps (symbols_body bs)
  unfolding symbols_body
  symbols_keeps [] = tt
  symbols_keeps (n ∷ arities) = go (symbols_right n arities)
    where
      go : (t : Bool) → Keeps (elim t as (λ x. Result State) [ true ↦ give (within (record { arities = arities; equations = []; tasks = [] })) | false ↦ refuse symbol_frame ])
      go true = tt
      go false = tt

  body_keeps : (state : State) (kind : FrameKind) (bs : List ℕ) → FewState state → Keeps (read_body_with few state kind bs)
  unfolding read_body_with
  body_keeps start kind bs l = symbols_keeps bs
  body_keeps (within s) symbols_kind bs l = tt
  body_keeps (within s) equation_kind bs l = equation_keeps s bs l
  body_keeps (within s) run_kind bs l = task_keeps s (run_body_with few s bs) l
  body_keeps (within s) judgement_kind bs l = task_keeps s (judgement_body_with few s bs) l
  body_keeps (within s) comparison_kind bs l = task_keeps s (comparison_body_with few s bs) l
  body_keeps (within s) unknown_kind bs l = tt

  frame_keeps : (state : State) (bs : List ℕ) → FewState state → Keeps (read_frame_with few state bs)
  unfolding read_frame_with
  frame_keeps state [] l = tt
  frame_keeps state (kind ∷ body) l = go (in_order state (kind_of kind))
    where
      go : (t : Bool) → Keeps (elim t as (λ x. Result State) [ true ↦ read_body_with few state (kind_of kind) body | false ↦ refuse frame_order ])
      go true = body_keeps state (kind_of kind) body l
      go false = tt

  line_keeps : (state : State) (line : TextLine) → FewState state → Keeps (read_line_with few state line)
  unfolding read_line_with
  line_keeps state line l = go (frame_of line)
    where
      go : (o : Option (List ℕ)) → Keeps (elim o as (λ x. Result State) [ none ↦ refuse digits | some bs ↦ read_frame_with few state bs ])
      go none = tt
      go (some bs) = frame_keeps state bs l

  abbrev pub FewSheet : Reading Sheet → Type 0
  FewSheet (refused_at r n) = Unit {0}
  FewSheet (accepted s) = Every (Few few) s.equations

  finish_few : (state : State) (n : ℕ) → FewState state → FewSheet (finish state n)
  unfolding finish
  finish_few start n l = tt
  finish_few (within s) n l = go (leb 1 (length s.equations))
    where
      go : (t : Bool) → FewSheet (elim t as (λ x. Reading Sheet) [ true ↦ accepted s | false ↦ refused_at frame_order n ])
      go true = l
      go false = tt

  lines_few : (state : State) (n : ℕ) (more : List TextLine) → FewState state → FewSheet (read_lines_with few state n more)
  unfolding read_lines_with
  lines_few state n [] l = finish_few state n l
  lines_few state n (line ∷ more) l = go (λ next. lines_few next (suc n) more) (read_line_with few state line) (line_keeps state line l)
    where
      go : ((next : State) → FewState next → FewSheet (read_lines_with few next (suc n) more)) → (r : Result State) → Keeps r
          → FewSheet (elim r as (λ x. Reading Sheet) [ refuse x ↦ refused_at x (suc n) | give next ↦ read_lines_with few next (suc n) more ])
      go ih (refuse x) k = tt
      go ih (give next) k = ih next k

  pub read_few : (text : List ℕ) → FewSheet (read_with few text)
  unfolding read_with
  read_few text = go (leb 1 (length text) && leb (length text) max_text)
    where
      go : (t : Bool) → FewSheet (elim t as (λ x. Reading Sheet) [ true ↦ read_lines_with few start 0 (lines_of text) | false ↦ refused_at text_length 0 ])
      go true = lines_few start 0 (lines_of text) tt
      go false = tt
