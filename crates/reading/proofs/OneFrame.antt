-- Laws for the code that reads one frame: the refusals of order, and what is known after it.
use Prim.Native.Nat.{ℕ, ◌+◌, ◌≤◌, ◌<◌}
use mathlib.Core.Path.{◌≡◌, refl, sym, ap, subst, ◌∙◌}
use mathlib.Core.Bool.{Bool, true, false, ◌&&◌}
use mathlib.Core.List.{List, [], ◌∷◌, ◌++◌, map}
use lib.ListN.{length, get_or, set, length-set, length-append}
use lib.Seq.{get_or-set_same}
use lib.Dec.{leb, ltb, eqb}
use borrow.Author.Tests.{le-leb, lt-leb, lt-ltb, le-ltb, eq-eqb, ne_eqb}
use native.Mathlib.Numerals.{add-one}
use native.Mathlib.Omega.{arith}
use Rattle.format.specs.Limits.{max_symbols, max_equations, max_tasks, variable_count, max_byte}
use Rattle.format.specs.Kind.{kind_of}
use Rattle.format.specs.declared.kind.FrameKind.{FrameKind}
use Rattle.format.specs.declared.kind.FrameKind.TheVariants.{Symbols as symbols_kind, Equation as equation_kind, Run as run_kind, Judgement as judgement_kind, Comparison as comparison_kind, Unknown as unknown_kind}
use Rattle.format.specs.Refusal.{Result, refuse, give, result_map}
use Rattle.format.specs.declared.refusal.Refusal.{Refusal}
use Rattle.format.specs.declared.refusal.Refusal.TheVariants.{FrameOrder}
use Rattle.terms.specs.Equation.{Equation}
use Rattle.scanning.specs.declared.text.Span.{Span}
use Rattle.scanning.specs.declared.known.Known.{Known}
use Rattle.std.specs.Prelude.{Ok, Err}
use Rattle.std.specs.Prelude.{Result as Outcome}
use Rattle.sheet.specs.Sheet.{Sheet, equation_width}
use Rattle.sheet.specs.Frame.{State, start, within, takes_equation, takes_task, in_order, equation_body, with_equation, with_task, read_body, read_kind, read_frame}
use Rattle.scanning.specs.ForContracts.Digits.{pair_at, bytes_between, span_bytes, BodyReady, SpanReady}
use Rattle.scanning.specs.ForContracts.Scan.{listed, known_arities, Matches, EquationGiven, task_result}
use Rattle.scanning.specs.ForContracts.Known.{KnowsSheet}
use Rattle.reading.specs.ForContracts.Symbols.{symbols_only, SymbolsRead}
use Rattle.reading.specs.ForContracts.Read.{Knows, FrameRead}
use Rattle.sheet.specs.ForContracts.Bytes.{Bytes}
use Rattle.scanning.specs.Theory.Listed.{length_listed, listed_more, listed_set}
use Rattle.scanning.specs.Theory.Between.{two_more, first_byte, byte_small, body_behind}
use Rattle.scanning.specs.Theory.Status.{matches_map}
use Rattle.sheet.specs.Theory.Width.{equation_width_low}
use Rattle.sheet.specs.Theory.Frame.{equation_given}
use Rattle.sheet.specs.Theory.Accepted.{kind_kept}

-- What a frame of a kind gives, by its order.
by_order : (state : State) (kind : FrameKind) (bs : List ℕ) → Bool → Result State
by_order state kind bs t = elim t [ true ↦ read_body state kind bs | false ↦ refuse FrameOrder ]

ordered : (state : State) (kind : FrameKind) (bs : List ℕ) → in_order state kind ≡ true → read_kind state kind bs ≡ read_body state kind bs
unfolding read_kind by_order
ordered state kind bs e = ap (by_order state kind bs) e

unordered : (state : State) (kind : FrameKind) (bs : List ℕ) → in_order state kind ≡ false → read_kind state kind bs ≡ refuse FrameOrder
unfolding read_kind by_order
unordered state kind bs e = ap (by_order state kind bs) e

and_false : (a : Bool) → (a && false) ≡ false
and_false true = refl
and_false false = refl

map_one : (es : List Equation) (e : Equation) → map equation_width (es ++ (e ∷ [])) ≡ map equation_width es ++ (equation_width e ∷ [])
map_one [] e = refl
map_one (x ∷ es) e = ap (equation_width x ∷◌) (map_one es e)

module _ (k : Known) (s : Sheet) (knows : KnowsSheet k s) where
  pub few_arities : k.symbols ≤ max_symbols
  few_arities = omega (arith, length_listed k.symbols k.arities, ap length knows.arities_are, knows.valid.symbols.few_symbols)

  pub some_symbols : k.symbols ≡ 0 → ⊥
  some_symbols e = omega (arith, length_listed k.symbols k.arities, ap length knows.arities_are, knows.valid.symbols.some_symbol)

  -- 1. An equation.
  pub width_given : (bs : List ℕ) (w : ℕ) → EquationGiven (known_arities k) bs (Ok w) → w ≤ variable_count
  width_given bs w g =
      let (e, x, y) = g in
      omega (arith, y, equation_width_low e (equation_given (known_arities k) (omega (arith, length_listed k.symbols k.arities, few_arities)) bs e x).valid.limits)

  no_equation : takes_equation s ≡ false → (bs : List ℕ) → read_kind (within s) equation_kind bs ≡ refuse FrameOrder
  unfolding in_order
  no_equation e bs = unordered (within s) equation_kind bs e

  pub after_tasks : 0 < k.tasks → (bs : List ℕ) → read_kind (within s) equation_kind bs ≡ refuse FrameOrder
  unfolding takes_equation
  after_tasks h = no_equation (ap (◌&& ltb (length s.equations) max_equations) (ne_eqb (length s.tasks) 0 (λ e. omega (arith, knows.tasks_are))))

  pub equations_full : max_equations ≤ k.equations → (bs : List ℕ) → read_kind (within s) equation_kind bs ≡ refuse FrameOrder
  unfolding takes_equation
  equations_full h = no_equation (ap (eqb (length s.tasks) 0 &&◌) (le-ltb (length s.equations) max_equations (omega (arith, knows.equations_are))) ∙ and_false (eqb (length s.tasks) 0))

  module _ (a : k.tasks ≤ 0) (b : k.equations < max_equations) where
    takes : takes_equation s ≡ true
    unfolding takes_equation
    takes =
        both (eqb (length s.tasks) 0) (ltb (length s.equations) max_equations) (eq-eqb (length s.tasks) 0 (omega (arith, knows.tasks_are)))
        (lt-ltb (length s.equations) max_equations (omega (arith, knows.equations_are)))
      where
        both : (x y : Bool) → x ≡ true → y ≡ true → (x && y) ≡ true
        both x y d e = ap (◌&& y) d ∙ e

    frame_is : (bs : List ℕ) → read_kind (within s) equation_kind bs ≡ result_map (with_equation s) (equation_body (known_arities k) bs)
    unfolding in_order read_body
    frame_is bs = ordered (within s) equation_kind bs takes ∙ ap (λ as'. result_map (with_equation s) (equation_body as' bs)) (sym knows.arities_are)

    pub equation_refused : (bs : List ℕ) {x : Refusal} → equation_body (known_arities k) bs ≡ refuse x → read_kind (within s) equation_kind bs ≡ refuse x
    unfolding result_map
    equation_refused bs e = frame_is bs ∙ ap (result_map (with_equation s)) e

    pub equation_done : (bs : List ℕ) → Bytes bs → (w : ℕ) → EquationGiven (known_arities k) bs (Ok w) → {more : Known}
        → more ≡ record { symbols = k.symbols; arities = k.arities; equations = k.equations + 1; widths = set k.widths k.equations w; tasks = k.tasks } → FrameRead (read_kind (within s) equation_kind bs) (Ok more)
    unfolding result_map with_equation
    equation_done bs small w g d =
        let (e, x, y) = g in
        let r : read_kind (within s) equation_kind bs ≡ give (with_equation s e) = frame_is bs ∙ ap (result_map (with_equation s)) x in
        (with_equation s e, r, subst (λ m. Knows m (with_equation s e)) (sym d) (known e r y))
      where
        known : (e : Equation) → read_kind (within s) equation_kind bs ≡ give (with_equation s e) → equation_width e ≡ w
            → KnowsSheet (record { symbols = k.symbols; arities = k.arities; equations = k.equations + 1; widths = set k.widths k.equations w; tasks = k.tasks })
            (record { arities = s.arities; equations = s.equations ++ (e ∷ []); tasks = s.tasks })
        known e r y = record {
          arities_are = knows.arities_are;
          equations_are = omega (arith, knows.equations_are, length-append s.equations (e ∷ []));
          widths_are =
              ap (λ m. listed m (set k.widths k.equations w)) (add-one k.equations)
              ∙ listed_more k.equations (set k.widths k.equations w)
              ∙ ap (◌++ (get_or (set k.widths k.equations w) k.equations 0 ∷ [])) (listed_set k.equations k.widths k.equations w (omega arith) ∙ knows.widths_are)
              ∙ ap (λ x. map equation_width s.equations ++ (x ∷ [])) (get_or-set_same k.widths k.equations w 0 (omega (arith, knows.roomy.widths_room)) ∙ sym y)
              ∙ sym (map_one s.equations e);
          tasks_are = knows.tasks_are;
          valid = kind_kept (within s) (with_equation s e) equation_kind bs small knows.valid r;
          roomy = record { arities_room = knows.roomy.arities_room; widths_room = length-set k.widths k.equations w ∙ knows.roomy.widths_room };
        }

  -- 2. A task.
  not_task : takes_task s ≡ false → (kind : FrameKind) → (kind ≡ equation_kind → ⊥) → in_order (within s) kind ≡ false
  unfolding in_order
  not_task e symbols_kind n = refl
  not_task e equation_kind n = absurd (n refl)
  not_task e run_kind n = e
  not_task e judgement_kind n = e
  not_task e comparison_kind n = e
  not_task e unknown_kind n = refl

  pub before_equations : k.equations ≡ 0 → (kind : FrameKind) → (kind ≡ equation_kind → ⊥) → (bs : List ℕ) → read_kind (within s) kind bs ≡ refuse FrameOrder
  unfolding takes_task
  before_equations h kind n bs =
      unordered (within s) kind bs
      (not_task (ap (◌&& ltb (length s.tasks) max_tasks) (lt-leb 1 (length s.equations) (omega (arith, knows.equations_are)))) kind n)

  pub tasks_full : max_tasks ≤ k.tasks → (kind : FrameKind) → (kind ≡ equation_kind → ⊥) → (bs : List ℕ) → read_kind (within s) kind bs ≡ refuse FrameOrder
  unfolding takes_task
  tasks_full h kind n bs = unordered (within s) kind bs (not_task (ap (leb 1 (length s.equations) &&◌) (le-ltb (length s.tasks) max_tasks (omega (arith, knows.tasks_are))) ∙ and_false (leb 1 (length s.equations))) kind n)

  module _ (a : k.equations ≡ 0 → ⊥) (b : k.tasks < max_tasks) (kind : FrameKind) (n : kind ≡ equation_kind → ⊥) where
    takes_one : takes_task s ≡ true
    unfolding takes_task
    takes_one =
        both (leb 1 (length s.equations)) (ltb (length s.tasks) max_tasks) (le-leb 1 (length s.equations) (omega (arith, knows.equations_are)))
        (lt-ltb (length s.tasks) max_tasks (omega (arith, knows.tasks_are)))
      where
        both : (x y : Bool) → x ≡ true → y ≡ true → (x && y) ≡ true
        both x y d e = ap (◌&& y) d ∙ e

    task_is : (bs : List ℕ) → read_kind (within s) kind bs ≡ result_map (with_task s) (task_result s kind bs)
    unfolding in_order read_body task_result result_map
    task_is bs = go kind n
      where
        go : (m : FrameKind) → (m ≡ equation_kind → ⊥) → read_kind (within s) m bs ≡ result_map (with_task s) (task_result s m bs)
        go symbols_kind n = unordered (within s) symbols_kind bs refl
        go equation_kind n = absurd (n refl)
        go run_kind n = ordered (within s) run_kind bs takes_one
        go judgement_kind n = ordered (within s) judgement_kind bs takes_one
        go comparison_kind n = ordered (within s) comparison_kind bs takes_one
        go unknown_kind n = unordered (within s) unknown_kind bs refl

    pub task_refused : (bs : List ℕ) {x : Refusal} → Matches (task_result s kind bs) (Err x) → read_kind (within s) kind bs ≡ refuse x
    task_refused bs {x} h = task_is bs ∙ matches_map (with_task s) (task_result s kind bs) (Err x) h

    pub task_done : (bs : List ℕ) → Bytes bs → Matches (task_result s kind bs) (Ok tt) → {more : Known}
        → more ≡ record { symbols = k.symbols; arities = k.arities; equations = k.equations; widths = k.widths; tasks = k.tasks + 1 } → FrameRead (read_kind (within s) kind bs) (Ok more)
    unfolding result_map with_task
    task_done bs small g d =
        let (t, x) = g in
        let r : read_kind (within s) kind bs ≡ give (with_task s t) = task_is bs ∙ ap (result_map (with_task s)) x in (
          with_task s t,
          r,
          subst (λ m. Knows m (with_task s t)) (sym d) (record {
            arities_are = knows.arities_are;
            equations_are = knows.equations_are;
            widths_are = knows.widths_are;
            tasks_are = omega (arith, knows.tasks_are, length-append s.tasks (t ∷ []));
            valid = kind_kept (within s) (with_task s t) kind bs small knows.valid r;
            roomy = record { arities_room = knows.roomy.arities_room; widths_room = knows.roomy.widths_room };
          }),
        )

-- 3. The first frame.
first_other : (kind : FrameKind) → (kind ≡ symbols_kind → ⊥) → in_order start kind ≡ false
unfolding in_order
first_other symbols_kind n = absurd (n refl)
first_other equation_kind n = refl
first_other run_kind n = refl
first_other judgement_kind n = refl
first_other comparison_kind n = refl
first_other unknown_kind n = refl

pub first_refused : (kind : FrameKind) → (kind ≡ symbols_kind → ⊥) → (bs : List ℕ) → read_kind start kind bs ≡ refuse FrameOrder
first_refused kind n bs = unordered start kind bs (first_other kind n)

no_entries : (xs : List ℕ) → listed 0 xs ≡ []
unfolding listed
no_entries xs = refl

symbols_first : (bs : List ℕ) → Bytes bs → (o : Outcome Known Refusal) → SymbolsRead bs o → FrameRead (read_kind start symbols_kind bs) o
unfolding in_order read_body
symbols_first bs small (Ok k) h =
    let r : read_kind start symbols_kind bs ≡ give (symbols_only (known_arities k)) = ordered start symbols_kind bs refl ∙ h.0 in (
      symbols_only (known_arities k),
      r,
      record {
        arities_are = refl;
        equations_are = h.1;
        widths_are = ap (λ n. listed n k.widths) h.1 ∙ no_entries k.widths;
        tasks_are = h.2;
        valid = kind_kept start (symbols_only (known_arities k)) symbols_kind bs small tt r;
        roomy = record { arities_room = h.3.arities_room; widths_room = h.3.widths_room };
      },
    )
symbols_first bs small (Err x) h = ordered start symbols_kind bs refl ∙ h

pub first_symbols : {kind : FrameKind} → kind ≡ symbols_kind → (bs : List ℕ) → Bytes bs → (o : Outcome Known Refusal) → SymbolsRead bs o
    → FrameRead (read_kind start kind bs) o
first_symbols e bs small o h = subst (λ kind. FrameRead (read_kind start kind bs) o) (sym e) (symbols_first bs small o h)

-- 4. A frame of digits.
module _ (text : List ℕ) (d : Span) (b : SpanReady text d) (some : d.from < d.end) where
  more : d.from ≡ d.end → ⊥
  more e = omega arith

  pub line_inside : d.from + 2 ≤ length text
  line_inside = omega (arith, two_more text d.from d.end b more, b.inside)

  pub kind_small : pair_at text d.from ≤ max_byte
  kind_small = byte_small text d.from d.end b more

  pub line_behind : BodyReady text (d.from + 2) d.end
  line_behind = body_behind text d.from d.end b more

  -- The kind that the first byte says, and the state that is known.
  module _ (k₀ : Known) {kind : FrameKind} (e : kind ≡ kind_of (pair_at text d.from)) where
    abbrev body_bytes : List ℕ
    body_bytes = bytes_between text (d.from + 2) d.end

    by_kind : (state : State) → read_kind state kind body_bytes ≡ read_frame state (span_bytes text d)
    unfolding read_frame
    by_kind state = ap (λ k. read_kind state k body_bytes) e ∙ ap (read_frame state) (sym (first_byte text d.from d.end b more))

    pub read_first : k₀.symbols ≡ 0 → (o : Outcome Known Refusal) → FrameRead (read_kind start kind body_bytes) o → (state : State) → Knows k₀ state
        → FrameRead (read_frame state (span_bytes text d)) o
    read_first z o h start g = subst (λ r. FrameRead r o) (by_kind start) h
    read_first z o h (within s) g = absurd (some_symbols k₀ s g z)

    pub read_later : (k₀.symbols ≡ 0 → ⊥) → {n : FrameKind} → kind ≡ n → (o : Outcome Known Refusal)
        → ((s : Sheet) → KnowsSheet k₀ s → FrameRead (read_kind (within s) n body_bytes) o)
        → (state : State) → Knows k₀ state → FrameRead (read_frame state (span_bytes text d)) o
    read_later z x o h start g = absurd (z g.0)
    read_later z x o h (within s) g = subst (λ r. FrameRead r o) (ap (λ n. read_kind (within s) n body_bytes) (sym x) ∙ by_kind (within s)) (h s g)

-- The sheet so far, where symbols are known.
pub known_sheet : (k : Known) → (k.symbols ≡ 0 → ⊥) → (state : State) × Knows k state → (s : Sheet) × KnowsSheet k s
known_sheet k z g = go g.0 g.1
  where
    go : (state : State) → Knows k state → (s : Sheet) × KnowsSheet k s
    go start h = absurd (z h.0)
    go (within s) h = (s, h)
