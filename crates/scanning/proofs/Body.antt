-- Laws for the bodies of frames: a scan with nothing behind it, an equation's two sides, and its highest variable.
use Rattle.std.proofs.Common.{◌≡◌, ℕ, ◌≤◌, max, false, List, [], ◌∷◌, ◌++◌, length, refl, ap, ◌∙◌, subst, arith}
use Rattle.std.specs.Prelude.{Ok, Err}
use Rattle.std.specs.Prelude.{Result as Outcome}
use Rattle.format.specs.Limits.{max_symbols, max_side_nodes}
use Rattle.format.specs.Refusal.{Result, refuse, give, result_map}
use Rattle.format.specs.declared.refusal.Refusal.{Refusal}
use Rattle.format.specs.declared.refusal.Refusal.TheVariants.{FrameBytes}
use Rattle.format.specs.Theory.Byte.{symbol_class, variable_class}
use Rattle.terms.specs.Term.{Term, Terms, var, app, nil, cons}
use Rattle.terms.specs.Equation.{Equation}
use Rattle.terms.specs.Prefix.{prefix, prefixes, terms_of}
use Rattle.terms.specs.ForContracts.Fits.{AllFit, Fits}
use Rattle.scanning.specs.declared.scan.Scanned.{Scanned}
use Rattle.scanning.specs.declared.scan.Wanted.{Wanted}
use Rattle.scanning.specs.declared.text.Span.{Span}
use Rattle.scanning.specs.declared.known.Known.{Known}
use Rattle.sheet.specs.Sheet.{width, widths, equation_width}
use Rattle.sheet.specs.Frame.{scan, all_read, scan_sides, first_term, second_term, equation_body}
use Rattle.scanning.specs.ForContracts.Digits.{bytes_between, span_bytes}
use Rattle.scanning.specs.ForContracts.Scan.{known_arities, widest, FrameReady, ScanRead, WholeScan, EquationGiven}
use Rattle.scanning.specs.Theory.Listed.{length_listed}
use Rattle.scanning.specs.Theory.Between.{between_end, first_byte}
use Rattle.sheet.specs.Theory.Frame.{equation_given}

-- 1. A scan, and what is left behind it.
module _ (text : List ℕ) (d : Span) (arities : List ℕ) (w : Wanted) where
  abbrev scan_result : Result (List ℕ)
  scan_result = scan arities w.is_ground (span_bytes text d) w.terms w.nodes

  pub refused_read : {x : Refusal} → scan_result ≡ refuse x → (ts : Terms) → all_read ts scan_result ≡ refuse x
  unfolding all_read
  refused_read e ts = ap (all_read ts) e

  module _ (r : Scanned) (g : ScanRead text d arities w (Ok r)) where
    pub done_whole : r.at ≡ d.end → scan_result ≡ give []
    done_whole h = g.given ∙ ap give (between_end text r.at d.end (omega arith))

    pub left_over : (r.at ≡ d.end → ⊥) → (ts : Terms) → all_read ts scan_result ≡ refuse FrameBytes
    unfolding all_read
    left_over n ts = ap (all_read ts) (g.given ∙ ap give (first_byte text r.at d.end g.behind n))

    pub done_width : r.at ≡ d.end → max w.width (widest (span_bytes text d)) ≡ r.width
    unfolding widest
    done_width h = g.widths ∙ ap (λ bs. max r.width (widest bs)) (between_end text r.at d.end (omega arith)) ∙ omega arith

-- 2. The two sides of an equation.
after_left : (arities : List ℕ) → Result (List ℕ) → Result (List ℕ)
after_left arities r = elim r [ refuse x ↦ refuse x | give rest ↦ scan arities false rest 1 max_side_nodes ]

pub sides_refused : (arities bs : List ℕ) {x : Refusal} → scan arities false bs 1 max_side_nodes ≡ refuse x → equation_body arities bs ≡ refuse x
unfolding equation_body scan_sides all_read result_map after_left
sides_refused arities bs e = ap (λ r. result_map (λ ts. let q : Equation = record { left = first_term ts; right = second_term ts } in q) (all_read (terms_of arities bs) (after_left arities r))) e

sides_second : (arities bs rest : List ℕ) → scan arities false bs 1 max_side_nodes ≡ give rest
    → scan_sides arities bs ≡ scan arities false rest 1 max_side_nodes
unfolding scan_sides after_left
sides_second arities bs rest e = ap (after_left arities) e

pub second_refused : (arities bs rest : List ℕ) {x : Refusal} → scan arities false bs 1 max_side_nodes ≡ give rest
    → ((ts : Terms) → all_read ts (scan arities false rest 1 max_side_nodes) ≡ refuse x)
    → equation_body arities bs ≡ refuse x
unfolding equation_body result_map
second_refused arities bs rest e h = rw (sides_second arities bs rest e, h (terms_of arities bs))

second_read : (arities bs rest : List ℕ) → scan arities false bs 1 max_side_nodes ≡ give rest → scan arities false rest 1 max_side_nodes ≡ give []
    → (e : Equation) × (equation_body arities bs ≡ give e)
unfolding equation_body result_map all_read
second_read arities bs rest d e = (record { left = first_term (terms_of arities bs); right = second_term (terms_of arities bs) }, rw (sides_second arities bs rest d, e))

-- 3. The highest variable of an equation is that of its bytes.
widest_append : (xs ys : List ℕ) → widest (xs ++ ys) ≡ max (widest xs) (widest ys)
unfolding widest
widest_append [] ys = omega arith
widest_append (x ∷ xs) ys = omega (arith, widest_append xs ys)

module _ (arities : List ℕ) (known : length arities ≤ max_symbols) where
  mutual
    unfolding widest prefix width

    width_spelled : (t : Term) → Fits arities t → widest (prefix t) ≡ width t
    width_spelled (var v) h = rw (variable_class v h) (omega arith)
    width_spelled (app f ts) h = let e = symbol_class f (omega (arith, h.0)) in rw e (omega (arith, widths_spelled ts h.2))

    widths_spelled : (ts : Terms) → AllFit arities ts → widest (prefixes ts) ≡ widths ts
    widths_spelled nil h = refl
    widths_spelled (cons t ts) h = widest_append (prefix t) (prefixes ts) ∙ omega (arith, width_spelled t h.0, widths_spelled ts h.1)

  pub equation_width_read : (bs : List ℕ) (e : Equation) → equation_body arities bs ≡ give e → equation_width e ≡ widest bs
  unfolding equation_width
  equation_width_read bs e d =
      let r = equation_given arities known bs e d in
      omega (arith, ap widest r.spelled, widest_append (prefix e.left) (prefix e.right), width_spelled e.left r.valid.left_fits, width_spelled e.right r.valid.right_fits)

  -- Both sides are done.
  pub sides_done : (text : List ℕ) (from at end w highest : ℕ)
      → scan arities false (bytes_between text from end) 1 max_side_nodes ≡ give (bytes_between text at end)
      → scan arities false (bytes_between text at end) 1 max_side_nodes ≡ give [] → max 0 (widest (bytes_between text from end)) ≡ max w (widest (bytes_between text at end))
      → max w (widest (bytes_between text at end)) ≡ highest → EquationGiven arities (bytes_between text from end) (Ok highest)
  sides_done text from at end w highest d e i j =
      let (q, x) = second_read arities (bytes_between text from end) (bytes_between text at end) d e in
      (q, x, omega (arith, equation_width_read (bytes_between text from end) q x))

-- 4. What the equation's code puts together: the left side's scan, and what is known of the right side.
abbrev pub one_side : ℕ → Wanted
one_side width = record { terms = 1; nodes = max_side_nodes; is_ground = false; width = width }

pub equation_read : (text : List ℕ) (d : Span) (k : Known) → FrameReady text d k → {v : Wanted} → v ≡ one_side 0 → (l : Scanned)
    → ScanRead text d (known_arities k) v (Ok l)
    → {w : Wanted} → w ≡ one_side l.width → (r : Outcome ℕ Refusal) → WholeScan (known_arities k) (bytes_between text l.at d.end) w r
    → EquationGiven (known_arities k) (span_bytes text d) r
equation_read text d k f {v} a l g {w} b r h = go r (subst (λ w. WholeScan (known_arities k) (bytes_between text l.at d.end) w r) b h)
  where
    few : length (known_arities k) ≤ max_symbols
    few = omega (arith, length_listed k.symbols k.arities, f.few_symbols)

    side : ScanRead text d (known_arities k) (one_side 0) (Ok l)
    side = subst (λ v. ScanRead text d (known_arities k) v (Ok l)) a g

    go : (o : Outcome ℕ Refusal) → WholeScan (known_arities k) (bytes_between text l.at d.end) (one_side l.width) o
        → EquationGiven (known_arities k) (span_bytes text d) o
    go (Ok w) h = sides_done (known_arities k) few text d.from l.at d.end l.width w side.given h.0 side.widths h.1
    go (Err x) h = second_refused (known_arities k) (span_bytes text d) (bytes_between text l.at d.end) side.given h
