-- What the contracts of the code that reads terms cite.
use Rattle.std.specs.Prelude.{◌≡◌, ℕ, zero, suc, ◌+◌, ◌*◌, ◌≤◌, max, Bool, List, [], ◌∷◌, Ok, Err}
use Rattle.std.specs.Prelude.{Result as Outcome}
use Rattle.format.specs.Limits.{max_symbols, variable_count, max_task_nodes, max_byte}
use Rattle.format.specs.declared.kind.FrameKind.{FrameKind}
use Rattle.format.specs.declared.kind.FrameKind.TheVariants.{Symbols as symbols_kind, Equation as equation_kind, Run as run_kind, Judgement as judgement_kind, Comparison as comparison_kind, Unknown as unknown_kind}
use Rattle.format.specs.declared.refusal.Refusal.{Refusal}
use Rattle.format.specs.declared.refusal.Refusal.TheVariants.{FrameOrder}
use Rattle.format.specs.Refusal.{Result, refuse, give}
use Rattle.format.specs.declared.byte.Class.{Class}
use Rattle.format.specs.declared.byte.Class.TheVariants.{Symbol as symbol, Variable as variable, Foreign as foreign}
use Rattle.format.specs.Byte.{class_of}
use Rattle.scanning.specs.declared.known.Known.{Known}
use Rattle.scanning.specs.declared.scan.RefusedScan.{RefusedScan}
use Rattle.scanning.specs.declared.scan.Scanned.{Scanned}
use Rattle.scanning.specs.declared.scan.Wanted.{Wanted}
use Rattle.scanning.specs.declared.text.Span.{Span}
use Rattle.terms.specs.Term.{Terms}
use Rattle.terms.specs.Equation.{Equation}
use Rattle.sheet.specs.Sheet.{Task, Sheet, equation_width}
use Rattle.sheet.specs.Frame.{after_node, scan, all_read, equation_body, run_body, judgement_body, comparison_body}
use Rattle.scanning.specs.ForContracts.Digits.{bytes_between, span_bytes, BodyReady, SpanReady}

-- The first `n` entries of an array.
unfoldable pub listed : ℕ → List ℕ → List ℕ
listed zero xs = []
listed (suc n) [] = 0 ∷ listed n []
listed (suc n) (x ∷ xs) = x ∷ listed n xs

-- The arities of the symbols.
abbrev pub known_arities : Known → List ℕ
known_arities k = listed k.symbols k.arities

-- The most terms that can be to come: a node adds at most an arity's byte.
abbrev pub max_need : ℕ
max_need = variable_count + max_byte * max_task_nodes

-- How many variables there are up to the highest among node bytes.
abbrev pub node_width : Class → ℕ
node_width (symbol f) = 0
node_width (variable v) = suc v
node_width foreign = 0

unfoldable pub widest : List ℕ → ℕ
unfolding class_of
widest [] = 0
widest (b ∷ bs) = max (node_width (class_of b)) (widest bs)

-- A node that is no declared symbol is passed, or refused.
abbrev pub OtherRead : (arities : List ℕ) → (is_ground : Bool) → (b need : ℕ) → Outcome ℕ Refusal → Type 0
OtherRead arities is_ground b need (Ok w) = (after_node arities is_ground (class_of b) need ≡ give need) × (node_width (class_of b) ≡ w)
OtherRead arities is_ground b need (Err x) = after_node arities is_ground (class_of b) need ≡ refuse x

-- The digits are bytes, and the numbers are as small as those of a frame.
pub record ScanReady (text : List ℕ) (d : Span) (symbols : ℕ) (w : Wanted) : Type 0 where
  pub body : SpanReady text d
  pub few_symbols : symbols ≤ max_symbols
  pub few_terms : w.terms ≤ variable_count
  pub few_nodes : w.nodes ≤ max_task_nodes
  pub low_width : w.width ≤ variable_count

-- What the scan tells, where it stands, and the highest variable so far.
pub record ScanTo (text : List ℕ) (d : Span) (arities : List ℕ) (w : Wanted) (told : Result (List ℕ)) (r : Scanned) : Type 0 where
  pub given : scan arities w.is_ground (span_bytes text d) w.terms w.nodes ≡ told
  pub behind : BodyReady text r.at d.end
  pub widths : max w.width (widest (span_bytes text d)) ≡ max r.width (widest (bytes_between text r.at d.end))
  pub low_width : r.width ≤ variable_count

-- What the scan gives.
abbrev pub ScanRead : List ℕ → Span → List ℕ → Wanted → Outcome Scanned RefusedScan → Type 0
ScanRead text d arities w (Ok r) = ScanTo text d arities w (give (bytes_between text r.at d.end)) r
ScanRead text d arities w (Err r) = ScanTo text d arities w (refuse r.why) r.read

-- The digits are the bytes of a frame's body.
pub record FrameReady (text : List ℕ) (d : Span) (k : Known) : Type 0 where
  pub body : SpanReady text d
  pub few_symbols : k.symbols ≤ max_symbols

-- The reading gives or refuses as the definition does.
abbrev pub Matches : {A : Type 0} → Result A → Outcome (Unit {0}) Refusal → Type 0
Matches {A} r (Ok u) = (a : A) × (r ≡ give a)
Matches r (Err x) = r ≡ refuse x

-- What is wanted and nothing behind it, and the highest variable so far.
abbrev pub WholeScan : List ℕ → List ℕ → Wanted → Outcome ℕ Refusal → Type 0
WholeScan arities bs w (Ok highest) = (scan arities w.is_ground bs w.terms w.nodes ≡ give []) × (max w.width (widest bs) ≡ highest)
WholeScan arities bs w (Err x) = (ts : Terms) → all_read ts (scan arities w.is_ground bs w.terms w.nodes) ≡ refuse x

-- An equation, and how many variables there are up to its highest.
abbrev pub EquationGiven : List ℕ → List ℕ → Outcome ℕ Refusal → Type 0
EquationGiven arities bs (Ok width) = (e : Equation) × (equation_body arities bs ≡ give e) × (equation_width e ≡ width)
EquationGiven arities bs (Err x) = equation_body arities bs ≡ refuse x

-- A task's body by its kind.
unfoldable pub task_result : Sheet → FrameKind → List ℕ → Result Task
unfolding run_body judgement_body comparison_body
task_result s symbols_kind bs = refuse FrameOrder
task_result s equation_kind bs = refuse FrameOrder
task_result s run_kind bs = run_body s bs
task_result s judgement_kind bs = judgement_body s bs
task_result s comparison_kind bs = comparison_body s bs
task_result s unknown_kind bs = refuse FrameOrder
