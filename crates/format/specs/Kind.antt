-- The kinds of frames (document 01, 'The sheet') and their bytes.
use Rattle.std.specs.Prelude.{ℕ, true, false, List, [], ◌∷◌, eqb}
pub use Rattle.format.specs.declared.kind.FrameKind.{FrameKind}
pub use Rattle.format.specs.declared.kind.FrameKind.TheVariants.{Symbols as symbols_kind, Equation as equation_kind, Run as run_kind, Judgement as judgement_kind, Comparison as comparison_kind, Unknown as unknown_kind}

-- "A line is one frame; its first byte is the kind."
abbrev pub kind_byte : FrameKind → ℕ
-- "01: count n (1 to 16), then n arities"
kind_byte symbols_kind = 0x01
-- "02: an equation"
kind_byte equation_kind = 0x02
-- "03: a run"
kind_byte run_kind = 0x03
-- "04: a judgement"
kind_byte judgement_kind = 0x04
-- "05: two ground terms to compare"
kind_byte comparison_kind = 0x05
-- Not met: no frame of a sheet is of unknown kind.
kind_byte unknown_kind = 0x00

-- The kind among these whose byte it is: "3, unknown kind".
unfoldable pub kind_among : List FrameKind → ℕ → FrameKind
kind_among [] b = unknown_kind
kind_among (k ∷ ks) b = elim (eqb b (kind_byte k)) [ true ↦ k | false ↦ kind_among ks b ]

abbrev pub kinds : List FrameKind
kinds = symbols_kind ∷ equation_kind ∷ run_kind ∷ judgement_kind ∷ comparison_kind ∷ []

unfoldable pub kind_of : ℕ → FrameKind
unfolding kind_among
kind_of b = kind_among kinds b
