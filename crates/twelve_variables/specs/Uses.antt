-- Texts that use only the first `few` variables of `few` + `extra` (document 02, W9: "A sheet that uses only 80 to 87").
use Rattle.std.specs.Prelude.{ℕ, ◌+◌, ◌≤◌, ◌<◌, ◌⊎◌, List, [], ◌∷◌}
use Rattle.std.proofs.Math.Option.{Option, none, some}
use Rattle.format.specs.Limits.{first_variable}
use Rattle.format.specs.Lists.{Every}
use Rattle.format.specs.Kind.{kind_of}
use Rattle.format.specs.declared.kind.FrameKind.{FrameKind}
use Rattle.format.specs.declared.kind.FrameKind.TheVariants.{Symbols as symbols_kind, Equation as equation_kind, Run as run_kind, Judgement as judgement_kind, Comparison as comparison_kind, Unknown as unknown_kind}
use Rattle.sheet.specs.Text.{lines_of, frame_of}

-- The bytes of a frame's body that stand for nodes: not a run's step limit, nor a judgement's equation and direction.
unfoldable pub node_bytes : FrameKind → List ℕ → List ℕ
node_bytes symbols_kind bs = []
node_bytes equation_kind bs = bs
node_bytes run_kind [] = []
node_bytes run_kind (k ∷ bs) = bs
node_bytes judgement_kind [] = []
node_bytes judgement_kind (e ∷ []) = []
node_bytes judgement_kind (e ∷ d ∷ bs) = bs
node_bytes comparison_kind bs = bs
node_bytes unknown_kind bs = []

module _ (few extra : ℕ) where
  -- A byte that is none of the `extra` new variables.
  abbrev pub Old : ℕ → Type 0
  Old b = (b < first_variable + few) ⊎ (first_variable + (few + extra) ≤ b)

  abbrev pub OldFrame : Option (List ℕ) → Type 0
  OldFrame none = Unit {0}
  OldFrame (some []) = Unit {0}
  OldFrame (some (b ∷ body)) = Every Old (node_bytes (kind_of b) body)

  -- No node byte of the text, left-over bytes of a frame included, is one of the `extra` new variables. The text may be refused, and have lines that are no frames.
  abbrev pub UsesOld : List ℕ → Type 0
  UsesOld text = Every (λ line. OldFrame (frame_of line)) (lines_of text)
