-- The conversion gives the kind whose byte it is: each arm's number is a kind's byte.
use Prim.Native.Nat.{ℕ}
use mathlib.Core.Path.{◌≡◌, sym, ap, ◌∙◌}
use Rattle.format.specs.Kind.{FrameKind, symbols_kind, equation_kind, run_kind, judgement_kind, comparison_kind, kind_byte, kind_of}
use Rattle.format.specs.Theory.Kind.{kind_of_byte, no_kind}
use Rattle.format.proofs.kind.FrameKindFromU8.from.Goals as goal

told : (k : FrameKind) {b : ℕ} → b ≡ kind_byte k → k ≡ kind_of b
told k e = sym (ap kind_of e ∙ kind_of_byte k)

pub returns-in_default : goal.returns-in_default
returns-in_default c = let rest = c.in_default.in_default-own.rest in sym (no_kind _ (rest.0.0.0.0.1, (rest.0.0.0.1, (rest.0.0.1, (rest.0.1, (rest.1, tt))))))

pub returns-in-1 : goal.returns-in-1
returns-in-1 c = told symbols_kind c.in-1.is

pub returns-in-2 : goal.returns-in-2
returns-in-2 c = told equation_kind c.in-2.is

pub returns-in-3 : goal.returns-in-3
returns-in-3 c = told run_kind c.in-3.is

pub returns-in-4 : goal.returns-in-4
returns-in-4 c = told judgement_kind c.in-4.is

pub returns-in-5 : goal.returns-in-5
returns-in-5 c = told comparison_kind c.in-5.is
