-- Whether a rule can step, by its match and its lines.
use Prim.Native.Nat.{ℕ}
use mathlib.Core.Path.{◌≡◌, ap, ◌∙◌}
use mathlib.Core.Bool.{Bool, false}
use mathlib.Core.Option.{none, some}
use native.Mathlib.Omega.{arith}
use Rattle.terms.specs.Term.{Term}
use Rattle.terms.specs.Equation.{Equation, source}
use Rattle.terms.specs.declared.direction.Direction.{Direction}
use Rattle.reducing.specs.Match.{Match, no_match, match}
use Rattle.reducing.specs.Run.{try}
use Rattle.reducing.specs.Test.{line_test}
use Rattle.reducing.proofs.Theory.Step.{stepped, tested, outcome, try_is, none_matches}
use Rattle.reducing.specs.ForContracts.Part.{part_at}
use Rattle.step_try.specs.ForContracts.Trying.{Applies, LinesTell}

module _ (filling subject : Term) (p i : ℕ) (e : Equation) (d : Direction) where
  pub applies_told : {m : Match} {r : Bool} → match (source e d) (part_at subject p) no_match ≡ some m → LinesTell filling e d m r → Applies filling subject p i e d r
  applies_told {m} {r} x t =
      let told : try filling line_test subject p (part_at subject p) i e d ≡ tested filling subject p i e d m r = try_is filling line_test subject p (part_at subject p) i e d ∙ (ap (outcome filling line_test subject p i e d) x ∙ ap (tested filling subject p i e d m) t) in
      record {
        can = λ h. (stepped filling subject p i e d m, told ∙ ap (tested filling subject p i e d m) h);
        cannot = λ h. told ∙ ap (tested filling subject p i e d m) h;
      }

  pub applies_not : match (source e d) (part_at subject p) no_match ≡ none → Applies filling subject p i e d false
  applies_not x = record { can = λ h. let z : ◌≡◌ {A = ℕ} 0 1 = cc in absurd (omega arith); cannot = λ h. (none_matches filling subject p i e d) x }
