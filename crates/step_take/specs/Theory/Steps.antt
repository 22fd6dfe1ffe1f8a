-- The step that a search finds can be taken.
use Rattle.std.specs.Prelude.{ℕ, ◌≡◌, Bool, true, false}
use Rattle.std.proofs.Common.{sym, ap, ap₂, subst, ◌∙◌, arith}
use Rattle.std.proofs.Math.Option.{Option, none, some}
use Rattle.terms.specs.Term.{Term, inst}
use Rattle.terms.specs.Position.{replace}
use Rattle.terms.specs.Equation.{Equation, source, target}
use Rattle.terms.specs.declared.direction.Direction.{Direction}
use Rattle.reducing.specs.Match.{Match, no_match, match, values_of}
use Rattle.reducing.specs.Run.{Step, try}
use Rattle.reducing.specs.Test.{line_test}
use Rattle.reducing.proofs.Theory.Step.{stepped, tested, outcome, try_is, try_some}
use Rattle.reducing.specs.ForContracts.Part.{part_at}

-- What a possible step is, in the direction that was tried.
module _ (filling subject : Term) (p i : ℕ) (e : Equation) (d : Direction) (s : Step) where
  pub record Possible : Type 0 where
    pub numbered : s.equation ≡ i
    pub directed : s.direction ≡ d
    pub placed : s.position ≡ p
    pub found : Match
    pub matches : match (source e d) (part_at subject p) no_match ≡ some found
    pub gives : s.result ≡ replace subject p (inst (values_of filling found) (target e d))

  same_direction : try filling line_test subject p (part_at subject p) i e d ≡ some s → s.direction ≡ d
  same_direction h = go (match (source e d) (part_at subject p) no_match) (sym (try_is filling line_test subject p (part_at subject p) i e d) ∙ h)
    where
      by_test : (m : Match) (b : Bool) → tested filling subject p i e d m b ≡ some s → s.direction ≡ d
      by_test m true h = let z : s ≡ stepped filling subject p i e d m = cc in ap (λ x. x.direction) z
      by_test m false h = let z : ◌≡◌ {A = ℕ} 0 1 = cc in absurd (omega arith)

      go : (o : Option Match) → outcome filling line_test subject p i e d o ≡ some s → s.direction ≡ d
      go (some m) h = by_test m (line_test e d (values_of filling m)) h
      go none h = let z : ◌≡◌ {A = ℕ} 0 1 = cc in absurd (omega arith)

  pub step_possible : try filling line_test subject p (part_at subject p) i e d ≡ some s → Possible
  step_possible h =
      let (a, b, r) = try_some filling line_test subject p (part_at subject p) i e d s h in
      let c = same_direction h in
      record {
        numbered = a;
        directed = c;
        placed = b;
        found = r.found;
        matches = subst (λ x. match (source e x) (part_at subject p) no_match ≡ some r.found) c r.matches;
        gives = r.gives ∙ ap₂ (λ q x. replace subject q (inst (values_of filling r.found) (target e x))) b c;
      }
