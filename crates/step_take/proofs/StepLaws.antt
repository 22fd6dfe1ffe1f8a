-- A step that is possible: its match is found again, and the matched part is replaced by the target's instance.
use Prim.Native.Nat.{ℕ, ◌<◌}
use mathlib.Core.Path.{◌≡◌, sym, ap, subst, ◌∙◌}
use mathlib.Core.Bool.{Bool, true, false, not}
use mathlib.Core.Logic.{inl, inr}
use mathlib.Core.Option
use mathlib.Core.Option.{Option, none, some}
use Rattle.std.specs.Prelude.{Option as Answer}
use mathlib.Core.List.{List}
use native.Mathlib.Omega.{arith}
use lib.ListN.{get_or}
use lib.Dec.{eqb→eq}
use Rattle.format.specs.Limits.{variable_count}
use Rattle.terms.specs.Term.{Term, Terms, var, app, nil, cons, inst}
use Rattle.terms.specs.Filling.{filling}
use Rattle.terms.specs.ForContracts.Limits.{VariablesBelow, AllVariablesBelow}
use Rattle.terms.specs.Position.{replace}
use Rattle.terms.specs.Equation.{Equation, source, target}
use Rattle.terms.specs.declared.direction.Direction.{Direction}
use Rattle.terms.specs.declared.arguments.Arguments.{Arguments}
use Rattle.terms.specs.ForContracts.Stored.{GroundStored}
use Rattle.terms.specs.Theory.Prefix.{fits_variables}
use Rattle.reducing.specs.Match.{no_match, match, values_of, has_variable, have_variable}
use Rattle.reducing.specs.Run.{Step}
use Rattle.reducing.proofs.Theory.Match.{either}
use Rattle.reducing.specs.ForContracts.Part.{part_at}
use Rattle.step_match.specs.ForContracts.Matching.{SlotIs, MatchIs, Matched, SidePart}
use Rattle.step_take.specs.ForContracts.Replacing.{ReplacementIs, ReplacedAs}
use Rattle.rules.specs.ForContracts.Rows.{SideIs}
use Rattle.step_try.specs.Theory.Parts.{side_part}
use Rattle.step_take.specs.ForContracts.Stepping.{StepIs}
use Rattle.step_take.specs.Theory.Steps.{Possible, step_possible}

-- A variable of a term whose variables are below a number is below it.
mutual
  unfolding has_variable

  has_below : (v : ℕ) (t : Term) → VariablesBelow variable_count t → has_variable v t ≡ true → v < variable_count
  has_below v (var w) b h = rw (eqb→eq v w (rw h tt)) b
  has_below v (app f ts) b h = have_below v ts b h

  have_below : (v : ℕ) (ts : Terms) → AllVariablesBelow variable_count ts → have_variable v ts ≡ true → v < variable_count
  have_below v nil b h = let z : ◌≡◌ {A = ℕ} 0 1 = cc in absurd (omega arith)
  have_below v (cons t ts) b h = elim (either (has_variable v t) (have_variable v ts) h) [ inl x ↦ has_below v t b.0 x | inr x ↦ have_below v ts b.1 x ]

-- The code matches the rule's source and puts the target's instance.
module _ {equations lengths : List ℕ} {rule : ℕ} {arities nodes sizes : List ℕ} {node n i : ℕ} {e : Equation} {d : Direction} {subject : Term} {p : ℕ} {s : Step}
    (is : StepIs equations lengths rule arities nodes sizes node n i e d subject p s) where
  pub possible : Possible (filling arities) subject p i e d s
  possible = step_possible (filling arities) subject p i e d s is.possible

  pub source_part : {side : Arguments} → SideIs equations lengths arities side (source e d) → SidePart equations side nodes sizes node arities (source e d) (part_at subject p)
  source_part x = side_part x is.subject_is is.inside is.there

  module _ {source_side : Arguments} (x : SideIs equations lengths arities source_side (source e d)) (values : List ℕ) (r : Bool)
      (matched : SidePart equations source_side nodes sizes node arities (source e d) (part_at subject p) → Matched nodes sizes arities (match (source e d) (part_at subject p) no_match) values r) where
    match_found : (r ≡ true) × MatchIs nodes sizes arities possible.found values
    match_found = subst (λ o. Matched nodes sizes arities o values r) possible.matches (matched (source_part x))

    -- The search has matched it before.
    pub matches_again : not r ≡ true → ⊥
    matches_again h =
        let w : false ≡ true = sym (ap not match_found.0) ∙ h in
        let z : ◌≡◌ {A = ℕ} 0 1 = cc in
        absurd (omega arith)

    given : (v : ℕ) → v < variable_count → GroundStored nodes sizes arities (get_or values v 0) (values_of (filling arities) possible.found v)
    unfolding values_of
    given v l = go (get_or possible.found v none) (match_found.1.each v l)
      where
        go : (o : Option Term) → SlotIs nodes sizes arities o (get_or values v 0) → GroundStored nodes sizes arities (get_or values v 0) (Option.get_or o (filling arities))
        go none x = rw x is.subject_is.filling_stored
        go (some u) x = x.0

    pub replacement : {target_side : Arguments} → SideIs equations lengths arities target_side (target e d)
        → ReplacementIs equations target_side arities nodes sizes values node n subject (target e d) (values_of (filling arities) possible.found) p
    replacement y = record {
      stands = is.subject_is;
      counted = is.counted;
      inside = is.inside;
      there = is.there;
      instance_is = record {
        few_symbols = y.few_symbols;
        fits = y.fits;
        small = omega (arith, y.small);
        spelled = y.stored.bytes;
        ends = y.ends;
        slots = match_found.1.values_length;
        given = λ v h. given v (has_below v (target e d) (fits_variables arities (target e d) y.fits) h);
      };
    }

    pub step_replaced : (nodes_after sizes_after : List ℕ) (answer : Rattle.std.specs.Prelude.Option ℕ)
        → ReplacedAs arities nodes sizes nodes_after sizes_after (replace subject p (inst (values_of (filling arities) possible.found) (target e d))) answer
        → ReplacedAs arities nodes sizes nodes_after sizes_after s.result answer
    step_replaced nodes_after sizes_after answer = subst (λ t. ReplacedAs arities nodes sizes nodes_after sizes_after t answer) (sym possible.gives)
