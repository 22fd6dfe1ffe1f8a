-- With more variables than the equations have, matches give the same values, and runs take the same steps.
use Rattle.std.specs.Prelude.{ℕ, ◌+◌, ◌<◌, ◌≡◌, refl, Bool, true, false, List, length, get_or, ltb}
use Rattle.std.proofs.Math.Path.{ap}
use Rattle.std.proofs.Common.{◌∙◌}
use Rattle.std.proofs.Math.Option
use Rattle.std.proofs.Math.Option.{Option, none, some, map}
use Rattle.std.proofs.lemmas.List.{length-replicate}
use Rattle.std.proofs.Math.Decide.{ℕ_discrete}
use Rattle.format.specs.Lists.{Every}
use Rattle.format.specs.Theory.Lists.{every_map}
use Rattle.terms.specs.Term.{Term, Terms, var, app, nil, cons, identical?, Values, inst}
use Rattle.terms.specs.Position.{replace}
use Rattle.terms.specs.Equation.{Equation, source, target}
use Rattle.terms.specs.declared.direction.Direction.{Direction}
use Rattle.terms.specs.declared.direction.Direction.TheVariants.{LeftRight as left_right, RightLeft as right_left}
use Rattle.terms.specs.ForContracts.Limits.{VariablesBelow, AllVariablesBelow}
use Rattle.reducing.specs.Match.{Match, unmet, meet, match, match_each, values_of}
use Rattle.reducing.specs.Run.{Step, try_with}
use Rattle.reducing.specs.Test.{line_test_with, line_run_with}
use Rattle.reducing.proofs.Theory.Step.{tested}
use Rattle.reducing.proofs.Theory.Runs.{SameTries, run_same_with}
use Rattle.twelve_variables.specs.Theory.Padded.{padded}
use Rattle.twelve_variables.specs.Theory.Few.{Few}
use Rattle.twelve_variables.specs.Theory.Slots.{padded_free, padded_get_or, Alike, alike_padded, alike_set, alike_then, alike_if}
use Rattle.twelve_variables.specs.Theory.Judge.{holding_same}

module _ (few extra : ℕ) where
  meet_alike : (m : Match) (v : ℕ) (t : Term) (o : Option Term) → length m ≡ few → v < few → Alike few extra (meet m v t o) (meet (padded extra m) v t o)
  unfolding meet
  meet_alike m v t none h l = alike_set few extra m v t h l
  meet_alike m v t (some u) h l = alike_if few extra (some m) (some (padded extra m)) (h, refl) (identical? u t)

  mutual
    unfolding match

    match_alike : (s t : Term) (m : Match) → VariablesBelow few s → length m ≡ few → Alike few extra (match s t m) (match s t (padded extra m))
    match_alike (var v) t m b h = rw (padded_get_or extra m v) (meet_alike m v t (get_or m v none) h b)
    match_alike (app f ss) (var w) m b h = tt
    match_alike (app f ss) (app g ts) m b h = alike_if few extra (match_each ss ts m) (match_each ss ts (padded extra m)) (each_alike ss ts m b h) (ℕ_discrete f g)

    each_alike : (ss ts : Terms) (m : Match) → AllVariablesBelow few ss → length m ≡ few → Alike few extra (match_each ss ts m) (match_each ss ts (padded extra m))
    each_alike nil nil m b h = (h, refl)
    each_alike nil (cons t ts) m b h = tt
    each_alike (cons s ss) nil m b h = tt
    each_alike (cons s ss) (cons t ts) m b h = alike_then few extra (match_each ss ts) (λ n. each_alike ss ts n b.1) (match s t m) (match s t (padded extra m)) (match_alike s t m b.0 h)

  padded_values : (filling : Term) (m : Match) → values_of filling (padded extra m) ≡ values_of filling m
  unfolding values_of
  padded_values filling m = λ i v. Option.get_or (padded_get_or extra m v i) filling

  -- A direction whose source has no other variables is tried alike, if the two tests agree.
  module _ (filling : Term) (test₁ test₂ : Equation → Direction → Values → Bool) (e : Equation) (same_test : (d : Direction) (ρ : Values) → test₁ e d ρ ≡ test₂ e d ρ) (low : (d : Direction) → VariablesBelow few (source e d)) where
    try_same : SameTries (few + extra) few filling test₁ test₂ e
    unfolding try_with
    try_same subject p part n d = ap (tried test₁) matched ∙ same (match (source e d) part (unmet few))
      where
        tried : (Equation → Direction → Values → Bool) → Option Match → Option Step
        tried test o = elim o [ none ↦ none | some m ↦ tested filling subject p n e d m (test e d (values_of filling m)) ]

        same : (o : Option Match) → tried test₁ (map (padded extra) o) ≡ tried test₂ o
        same none = refl
        same (some m) = λ i.
            elim ((ap (test₁ e d) (padded_values filling m) ∙ same_test d (values_of filling m)) i) as (λ x. Option Step) [
              | false ↦ none
              | true ↦ some (record { equation = n; direction = d; position = p; result = replace subject p (inst (padded_values filling m i) (target e d)) })
            ]

        matched : match (source e d) part (unmet (few + extra)) ≡ map (padded extra) (match (source e d) part (unmet few))
        matched =
            ap (match (source e d) part) (padded_free few extra)
            ∙ alike_padded few extra (match (source e d) part (unmet few)) (match (source e d) part (padded extra (unmet few))) (match_alike (source e d) part (unmet few) (low d) (length-replicate few none))

  module _ (positive : 0 < few) (filling : Term) where
    source_low : {e : Equation} → Few few e → (d : Direction) → VariablesBelow few (source e d)
    unfolding source
    source_low w left_right = w.left_variables
    source_low w right_left = w.right_variables

    line_tries : (e : Equation) → Few few e → SameTries (few + extra) few filling (line_test_with (few + extra)) (line_test_with few) e
    unfolding line_test_with
    line_tries e w = try_same filling (line_test_with (few + extra)) (line_test_with few) e (λ d ρ. ap (ltb 0) (holding_same few extra positive e w d ρ)) (source_low w)

    pub line_run_same : (es : List Equation) → Every (Few few) es → (k : ℕ) (subject : Term) → line_run_with (few + extra) filling es k subject ≡ line_run_with few filling es k subject
    unfolding line_run_with
    line_run_same es w = run_same_with (few + extra) few filling (line_test_with (few + extra)) (line_test_with few) es (every_map line_tries es w)
