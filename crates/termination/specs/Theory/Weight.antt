-- A weight of elements: every choice that replaces an inequality weighs less than it. `width` bounds the number of arguments, `height` measures the positions.
use Rattle.std.specs.Prelude.{ℕ, suc, ◌+◌, ◌*◌, ◌^◌, ◌≤◌, ◌<◌, ◌≡◌, length}
use mathlib.Core.List.{List, [], ◌∷◌, ◌++◌, map}
use Rattle.std.proofs.Math.Decide.{ℕ_discrete, dec_lt}
use native.Mathlib.Omega.{arith}
use Rattle.std.proofs.Math.Nat.{mul-le-mul_right, pow-succ', one-le-pow, pow-le-pow_right}
use Rattle.format.specs.Lists.{Every}
use Rattle.format.specs.Theory.Lists.{every_append, every_map}
use Rattle.terms.specs.Theory.View.{In, head, tail}
use Rattle.solving.specs.Line.{Element, equal, greater}
use Rattle.solving.specs.Walk.{argument_choices, exceeds_each, lexicographic_choices, precedence_choices, same_symbol_choices, choices}

module _ (width : ℕ) where
  abbrev pub power : ℕ → ℕ
  power w = (width + 2) ^ w

  pub power_pos : (w : ℕ) → 0 < power w
  power_pos w = omega (arith, one-le-pow w (width + 2) (omega arith))

  -- `width + 1` elements of the next lower weight weigh less than one.
  pub power_step : (w : ℕ) → (width + 1) * power w < power (suc w)
  power_step w = omega (arith, pow-succ' (width + 2) w, power_pos w)

  power_mono : (a b : ℕ) → a ≤ b → power a ≤ power b
  power_mono a b l = pow-le-pow_right {n = width + 2} (omega arith) l

  module _ (height : ℕ → ℕ) where
    abbrev pub weight : Element → ℕ
    weight (equal p q) = suc (height p + height q)
    weight (greater p q) = suc (height p + height q)

    unfoldable pub weigh : List Element → ℕ
    weigh [] = 0
    weigh (e ∷ es) = power (weight e) + weigh es

    pub weigh_append : (es fs : List Element) → weigh (es ++ fs) ≡ weigh es + weigh fs
    unfolding weigh
    weigh_append [] fs = omega arith
    weigh_append (e ∷ es) fs = omega (arith, weigh_append es fs)

    -- Each of a list of choices weighs at most `b`.
    abbrev pub Light : ℕ → List (List Element) → Type 0
    Light b = Every (λ fs. weigh fs ≤ b)

    light_more : (b c : ℕ) → b ≤ c → (ess : List (List Element)) → Light b ess → Light c ess
    light_more b c l = every_map (λ fs h. let m : weigh fs ≤ b = h in omega arith)

    light_map : (b c : ℕ) (e : Element) → power (weight e) + b ≤ c → (ess : List (List Element)) → Light b ess → Light c (map (e ∷◌) ess)
    unfolding weigh
    light_map b c e l [] h = tt
    light_map b c e l (fs ∷ ess) h = (omega arith, light_map b c e l ess h.1)

    -- The arguments measure less than what they are arguments of.
    abbrev ArgumentsLower : List ℕ → ℕ → Type 0
    ArgumentsLower ps p = (c : ℕ) → In c ps → height c < height p

    module _ (p q w : ℕ) (top : height p + height q ≡ w) where
      light_arguments : (ps : List ℕ) → ArgumentsLower ps p → Light (power w) (argument_choices ps q)
      unfolding weigh argument_choices
      light_arguments [] h = tt
      light_arguments (s ∷ ps) h = let x = power_mono (suc (height s + height q)) w (omega (arith, h s head)) in (omega arith, (omega arith, light_arguments ps (λ c i. h c (tail i))))

      weigh_exceeds : (qs : List ℕ) → ArgumentsLower qs q → weigh (exceeds_each p qs) ≤ length qs * power w
      unfolding weigh exceeds_each
      weigh_exceeds [] h = omega arith
      weigh_exceeds (t ∷ qs) h = omega (arith, power_mono (suc (height p + height t)) w (omega (arith, h t head)), weigh_exceeds qs (λ c i. h c (tail i)))

      light_lexicographic : (ps qs : List ℕ) → ArgumentsLower ps p → ArgumentsLower qs q → Light (length qs * power w) (lexicographic_choices p ps qs)
      unfolding weigh lexicographic_choices
      light_lexicographic [] qs h k = tt
      light_lexicographic (s ∷ ps) [] h k = tt
      light_lexicographic (s ∷ ps) (t ∷ qs) h k =
          let x = power_mono (suc (height s + height t)) w (omega (arith, h s head, k t head)) in (
            omega (arith, weigh_exceeds qs (λ c i. k c (tail i))),
            light_map (length qs * power w) (suc (length qs) * power w) (equal s t) (omega arith) (lexicographic_choices p ps qs) (light_lexicographic ps qs (λ c i. h c (tail i)) (λ c i. k c (tail i))),
          )

      light_precedence : {f g : ℕ} (d : Dec (g < f)) (qs : List ℕ) → length qs ≤ width → ArgumentsLower qs q → Light ((width + 1) * power w) (precedence_choices d p qs)
      unfolding precedence_choices
      light_precedence (yes i) qs l h = (omega (arith, weigh_exceeds qs h, mul-le-mul_right (power w) l), tt)
      light_precedence (no i) qs l h = tt

      light_same : {f g : ℕ} (d : Dec (f ≡ g)) (ps qs : List ℕ) → length qs ≤ width → ArgumentsLower ps p → ArgumentsLower qs q → Light ((width + 1) * power w) (same_symbol_choices d p ps qs)
      unfolding same_symbol_choices
      light_same (yes e) ps qs l h k = light_more (length qs * power w) ((width + 1) * power w) (omega (arith, mul-le-mul_right (power w) l)) (lexicographic_choices p ps qs) (light_lexicographic ps qs h k)
      light_same (no e) ps qs l h k = tt

      pub light_choices : (f g : ℕ) (ps qs : List ℕ) → length qs ≤ width → ArgumentsLower ps p → ArgumentsLower qs q → Light ((width + 1) * power w) (choices p q f g ps qs)
      unfolding choices
      light_choices f g ps qs l h k =
          let b = (width + 1) * power w in
          let x = precedence_choices (dec_lt g f) p qs in
          let y = same_symbol_choices (ℕ_discrete f g) p ps qs in
          every_append (λ fs. weigh fs ≤ b) (argument_choices ps q ++ x) y (every_append (λ fs. weigh fs ≤ b) (argument_choices ps q) x (light_more (power w) b (omega arith) (argument_choices ps q) (light_arguments ps h)) (light_precedence (dec_lt g f) qs l k))
          (light_same (ℕ_discrete f g) ps qs l h k)
