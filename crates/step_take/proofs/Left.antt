-- The terms of a side that are still to be read, each of whose variables has a value, and their instances.
use Prim.Native.Nat.{ℕ, ◌+◌, ◌-◌, ◌≤◌, ◌<◌}
use mathlib.Core.Path.{◌≡◌, refl, sym, ap, ◌∙◌}
use mathlib.Core.Bool.{true, ◌||◌, or-true, or-false, or_assoc}
use mathlib.Core.List.{List, ◌++◌}
use native.Mathlib.Omega.{arith}
use lib.ListN.{length, get_or}
use lib.Dec.{eqb}
use borrow.Author.Tests.{eq-eqb}
use Rattle.format.specs.Limits.{first_variable, variable_count}
use Rattle.terms.specs.Term.{Term, Terms, var, app, nil, cons, sizes, Values, inst, insts}
use Rattle.terms.specs.Prefix.{prefixes}
use Rattle.terms.specs.declared.arguments.Arguments.{Arguments}
use Rattle.terms.specs.ForContracts.Stored.{GroundStored}
use Rattle.terms.specs.Theory.Append.{append, sizes_append}
use Rattle.terms.specs.Theory.Prefix.{prefixes_append}
use Rattle.terms.specs.Theory.Stored.{Standing, ground_standing}
use Rattle.terms.specs.Theory.Spelled.{Spelled, First, variable_first, symbol_first, spelled_one, first_spelled}
use Rattle.reducing.specs.Match.{has_variable, have_variable}
use Rattle.step_take.specs.ForContracts.Replacing.{InstanceIs}

-- From `i` to `end` stand these terms, and `values` has the node of the value of each of their variables.
pub record Left (bytes : List ℕ) (end : ℕ) (nodes sizes values arities : List ℕ) (ρ : Values) (i : ℕ) (ts : Terms) : Type 0 where
  pub spelled : Spelled bytes end arities i ts
  pub slots : length values ≡ variable_count
  pub given : (v : ℕ) → have_variable v ts ≡ true → GroundStored nodes sizes arities (get_or values v 0) (ρ v)

have_append : (v : ℕ) (ss ts : Terms) → have_variable v (append ss ts) ≡ (have_variable v ss || have_variable v ts)
unfolding append has_variable
have_append v nil ts = refl
have_append v (cons s ss) ts = ap (has_variable v s ||◌) (have_append v ss ts) ∙ sym (or_assoc (has_variable v s) (have_variable v ss) (have_variable v ts))

insts_append : (ρ : Values) (ss ts : Terms) → insts ρ (append ss ts) ≡ append (insts ρ ss) (insts ρ ts)
unfolding append inst
insts_append ρ nil ts = refl
insts_append ρ (cons s ss) ts = ap (cons (inst ρ s)) (insts_append ρ ss ts)

-- The instance of a symbol's arguments and the terms behind them.
module _ (ρ : Values) (args ss : Terms) where
  pub arguments_size : sizes (insts ρ (append args ss)) ≡ sizes (insts ρ args) + sizes (insts ρ ss)
  arguments_size = ap sizes (insts_append ρ args ss) ∙ sizes_append (insts ρ args) (insts ρ ss)

  pub arguments_bytes : prefixes (insts ρ (append args ss)) ≡ prefixes (insts ρ args) ++ prefixes (insts ρ ss)
  arguments_bytes = ap prefixes (insts_append ρ args ss) ∙ prefixes_append (insts ρ args) (insts ρ ss)

-- What is read next: a variable, which has a value, or a symbol.
pub data Next (bytes : List ℕ) (end : ℕ) (nodes sizes values arities : List ℕ) (ρ : Values) (i : ℕ) : Terms → Type 0 where
  next_variable : {v : ℕ} {ss : Terms} → get_or bytes i 0 ≡ first_variable + v → v < variable_count → GroundStored nodes sizes arities (get_or values v 0) (ρ v)
      → Left bytes end nodes sizes values arities ρ (i + 1) ss → Next bytes end nodes sizes values arities ρ i (cons (var v) ss)
  next_symbol : {f : ℕ} {args ss : Terms} → get_or bytes i 0 ≡ f → f < first_variable → Left bytes end nodes sizes values arities ρ (i + 1) (append args ss)
      → Next bytes end nodes sizes values arities ρ i (cons (app f args) ss)

-- The value of a variable: it has a slot, and its node stands behind the equation's.
pub record ValueThere (bytes nodes sizes values : List ℕ) (i : ℕ) : Type 0 where
  pub slot : get_or bytes i 0 - first_variable < length values
  pub stands : Standing nodes sizes (get_or values (get_or bytes i 0 - first_variable) 0)

module _ {bytes : List ℕ} {end : ℕ} {nodes sizes values arities : List ℕ} {ρ : Values} {i : ℕ} where
  pub next : (ts : Terms) → Left bytes end nodes sizes values arities ρ i ts → i < end → Next bytes end nodes sizes values arities ρ i ts
  unfolding has_variable
  next ts l h = go (first_spelled ts l.spelled h) l.given
    where
      go : {ts : Terms} → First bytes end arities i ts → ((v : ℕ) → have_variable v ts ≡ true → GroundStored nodes sizes arities (get_or values v 0) (ρ v)) → Next bytes end nodes sizes values arities ρ i ts
      go (variable_first {v} {ss} b k s) g = next_variable {ss = ss} b k (g v (ap (◌|| have_variable v ss) (eq-eqb v v refl))) (record { spelled = s; slots = l.slots; given = λ w e. g w (ap (eqb w v ||◌) e ∙ or-true (eqb w v)) })
      go (symbol_first {f} {args} {ss} b k c s) g = next_symbol {ss = ss} b (omega arith) (record { spelled = s; slots = l.slots; given = λ w e. g w (sym (have_append w args ss) ∙ e) })

  pub value_there : {ts : Terms} → Left bytes end nodes sizes values arities ρ i ts → i < end → first_variable ≤ get_or bytes i 0 → ValueThere bytes nodes sizes values i
  value_there {ts} l h m = go (next ts l h)
    where
      go : {ts : Terms} → Next bytes end nodes sizes values arities ρ i ts → ValueThere bytes nodes sizes values i
      go (next_symbol b k s) = absurd (omega arith)
      go (next_variable {v} b k g s) =
          let e : v ≡ get_or bytes i 0 - first_variable = omega arith in
          record { slot = omega (arith, l.slots); stands = rw (← e) (ground_standing g) }

pub left_whole : {bytes nodes sizes values arities : List ℕ} {side : Arguments} {t : Term} {ρ : Values} → InstanceIs bytes side nodes sizes values arities t ρ
    → Left bytes side.end nodes sizes values arities ρ side.from (cons t nil)
unfolding has_variable
left_whole {t = t} s = record {
  spelled = spelled_one s.few_symbols s.fits s.spelled s.ends;
  slots = s.slots;
  given = λ v e. s.given v (sym (or-false (has_variable v t)) ∙ e);
}
