-- The variables of a term: its own, or those of its arguments.
use Prim.Native.Nat.{ℕ, ◌+◌, ◌-◌, ◌≤◌, ◌<◌}
use mathlib.Core.Path.{◌≡◌, ◌∙◌}
use mathlib.Core.List.{List, ◌++◌}
use mathlib.Core.Logic.{⊎_elim}
use lib.ListN.{length, get_or, set, length-set, length-append}
use lib.Seq.{get_or-set_same, get_or-set_other}
use native.Mathlib.Omega.{arith}
use native.Mathlib.Decide.{ℕ_discrete, dec_lt}
use Rattle.format.specs.Limits.{first_variable, variable_count}
use Rattle.bindings.specs.ForContracts.PrefixForm.{arguments_of, InPrefixForm}
use Rattle.bindings.specs.ForContracts.Count.{HasRow}
use Rattle.bindings.specs.ForContracts.Sets.{Has, Singleton, Joined, OccursAmong, SetOf, VariablesFrom}
use Rattle.bindings.specs.Theory.PrefixForm.{get_or_any, row_ordered, row_next, row_first_some}
use Rattle.bindings.specs.Theory.Sets.{none_has}

-- Among more positions.
among : {nodes : List ℕ} {from end wider further w : ℕ} → wider ≤ from → end ≤ further → OccursAmong nodes from end w → OccursAmong nodes wider further w
among a b o = record { position = o.position; behind = omega (arith, o.behind); ahead = omega (arith, o.ahead); byte = o.byte }

-- The sets of the arguments of the term at `p` that are in front of `k` are joined.
pub record Collecting (nodes sizes : List ℕ) (p end k set : ℕ) : Type 0 where
  pub behind : p < k
  pub rest : HasRow sizes k end
  pub so_far : SetOf nodes (p + 1) k set

module _ {nodes sizes : List ℕ} (laid : InPrefixForm nodes sizes) (p : ℕ) (l : p < length nodes) where
  pub variable_index : {w : ℕ} → first_variable ≤ get_or nodes p 0 → w ≡ get_or nodes p 0 - first_variable → w < variable_count
  variable_index h e = let x = get_or_any nodes p 0 first_variable l in omega (arith, laid.variable_low p l (omega arith))

  pub own_variable : {w s : ℕ} → first_variable ≤ get_or nodes p 0 → w ≡ get_or nodes p 0 - first_variable → Singleton w s → SetOf nodes p (p + get_or sizes p 0) s
  own_variable {w} {s} h e k = record {
    stands = λ u x. let i = k.alone u x in record { position = p; behind = omega arith; ahead = omega (arith, size); byte = omega arith };
    has = λ u o. let i : o.position ≡ p = omega (arith, o.behind, o.ahead, size) in let b = rw i at o.byte in let j : u ≡ w = omega arith in rw j k.own;
  }
    where
      size : get_or sizes p 0 ≡ 1
      size = laid.variable_alone p l (omega (arith, get_or_any nodes p first_variable 0 l))

  pub collecting_start : {size : ℕ} → size ≡ get_or sizes p 0 → get_or nodes p 0 < first_variable → Collecting nodes sizes p (p + size) (p + 1) 0
  collecting_start e h = record {
    behind = omega arith;
    rest = record { starts = arguments_of sizes p; row = rw e (laid.arguments p l (omega (arith, get_or_any nodes p first_variable 0 l))); within = omega (arith, laid.ends_within p l, laid.same_length) };
    so_far = record { stands = λ w x. absurd (none_has w x); has = λ w o. absurd (omega (arith, o.behind, o.ahead)) };
  }

  module _ {end k set : ℕ} (c : Collecting nodes sizes p end k set) where
    pub collecting_within : k < end → (0 < get_or sizes k 0) × (k + get_or sizes k 0 ≤ end) × (k < length nodes)
    collecting_within h = let (us, x, rest) = row_next c.rest.row h in (row_first_some c.rest.row h, row_ordered rest, omega (arith, c.rest.within, laid.same_length))

    pub collecting_next : {variables : List ℕ} {size more : ℕ} → k < end → VariablesFrom nodes sizes variables (p + 1) → Joined set (get_or variables k 0) more → size ≡ get_or sizes k 0 → Collecting nodes sizes p end (k + size) more
    collecting_next {variables} {size} {more} h v j e =
        let (us, x, rest) = row_next c.rest.row h in
        record {
          behind = omega (arith, c.behind);
          rest = record { starts = us; row = rw e rest; within = c.rest.within };
          so_far = record { stands = stands; has = has };
        }
      where
        own : SetOf nodes k (k + size) (get_or variables k 0)
        own = rw e (v.each k (omega (arith, c.behind)) (collecting_within h).2)

        stands : (w : ℕ) → Has more w → OccursAmong nodes (p + 1) (k + size) w
        stands w x = ⊎_elim (λ y. among (omega arith) (omega arith) (c.so_far.stands w y)) (λ y. among (omega (arith, c.behind)) (omega arith) (own.stands w y)) (j.either w x)

        has : (w : ℕ) → OccursAmong nodes (p + 1) (k + size) w → Has more w
        has w o = go (dec_lt o.position k)
          where
            go : Dec (o.position < k) → Has more w
            go (yes b) = j.left w (c.so_far.has w (record { position = o.position; behind = o.behind; ahead = b; byte = o.byte }))
            go (no b) = j.right w (own.has w (record { position = o.position; behind = omega arith; ahead = o.ahead; byte = o.byte }))

    pub collecting_done : end ≤ k → get_or nodes p 0 < first_variable → SetOf nodes p end set
    collecting_done d h = record {
      stands = λ w x. among (omega arith) (omega (arith, row_ordered c.rest.row)) (c.so_far.stands w x);
      has = λ w o. c.so_far.has w (record { position = o.position; behind = beyond w o (ℕ_discrete o.position p); ahead = omega (arith, o.ahead); byte = o.byte });
    }
      where
        beyond : (w : ℕ) (o : OccursAmong nodes p end w) → Dec (o.position ≡ p) → p + 1 ≤ o.position
        beyond w o (yes e) = let b = rw e at o.byte in absurd (omega arith)
        beyond w o (no n) = omega (arith, o.behind)

-- The sets from `p` on, where those behind it are filled in already.
pub filled_next : {nodes sizes variables : List ℕ} {p s : ℕ} → p < length nodes → VariablesFrom nodes sizes variables (p + 1) → SetOf nodes p (p + get_or sizes p 0) s → VariablesFrom nodes sizes (set variables p s) p
filled_next {nodes} {sizes} {variables} {p} {s} l v own = record {
  same_length = length-set variables p s ∙ v.same_length;
  each = λ q a b. go q a b (ℕ_discrete q p);
}
  where
    go : (q : ℕ) → p ≤ q → q < length nodes → Dec (q ≡ p) → SetOf nodes q (q + get_or sizes q 0) (get_or (set variables p s) q 0)
    go q a b (yes e) = rw (e, get_or-set_same variables p s 0 (omega (arith, v.same_length))) own
    go q a b (no n) = rw (get_or-set_other variables p q s 0 n) (v.each q (omega arith) b)

-- The variables' sets stand in the front of their array.
pub front_fits : (xs ys : List ℕ) {n : ℕ} → length xs ≡ n → n ≤ length (xs ++ ys)
front_fits xs ys e = omega (arith, length-append xs ys)
