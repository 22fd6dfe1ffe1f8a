-- Terms over the sheet's symbols that stand one behind the other up to a place: what the first of them is, and the others.
use Rattle.std.specs.Prelude.{ℕ, ◌+◌, ◌-◌, ◌≤◌, ◌<◌, ◌≡◌, List, length, get_or}
use Rattle.std.proofs.Math.Path.{refl}
use Rattle.std.proofs.Common.{append-nil}
use native.Mathlib.Omega.{arith}
use Rattle.format.specs.Limits.{max_symbols, first_variable, variable_count}
use Rattle.terms.specs.Term.{Term, Terms, var, app, nil, cons, size, sizes, count, arity}
use Rattle.terms.specs.Prefix.{prefix, prefixes}
use Rattle.terms.specs.ForContracts.Fits.{Fits, AllFit}
use Rattle.terms.specs.ForContracts.Stored.{PartAt}
use Rattle.terms.specs.Theory.Append.{append, sizes_append}
use Rattle.terms.specs.Theory.Position.{size_pos}
use Rattle.terms.specs.Theory.Prefix.{length_prefixes, prefixes_append}
use Rattle.terms.specs.Theory.Stored.{stored_head, stored_tail, stored_room}

-- From `i` to `end` stand these terms.
pub record Spelled (bytes : List ℕ) (end : ℕ) (arities : List ℕ) (i : ℕ) (ss : Terms) : Type 0 where
  pub few_symbols : length arities ≤ max_symbols
  pub fit : AllFit arities ss
  pub bytes_there : PartAt bytes i (prefixes ss)
  pub ends : end ≡ i + sizes ss

-- What the first of these terms is: a variable, or a symbol whose arguments stand before the other terms.
pub data First (bytes : List ℕ) (end : ℕ) (arities : List ℕ) (i : ℕ) : Terms → Type 0 where
  variable_first : {v : ℕ} {ss : Terms} → get_or bytes i 0 ≡ first_variable + v → v < variable_count → Spelled bytes end arities (i + 1) ss → First bytes end arities i (cons (var v) ss)
  symbol_first : {f : ℕ} {args ss : Terms} → get_or bytes i 0 ≡ f → f < max_symbols → count args ≡ arity arities f → Spelled bytes end arities (i + 1) (append args ss)
      → First bytes end arities i (cons (app f args) ss)

fit_append : (arities : List ℕ) (ss ts : Terms) → AllFit arities ss → AllFit arities ts → AllFit arities (append ss ts)
unfolding append
fit_append arities nil ts h k = k
fit_append arities (cons s ss) ts h k = (h.0, fit_append arities ss ts h.1 k)

module _ {bytes : List ℕ} {end : ℕ} {arities : List ℕ} {i : ℕ} where
  pub spelled_one : {s : Term} → length arities ≤ max_symbols → Fits arities s → PartAt bytes i (prefix s) → end ≡ i + size s → Spelled bytes end arities i (cons s nil)
  unfolding prefix size
  spelled_one {s} few h p e = record { few_symbols = few; fit = (h, tt); bytes_there = rw (append-nil (prefix s)) p; ends = omega arith }

  pub first_spelled : (ss : Terms) → Spelled bytes end arities i ss → i < end → First bytes end arities i ss
  unfolding prefix size
  first_spelled nil s h = absurd (omega (arith, s.ends))
  first_spelled (cons (var v) ss) s h =
      variable_first {ss = ss} (stored_head s.bytes_there) s.fit.0
      (record { few_symbols = s.few_symbols; fit = s.fit.1; bytes_there = stored_tail s.bytes_there; ends = omega (arith, s.ends) })
  first_spelled (cons (app f args) ss) s h =
      symbol_first {ss = ss} (stored_head s.bytes_there) (omega (arith, s.few_symbols, s.fit.0.0)) s.fit.0.1
      (record {
        few_symbols = s.few_symbols;
        fit = fit_append arities args ss s.fit.0.2 s.fit.1;
        bytes_there = rw (prefixes_append args ss) (stored_tail s.bytes_there);
        ends = omega (arith, s.ends, sizes_append args ss);
      })

  pub spelled_none : (ss : Terms) → Spelled bytes end arities i ss → end ≤ i → ss ≡ nil
  unfolding size
  spelled_none nil s h = refl
  spelled_none (cons t ts) s h = absurd (omega (arith, s.ends, size_pos t))

  pub spelled_some : (ss : Terms) → Spelled bytes end arities i ss → i < end → 0 < count ss
  unfolding size count
  spelled_some nil s h = absurd (omega (arith, s.ends))
  spelled_some (cons t ts) s h = omega arith

  pub spelled_room : {ss : Terms} → Spelled bytes end arities i ss → i < end → end ≤ length bytes
  spelled_room {ss} s h = let e = length_prefixes ss in let d = s.ends in omega (arith, stored_room s.bytes_there (omega arith))

  pub variable_low : {ss : Terms} → Spelled bytes end arities i ss → i < end → first_variable ≤ get_or bytes i 0 → get_or bytes i 0 - first_variable < variable_count
  variable_low {ss} s h l = elim (first_spelled ss s h) as (λ _ _. get_or bytes i 0 - first_variable < variable_count) [ variable_first b k r ↦ omega arith | symbol_first b k c r ↦ absurd (omega arith) ]
