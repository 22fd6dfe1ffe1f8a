-- The laws of an equation's bytes: what stands at a position, and that its arguments stand behind it.
use Rattle.std.specs.Prelude.{ℕ, zero, suc, ◌+◌, ◌-◌, ◌≤◌, ◌<◌, ◌≡◌, refl, List, [], ◌∷◌, length, get_or}
use Rattle.std.proofs.Common.{ap, lt-ltb, le-ltb, arith}
use Rattle.std.proofs.Math.ListN.{get_or-eq_default}
use Rattle.std.proofs.Math.Decide.{dec_lt}
use Rattle.format.specs.Limits.{first_variable, variable_count}
use Rattle.terms.specs.Position.{var_node, app_node}
use Rattle.terms.specs.Theory.View.{In, head, tail, Layout}
use Rattle.bindings.specs.ForContracts.PrefixForm.{arguments_of, node_of, view_of, Row, none, more, InPrefixForm}

module _ {sizes : List ℕ} where
  -- The terms of a row stand within it.
  pub row_ordered : {k end : ℕ} {ps : List ℕ} → Row sizes k end ps → k ≤ end
  row_ordered (none e) = omega arith
  row_ordered (more h r) = omega (arith, row_ordered r)

  pub row_start : {k end c : ℕ} {ps : List ℕ} → Row sizes k end ps → In c ps → k ≤ c
  row_start (none e) i = elim i [ ]
  row_start (more {k = k} h r) i = go k refl i (λ j. row_start r j)
    where
      go : {c : ℕ} {ps : List ℕ} (x : ℕ) → x ≡ k → In c (x ∷ ps) → (In c ps → k + get_or sizes k 0 ≤ c) → k ≤ c
      go x e head ih = omega arith
      go x e (tail j) ih = omega (arith, ih j)

  pub row_end : {k end c : ℕ} {ps : List ℕ} → Row sizes k end ps → In c ps → c + get_or sizes c 0 ≤ end
  row_end (none e) i = elim i [ ]
  row_end (more {k = k} {end = end} h r) i = go k refl i (λ j. row_end r j) (row_ordered r)
    where
      go : {c : ℕ} {ps : List ℕ} (x : ℕ) → x ≡ k → In c (x ∷ ps) → (In c ps → c + get_or sizes c 0 ≤ end) → k + get_or sizes k 0 ≤ end → c + get_or sizes c 0 ≤ end
      go x e head ih h = rw e h
      go x e (tail j) ih h = ih j

  pub row_some : {k end c : ℕ} {ps : List ℕ} → Row sizes k end ps → In c ps → 0 < get_or sizes c 0
  row_some (none e) i = elim i [ ]
  row_some (more {k = k} h r) i = go k refl i (λ j. row_some r j)
    where
      go : {c : ℕ} {ps : List ℕ} (x : ℕ) → x ≡ k → In c (x ∷ ps) → (In c ps → 0 < get_or sizes c 0) → 0 < get_or sizes c 0
      go x e head ih = rw e h
      go x e (tail j) ih = ih j

  -- A row that is at its end has no term, one that is not has a first.
  pub row_empty : {k end : ℕ} {ps : List ℕ} → Row sizes k end ps → end ≤ k → ps ≡ []
  row_empty (none e) h = refl
  row_empty (more l r) h = absurd (omega (arith, row_ordered r))

  pub row_unique : {k end : ℕ} {ps qs : List ℕ} → Row sizes k end ps → Row sizes k end qs → ps ≡ qs
  row_unique (none e) (none d) = refl
  row_unique (none e) (more h r) = absurd (omega (arith, row_ordered r))
  row_unique (more h r) (none e) = absurd (omega (arith, row_ordered r))
  row_unique (more {k = k} h r) (more g q) = ap (k ∷◌) (row_unique r q)

  pub row_first_some : {k end : ℕ} {ps : List ℕ} → Row sizes k end ps → k < end → 0 < get_or sizes k 0
  row_first_some (none e) h = absurd (omega arith)
  row_first_some (more l r) h = l

  pub row_next : {k end : ℕ} {ps : List ℕ} → Row sizes k end ps → k < end → (qs : List ℕ) × (ps ≡ k ∷ qs) × Row sizes (k + get_or sizes k 0) end qs
  row_next (none e) h = absurd (omega arith)
  row_next (more {ps = qs} l r) h = (qs, refl, r)

-- What is past the end of a list does not matter within it.
pub get_or_any : {A : Type 0} (xs : List A) (i : ℕ) (d e : A) → i < length xs → get_or xs i d ≡ get_or xs i e
get_or_any [] i d e h = absurd (omega arith)
get_or_any (x ∷ xs) zero d e h = refl
get_or_any (x ∷ xs) (suc i) d e h = get_or_any xs i d e (omega arith)

module _ (nodes sizes : List ℕ) where
  pub symbol_seen : (p : ℕ) → get_or nodes p first_variable < first_variable → view_of nodes sizes p ≡ app_node (get_or nodes p first_variable) (arguments_of sizes p)
  unfolding view_of
  symbol_seen p h = rw (lt-ltb (get_or nodes p first_variable) first_variable h, node_of)

  pub variable_seen : (p : ℕ) → first_variable ≤ get_or nodes p first_variable → view_of nodes sizes p ≡ var_node (get_or nodes p first_variable - first_variable)
  unfolding view_of
  variable_seen p h = rw (le-ltb (get_or nodes p first_variable) first_variable h, node_of)

  -- The same, of the byte that is read there.
  pub byte_there : (p : ℕ) → p < length nodes → get_or nodes p first_variable ≡ get_or nodes p 0
  byte_there p h = get_or_any nodes p first_variable 0 h

  pub symbol_there : (p : ℕ) → p < length nodes → get_or nodes p 0 < first_variable → view_of nodes sizes p ≡ app_node (get_or nodes p 0) (arguments_of sizes p)
  symbol_there p l h = let e = byte_there p l in rw e at (symbol_seen p (omega arith))

  pub variable_there : (p v : ℕ) → p < length nodes → first_variable ≤ get_or nodes p 0 → v ≡ get_or nodes p 0 - first_variable → view_of nodes sizes p ≡ var_node v
  variable_there p v l h x = let e = byte_there p l in cc (variable_seen p (omega arith))

  past_end : (p : ℕ) → length nodes ≤ p → get_or nodes p first_variable ≡ first_variable
  past_end p h = get_or-eq_default nodes first_variable h

module _ {nodes sizes : List ℕ} (laid : InPrefixForm nodes sizes) where
  pub arguments_there : (p : ℕ) → p < length nodes → get_or nodes p 0 < first_variable → Row sizes (p + 1) (p + get_or sizes p 0) (arguments_of sizes p)
  arguments_there p l h = let e = byte_there nodes sizes p l in laid.arguments p l (omega arith)

  -- What stands at a position tells its byte.
  pub seen_symbol : (p f : ℕ) (ps : List ℕ) → view_of nodes sizes p ≡ app_node f ps
      → (p < length nodes) × (get_or nodes p first_variable ≡ f) × (f < first_variable) × (ps ≡ arguments_of sizes p) × Row sizes (p + 1) (p + get_or sizes p 0) ps
  seen_symbol p f ps x = go (dec_lt (get_or nodes p first_variable) first_variable) (dec_lt p (length nodes))
    where
      go : Dec (get_or nodes p first_variable < first_variable) → Dec (p < length nodes)
          → (p < length nodes) × (get_or nodes p first_variable ≡ f) × (f < first_variable) × (ps ≡ arguments_of sizes p) × Row sizes (p + 1) (p + get_or sizes p 0) ps
      go (yes h) (yes l) =
          let y = symbol_seen nodes sizes p h in
          let a : get_or nodes p first_variable ≡ f = cc in
          let b : ps ≡ arguments_of sizes p = cc in
          (l, a, (omega arith), b, rw b (laid.arguments p l h))
      go (yes h) (no l) = absurd (omega (arith, past_end nodes sizes p (omega arith)))
      go (no h) d = let y = variable_seen nodes sizes p (omega arith) in let z : ◌≡◌ {A = ℕ} 0 1 = cc in absurd (omega arith)

  pub seen_variable : (p v : ℕ) → view_of nodes sizes p ≡ var_node v → (get_or nodes p first_variable ≡ first_variable + v) × (v < variable_count)
  seen_variable p v x = go (dec_lt (get_or nodes p first_variable) first_variable) (dec_lt p (length nodes))
    where
      go : Dec (get_or nodes p first_variable < first_variable) → Dec (p < length nodes) → (get_or nodes p first_variable ≡ first_variable + v) × (v < variable_count)
      go (yes h) d = let y = symbol_seen nodes sizes p h in let z : ◌≡◌ {A = ℕ} 0 1 = cc in absurd (omega arith)
      go (no h) (yes l) =
          let y = variable_seen nodes sizes p (omega arith) in
          let a : get_or nodes p first_variable - first_variable ≡ v = cc in
          (omega arith, omega (arith, laid.variable_low p l (omega arith)))
      go (no h) (no l) =
          let y = variable_seen nodes sizes p (omega arith) in
          let a : get_or nodes p first_variable - first_variable ≡ v = cc in
          let e = past_end nodes sizes p (omega arith) in
          (omega arith, omega arith)

  pub form_layout : Layout (view_of nodes sizes) variable_count (length nodes)
  form_layout = record {
    variable_low = λ p v x. (seen_variable p v x).1;
    argument_behind = λ p f c ps x i. let (l, a, h, b, r) = seen_symbol p f ps x in omega (arith, row_start r i);
    argument_within = λ p f c ps x i. let (l, a, h, b, r) = seen_symbol p f ps x in omega (arith, row_end r i, row_some r i, laid.ends_within p l);
  }
