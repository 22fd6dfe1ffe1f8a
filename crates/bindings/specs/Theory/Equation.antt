-- An equation's bytes and sizes are laid out, and what the walk's code sees of them is what the walk sees of the equation.
use Rattle.std.specs.Prelude.{ℕ, zero, suc, ◌+◌, ◌-◌, ◌≤◌, ◌<◌, ◌≡◌, length}
use Rattle.std.proofs.Math.Path.{refl, sym, ap, fun_ext}
use Rattle.std.proofs.Common.{◌∙◌, lt-ltb, le-ltb}
use mathlib.Core.List.{List, ◌∷◌, map, map-append}
use Rattle.std.proofs.Math.ListN.{get_or, length-map}
use native.Mathlib.Omega.{arith}
use Rattle.std.proofs.Math.Decide.{dec_lt}
use Rattle.format.specs.Limits.{first_variable, variable_count, max_symbols}
use Rattle.format.specs.Lists.{Every}
use Rattle.format.specs.Theory.Lists.{every_append, every_get_or, get_or_map}
use Rattle.terms.specs.Term.{Term, Terms, var, app, nil, cons, size, sizes}
use Rattle.terms.specs.Position.{subterms, subterms_of, starts, var_node, node_at}
use Rattle.terms.specs.Prefix.{prefix, prefixes, equation_bytes}
use Rattle.terms.specs.Equation.{Equation, term_at, view}
use Rattle.terms.specs.ForContracts.Limits.{WithinLimits, positions}
use Rattle.terms.specs.Theory.Limits.{positions_few}
use Rattle.terms.specs.Theory.Position.{size_pos}
use Rattle.terms.specs.Theory.Subterms.{subterms_have}
use Rattle.terms.specs.Theory.Positions.{Segment, term_head, first_segment, rest_segment, all_subterms, length_all, past_end, arguments_at, segment_within}
use Rattle.terms.specs.ForContracts.Fits.{AllFit, Fits}
use Rattle.bindings.specs.ForContracts.PrefixForm.{row, arguments_of, view_of, Row, none, more, InPrefixForm}
use Rattle.bindings.specs.ForContracts.Equation.{equation_sizes}
use Rattle.bindings.specs.Theory.PrefixForm.{row_ordered, row_empty, get_or_any, symbol_seen, variable_seen}

-- 1. The byte at a position is that of the term there.
unfoldable first_byte : Term → ℕ
first_byte (var v) = first_variable + v
first_byte (app f ts) = f

mutual
  unfolding prefix subterms first_byte

  prefix_bytes : (t : Term) → prefix t ≡ map first_byte (subterms t)
  prefix_bytes (var v) = refl
  prefix_bytes (app f ts) = ap (f ∷◌) (prefixes_bytes ts)

  prefixes_bytes : (ts : Terms) → prefixes ts ≡ map first_byte (subterms_of ts)
  prefixes_bytes nil = refl
  prefixes_bytes (cons t ts) = cc (prefix_bytes t, prefixes_bytes ts, map-append first_byte (subterms t) (subterms_of ts))

-- 2. Every subterm of a term over some symbols is one.
subterms_fit : (arities : List ℕ) (t : Term) → Fits arities t → Every (Fits arities) (subterms t)
subterms_fit arities = subterms_have (Fits arities) (AllFit arities) (λ f ts h. h.2) (λ t ts h. h)

-- 3. The positions of a row, with steps to spare.
pub row_is : {sizes : List ℕ} (m : ℕ) {k end : ℕ} {ps : List ℕ} → Row sizes k end ps → end ≤ k + m → row m sizes k end ≡ ps
unfolding row
row_is zero r h = sym (row_empty r (omega arith))
row_is {sizes} (suc m) {k} {end} (none e) h = rw (le-ltb k end (omega arith), row)
row_is {sizes} (suc m) {k} {end} (more l r) h = rw (lt-ltb k end (omega (arith, row_ordered r)), row) (ap (k ∷◌) (row_is m r (omega arith)))

module _ (e : Equation) where
  nodes_bytes : equation_bytes e ≡ map first_byte (all_subterms e)
  unfolding equation_bytes
  nodes_bytes = cc (prefix_bytes e.left, prefix_bytes e.right, map-append first_byte (subterms e.left) (subterms e.right))

  pub length_nodes : length (equation_bytes e) ≡ positions e
  length_nodes = ap length nodes_bytes ∙ (length-map (all_subterms e) first_byte ∙ length_all e)

  pub length_sizes : length (equation_sizes e) ≡ positions e
  unfolding equation_sizes
  length_sizes = length-map (all_subterms e) size ∙ length_all e

  byte_at : (p : ℕ) → get_or (equation_bytes e) p first_variable ≡ first_byte (term_at e p)
  unfolding term_at first_byte
  byte_at p = ap (λ l. get_or l p first_variable) nodes_bytes ∙ get_or_map first_byte (all_subterms e) p (var 0)

  pub size_at : (p : ℕ) → p < positions e → get_or (equation_sizes e) p 0 ≡ size (term_at e p)
  unfolding equation_sizes term_at
  size_at p h = get_or_any (map size (all_subterms e)) p 0 (size (var 0)) (omega (arith, length_sizes)) ∙ get_or_map size (all_subterms e) p (var 0)

  -- The terms of a row of the equation.
  starts_row : (ts : Terms) (b : ℕ) → Segment (all_subterms e) b (subterms_of ts) → Row (equation_sizes e) b (b + sizes ts) (starts ts b)
  unfolding starts size term_at
  starts_row nil b s = let x : b ≡ b + 0 = omega arith in none x
  starts_row (cons t ts) b s =
      let l : b < positions e = omega (arith, segment_within e (cons t ts) s, size_pos t) in
      let x : get_or (equation_sizes e) b 0 ≡ size t = size_at b l ∙ ap size (term_head t (var 0) (first_segment t ts s)) in
      let y : (b + size t) + sizes ts ≡ b + (size t + sizes ts) = omega arith in
      let r : Row (equation_sizes e) (b + get_or (equation_sizes e) b 0) (b + (size t + sizes ts)) (starts ts (b + size t)) = rw (x, sym y) (starts_row ts (b + size t) (rest_segment t ts s)) in
      let z : 0 < get_or (equation_sizes e) b 0 = omega (arith, size_pos t) in
      more z r

  module _ (p f : ℕ) (ts : Terms) (x : term_at e p ≡ app f ts) where
    symbol_within : p < positions e
    symbol_within = go (dec_lt p (positions e))
      where
        go : Dec (p < positions e) → p < positions e
        go (yes h) = h
        go (no n) = let y = past_end e p (omega arith) in let z : ◌≡◌ {A = ℕ} 0 1 = cc in absurd (omega arith)

    symbol_size : get_or (equation_sizes e) p 0 ≡ suc (sizes ts)
    unfolding size
    symbol_size = size_at p symbol_within ∙ ap size x

    symbol_row : Row (equation_sizes e) (p + 1) (p + get_or (equation_sizes e) p 0) (starts ts (p + 1))
    symbol_row =
        let y : p + get_or (equation_sizes e) p 0 ≡ (p + 1) + sizes ts = omega (arith, symbol_size) in
        rw y (starts_row ts (p + 1) (arguments_at e p f ts x))

    symbol_arguments : arguments_of (equation_sizes e) p ≡ starts ts (p + 1)
    unfolding arguments_of
    symbol_arguments = row_is (get_or (equation_sizes e) p 0) symbol_row (omega arith)

  -- 4. Over some symbols, of which there are at most 16, the bytes of symbols and of variables are told apart.
  module _ (arities : List ℕ) (known : length arities ≤ max_symbols) (left_fits : Fits arities e.left) (right_fits : Fits arities e.right) where
    term_fits : (p : ℕ) → Fits arities (term_at e p)
    unfolding term_at
    term_fits p =
        let low : 0 < variable_count = omega arith in
        every_get_or (Fits arities) (all_subterms e) p (var 0) (every_append (Fits arities) (subterms e.left) (subterms e.right) (subterms_fit arities e.left left_fits) (subterms_fit arities e.right right_fits)) low

    -- What the code sees at a position is what stands there.
    seen_at : (p : ℕ) → view_of (equation_bytes e) (equation_sizes e) p ≡ view e p
    unfolding view node_at first_byte
    seen_at p = go (term_at e p) refl (term_fits p)
      where
        go : (t : Term) → term_at e p ≡ t → Fits arities t → view_of (equation_bytes e) (equation_sizes e) p ≡ view e p
        go (var v) x h =
            let b : get_or (equation_bytes e) p first_variable ≡ first_variable + v = byte_at p ∙ ap first_byte x in
            let n : get_or (equation_bytes e) p first_variable - first_variable ≡ v = omega arith in
            variable_seen (equation_bytes e) (equation_sizes e) p (omega arith) ∙ (ap var_node n ∙ ap (node_at p) (sym x))
        go (app f ts) x h =
            let b : get_or (equation_bytes e) p first_variable ≡ f = byte_at p ∙ ap first_byte x in
            symbol_seen (equation_bytes e) (equation_sizes e) p (omega (arith, h.0)) ∙ (cc (b, symbol_arguments p f ts x) ∙ ap (node_at p) (sym x))

    pub equation_view : view_of (equation_bytes e) (equation_sizes e) ≡ view e
    equation_view = fun_ext seen_at

    pub equation_form : WithinLimits e → InPrefixForm (equation_bytes e) (equation_sizes e)
    unfolding first_byte size
    equation_form w = record {
      same_length = length_sizes ∙ sym length_nodes;
      few = omega (arith, length_nodes, positions_few w);
      variable_low = λ p l h. (variable_byte p (term_at e p) refl (term_fits p) h).0;
      variable_alone = λ p l h. size_at p (omega (arith, length_nodes)) ∙ (variable_byte p (term_at e p) refl (term_fits p) h).1;
      arguments = λ p l h. symbol_byte p (term_at e p) refl h;
      ends_within = λ p l. ends p (omega (arith, length_nodes)) (term_at e p) refl;
    }
      where
        variable_byte : (p : ℕ) (t : Term) → term_at e p ≡ t → Fits arities t → first_variable ≤ get_or (equation_bytes e) p first_variable
            → (get_or (equation_bytes e) p first_variable < first_variable + variable_count) × (size (term_at e p) ≡ 1)
        variable_byte p (var v) x h l = (omega (arith, byte_at p ∙ ap first_byte x), ap size x)
        variable_byte p (app f ts) x h l = absurd (omega (arith, byte_at p ∙ ap first_byte x, h.0))

        symbol_byte : (p : ℕ) (t : Term) → term_at e p ≡ t → get_or (equation_bytes e) p first_variable < first_variable
            → Row (equation_sizes e) (p + 1) (p + get_or (equation_sizes e) p 0) (arguments_of (equation_sizes e) p)
        symbol_byte p (var v) x l = absurd (omega (arith, byte_at p ∙ ap first_byte x))
        symbol_byte p (app f ts) x l = rw (symbol_arguments p f ts x) (symbol_row p f ts x)

        ends : (p : ℕ) → p < positions e → (t : Term) → term_at e p ≡ t → p + get_or (equation_sizes e) p 0 ≤ length (equation_bytes e)
        ends p l (var v) x = omega (arith, length_nodes, size_at p l ∙ ap size x)
        ends p l (app f ts) x = omega (arith, length_nodes, symbol_size p f ts x, segment_within e ts (arguments_at e p f ts x))
