-- The sizes of the terms in a list of terms in prefix form, from the last byte to the first.
use Prim.Native.Nat.{ℕ, zero, suc, ◌+◌, ◌≤◌, ◌<◌}
use Rattle.std.specs.Prelude.{◌≡◌, get_or, drop}
use Rattle.std.proofs.Math.Path.{refl, sym, ap}
use Rattle.std.proofs.Common.{◌∙◌, arith, get_or-append-add}
use mathlib.Core.List.{List, [], ◌∷◌, ◌++◌, map, map-append, append_assoc}
use Rattle.std.proofs.Math.ListN.{length}
use Rattle.std.proofs.lemmas.List.{length-map}
use Rattle.format.specs.Limits.{first_variable, max_symbols}
use Rattle.format.specs.Byte.{class_of}
use Rattle.format.specs.declared.byte.Class.{Class}
use Rattle.format.specs.declared.byte.Class.TheVariants.{Symbol as symbol, Variable as variable, Foreign as foreign}
use Rattle.format.specs.Theory.Byte.{class_symbol, class_variable}
use Rattle.terms.specs.Term.{Term, Terms, var, app, nil, cons, size, sizes, count, arity}
use Rattle.terms.specs.Position.{subterms, subterms_of}
use Rattle.terms.specs.Prefix.{prefix, prefixes, take_terms, drop_terms, put_node, terms_of}
use Rattle.terms.specs.Theory.Append.{append}
use Rattle.terms.specs.Theory.Position.{length_subterms, length_subterms_of, size_pos}
use Rattle.terms.specs.ForContracts.Fits.{AllFit}
use Rattle.terms.specs.Theory.Prefix.{take_drop_terms, sizes_take_drop, prefixes_append, length_prefixes, terms_of_spelled}
use Rattle.terms.specs.ForContracts.Sizes.{Whole, node_sizes}

pub subterms_append : (ts us : Terms) → subterms_of (append ts us) ≡ subterms_of ts ++ subterms_of us
unfolding subterms append
subterms_append nil us = refl
subterms_append (cons t ts) us = ap (subterms t ++◌) (subterms_append ts us) ∙ sym (append_assoc (subterms t) (subterms_of ts) (subterms_of us))

subterms_take_drop : (n : ℕ) (ts : Terms) → subterms_of (take_terms n ts) ++ subterms_of (drop_terms n ts) ≡ subterms_of ts
subterms_take_drop n ts = sym (subterms_append (take_terms n ts) (drop_terms n ts)) ∙ ap subterms_of (take_drop_terms n ts)

prefixes_take_drop : (n : ℕ) (ts : Terms) → prefixes (take_terms n ts) ++ prefixes (drop_terms n ts) ≡ prefixes ts
prefixes_take_drop n ts = sym (prefixes_append (take_terms n ts) (drop_terms n ts)) ∙ ap prefixes (take_drop_terms n ts)

all_fit_back : (arities : List ℕ) (n : ℕ) (ts : Terms) → AllFit arities (take_terms n ts) → AllFit arities (drop_terms n ts) → AllFit arities ts
unfolding take_terms drop_terms
all_fit_back arities zero ts a b = b
all_fit_back arities (suc n) nil a b = tt
all_fit_back arities (suc n) (cons t ts) a b = (a.0, all_fit_back arities n ts a.1 b)

count_take_all : (n : ℕ) (ts : Terms) → count (take_terms n ts) ≡ n → n ≤ count ts
unfolding take_terms count
count_take_all zero ts e = omega arith
count_take_all (suc n) nil e = absurd (omega arith)
count_take_all (suc n) (cons t ts) e = omega (arith, count_take_all n ts (omega arith))

-- The terms have no more nodes than there are bytes.
pub terms_of_short : (arities bs : List ℕ) → sizes (terms_of arities bs) ≤ length bs
unfolding terms_of size
terms_of_short arities [] = omega arith
terms_of_short arities (b ∷ bs) = go (class_of b) (terms_of_short arities bs)
  where
    go : (c : Class) → sizes (terms_of arities bs) ≤ length bs → sizes (put_node arities c (terms_of arities bs)) ≤ suc (length bs)
    go (symbol f) h = omega (arith, sizes_take_drop (arity arities f) (terms_of arities bs))
    go (variable v) h = omega arith
    go foreign h = omega arith

-- What the first of whole terms is: a variable, or a symbol that takes its arguments from the terms behind it.
pub data First (arities bs : List ℕ) : Type 0 where
  variable_first : first_variable ≤ get_or bs 0 0 → node_sizes arities bs ≡ 1 ∷ node_sizes arities (drop 1 bs) → First arities bs
  symbol_first : get_or bs 0 0 < max_symbols → get_or bs 0 0 < length arities → arity arities (get_or bs 0 0) ≤ count (terms_of arities (drop 1 bs))
      → node_sizes arities bs ≡ suc (sizes (take_terms (arity arities (get_or bs 0 0)) (terms_of arities (drop 1 bs)))) ∷ node_sizes arities (drop 1 bs) → First arities bs

module _ (arities : List ℕ) (b : ℕ) (bs : List ℕ) (w : Whole arities (b ∷ bs)) where
  pub whole_tail : Whole arities bs
  unfolding terms_of prefix
  whole_tail = go (class_of b) w.fit w.spelled
    where
      go : (c : Class) → AllFit arities (put_node arities c (terms_of arities bs)) → prefixes (put_node arities c (terms_of arities bs)) ≡ b ∷ bs → Whole arities bs
      go (symbol f) h e =
          let d : prefixes (take_terms (arity arities f) (terms_of arities bs)) ++ prefixes (drop_terms (arity arities f) (terms_of arities bs)) ≡ bs = cc in
          record { fit = all_fit_back arities (arity arities f) (terms_of arities bs) h.0.2 h.1; spelled = sym (prefixes_take_drop (arity arities f) (terms_of arities bs)) ∙ d }
      go (variable v) h e = record { fit = h.1; spelled = cc }
      go foreign h e = absurd (omega (arith, terms_of_short arities bs, length_prefixes (terms_of arities bs), ap length e))

  first : First arities (b ∷ bs)
  unfolding terms_of node_sizes prefix subterms size
  first = go (class_of b) refl w.fit w.spelled
    where
      go : (c : Class) → class_of b ≡ c → AllFit arities (put_node arities c (terms_of arities bs)) → prefixes (put_node arities c (terms_of arities bs)) ≡ b ∷ bs → First arities (b ∷ bs)
      go (symbol f) k h e =
          let (x, y) = class_symbol b f k in
          symbol_first (omega arith) (omega (arith, h.0.0)) (rw x (count_take_all (arity arities f) (terms_of arities bs) h.0.1))
          (rw (k, x) (ap (λ l. suc (sizes (take_terms (arity arities f) (terms_of arities bs))) ∷ map size l) (subterms_take_drop (arity arities f) (terms_of arities bs))))
      go (variable v) k h e =
          let (x, y) = class_variable b v k in
          variable_first (omega arith) (rw k)
      go foreign k h e = absurd (omega (arith, terms_of_short arities bs, length_prefixes (terms_of arities bs), ap length e))

module _ (arities : List ℕ) where
  pub whole_rest : (bs : List ℕ) → Whole arities bs → 0 < length bs → Whole arities (drop 1 bs)
  whole_rest [] w h = absurd (omega arith)
  whole_rest (b ∷ bs) w h = whole_tail arities b bs w

  first_is : (bs : List ℕ) → Whole arities bs → 0 < length bs → First arities bs
  first_is [] w h = absurd (omega arith)
  first_is (b ∷ bs) w h = first arities b bs w

  pub variable_sizes : (bs : List ℕ) → Whole arities bs → 0 < length bs → first_variable ≤ get_or bs 0 0 → node_sizes arities bs ≡ 1 ∷ node_sizes arities (drop 1 bs)
  variable_sizes bs w h l = elim (first_is bs w h) [ variable_first x e ↦ e | symbol_first x y z e ↦ absurd (omega arith) ]

  pub record SymbolSizes (bs : List ℕ) : Type 0 where
    pub known : get_or bs 0 0 < length arities
    pub enough : arity arities (get_or bs 0 0) ≤ count (terms_of arities (drop 1 bs))
    pub are : node_sizes arities bs ≡ suc (sizes (take_terms (arity arities (get_or bs 0 0)) (terms_of arities (drop 1 bs)))) ∷ node_sizes arities (drop 1 bs)

  pub symbol_sizes : (bs : List ℕ) → Whole arities bs → 0 < length bs → get_or bs 0 0 < first_variable → SymbolSizes bs
  symbol_sizes bs w h l = elim (first_is bs w h) [ variable_first x e ↦ absurd (omega arith) | symbol_first x y z e ↦ record { known = y; enough = z; are = e } ]

-- The sizes of the first `k` terms lead to the size of the next.
head_size : (t : Term) (xs : List ℕ) → get_or (map size (subterms t) ++ xs) 0 0 ≡ size t
unfolding subterms
head_size (var v) xs = refl
head_size (app f ts) xs = refl

pub next_size : (ts : Terms) (k : ℕ) → k < count ts
    → sizes (take_terms k ts) + get_or (map size (subterms_of ts)) (sizes (take_terms k ts)) 0 ≡ sizes (take_terms (suc k) ts)
unfolding take_terms count size subterms
next_size nil k h = absurd (omega arith)
next_size (cons t ts) zero h =
    let e : get_or (map size (subterms t ++ subterms_of ts)) 0 0 ≡ size t = rw (map-append size (subterms t) (subterms_of ts)) (head_size t (map size (subterms_of ts))) in
    omega arith
next_size (cons t ts) (suc k) h =
    let l : length (map size (subterms t)) ≡ size t = length-map (subterms t) size ∙ length_subterms t in
    let e : get_or (map size (subterms t) ++ map size (subterms_of ts)) (length (map size (subterms t)) + sizes (take_terms k ts)) 0 ≡ get_or (map size (subterms_of ts)) (sizes (take_terms k ts)) 0 = get_or-append-add (map size (subterms t)) (map size (subterms_of ts)) (sizes (take_terms k ts)) 0 in
    rw (map-append size (subterms t) (subterms_of ts)) (omega (arith, rw l at e, next_size ts k (omega arith)))

pub next_below : (ts : Terms) (k : ℕ) → k < count ts → sizes (take_terms k ts) < sizes ts
unfolding take_terms count size
next_below nil k h = absurd (omega arith)
next_below (cons t ts) zero h = omega (arith, size_pos t)
next_below (cons t ts) (suc k) h = omega (arith, next_below ts k (omega arith))

pub length_node_sizes : (arities bs : List ℕ) → length (node_sizes arities bs) ≡ sizes (terms_of arities bs)
unfolding node_sizes
length_node_sizes arities bs = length-map (subterms_of (terms_of arities bs)) size ∙ length_subterms_of (terms_of arities bs)

pub whole_length : (arities bs : List ℕ) → Whole arities bs → sizes (terms_of arities bs) ≡ length bs
whole_length arities bs w = sym (length_prefixes (terms_of arities bs)) ∙ ap length w.spelled

-- What terms over the sheet's symbols spell is whole.
pub whole : (arities : List ℕ) → length arities ≤ max_symbols → (ts : Terms) → AllFit arities ts → Whole arities (prefixes ts)
whole arities known ts h = let e = terms_of_spelled arities known ts h in record { fit = rw e h; spelled = ap prefixes e }
