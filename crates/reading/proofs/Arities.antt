-- Laws for the symbol frame's code.
use Prim.Native.Nat.{ℕ, zero, suc, ◌+◌, ◌-◌, ◌*◌, ◌≤◌, ◌<◌}
use mathlib.Core.Path.{◌≡◌, refl, sym, ap, subst, ◌∙◌}
use mathlib.Core.Bool.{Bool, true, false, ◌&&◌, ◌||◌}
use mathlib.Core.List.{List, [], ◌∷◌, ◌++◌}
use lib.ListN.{length, get_or, set, take, length-set}
use lib.Seq.{take-suc, take_all, get_or-set_same}
use lib.Dec.{leb, eqb}
use borrow.Author.Tests.{le-leb, lt-leb, eq-eqb, ne_eqb}
use native.Mathlib.Numerals.{add-one}
use native.Mathlib.Omega.{arith}
use Rattle.format.specs.Limits.{max_symbols, max_arity}
use Rattle.format.specs.Lists.{any, all, Every}
use Rattle.format.specs.Refusal.{Result, refuse, give}
use Rattle.format.specs.declared.refusal.Refusal.TheVariants.{SymbolFrame}
use Rattle.format.specs.Theory.Lists.{every_append}
use Rattle.scanning.specs.declared.known.Known.{Known}
use Rattle.std.specs.List.{list_any}
use Rattle.std.specs.Prelude.{Ok, Err}
use Rattle.std.specs.Prelude.{Result as Outcome}
use Rattle.format.specs.declared.refusal.Refusal.{Refusal}
use Rattle.sheet.specs.Frame.{State, symbols_right, symbols_body}
use Rattle.scanning.specs.ForContracts.Digits.{pair_at, bytes_between, BodyReady}
use Rattle.scanning.specs.ForContracts.Scan.{listed, known_arities}
use Rattle.scanning.specs.ForContracts.Known.{Roomy}
use Rattle.reading.specs.ForContracts.Symbols.{AritiesReady, symbols_only, SymbolsRead, ArityBytes}
use Rattle.scanning.specs.Theory.Listed.{listed_more, listed_set}
use Rattle.scanning.specs.Theory.Between.{between_end, between_cons, two_more, first_byte}

-- 1. Tests on lists, entry by entry.
all_at : (f : ℕ → Bool) (xs : List ℕ) (i : ℕ) → i < length xs → f (get_or xs i 0) ≡ false → all f xs ≡ false
unfolding all
all_at f [] i h e = absurd (omega arith)
all_at f (x ∷ xs) zero h e = ap (◌&& all f xs) e
all_at f (x ∷ xs) (suc i) h e = ap (f x &&◌) (all_at f xs i (omega arith) e) ∙ and_false (f x)
  where
    and_false : (b : Bool) → (b && false) ≡ false
    and_false true = refl
    and_false false = refl

all_every : {A : Type 0} (f : A → Bool) (xs : List A) → Every (λ x. f x ≡ true) xs → all f xs ≡ true
unfolding all
all_every f [] h = refl
all_every f (x ∷ xs) h = rw h.0 (all_every f xs h.1)

-- 2. Is some arity 0?
any_listed : {A : Type 0} (f : A → Bool) (xs : List A) → any f xs ≡ list_any f xs
unfolding any
any_listed f [] = refl
any_listed f (x ∷ xs) = ap (f x ||◌) (any_listed f xs)

pub some_zero : (k : Known) {as' : List ℕ} → as' ≡ known_arities k → {b c : Bool} → b ≡ list_any (λ a. eqb a 0) as' → b ≡ c → any (λ a. eqb a 0) (known_arities k) ≡ c
some_zero k e d x = any_listed (λ a. eqb a 0) (known_arities k) ∙ ap (list_any (λ a. eqb a 0)) (sym e) ∙ sym d ∙ x

-- 3. The arities, one by one.
pub length_between : (text : List ℕ) (n at : ℕ) → at + 2 * n ≤ length text → length (bytes_between text at (at + 2 * n)) ≡ n
length_between text zero at h = ap length (between_end text at (at + 2 * 0) (omega arith))
length_between text (suc n) at h =
    let e : at + 2 * suc n ≡ at + 2 + 2 * n = omega arith in
    ap length (between_cons text at (at + 2 * suc n) (omega arith) h)
    ∙ ap suc (ap (λ m. length (bytes_between text (at + 2) m)) e ∙ length_between text n (at + 2) (omega arith))

get_or_between : (text : List ℕ) (n at i : ℕ) → at + 2 * n ≤ length text → i < n → get_or (bytes_between text at (at + 2 * n)) i 0 ≡ pair_at text (at + 2 * i)
get_or_between text zero at i h l = absurd (omega arith)
get_or_between text (suc n) at zero h l =
    let e : at + 2 * 0 ≡ at = omega arith in
    ap (λ bs. get_or bs 0 0) (between_cons text at (at + 2 * suc n) (omega arith) h) ∙ ap (pair_at text) (sym e)
get_or_between text (suc n) at (suc i) h l =
    let e : at + 2 * suc n ≡ at + 2 + 2 * n = omega arith in
    let d : at + 2 + 2 * i ≡ at + 2 * suc i = omega arith in
    ap (λ bs. get_or bs (suc i) 0) (between_cons text at (at + 2 * suc n) (omega arith) h)
    ∙ ap (λ m. get_or (bytes_between text (at + 2) m) i 0) e
    ∙ get_or_between text n (at + 2) i (omega arith) (omega arith)
    ∙ ap (pair_at text) d

module _ (text : List ℕ) (from n : ℕ) where
  pub body : List ℕ
  body = bytes_between text from (from + 2 * n)

  -- The first `i` arities are known, and low.
  pub record AritiesFilled (k : Known) (i : ℕ) : Type 0 where
    pub inside : i ≤ n
    pub symbols_are : k.symbols ≡ n
    pub no_equations : k.equations ≡ 0
    pub no_tasks : k.tasks ≡ 0
    pub roomy : Roomy k
    pub same : listed i k.arities ≡ take i body
    pub low : Every (λ a. leb a max_arity ≡ true) (take i body)

  pub filled_start : (k : Known) → k.symbols ≡ n → k.equations ≡ 0 → k.tasks ≡ 0 → Roomy k → AritiesFilled k 0
  unfolding listed
  filled_start k a b c d = record { inside = omega arith; symbols_are = a; no_equations = b; no_tasks = c; roomy = d; same = refl; low = tt }

module _ (text : List ℕ) (from n : ℕ) (r : AritiesReady text from n) where
  length_body : length (body text from n) ≡ n
  unfolding body
  length_body = length_between text n from r.inside

  pub filled_next : (k : Known) (i a : ℕ) → AritiesFilled text from n k i → i < n → a ≡ pair_at text (from + 2 * i) → a ≤ max_arity
      → AritiesFilled text from n (record { symbols = k.symbols; arities = set k.arities i a; equations = k.equations; widths = k.widths; tasks = k.tasks }) (i + 1)
  unfolding body
  filled_next k i a g h e s =
      let at_i : get_or (body text from n) i 0 ≡ a = get_or_between text n from i r.inside h ∙ sym e in
      let more : take (i + 1) (body text from n) ≡ take i (body text from n) ++ (a ∷ []) =
      ap (λ m. take m (body text from n)) (add-one i)
      ∙ take-suc (body text from n) i 0 (omega (arith, length_body))
      ∙ ap (λ x. take i (body text from n) ++ (x ∷ [])) at_i in
      record {
        inside = omega arith;
        symbols_are = g.symbols_are;
        no_equations = g.no_equations;
        no_tasks = g.no_tasks;
        roomy = record { arities_room = length-set k.arities i a ∙ g.roomy.arities_room; widths_room = g.roomy.widths_room };
        same =
            ap (λ m. listed m (set k.arities i a)) (add-one i)
            ∙ listed_more i (set k.arities i a)
            ∙ ap (◌++ (get_or (set k.arities i a) i 0 ∷ [])) (listed_set i k.arities i a (omega arith) ∙ g.same)
            ∙ ap (λ x. take i (body text from n) ++ (x ∷ [])) (get_or-set_same k.arities i a 0 (omega (arith, r.few_symbols, g.roomy.arities_room)))
            ∙ sym more;
        low = rw more (every_append (λ a. leb a max_arity ≡ true) (take i (body text from n)) (a ∷ []) g.low (le-leb a max_arity s, tt));
      }

  right_tests : symbols_right n (body text from n) ≡ (all (λ a. leb a max_arity) (body text from n) && any (λ a. eqb a 0) (body text from n))
  unfolding symbols_right
  right_tests =
      go (leb 1 n) (leb n max_symbols) (eqb (length (body text from n)) n) (le-leb 1 n r.some_symbol) (le-leb n max_symbols r.few_symbols)
      (eq-eqb (length (body text from n)) n length_body)
    where
      go : (a b c : Bool) → a ≡ true → b ≡ true → c ≡ true
          → (a && b && c && all (λ a. leb a max_arity) (body text from n) && any (λ a. eqb a 0) (body text from n)) ≡ (all (λ a. leb a max_arity) (body text from n) && any (λ a. eqb a 0) (body text from n))
      go true true true x y z = refl
      go true true false x y z = absurd cc
      go true false c x y z = absurd cc
      go false b c x y z = absurd cc

  -- An arity that is too high.
  pub too_high : (i a : ℕ) → i < n → a ≡ pair_at text (from + 2 * i) → max_arity < a → symbols_right n (bytes_between text from (from + 2 * n)) ≡ false
  unfolding body
  too_high i a h e s =
      let at_i : get_or (body text from n) i 0 ≡ a = get_or_between text n from i r.inside h ∙ sym e in
      right_tests ∙ ap (◌&& any (λ a. eqb a 0) (body text from n)) (all_at (λ a. leb a max_arity) (body text from n) i (omega (arith, length_body)) (ap (λ x. leb x max_arity) at_i ∙ lt-leb a max_arity s))

  -- All of them, with or without a constant.
  pub all_filled : (k : Known) (i : ℕ) → AritiesFilled text from n k i → n ≤ i → known_arities k ≡ bytes_between text from (from + 2 * n)
  unfolding body
  all_filled k i g h = let e : i ≡ n = omega (arith, g.inside) in cc (g.same, g.symbols_are, e, take_all n (body text from n) (omega (arith, length_body)))

  filled_right : (k : Known) (i : ℕ) → AritiesFilled text from n k i → n ≤ i → symbols_right n (body text from n) ≡ any (λ a. eqb a 0) (body text from n)
  filled_right k i g h =
      let e : i ≡ n = omega (arith, g.inside) in
      let w : take i (body text from n) ≡ (body text from n) = take_all i (body text from n) (omega (arith, length_body)) in
      right_tests ∙ ap (◌&& any (λ a. eqb a 0) (body text from n)) (all_every (λ a. leb a max_arity) (body text from n) (subst (Every (λ a. leb a max_arity ≡ true)) w g.low))

  pub with_constant : (k : Known) (i : ℕ) → AritiesFilled text from n k i → n ≤ i → any (λ a. eqb a 0) (known_arities k) ≡ true
      → ArityBytes (bytes_between text from (from + 2 * n)) n (Ok k)
  unfolding body
  with_constant k i g h e = (filled_right k i g h ∙ ap (any (λ a. eqb a 0)) (sym (all_filled k i g h)) ∙ e, all_filled k i g h, g.no_equations, g.no_tasks, g.roomy)

  pub without_constant : (k : Known) (i : ℕ) → AritiesFilled text from n k i → n ≤ i → any (λ a. eqb a 0) (known_arities k) ≡ false
      → symbols_right n (bytes_between text from (from + 2 * n)) ≡ false
  unfolding body
  without_constant k i g h e = filled_right k i g h ∙ ap (any (λ a. eqb a 0)) (sym (all_filled k i g h)) ∙ e

-- 4. The body: the count, and as many arities.
count_wrong : (n : ℕ) (arities : List ℕ) → symbols_right n arities ≡ false → symbols_body (n ∷ arities) ≡ refuse SymbolFrame
unfolding symbols_body
count_wrong n arities e = go (symbols_right n arities) e
  where
    go : (t : Bool) → t ≡ false → ◌≡◌ {A = Result State} (elim t [ true ↦ give (symbols_only arities) | false ↦ refuse SymbolFrame ]) (refuse SymbolFrame)
    go true e = absurd cc
    go false e = refl

count_right : (n : ℕ) (arities : List ℕ) → symbols_right n arities ≡ true → symbols_body (n ∷ arities) ≡ give (symbols_only arities)
unfolding symbols_body
count_right n arities e = go (symbols_right n arities) e
  where
    go : (t : Bool) → t ≡ true
        → ◌≡◌ {A = Result State} (elim t [ true ↦ give (symbols_only arities) | false ↦ refuse SymbolFrame ]) (give (symbols_only arities))
    go true e = refl
    go false e = absurd cc

and_five : (a b c d e : Bool) → (a && b && c) ≡ false → (a && b && c && d && e) ≡ false
and_five a b c d e h = ap (λ x. x && d && e) h

pub no_body : (text : List ℕ) (from end : ℕ) → from ≡ end → symbols_body (bytes_between text from end) ≡ refuse SymbolFrame
unfolding symbols_body
no_body text from end e = ap symbols_body (between_end text from end (omega arith))

module _ (text : List ℕ) (from end : ℕ) (r : BodyReady text from end) (some_byte : from ≡ end → ⊥) where
  length_rest : (n : ℕ) → end - (from + 2) ≡ 2 * n → length (bytes_between text (from + 2) end) ≡ n
  length_rest n e =
      let d : end ≡ from + 2 + 2 * n = omega (arith, two_more text from end r some_byte) in
      ap (λ m. length (bytes_between text (from + 2) m)) d ∙ length_between text n (from + 2) (omega (arith, r.inside))

  wrong_body : symbols_right (pair_at text from) (bytes_between text (from + 2) end) ≡ false → symbols_body (bytes_between text from end) ≡ refuse SymbolFrame
  wrong_body e = ap symbols_body (first_byte text from end r some_byte) ∙ count_wrong (pair_at text from) (bytes_between text (from + 2) end) e

  pub no_symbols : {n : ℕ} → n ≡ pair_at text from → n ≡ 0 → symbols_body (bytes_between text from end) ≡ refuse SymbolFrame
  unfolding symbols_right
  no_symbols {n} e d =
      wrong_body
      (and_five (leb 1 m) (leb m max_symbols) (eqb (length as') m) _ _ (ap (λ x. x && leb m max_symbols && eqb (length as') m) (lt-leb 1 m (omega arith))))
    where
      m : ℕ
      m = pair_at text from

      as' : List ℕ
      as' = bytes_between text (from + 2) end

  pub many_symbols : {n : ℕ} → n ≡ pair_at text from → max_symbols < n → symbols_body (bytes_between text from end) ≡ refuse SymbolFrame
  unfolding symbols_right
  many_symbols {n} e d = wrong_body (and_five (leb 1 m) (leb m max_symbols) (eqb (length as') m) _ _ (ap (λ x. leb 1 m && x && eqb (length as') m) (lt-leb m max_symbols (omega arith)) ∙ none (leb 1 m) (eqb (length as') m)))
    where
      m : ℕ
      m = pair_at text from

      as' : List ℕ
      as' = bytes_between text (from + 2) end

      none : (a b : Bool) → (a && false && b) ≡ false
      none true b = refl
      none false b = refl

  pub other_count : {n : ℕ} → n ≡ pair_at text from → (end - (from + 2) ≡ 2 * n → ⊥) → symbols_body (bytes_between text from end) ≡ refuse SymbolFrame
  unfolding symbols_right
  other_count {n} e d = wrong_body (and_five (leb 1 m) (leb m max_symbols) (eqb (length as') m) _ _ (ap (λ x. leb 1 m && leb m max_symbols && x) (ne_eqb (length as') m (differs r.pairs r.even)) ∙ none (leb 1 m && leb m max_symbols)))
    where
      m : ℕ
      m = pair_at text from

      as' : List ℕ
      as' = bytes_between text (from + 2) end

      none : (a : Bool) → (a && false) ≡ false
      none true = refl
      none false = refl

      differs : (k : ℕ) → end ≡ from + 2 * k → length as' ≡ m → ⊥
      differs zero x y = absurd (some_byte (omega arith))
      differs (suc k) x y = let l : length as' ≡ k = length_rest k (omega arith) in d (omega arith)

  -- The arities behind the count.
  pub arities_behind : (n : ℕ) → n ≡ pair_at text from → (n ≡ 0 → ⊥) → n ≤ max_symbols → end - (from + 2) ≡ 2 * n → AritiesReady text (from + 2) n
  arities_behind n e z l c = record { some_symbol = omega arith; few_symbols = l; inside = omega (arith, two_more text from end r some_byte, r.inside) }

  pub body_read : (n : ℕ) → n ≡ pair_at text from → end - (from + 2) ≡ 2 * n → (o : Outcome Known Refusal)
      → ArityBytes (bytes_between text (from + 2) (from + 2 + 2 * n)) n o → SymbolsRead (bytes_between text from end) o
  body_read n e c o h = go o (subst (λ m. ArityBytes (bytes_between text (from + 2) m) n o) (omega (arith, two_more text from end r some_byte)) h)
    where
      whole : bytes_between text from end ≡ n ∷ bytes_between text (from + 2) end
      whole = first_byte text from end r some_byte ∙ ap (◌∷ bytes_between text (from + 2) end) (sym e)

      go : (o : Outcome Known Refusal) → ArityBytes (bytes_between text (from + 2) end) n o → SymbolsRead (bytes_between text from end) o
      go (Ok k) h = (ap symbols_body whole ∙ count_right n (bytes_between text (from + 2) end) h.0 ∙ ap (λ as'. give (symbols_only as')) (sym h.1), h.2, h.3, h.4)
      go (Err x) h = ap symbols_body whole ∙ count_wrong n (bytes_between text (from + 2) end) h.0 ∙ ap refuse (sym h.1)
