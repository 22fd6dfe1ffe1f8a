-- Lemmas for the scan of terms: one node more, the highest variable, and the loop's invariant.
use Rattle.std.proofs.Common.{◌≡◌, ℕ, zero, suc, ◌+◌, ◌-◌, ◌*◌, ◌<◌, ◌≤◌, max, Bool, true, false, ltb, List, [], ◌∷◌, length, get_or, sym, refl, ap, ◌∙◌, subst, add-one, arith, le-ltb, lt-ltb}
use Rattle.format.specs.Limits.{max_symbols, variable_count, max_byte}
use Rattle.format.specs.Refusal.{Result, refuse, give}
use Rattle.format.specs.declared.refusal.Refusal.{Refusal}
use Rattle.format.specs.declared.refusal.Refusal.TheVariants.{FrameBytes, NotGround}
use Rattle.format.specs.declared.byte.Class.{Class}
use Rattle.format.specs.Byte.{class_of}
use Rattle.format.specs.declared.byte.Class.TheVariants.{Symbol as symbol, Variable as variable, Foreign as foreign}
use Rattle.format.specs.Theory.Byte.{symbol_class, class_symbol, class_variable}
use Rattle.std.specs.Prelude.{Ok, Err}
use Rattle.scanning.specs.declared.scan.Wanted.{Wanted}
use Rattle.scanning.specs.declared.text.Span.{Span}
use Rattle.sheet.specs.Frame.{after_node, scan}
use Rattle.scanning.specs.ForContracts.Digits.{pair_at, bytes_between, span_bytes, BodyReady}
use Rattle.scanning.specs.ForContracts.Scan.{max_need, OtherRead, listed, node_width, widest, ScanReady, ScanTo, ScanRead}
use Rattle.scanning.specs.Theory.Listed.{length_listed, get_or_listed}
use Rattle.scanning.specs.Theory.Between.{between_end, two_more, first_byte, byte_small, body_behind}
use Rattle.terms.specs.Term.{arity}

-- 1. A node: of a known symbol, of an unknown one.
pub after_known : (n : ℕ) (xs : List ℕ) (is_ground : Bool) (f need : ℕ) → f < n → after_node (listed n xs) is_ground (symbol f) need ≡ give (get_or xs f 0 + need)
unfolding after_node arity
after_known n xs is_ground f need h = go (ltb f (length (listed n xs))) (lt-ltb f (length (listed n xs)) (omega (arith, length_listed n xs)))
  where
    go : (t : Bool) → t ≡ true
        → ◌≡◌ {A = Result ℕ} (elim t [ true ↦ give (get_or (listed n xs) f 0 + need) | false ↦ refuse FrameBytes ]) (give (get_or xs f 0 + need))
    go true e = ap (λ a. give (a + need)) (get_or_listed n xs f h)
    go false e = absurd cc

after_unknown : (arities : List ℕ) (is_ground : Bool) (f need : ℕ) → length arities ≤ f → after_node arities is_ground (symbol f) need ≡ refuse FrameBytes
unfolding after_node arity
after_unknown arities is_ground f need h = go (ltb f (length arities)) (le-ltb f (length arities) h)
  where
    go : (t : Bool) → t ≡ false → ◌≡◌ {A = Result ℕ} (elim t [ true ↦ give (get_or arities f 0 + need) | false ↦ refuse FrameBytes ]) (refuse FrameBytes)
    go true e = absurd cc
    go false e = refl

-- A byte by its class, as the code tells it.
module _ (b : ℕ) {c : Class} (told : c ≡ class_of b) (arities : List ℕ) (need : ℕ) where
  by_class : {k : Class} → c ≡ k → (is_ground : Bool) → after_node arities is_ground (class_of b) need ≡ after_node arities is_ground k need
  by_class e is_ground = ap (λ k. after_node arities is_ground k need) (sym told ∙ e)

  pub other_symbol : {f : ℕ} → c ≡ symbol f → (is_ground : Bool) → length arities ≤ b → after_node arities is_ground (class_of b) need ≡ refuse FrameBytes
  other_symbol {f} e is_ground h = by_class e is_ground ∙ after_unknown arities is_ground f need (omega (arith, (class_symbol b f (sym told ∙ e)).0))

  pub other_variable : {v : ℕ} → c ≡ variable v → {is_ground : Bool} → is_ground ≡ false → {w : ℕ} → w ≡ v
      → (after_node arities is_ground (class_of b) need ≡ give need) × (node_width (class_of b) ≡ w + 1)
  unfolding after_node
  other_variable {v} e {is_ground} g {w} x =
      (by_class e is_ground ∙ ap (λ t. after_node arities t (variable v) need) g, ap node_width (sym told ∙ e) ∙ sym (add-one w ∙ ap suc x))

  pub other_not_ground : {v : ℕ} → c ≡ variable v → {is_ground : Bool} → is_ground ≡ true → after_node arities is_ground (class_of b) need ≡ refuse NotGround
  unfolding after_node
  other_not_ground {v} e {is_ground} g = by_class e is_ground ∙ ap (λ t. after_node arities t (variable v) need) g

  pub other_foreign : c ≡ foreign → (is_ground : Bool) → after_node arities is_ground (class_of b) need ≡ refuse FrameBytes
  unfolding after_node
  other_foreign e is_ground = by_class e is_ground

-- 2. A scan of one node more.
pub scan_none : (arities : List ℕ) (is_ground : Bool) (bs : List ℕ) (room : ℕ) → scan arities is_ground bs 0 room ≡ give bs
unfolding scan
scan_none arities is_ground [] room = refl
scan_none arities is_ground (b ∷ bs) room = refl

pub scan_early : (arities : List ℕ) (is_ground : Bool) (need room : ℕ) → 0 < need → scan arities is_ground [] need room ≡ refuse FrameBytes
unfolding scan
scan_early arities is_ground zero room h = absurd (omega arith)
scan_early arities is_ground (suc need) room h = refl

pub scan_full : (arities : List ℕ) (is_ground : Bool) (b : ℕ) (bs : List ℕ) (need : ℕ) → 0 < need → scan arities is_ground (b ∷ bs) need 0 ≡ refuse FrameBytes
unfolding scan
scan_full arities is_ground b bs zero h = absurd (omega arith)
scan_full arities is_ground b bs (suc need) h = refl

pub after_scan : (arities : List ℕ) (is_ground : Bool) (bs : List ℕ) (room : ℕ) → Result ℕ → Result (List ℕ)
after_scan arities is_ground bs room r = elim r [ refuse x ↦ refuse x | give n ↦ scan arities is_ground bs n room ]

pub scan_node : (arities : List ℕ) (is_ground : Bool) (b : ℕ) (bs : List ℕ) (need room : ℕ) (r : Result ℕ) → 0 < need → 0 < room
    → after_node arities is_ground (class_of b) (need - 1) ≡ r
    → scan arities is_ground (b ∷ bs) need room ≡ after_scan arities is_ground bs (room - 1) r
unfolding scan after_scan
scan_node arities is_ground b bs zero room r h i e = absurd (omega arith)
scan_node arities is_ground b bs (suc need) zero r h i e = absurd (omega arith)
scan_node arities is_ground b bs (suc need) (suc room) r h i e =
    let a : suc need - 1 ≡ need = omega arith in
    let d : suc room - 1 ≡ room = omega arith in
    let f : after_node arities is_ground (class_of b) need ≡ r = ap (after_node arities is_ground (class_of b)) (sym a) ∙ e in
    ap (after_scan arities is_ground bs room) f ∙ ap (λ m. after_scan arities is_ground bs m r) (sym d)

pub scan_refused : (arities : List ℕ) (is_ground : Bool) (b : ℕ) (bs : List ℕ) (need room : ℕ) (x : Refusal) → 0 < need → 0 < room
    → after_node arities is_ground (class_of b) (need - 1) ≡ refuse x
    → scan arities is_ground (b ∷ bs) need room ≡ refuse x
unfolding after_scan
scan_refused arities is_ground b bs need room x h i e = scan_node arities is_ground b bs need room (refuse x) h i e

pub scan_more : (arities : List ℕ) (is_ground : Bool) (b : ℕ) (bs : List ℕ) (need room n : ℕ) → 0 < need → 0 < room
    → after_node arities is_ground (class_of b) (need - 1) ≡ give n
    → scan arities is_ground (b ∷ bs) need room ≡ scan arities is_ground bs n (room - 1)
unfolding after_scan
scan_more arities is_ground b bs need room n h i e = scan_node arities is_ground b bs need room (give n) h i e

-- 3. The highest variable.
pub width_low : (b : ℕ) → node_width (class_of b) ≤ variable_count
width_low b = go (class_of b) refl
  where
    go : (c : Class) → class_of b ≡ c → node_width c ≤ variable_count
    go (symbol f) e = omega arith
    go (variable v) e = omega (arith, (class_variable b v e).1)
    go foreign e = omega arith

-- 4. The loop of a scan: what is left to read decides, and the numbers stay small.
pub record Scanning (text : List ℕ) (d : Span) (arities : List ℕ) (w : Wanted) (at need room highest : ℕ) : Type 0 where
  pub body : BodyReady text at d.end
  pub few : need + max_byte * room ≤ max_need
  pub same : scan arities w.is_ground (span_bytes text d) w.terms w.nodes ≡ scan arities w.is_ground (bytes_between text at d.end) need room
  pub widths : max w.width (widest (span_bytes text d)) ≡ max highest (widest (bytes_between text at d.end))
  pub low : highest ≤ variable_count

module _ (text : List ℕ) (d : Span) (arities : List ℕ) (w : Wanted) where
  pub scanning_start : {symbols : ℕ} → ScanReady text d symbols w → Scanning text d arities w d.from w.terms w.nodes w.width
  scanning_start r = record { body = r.body; few = omega (arith, r.few_terms, r.few_nodes); same = refl; widths = refl; low = r.low_width }

  module _ (at need room highest : ℕ) (g : Scanning text d arities w at need room highest) where
    rest : List ℕ
    rest = bytes_between text at d.end

    behind : List ℕ
    behind = bytes_between text (at + 2) d.end

    abbrev Stops : Refusal → Type 0
    Stops x = ScanRead text d arities w (Err (record { why = x; read = record { at = at; width = highest } }))

    -- It stops with what the rest gives.
    scanning_stop : (told : Result (List ℕ)) → scan arities w.is_ground rest need room ≡ told → ScanTo text d arities w told (record { at = at; width = highest })
    unfolding rest
    scanning_stop told e = record { given = g.same ∙ e; behind = g.body; widths = g.widths; low_width = g.low }

    pub stop_done : need ≤ 0 → ScanRead text d arities w (Ok (record { at = at; width = highest }))
    unfolding rest
    stop_done h =
        let e : need ≡ 0 = omega arith in
        scanning_stop (give rest) (ap (λ n. scan arities w.is_ground rest n room) e ∙ scan_none arities w.is_ground rest room)

    pub stop_early : at ≡ d.end → 0 < need → Stops FrameBytes
    unfolding rest
    stop_early e h =
        scanning_stop (refuse FrameBytes)
        (ap (λ bs. scan arities w.is_ground bs need room) (between_end text at d.end (omega arith)) ∙ scan_early arities w.is_ground need room h)

    module _ (more : at ≡ d.end → ⊥) where
      pub next_inside : at + 2 ≤ length text
      next_inside = omega (arith, two_more text at d.end g.body more, g.body.inside)

      pub next_small : pair_at text at ≤ max_byte
      next_small = byte_small text at d.end g.body more

      is_cons : rest ≡ pair_at text at ∷ behind
      unfolding rest behind
      is_cons = first_byte text at d.end g.body more

      module _ (some_need : 0 < need) where
        pub stop_full : room ≡ 0 → Stops FrameBytes
        stop_full e = scanning_stop (refuse FrameBytes) (cc (is_cons, e, scan_full arities w.is_ground (pair_at text at) behind need some_need))

        module _ (some_room : room ≡ 0 → ⊥) where
          pub stop_refused : (x : Refusal) → after_node arities w.is_ground (class_of (pair_at text at)) (need - 1) ≡ refuse x → Stops x
          stop_refused x e =
              scanning_stop (refuse x) (cc (is_cons, scan_refused arities w.is_ground (pair_at text at) behind need room x some_need (omega arith) e))

          pub scanning_next : (n : ℕ) → after_node arities w.is_ground (class_of (pair_at text at)) (need - 1) ≡ give n → n ≤ max_byte + (need - 1)
              → Scanning text d arities w (at + 2) n (room - 1) (max highest (node_width (class_of (pair_at text at))))
          unfolding widest rest behind
          scanning_next n e l = record {
            body = body_behind text at d.end g.body more;
            few = omega (arith, g.few);
            same =
                g.same
                ∙ ap (λ bs. scan arities w.is_ground bs need room) is_cons
                ∙ scan_more arities w.is_ground (pair_at text at) (bytes_between text (at + 2) d.end) need room n some_need (omega arith) e;
            widths = g.widths ∙ ap (λ bs. max highest (widest bs)) is_cons ∙ omega arith;
            low = omega (arith, g.low, width_low (pair_at text at));
          }

-- A declared symbol, told without its class. The arity of one more adds at most a byte.
pub scanning_declared : (text : List ℕ) (d : Span) (symbols : ℕ) (xs : List ℕ) (w : Wanted) (at need room highest : ℕ)
    → Scanning text d (listed symbols xs) w at need room highest
    → (at ≡ d.end → ⊥) → 0 < need → (room ≡ 0 → ⊥) → symbols ≤ max_symbols → {b a : ℕ} → b ≡ pair_at text at → b < symbols → a ≡ get_or xs b 0 → a ≤ max_byte
    → Scanning text d (listed symbols xs) w (at + 2) (need - 1 + a) (room - 1) highest
scanning_declared text d symbols xs w at need room highest g n h m l {b} {a} x i e k =
    let f = pair_at text at in
    let is_symbol : class_of f ≡ symbol f = symbol_class f (omega arith) in
    let given : after_node (listed symbols xs) w.is_ground (class_of f) (need - 1) ≡ give (need - 1 + a) =
    ap (λ c. after_node (listed symbols xs) w.is_ground c (need - 1)) is_symbol
    ∙ after_known symbols xs w.is_ground f (need - 1) (omega arith)
    ∙ ap give (omega (arith, ap (λ j. get_or xs j 0) x)) in
    let same_width : max highest (node_width (class_of f)) ≡ highest = ap (λ c. max highest (node_width c)) is_symbol ∙ omega arith in
    subst (Scanning text d (listed symbols xs) w (at + 2) (need - 1 + a) (room - 1)) same_width
    (scanning_next text d (listed symbols xs) w at need room highest g n h m (need - 1 + a) given (omega arith))

-- A node that is no declared symbol.
module _ (text : List ℕ) (d : Span) (symbols : ℕ) (xs : List ℕ) (w : Wanted) (at need room highest : ℕ) (g : Scanning text d (listed symbols xs) w at need room highest)
    (more : at ≡ d.end → ⊥) (some_need : 0 < need) (some_room : room ≡ 0 → ⊥) {b : ℕ} (is_byte_lem : b ≡ pair_at text at) (undeclared : symbols ≤ b) where
  few : length (listed symbols xs) ≤ b
  few = omega (arith, length_listed symbols xs)

  pub stop_other : {x : Refusal} → ((arities : List ℕ) (n : ℕ) → length arities ≤ b → OtherRead arities w.is_ground b n (Err x))
      → ScanRead text d (listed symbols xs) w (Err (record { why = x; read = record { at = at; width = highest } }))
  stop_other {x} read =
      stop_refused text d (listed symbols xs) w at need room highest g more some_need some_room x
      (rw (← is_byte_lem) (read (listed symbols xs) (need - 1) few))

  pub scanning_variable : {v : ℕ} → ((arities : List ℕ) (n : ℕ) → length arities ≤ b → OtherRead arities w.is_ground b n (Ok v)) → {u : ℕ} → u ≡ max highest v
      → Scanning text d (listed symbols xs) w (at + 2) (need - 1) (room - 1) u
  scanning_variable {v} read x =
      let (given, width) = subst (λ b. OtherRead (listed symbols xs) w.is_ground b (need - 1) (Ok v)) is_byte_lem (read (listed symbols xs) (need - 1) few) in
      subst (Scanning text d (listed symbols xs) w (at + 2) (need - 1) (room - 1)) (ap (max highest) width ∙ sym x)
      (scanning_next text d (listed symbols xs) w at need room highest g more some_need some_room (need - 1) given (omega arith))
