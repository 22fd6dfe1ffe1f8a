-- How far an instance is put: its first bytes stand in the buffer, and those of the terms that are left are to follow.
use Prim.Native.Nat.{ℕ, ◌+◌, ◌-◌, ◌≤◌, ◌<◌}
use mathlib.Core.Path.{◌≡◌, sym, ap, ◌∙◌}
use mathlib.Core.List.{List, [], ◌∷◌, ◌++◌, append_assoc, append-nil}
use native.Mathlib.Omega.{arith}
use lib.ListN.{length, get_or, set, take, drop, length-append}
use lib.Seq.{take_at}
use Rattle.format.specs.Limits.{first_variable}
use Rattle.format.specs.Buffer.{written}
use Rattle.terms.specs.Term.{Term, Terms, nil, cons, size, sizes, Values, inst, insts}
use Rattle.terms.specs.Prefix.{prefix, prefixes}
use Rattle.terms.specs.declared.arguments.Arguments.{Arguments}
use Rattle.terms.specs.Theory.Append.{append, nil_cons}
use Rattle.terms.specs.Theory.Prefix.{length_prefix, length_prefixes}
use Rattle.terms.specs.Theory.Stored.{ground_size}
use Rattle.terms.specs.Theory.Spelled.{spelled_none}
use Rattle.step_take.specs.ForContracts.Replacing.{InstanceIs}
use Rattle.step_take.proofs.Left.{Left, Next, next_variable, next_symbol, next, left_whole, arguments_bytes}
use Rattle.step_take.proofs.Written.{to_end, Front, nothing_written, written_length, written_behind, written_one}

pub record Putting (bytes : List ℕ) (end : ℕ) (nodes sizes values arities : List ℕ) (t : Term) (ρ : Values) (before after : List ℕ) (i at : ℕ) : Type 0 where
  pub terms : Terms
  pub left : Left bytes end nodes sizes values arities ρ i terms
  pub part : List ℕ
  pub front : Front part before after at
  pub follows : prefix (inst ρ t) ≡ part ++ prefixes (insts ρ terms)

pub put_start : {bytes nodes sizes values arities : List ℕ} {side : Arguments} {t : Term} {ρ : Values} (before : List ℕ) → InstanceIs bytes side nodes sizes values arities t ρ
    → Putting bytes side.end nodes sizes values arities t ρ before before side.from 0
unfolding prefix inst
put_start {t = t} {ρ = ρ} before s = record { terms = cons t nil; left = left_whole s; part = []; front = nothing_written before; follows = sym (append-nil (prefix (inst ρ t))) }

module _ {bytes : List ℕ} {end : ℕ} {nodes stored_sizes values arities : List ℕ} {t : Term} {ρ : Values} {before after : List ℕ} {i at : ℕ}
    (p : Putting bytes end nodes stored_sizes values arities t ρ before after i at) where
  -- What is still to be put.
  put_size : size (inst ρ t) ≡ at + sizes (insts ρ p.terms)
  put_size =
      sym (length_prefix (inst ρ t))
      ∙ (ap length p.follows ∙ omega (arith, length-append p.part (prefixes (insts ρ p.terms)), length_prefixes (insts ρ p.terms), p.front.counted))

  pub put_length : size (inst ρ t) ≤ length before → length after ≡ length before
  put_length h = written_length p.front (omega (arith, put_size))

  pub symbol_room : i < end → get_or bytes i 0 < first_variable → at + 1 ≤ size (inst ρ t)
  unfolding size inst
  symbol_room h l = go (next p.terms p.left h) put_size
    where
      go : {ts : Terms} → Next bytes end nodes stored_sizes values arities ρ i ts → size (inst ρ t) ≡ at + sizes (insts ρ ts) → at + 1 ≤ size (inst ρ t)
      go (next_variable b k g s) e = absurd (omega arith)
      go (next_symbol b k s) e = omega arith

  pub value_room : i < end → first_variable ≤ get_or bytes i 0 → at + get_or stored_sizes (get_or values (get_or bytes i 0 - first_variable) 0) 0 ≤ size (inst ρ t)
  unfolding size inst
  value_room h l = go (next p.terms p.left h) put_size
    where
      go : {ts : Terms} → Next bytes end nodes stored_sizes values arities ρ i ts → size (inst ρ t) ≡ at + sizes (insts ρ ts)
          → at + get_or stored_sizes (get_or values (get_or bytes i 0 - first_variable) 0) 0 ≤ size (inst ρ t)
      go (next_symbol b k s) e = absurd (omega arith)
      go (next_variable {v} b k g s) e =
          let d : v ≡ get_or bytes i 0 - first_variable = omega arith in
          rw (← d) (omega (arith, ground_size g))

  pub symbol_put : i < end → get_or bytes i 0 < first_variable → at < length before
      → Putting bytes end nodes stored_sizes values arities t ρ before (set after at (get_or bytes i 0)) (i + 1) (at + 1)
  unfolding prefix inst
  symbol_put h l r = go (next p.terms p.left h) p.follows
    where
      go : {ts : Terms} → Next bytes end nodes stored_sizes values arities ρ i ts → prefix (inst ρ t) ≡ p.part ++ prefixes (insts ρ ts)
          → Putting bytes end nodes stored_sizes values arities t ρ before (set after at (get_or bytes i 0)) (i + 1) (at + 1)
      go (next_variable b k g s) e = absurd (omega arith)
      go (next_symbol {f} {args} {ss} b k s) e =
          let x = get_or bytes i 0 in
          record {
            terms = append args ss;
            left = s;
            part = p.part ++ (x ∷ []);
            front = written_one p.front x r;
            follows =
                e
                ∙ (ap (λ y. p.part ++ (y ∷ (prefixes (insts ρ args) ++ prefixes (insts ρ ss)))) (sym b)
                ∙ (ap (λ l. p.part ++ (x ∷ l)) (sym (arguments_bytes ρ args ss)) ∙ sym (append_assoc p.part (x ∷ []) (prefixes (insts ρ (append args ss))))));
          }

  -- The bytes of the value are copied behind those that stand there.
  pub value_put : i < end → first_variable ≤ get_or bytes i 0 → (node n : ℕ) (new : List ℕ) → node ≡ get_or values (get_or bytes i 0 - first_variable) 0 → n ≡ get_or stored_sizes node 0
      → new ≡ written (take n (take (length nodes - node) (drop node nodes))) (take (length after - at) (drop at after))
      → Putting bytes end nodes stored_sizes values arities t ρ before (take at after ++ (new ++ drop (length after - at) (drop at after))) (i + 1) (at + n)
  unfolding prefix inst
  value_put h l node n new x y w = go (next p.terms p.left h) p.follows
    where
      go : {ts : Terms} → Next bytes end nodes stored_sizes values arities ρ i ts → prefix (inst ρ t) ≡ p.part ++ prefixes (insts ρ ts)
          → Putting bytes end nodes stored_sizes values arities t ρ before (take at after ++ (new ++ drop (length after - at) (drop at after))) (i + 1) (at + n)
      go (next_symbol b k s) e = absurd (omega arith)
      go (next_variable {v} {ss} b k g s) e =
          let d : get_or bytes i 0 - first_variable ≡ v = omega arith in
          let o : node ≡ get_or values v 0 = x ∙ ap (λ w. get_or values w 0) d in
          let m : n ≡ size (ρ v) = y ∙ (ap (λ w. get_or stored_sizes w 0) o ∙ ground_size g) in
          let c : take n (take (length nodes - node) (drop node nodes)) ≡ prefix (ρ v) =
          ap (take n) (to_end node nodes ∙ ap (λ w. drop w nodes) o) ∙ (ap (take n) g.stored.bytes.is ∙ take_at (prefix (ρ v)) g.stored.bytes.rest n (length_prefix (ρ v) ∙ sym m)) in
          record {
            terms = ss;
            left = s;
            part = p.part ++ prefix (ρ v);
            front = written_behind p.front (prefix (ρ v)) new n (m ∙ sym (length_prefix (ρ v))) (w ∙ ap (λ bs. written bs (take (length after - at) (drop at after))) c);
            follows = e ∙ sym (append_assoc p.part (prefix (ρ v)) (prefixes (insts ρ ss)));
          }

  pub all_put : end ≤ i → (at ≡ size (inst ρ t)) × (after ≡ written (prefix (inst ρ t)) before)
  unfolding prefix size inst
  all_put h = go p.terms (spelled_none p.terms p.left.spelled h) p.follows put_size
    where
      go : (ts : Terms) → ts ≡ nil → prefix (inst ρ t) ≡ p.part ++ prefixes (insts ρ ts) → size (inst ρ t) ≡ at + sizes (insts ρ ts) → (at ≡ size (inst ρ t)) × (after ≡ written (prefix (inst ρ t)) before)
      go nil e x y = (omega arith, p.front.stands ∙ ap (λ l. written l before) (sym (x ∙ append-nil p.part)))
      go (cons s ts) e x y = absurd (nil_cons (sym e))
