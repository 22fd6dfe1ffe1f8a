-- The bytes of a term of an equation.
use Prim.Native.Nat.{ℕ, ◌+◌, ◌-◌, ◌≤◌, ◌<◌}
use mathlib.Core.Path.{◌≡◌, sym, ap, ◌∙◌}
use mathlib.Core.List.{List, ◌++◌, append_assoc}
use native.Mathlib.Decide.{dec_lt}
use native.Mathlib.Omega.{arith}
use lib.ListN.{length, get_or, take, drop, get_or-append}
use lib.Seq.{take_at, drop_at, drop-append-add, get_or-append-add}
use Rattle.format.specs.Limits.{max_side_nodes}
use Rattle.terms.specs.Term.{Term, var, size}
use Rattle.terms.specs.Position.{subterms}
use Rattle.terms.specs.Prefix.{prefix, equation_bytes}
use Rattle.terms.specs.Equation.{Equation, term_at}
use Rattle.terms.specs.ForContracts.Limits.{WithinLimits, positions}
use Rattle.terms.specs.ForContracts.Stored.{PartAt}
use Rattle.terms.specs.Theory.Position.{length_subterms, size_pos}
use Rattle.terms.specs.Theory.Stored.{stored_room}
use Rattle.terms.specs.Theory.Prefix.{length_prefix}
use Rattle.terms.specs.Theory.Replace.{around, around_part, size_around}
use Rattle.bindings.specs.Theory.Equation.{length_sizes, size_at}
use Rattle.solve_equation.specs.ForContracts.Equation.{SidesAre}
use Rattle.listing.specs.Listing.{digits}
use Rattle.listing.specs.ForContracts.Appended.{Appended}

-- The term at a position of an equation stands there in its bytes, and is no longer than the side that it is of.
record TermThere (e : Equation) (p : ℕ) : Type 0 where
  bytes : PartAt (equation_bytes e) p (prefix (term_at e p))
  small : WithinLimits e → size (term_at e p) ≤ max_side_nodes

term_there : (e : Equation) (p : ℕ) → p < positions e → TermThere e p
unfolding term_at equation_bytes
term_there e p h = go (dec_lt p (size e.left))
  where
    l : Term
    l = e.left

    r : Term
    r = e.right

    q : ℕ
    q = p - size l

    go : Dec (p < size l) → TermThere e p
    go (yes i) =
        let a = around l p i in
        let t : term_at e p ≡ get_or (subterms l) p (var 0) = get_or-append (subterms l) (subterms r) (var 0) p (omega (arith, length_subterms l)) in
        let s : prefix l ≡ a.before ++ (prefix (term_at e p) ++ a.after) = around_part a (var 0) i ∙ ap (λ x. a.before ++ (prefix x ++ a.after)) (sym t) in
        let rest = a.after ++ prefix r in
        record {
          bytes = record {
            rest = rest;
            is =
                ap (λ x. drop p (x ++ prefix r)) s
                ∙ (ap (drop p) (append_assoc a.before (prefix (term_at e p) ++ a.after) (prefix r) ∙ ap (a.before ++◌) (append_assoc (prefix (term_at e p)) a.after (prefix r)))
                ∙ drop_at a.before (prefix (term_at e p) ++ rest) p a.start);
          };
          small = λ w. omega (arith, size_around a (var 0) i, ap size t, w.left_size);
        }
    go (no i) =
        let a = around r q (omega arith) in
        let e₁ : p ≡ length (subterms l) + q = omega (arith, length_subterms l) in
        let e₂ : p ≡ length (prefix l) + q = omega (arith, length_prefix l) in
        let t : term_at e p ≡ get_or (subterms r) q (var 0) = ap (λ n. get_or (subterms l ++ subterms r) n (var 0)) e₁ ∙ get_or-append-add (subterms l) (subterms r) q (var 0) in
        let s : prefix r ≡ a.before ++ (prefix (term_at e p) ++ a.after) = around_part a (var 0) (omega arith) ∙ ap (λ x. a.before ++ (prefix x ++ a.after)) (sym t) in
        record {
          bytes = record {
            rest = a.after;
            is = ap (λ n. drop n (prefix l ++ prefix r)) e₂ ∙ (drop-append-add (prefix l) (prefix r) q ∙ (ap (drop q) s ∙ drop_at a.before (prefix (term_at e p) ++ a.after) q a.start));
          };
          small = λ w. omega (arith, size_around a (var 0) (omega arith), ap size t, w.right_size);
        }

-- The term as the code finds it.
module _ {nodes sizes : List ℕ} {e : Equation} (s : SidesAre nodes sizes e) {p : ℕ} (h : p < positions e) where
  pub term_size : get_or sizes p 0 ≡ size (term_at e p)
  term_size = ap (λ l. get_or l p 0) s.measured ∙ size_at e p h

  pub term_small : get_or sizes p 0 ≤ max_side_nodes
  term_small = omega (arith, term_size, (term_there e p h).small s.is.limits)

  there : PartAt nodes p (prefix (term_at e p))
  there = let b = (term_there e p h).bytes in record { rest = b.rest; is = ap (drop p) s.is.spelled ∙ b.is }

  pub term_part : {n : ℕ} → n ≡ get_or sizes p 0 → take (p + n - p) (drop p nodes) ≡ prefix (term_at e p)
  term_part {n} k =
      let l : length (prefix (term_at e p)) ≡ p + n - p = omega (arith, length_prefix (term_at e p), term_size) in
      ap (take (p + n - p)) there.is ∙ take_at (prefix (term_at e p)) there.rest (p + n - p) l

  pub term_length : {n : ℕ} → n ≡ get_or sizes p 0 → length (take (p + n - p) (drop p nodes)) ≡ get_or sizes p 0
  term_length k = ap length (term_part k) ∙ (length_prefix (term_at e p) ∙ sym term_size)

  pub term_ends : p + get_or sizes p 0 ≤ length nodes
  term_ends =
      let room = stored_room there (omega (arith, length_prefix (term_at e p), size_pos (term_at e p))) in
      omega (arith, room, length_prefix (term_at e p), term_size)

  pub position_there : p < length sizes
  position_there = omega (arith, ap length s.measured, length_sizes e)

-- The term at position `q` of the equation is printed.
abbrev pub TermPut : (nodes sizes : List ℕ) (q : ℕ) (before : List ℕ) (at : ℕ) (after : List ℕ) (end : ℕ) → Type 0
TermPut nodes sizes q before at after end = (e : Equation) → SidesAre nodes sizes e → q < positions e → Appended before at (digits (prefix (term_at e q))) after end
