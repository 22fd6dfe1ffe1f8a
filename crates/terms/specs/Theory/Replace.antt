-- A term with a part replaced: its bytes, its number of nodes, and that it stays ground.
use Rattle.std.specs.Prelude.{ℕ, zero, suc, ◌+◌, ◌-◌, ◌<◌, ◌≡◌, refl, List, [], ◌∷◌, ◌++◌, length, get_or}
use Rattle.std.proofs.Common.{sym, ap, ◌∙◌, append_assoc, append-nil, arith, length-append}
use Rattle.std.proofs.Math.Decide.{dec_lt}
use Rattle.terms.specs.Term.{Term, Terms, var, app, nil, cons, size, sizes, count, Ground, Grounds}
use Rattle.terms.specs.Position.{subterms, replace, replace_in}
use Rattle.terms.specs.Prefix.{prefix, prefixes}
use Rattle.terms.specs.Theory.Position.{replace_first, replace_rest, replace_same}
use Rattle.terms.specs.Theory.Prefix.{length_prefix}

-- What stands around the part at `p`, whatever the part is.
pub record Around (s : Term) (p : ℕ) : Type 0 where
  pub before : List ℕ
  pub after : List ℕ
  pub start : length before ≡ p
  pub with : (u : Term) → prefix (replace s p u) ≡ before ++ (prefix u ++ after)

record AroundIn (ts : Terms) (p : ℕ) : Type 0 where
  before : List ℕ
  after : List ℕ
  start : length before ≡ p
  with : (u : Term) → prefixes (replace_in ts p u) ≡ before ++ (prefix u ++ after)

mutual
  unfolding size prefix replace

  pub around : (s : Term) (p : ℕ) → p < size s → Around s p
  around (var v) zero h = record { before = []; after = []; start = refl; with = λ u. sym (append-nil (prefix u)) }
  around (var v) (suc p) h = absurd (omega arith)
  around (app f ts) zero h = record { before = []; after = []; start = refl; with = λ u. sym (append-nil (prefix u)) }
  around (app f ts) (suc p) h =
      let a = around_in ts p (omega arith) in
      record { before = f ∷ a.before; after = a.after; start = ap suc a.start; with = λ u. ap (f ∷◌) (a.with u) }

  around_in : (ts : Terms) (p : ℕ) → p < sizes ts → AroundIn ts p
  around_in nil p h = absurd (omega arith)
  around_in (cons t ts) p h = elim (dec_lt p (size t)) [
    | yes l ↦
        let a = around t p l in
        record {
          before = a.before;
          after = a.after ++ prefixes ts;
          start = a.start;
          with = λ u.
              ap prefixes (replace_first t ts p u l)
              ∙ (ap (◌++ prefixes ts) (a.with u)
              ∙ (append_assoc a.before (prefix u ++ a.after) (prefixes ts)
              ∙ ap (a.before ++◌) (append_assoc (prefix u) a.after (prefixes ts))));
        }
    | no n ↦
        let a = around_in ts (p - size t) (omega arith) in
        record {
          before = prefix t ++ a.before;
          after = a.after;
          start = length-append (prefix t) a.before ∙ omega (arith, length_prefix t, a.start);
          with = λ u. ap prefixes (replace_rest t ts p u (omega arith)) ∙ (ap (prefix t ++◌) (a.with u) ∙ sym (append_assoc (prefix t) a.before (prefix u ++ a.after)));
        }
  ]

module _ {s : Term} {p : ℕ} (a : Around s p) where
  -- The term itself has its own part there.
  pub around_part : (d : Term) → p < size s → prefix s ≡ a.before ++ (prefix (get_or (subterms s) p d) ++ a.after)
  around_part d h = ap prefix (sym (replace_same s p d h)) ∙ a.with (get_or (subterms s) p d)

  pub size_replace : (u : Term) → size (replace s p u) ≡ p + (size u + length a.after)
  size_replace u =
      sym (length_prefix (replace s p u))
      ∙ (ap length (a.with u) ∙ omega (arith, length-append a.before (prefix u ++ a.after), length-append (prefix u) a.after, length_prefix u, a.start))

  pub size_around : (d : Term) → p < size s → size s ≡ p + (size (get_or (subterms s) p d) + length a.after)
  size_around d h = ap size (sym (replace_same s p d h)) ∙ size_replace (get_or (subterms s) p d)

count_replace : (ts : Terms) (p : ℕ) (u : Term) → count (replace_in ts p u) ≡ count ts
unfolding count replace
count_replace nil p u = refl
count_replace (cons t ts) p u = elim (dec_lt p (size t)) [
  | yes l ↦ ap count (replace_first t ts p u l)
  | no n ↦ ap count (replace_rest t ts p u (omega arith)) ∙ ap suc (count_replace ts (p - size t) u)
]

module _ (arities : List ℕ) (u : Term) (k : Ground arities u) where
  mutual
    unfolding replace

    pub ground_replace : (s : Term) (p : ℕ) → Ground arities s → Ground arities (replace s p u)
    ground_replace (var v) p g = absurd g
    ground_replace (app f ts) zero g = k
    ground_replace (app f ts) (suc p) g = (g.0, count_replace ts p u ∙ g.1, grounds_replace ts p g.2)

    grounds_replace : (ts : Terms) (p : ℕ) → Grounds arities ts → Grounds arities (replace_in ts p u)
    grounds_replace nil p g = tt
    grounds_replace (cons t ts) p g = elim (dec_lt p (size t)) [
      | yes l ↦ rw (replace_first t ts p u l) (ground_replace t p g.0, g.1)
      | no n ↦ rw (replace_rest t ts p u (omega arith)) (g.0, grounds_replace ts (p - size t) g.1)
    ]
