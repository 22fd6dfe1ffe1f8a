-- Laws for the filling that is put behind a term: it is the lowest constant, and the term stays where it is.
use Prim.Native.Nat.{ℕ, zero, suc, ◌+◌, ◌-◌, ◌≤◌, ◌<◌}
use mathlib.Core.Path.{◌≡◌, refl, sym, ap, subst, ◌∙◌}
use mathlib.Core.List.{List, [], ◌∷◌, ◌++◌, map, append-nil}
use mathlib.Core.Option.{some}
use native.Mathlib.Omega.{arith}
use native.Mathlib.Decide.{ℕ_discrete}
use lib.ListN.{length, get_or, set, drop, take, length-set, length-map}
use lib.Seq.{set_split, drop-set-add, drop_at, get_or-set_same, get_or-set_other, length-take-le}
use Rattle.format.specs.Limits.{first_variable, position_count, filling_node}
use Rattle.format.specs.Lists.{entry}
use Rattle.terms.specs.Term.{Term, Terms, var, app, nil, cons, size, count, arity, Ground, Grounds}
use Rattle.terms.specs.Position.{subterms}
use Rattle.terms.specs.Prefix.{prefix}
use Rattle.terms.specs.Filling.{lowest_constant, filling}
use Rattle.terms.specs.ForContracts.Stored.{PartAt, GroundStored, SubjectIs, AllSymbols}
use Rattle.terms.specs.Theory.Prefix.{length_prefix}
use Rattle.terms.specs.Theory.Position.{length_subterms}
use Rattle.terms.proofs.Theory.Filling.{filling_ground}
use Rattle.reading.specs.ForContracts.Loading.{Loaded}

-- 1. The lowest constant.
pub none_lowest : lowest_constant [] ≡ 0
unfolding lowest_constant
none_lowest = refl

pub lowest_here : (a : ℕ) (rest : List ℕ) → a ≡ 0 → lowest_constant (a ∷ rest) ≡ 0
unfolding lowest_constant
lowest_here zero rest e = refl
lowest_here (suc a) rest e = absurd (omega (arith, e))

pub lowest_further : (a : ℕ) (rest : List ℕ) → (a ≡ 0 → ⊥) → lowest_constant (a ∷ rest) ≡ lowest_constant rest + 1
unfolding lowest_constant
lowest_further zero rest d = absurd (d refl)
lowest_further (suc a) rest d = omega arith

pub lowest_low : (arities : List ℕ) → lowest_constant arities ≤ length arities
unfolding lowest_constant
lowest_low [] = omega arith
lowest_low (zero ∷ rest) = omega arith
lowest_low (suc a ∷ rest) = omega (arith, lowest_low rest)

-- 2. A ground term has a constant in it.
entry_is : (arities : List ℕ) (f : ℕ) → f < length arities → 0 ≡ get_or arities f 0 → entry arities f ≡ some 0
unfolding entry
entry_is [] f h e = absurd (omega arith)
entry_is (a ∷ rest) zero h e = ap some (sym e)
entry_is (a ∷ rest) (suc f) h e = entry_is rest f (omega arith) e

mutual
  unfolding count arity

  constant_in : (arities : List ℕ) (t : Term) → Ground arities t → (f : ℕ) × (entry arities f ≡ some 0)
  constant_in arities (var v) g = absurd g
  constant_in arities (app f ts) g = constant_or_in arities f g.0 ts g.1 g.2

  -- The symbol itself, or one in its first argument.
  constant_or_in : (arities : List ℕ) (f : ℕ) → f < length arities → (ts : Terms) → count ts ≡ arity arities f → Grounds arities ts → (f : ℕ) × (entry arities f ≡ some 0)
  constant_or_in arities f h nil e g = (f, entry_is arities f h e)
  constant_or_in arities f h (cons t ts) e g = constant_in arities t g.0

-- 3. An element put behind a part leaves the part; and it stands where it is put.
set_behind : (part rest : List ℕ) (j x : ℕ) → length part ≤ j → (r : List ℕ) × (set (part ++ rest) j x ≡ part ++ r)
set_behind [] rest j x h = (set rest j x, refl)
set_behind (y ∷ part) rest zero x h = absurd (omega arith)
set_behind (y ∷ part) rest (suc j) x h = let z = set_behind part rest j x (omega arith) in (z.0, ap (y ∷◌) z.1)

part_kept : {all part : List ℕ} (i j x : ℕ) → length part ≤ j → PartAt all i part → PartAt (set all (i + j) x) i part
part_kept {all} {part} i j x h p = let z = set_behind part p.rest j x h in record {
  rest = z.0;
  is = drop-set-add i all j x ∙ (ap (λ l. set l j x) p.is ∙ z.1);
}

put_there : (all : List ℕ) (i x : ℕ) → i < length all → PartAt (set all i x) i (x ∷ [])
put_there all i x h = record {
  rest = drop (suc i) all;
  is = ap (drop i) (set_split all i x h) ∙ drop_at (take i all) (x ∷ drop (suc i) all) i (length-take-le i all (omega arith));
}

-- 4. The loaded term with the filling behind it.
module _ {arities nodes sizes : List ℕ} {s : Term} {n : ℕ} (l : Loaded arities nodes sizes (cons s nil) n) where
  abbrev constant : ℕ
  constant = lowest_constant arities

  few_nodes : position_count + size s ≤ filling_node
  unfolding size
  few_nodes = omega (arith, l.few_nodes)

  filling_is_ground : Ground arities (filling arities)
  filling_is_ground = let z = constant_in arities s l.is_ground.0 in filling_ground arities z.0 z.1

  constant_low : constant < first_variable
  unfolding filling
  constant_low = omega (arith, filling_is_ground.0, l.few_symbols)

  term_bytes_kept : PartAt (set nodes filling_node constant) position_count (prefix s)
  unfolding prefix
  term_bytes_kept =
      part_kept position_count (filling_node - position_count) constant (omega (arith, few_nodes, length_prefix s)) (subst (PartAt nodes position_count) (append-nil (prefix s)) l.bytes)

  term_sizes_kept : PartAt (set sizes filling_node 1) position_count (map size (subterms s))
  unfolding subterms
  term_sizes_kept =
      part_kept position_count (filling_node - position_count) 1 (omega (arith, few_nodes, length-map (subterms s) size, length_subterms s)) (subst (λ p. PartAt sizes position_count (map size p)) (append-nil (subterms s)) l.sizes_there)

  symbols_kept : (i : ℕ) → get_or (set nodes filling_node constant) i 0 < first_variable
  unfolding AllSymbols
  symbols_kept i = elim (ℕ_discrete i filling_node) [
    | yes e ↦ omega (arith, constant_low, ap (λ j. get_or (set nodes filling_node constant) j 0) e ∙ get_or-set_same nodes filling_node constant 0 (omega (arith, l.nodes_length)))
    | no d ↦ omega (arith, get_or-set_other nodes filling_node i constant 0 d, l.symbols i)
  ]

  filling_put : GroundStored (set nodes filling_node constant) (set sizes filling_node 1) arities filling_node (filling arities)
  unfolding filling prefix subterms size
  filling_put = record {
    few_symbols = l.few_symbols;
    is_ground = filling_is_ground;
    stored = record {
      bytes = put_there nodes filling_node constant (omega (arith, l.nodes_length));
      sizes_there = put_there sizes filling_node 1 (omega (arith, l.sizes_length));
    };
    low = omega arith;
    within = omega arith;
  }

  pub subject_filled : SubjectIs (set nodes filling_node constant) (set sizes filling_node 1) arities s
  subject_filled = record {
    nodes_length = length-set nodes filling_node constant ∙ l.nodes_length;
    sizes_length = length-set sizes filling_node 1 ∙ l.sizes_length;
    symbols = λ i h. symbols_kept i;
    stored = record {
      few_symbols = l.few_symbols;
      is_ground = l.is_ground.0;
      stored = record { bytes = term_bytes_kept; sizes_there = term_sizes_kept };
      low = omega arith;
      within = omega (arith, few_nodes);
    };
    inside = few_nodes;
    filling_stored = filling_put;
  }
