-- The values of a judgement: each stands where the one before it ends, so their sizes lead from one to the next; and with a rule's row before them its lines can be tested.
use Prim.Native.Nat.{ℕ, zero, suc, ◌+◌, ◌≤◌, ◌<◌}
use mathlib.Core.Path.{◌≡◌, refl, sym, ap, subst, ◌∙◌}
use mathlib.Core.Logic.{inl, inr}
use mathlib.Core.List.{List, ◌++◌, map, map-append}
use native.Mathlib.Omega.{arith}
use native.Mathlib.Decide.{dec_lt, ℕ_discrete}
use lib.ListN.{length, get_or, set, replicate, length-set, length-map}
use lib.Seq.{get_or-set_same, get_or-set_other}
use Rattle.format.specs.Limits.{variable_count, position_count, node_count, cell_count}
use Rattle.terms.specs.Term.{Term, Terms, var, app, nil, cons, size, sizes, count, nth, Grounds}
use Rattle.terms.specs.Position.{subterms, subterms_of}
use Rattle.terms.specs.Prefix.{prefix, prefixes, equation_bytes}
use Rattle.terms.specs.Equation.{Equation, value}
use Rattle.terms.specs.declared.direction.Direction.{Direction}
use Rattle.terms.specs.ForContracts.Stored.{PartAt, GroundStored, AllSymbols}
use Rattle.terms.specs.Theory.Append.{append, append_first, sizes_append, count_append}
use Rattle.terms.specs.Theory.Position.{length_subterms, size_pos}
use Rattle.terms.specs.Theory.Prefix.{length_prefix}
use Rattle.terms.specs.Theory.Stored.{stored_first, stored_rest, ground_size}
use Rattle.terms.specs.Theory.Variables.{VariablesIn, AllVariablesIn}
use Rattle.sheet.specs.Sheet.{width, widths, equation_width}
use Rattle.sheet.specs.Theory.Width.{equation_width_low}
use Rattle.solving.specs.Line.{Line}
use Rattle.bindings.specs.ForContracts.Equation.{equation_sizes}
use Rattle.reducing.specs.Test.{given_values}
use Rattle.cells.specs.ForContracts.Cells.{SettledCells}
use Rattle.cells.specs.Theory.Cells.{none_ready, zero_bytes}
use Rattle.kept_lines.specs.declared.trimmed.KeptLines.{KeptLines}
use Rattle.kept_lines.specs.ForContracts.Holding.{LinesAre}
use Rattle.reading.specs.ForContracts.Loading.{Loaded}
use Rattle.judge_rule.specs.ForContracts.Judgement.{ValuesAt, HasLoaded, JudgeIs}
use Rattle.step_try.specs.Theory.Testable.{AtFront, lines_testable}
use Rattle.step_try.specs.Theory.Front.{Fronted, same_from, ground_kept}

-- 1. The term at a place of a list.
nth_behind : (done : Terms) (t : Term) (left : Terms) (d : Term) → nth (append done (cons t left)) (count done) d ≡ t
unfolding nth append count
nth_behind nil t left d = refl
nth_behind (cons s done) t left d = nth_behind done t left d

value_behind : (done : Terms) (t : Term) (left : Terms) → given_values (append done (cons t left)) (count done) ≡ t
unfolding given_values
value_behind done t left = nth_behind done t left (var (count done))

nth_beyond : (ts : Terms) (v : ℕ) (d : Term) → count ts ≤ v → nth ts v d ≡ d
unfolding nth count
nth_beyond nil v d h = refl
nth_beyond (cons t ts) zero d h = absurd (omega arith)
nth_beyond (cons t ts) (suc v) d h = nth_beyond ts v d (omega arith)

-- 2. From value to value.
module _ (arities nodes stored_sizes values : List ℕ) (ts : Terms) where
  -- The values before variable `v` have their nodes, and the others stand from `node` on.
  pub record PlacedSoFar (node v : ℕ) : Type 0 where
    pub done : Terms
    pub left : Terms
    pub split : ts ≡ append done left
    pub passed : count done ≡ v
    pub reached : node ≡ position_count + sizes done
    pub is_ground : Grounds arities left
    pub bytes : PartAt nodes node (prefixes left)
    pub measured : PartAt stored_sizes node (map size (subterms_of left))
    pub given : (w : ℕ) → w < v → GroundStored nodes stored_sizes arities (get_or values w 0) (given_values ts w)

pub record Placing (sizes : List ℕ) (end : ℕ) (values : List ℕ) (node v : ℕ) : Type 0 where
  pub slots : length values ≡ variable_count
  pub absent : (w : ℕ) → v ≤ w → get_or values w 0 ≡ 0
  pub so_far : (arities nodes : List ℕ) (ts : Terms) (n : ℕ) → Loaded arities nodes sizes ts n → end ≡ position_count + n → PlacedSoFar arities nodes sizes values ts node v

-- The value that stands at `node`, behind those passed.
record NextValue (arities nodes sizes values : List ℕ) (ts : Terms) (node v : ℕ) : Type 0 where
  some_size : 1 ≤ get_or sizes node 0
  inside : node + get_or sizes node 0 ≤ node_count
  one_more : v < count ts
  placed : v < length values → PlacedSoFar arities nodes sizes (set values v node) ts (node + get_or sizes node 0) (v + 1)

pub placing_start : (stored_sizes : List ℕ) (end : ℕ) {values : List ℕ} → values ≡ replicate variable_count 0 → Placing stored_sizes end values position_count 0
unfolding append count sizes
placing_start stored_sizes end {values} x = record {
  slots = ap length x;
  absent = λ w h. ap (λ l. get_or l w 0) x ∙ zero_bytes variable_count w;
  so_far = λ arities nodes ts n l e. record {
    done = nil;
    left = ts;
    split = refl;
    passed = refl;
    reached = omega arith;
    is_ground = l.is_ground;
    bytes = l.bytes;
    measured = l.sizes_there;
    given = λ w h. absurd (omega arith);
  };
}

module _ {arities nodes stored_sizes values : List ℕ} {ts : Terms} {n node v : ℕ} (l : Loaded arities nodes stored_sizes ts n) (p : PlacedSoFar arities nodes stored_sizes values ts node v) where
  next_value : node < position_count + n → NextValue arities nodes stored_sizes values ts node v
  unfolding prefix subterms size count
  next_value h = go p.left p.split p.is_ground p.bytes p.measured
    where
      go : (left : Terms) → ts ≡ append p.done left → Grounds arities left → PartAt nodes node (prefixes left) → PartAt stored_sizes node (map size (subterms_of left))
          → NextValue arities nodes stored_sizes values ts node v
      go nil s g b m = absurd (omega (arith, l.counted, ap sizes s, sizes_append p.done nil, p.reached))
      go (cons t rest) s g b m =
          let z = ground_size stored_here in
          record {
            some_size = omega (arith, z, size_pos t);
            inside = omega (arith, z, fits);
            one_more = omega (arith, ap count s, count_append p.done (cons t rest), p.passed);
            placed = λ r. record {
              done = append p.done (cons t nil);
              left = rest;
              split = s ∙ append_first p.done t rest;
              passed = omega (arith, count_append p.done (cons t nil), p.passed);
              reached = omega (arith, sizes_append p.done (cons t nil), p.reached, z);
              is_ground = g.1;
              bytes = subst (λ k. PartAt nodes (node + k) (prefixes rest)) (sym z) (stored_rest (prefix t) (prefixes rest) (size t) (length_prefix t) b);
              measured =
                  subst (λ k. PartAt stored_sizes (node + k) (map size (subterms_of rest))) (sym z)
                  (stored_rest (map size (subterms t)) (map size (subterms_of rest)) (size t) (length-map (subterms t) size ∙ length_subterms t) both);
              given = λ w h. elim (ℕ_discrete w v) [
                | yes x ↦ subst (λ w. GroundStored nodes stored_sizes arities (get_or (set values v node) w 0) (given_values ts w)) (sym x) (this r)
                | no x ↦ subst (λ k. GroundStored nodes stored_sizes arities k (given_values ts w)) (sym (get_or-set_other values v w node 0 (λ y. x y))) (p.given w (omega arith))
              ];
            };
          }
        where
          both : PartAt stored_sizes node (map size (subterms t) ++ map size (subterms_of rest))
          both = subst (PartAt stored_sizes node) (map-append size (subterms t) (subterms_of rest)) m

          fits : node + size t ≤ node_count
          fits = omega (arith, p.reached, l.few_nodes, ap sizes s, sizes_append p.done (cons t rest))

          stored_here : GroundStored nodes stored_sizes arities node t
          stored_here = record {
            few_symbols = l.few_symbols;
            is_ground = g.0;
            stored = record { bytes = stored_first (prefix t) (prefixes rest) b; sizes_there = stored_first (map size (subterms t)) (map size (subterms_of rest)) both };
            low = omega (arith, p.reached);
            within = fits;
          }

          value_is : given_values ts v ≡ t
          value_is = ap (λ ts. given_values ts v) s ∙ (ap (given_values (append p.done (cons t rest))) (sym p.passed) ∙ value_behind p.done t rest)

          this : v < length values → GroundStored nodes stored_sizes arities (get_or (set values v node) v 0) (given_values ts v)
          this r =
              subst (λ k. GroundStored nodes stored_sizes arities k (given_values ts v)) (sym (get_or-set_same values v node 0 r))
              (subst (GroundStored nodes stored_sizes arities node) (sym value_is) stored_here)

module _ {sizes : List ℕ} {end : ℕ} {values : List ℕ} {node v : ℕ} (has : HasLoaded sizes end) (k : Placing sizes end values node v) where
  abbrev its_next : node < end → NextValue has.arities has.nodes sizes values has.terms node v
  its_next h = next_value has.loaded (k.so_far has.arities has.nodes has.terms has.size_of has.loaded has.ends) (omega (arith, has.ends))

  pub size_some : node < end → 1 ≤ get_or sizes node 0
  size_some h = (its_next h).some_size

  pub value_inside : node < end → node + get_or sizes node 0 ≤ node_count
  value_inside h = (its_next h).inside

  pub slot_there : node < end → v < variable_count
  slot_there h = omega (arith, (its_next h).one_more, has.few)

  pub placing_next : node < end → Placing sizes end (set values v node) (node + get_or sizes node 0) (v + 1)
  placing_next h = record {
    slots = length-set values v node ∙ k.slots;
    absent = λ w x. get_or-set_other values v w node 0 (λ y. omega arith) ∙ k.absent w (omega arith);
    so_far = λ arities nodes ts n l e.
        (next_value l (k.so_far arities nodes ts n l e) (omega arith)).placed (omega (arith, slot_there h, k.slots));
  }

none_left : (left : Terms) → sizes left ≡ 0 → count left ≡ 0
unfolding sizes count
none_left nil x = refl
none_left (cons t left) x = absurd (omega (arith, size_pos t))

pub placing_done : {stored_sizes : List ℕ} {end : ℕ} {values : List ℕ} {node v : ℕ} → Placing stored_sizes end values node v → end ≤ node → (arities nodes : List ℕ) (ts : Terms) (n : ℕ)
    → Loaded arities nodes stored_sizes ts n → end ≡ position_count + n → ValuesAt arities nodes stored_sizes values ts
placing_done {stored_sizes} {end} {values} {node} {v} k h arities nodes ts n l e = record {
  slots = k.slots;
  given = λ w x. p.given w (omega (arith, all));
  absent = λ w x. k.absent w (omega (arith, all));
}
  where
    p : PlacedSoFar arities nodes stored_sizes values ts node v
    p = k.so_far arities nodes ts n l e

    all : count ts ≡ v
    all =
        let x : sizes p.left ≡ 0 = omega (arith, p.reached, l.counted, ap sizes p.split, sizes_append p.done p.left) in
        omega (arith, none_left p.left x, ap count p.split, count_append p.done p.left, p.passed)

-- 3. Each variable of an equation is below its width.
mutual
  unfolding width

  below_width : (n : ℕ) (t : Term) → width t ≤ n → VariablesIn (λ v. v < n) t
  below_width n (var v) h = h
  below_width n (app f ts) h = below_widths n ts h

  below_widths : (n : ℕ) (ts : Terms) → widths ts ≤ n → AllVariablesIn (λ v. v < n) ts
  below_widths n nil h = tt
  below_widths n (cons t ts) h = (below_width n t (omega arith), below_widths n ts (omega arith))

-- 4. A judgement's lines can be tested once the row of its rule is loaded.
module _ {equations lengths : List ℕ} {rule : ℕ} {table : List ℕ} {lines : KeptLines} {nodes sizes : List ℕ} {n : ℕ} {arities : List ℕ} {i : ℕ} {e : Equation} {d : Direction} {ls : List Line} {ts : Terms}
    (is : JudgeIs equations lengths rule table lines nodes sizes n arities i e d ls ts) where
  pub has_values : (end : ℕ) → end ≡ position_count + n → HasLoaded sizes end
  has_values end x = record {
    arities = arities;
    nodes = nodes;
    terms = ts;
    size_of = n;
    loaded = is.loaded;
    few = omega (arith, is.one_each, equation_width_low e is.rule_is.row.limits);
    ends = x;
  }

  module _ {values nodes' sizes' : List ℕ} (at : ValuesAt arities nodes sizes values ts) (f : Fronted nodes nodes') (g : Fronted sizes sizes') where
    pub judge_settled : {ready cells : List ℕ} → ready ≡ replicate node_count 0 → length cells ≡ cell_count → SettledCells nodes' sizes' values ready cells
    unfolding AllSymbols
    judge_settled x y =
        none_ready (f.same_length ∙ is.loaded.nodes_length) (g.same_length ∙ is.loaded.sizes_length) at.slots (ap length x) y
        (λ k h. omega (arith, (same_from f).same k h, is.loaded.symbols k)) (λ k. ap (λ l. get_or l k 0) x ∙ zero_bytes node_count k)

    module _ (bytes : PartAt nodes' 0 (equation_bytes e)) (measured : PartAt sizes' 0 (equation_sizes e)) where
      judge_front : AtFront nodes' sizes' values arities e (given_values ts) (λ v. v < count ts)
      unfolding equation_width given_values
      judge_front = record {
        few_symbols = is.rule_is.row.few_symbols;
        limits = is.rule_is.row.limits;
        left_fits = is.rule_is.row.left_fits;
        right_fits = is.rule_is.row.right_fits;
        bytes = bytes;
        measured = measured;
        given = λ v h. ground_kept f g (at.given v h);
        left_variables = below_width (count ts) e.left (omega (arith, is.one_each));
        right_variables = below_width (count ts) e.right (omega (arith, is.one_each));
        slot = λ v h. elim (dec_lt v (count ts)) [ yes x ↦ inl x | no x ↦ inr (at.absent v (omega arith), nth_beyond ts v (var v) (omega arith)) ];
      }

      pub judge_lines_are : LinesAre nodes' sizes' values (given_values ts) (value e (given_values ts)) table lines ls
      judge_lines_are =
          let there = is.there in
          record { ends = there.ends; room = omega (arith, there.room, there.table_room); there = there.there; testable = lines_testable judge_front ls is.proper }
