-- The result takes the subject's place.
use Prim.Native.Nat.{ℕ, ◌+◌, ◌-◌, ◌≤◌, ◌<◌}
use mathlib.Core.Path.{refl, ◌≡◌, sym, ap, subst, ◌∙◌}
use mathlib.Core.List.{List, ◌++◌, append_assoc, append-nil}
use native.Mathlib.Omega.{arith}
use lib.ListN.{length, get_or, take, drop, length-append, length-drop, take-append-drop}
use lib.Seq.{slice, take_at, drop_at, drop-drop, get_or-drop, length-take-le}
use Rattle.format.specs.Limits.{first_variable, position_count, filling_node, max_task_nodes}
use Rattle.format.specs.Buffer.{written}
use Rattle.terms.specs.Term.{Term, nil, cons, size, sizes, Values, inst, Ground}
use Rattle.terms.specs.Position.{subterms, replace}
use Rattle.terms.specs.Prefix.{prefix, prefixes}
use Rattle.terms.specs.declared.arguments.Arguments.{Arguments}
use Rattle.terms.specs.ForContracts.Sizes.{Measurable, node_sizes}
use Rattle.terms.specs.ForContracts.Stored.{GroundStored, SubjectIs, AllSymbols}
use Rattle.terms.specs.Filling.{filling}
use Rattle.terms.specs.Theory.Prefix.{ground_fits, length_prefix}
use Rattle.terms.specs.Theory.Placed.{Placed, placed_stored, placed_measurable, placed_sizes}
use Rattle.terms.specs.Theory.Ground.{instance_ground}
use Rattle.terms.specs.Theory.Replace.{ground_replace}
use Rattle.terms.specs.Theory.Symbols.{symbols_append, ground_symbols}
use Rattle.reducing.proofs.Theory.Variables.{variables_are}
use Rattle.step_take.specs.ForContracts.Replacing.{ReplacementIs}
use Rattle.step_take.proofs.Written.{Front, written_behind}

pub ground_result : {bytes : List ℕ} {side : Arguments} {arities nodes sizes values : List ℕ} {node n : ℕ} {subject t : Term} {ρ : Values} {p : ℕ}
    → ReplacementIs bytes side arities nodes sizes values node n subject t ρ p → Ground arities (replace subject p (inst ρ t))
ground_result {arities = arities} {subject = subject} {t} {ρ} {p} r =
    ground_replace arities (inst ρ t) (instance_ground arities ρ (λ v. Ground arities (ρ v)) (λ v g. g) t r.instance_is.fits (variables_are (λ v. Ground arities (ρ v)) t (λ v e. (r.instance_is.given v e).is_ground))) subject p r.stands.stored.is_ground

-- What stands behind a new front is kept.
kept_behind : (front all : List ℕ) (k : ℕ) → length front ≤ k → drop k (front ++ drop (length front) all) ≡ drop k all
kept_behind front all k h =
    let j = k - length front in
    let e : length front + j ≡ k = omega arith in
    ap (λ n. drop n (front ++ drop (length front) all)) (sym e) ∙ (sym (drop-drop j (length front) (front ++ drop (length front) all))
    ∙ (ap (drop j) (drop_at front (drop (length front) all) (length front) refl) ∙ (drop-drop j (length front) all ∙ ap (λ n. drop n all) e)))

-- The bytes of `u` stand first in `result`, and are copied to where the subject stood.
module _ {nodes stored_sizes arities : List ℕ} {subject : Term} (s : SubjectIs nodes stored_sizes arities subject) (u : Term) (g : Ground arities u)
    (zeros result new : List ℕ) (n : ℕ) (counted : n ≡ size u) (few : n ≤ max_task_nodes) (put : result ≡ written (prefix u) zeros)
    (copied : new ≡ written (take n result) (take (length nodes - position_count) (drop position_count nodes))) where
  abbrev after : List ℕ
  after = take position_count nodes ++ (new ++ drop (length nodes - position_count) (drop position_count nodes))

  front_length : length (take position_count nodes) ≡ position_count
  front_length = length-take-le position_count nodes (omega (arith, s.nodes_length))

  result_bytes : take n result ≡ prefix u
  unfolding written
  result_bytes = ap (take n) put ∙ take_at (prefix u) (drop (length (prefix u)) zeros) n (length_prefix u ∙ sym counted)

  kept : Front (take position_count nodes) nodes nodes position_count
  unfolding written
  kept = record { stands = sym (ap (λ k. take position_count nodes ++ drop k nodes) front_length ∙ take-append-drop position_count nodes); counted = sym front_length }

  abbrev behind : List ℕ
  behind = drop (length (take position_count nodes ++ prefix u)) nodes

  after_is : after ≡ take position_count nodes ++ (prefix u ++ behind)
  unfolding written
  after_is =
      (written_behind kept (prefix u) new n (counted ∙ sym (length_prefix u)) (copied ∙ ap (λ bs. written bs (take (length nodes - position_count) (drop position_count nodes))) result_bytes)).stands
      ∙ append_assoc (take position_count nodes) (prefix u) behind

  placed : Placed after (prefix u)
  placed = record { before = take position_count nodes; after = behind; at = front_length; is = after_is }

  one_bytes : prefix u ≡ prefixes (cons u nil)
  unfolding prefix
  one_bytes = sym (append-nil (prefix u))

  one_size : n ≡ sizes (cons u nil)
  unfolding size
  one_size = omega arith

  placed_one : Placed after (prefixes (cons u nil))
  placed_one = subst (Placed after) one_bytes placed

  pub result_measurable : length after ≡ length nodes → Measurable arities after stored_sizes position_count (position_count + n)
  result_measurable l =
      placed_measurable arities s.stored.few_symbols (cons u nil) (ground_fits arities u g, tt) after placed_one n one_size stored_sizes (l ∙ s.nodes_length) s.sizes_length few

  no_variable : (i : ℕ) → position_count ≤ i → get_or after i 0 < first_variable
  unfolding AllSymbols
  no_variable i h =
      let k = i - position_count in
      let x : get_or after i 0 ≡ get_or (prefix u ++ behind) k 0 =
      ap (λ j. get_or after j 0) (omega arith) ∙ (sym (get_or-drop position_count after k 0) ∙ ap (λ l. get_or l k 0) (ap (drop position_count) after_is ∙ drop_at (take position_count nodes) (prefix u ++ behind) position_count front_length)) in
      let b : AllSymbols behind = λ j. omega (arith, get_or-drop (length (take position_count nodes ++ prefix u)) nodes j 0, s.symbols (length (take position_count nodes ++ prefix u) + j) (omega (arith, length-append (take position_count nodes) (prefix u), front_length))) in
      omega (arith, symbols_append (prefix u) behind (ground_symbols arities s.stored.few_symbols u g) b k)

  -- The filling stands where it stood.
  nodes_kept : drop filling_node after ≡ drop filling_node nodes
  nodes_kept =
      let front = take position_count nodes ++ prefix u in
      let short : length front ≤ filling_node = omega (arith, length-append (take position_count nodes) (prefix u), front_length, length_prefix u) in
      ap (drop filling_node) (after_is ∙ sym (append_assoc (take position_count nodes) (prefix u) behind)) ∙ kept_behind front nodes filling_node short

  module _ (measured : List ℕ) (m : length measured ≡ length stored_sizes) (e : measured ≡ take position_count stored_sizes ++ (node_sizes arities (slice position_count (position_count + n) after) ++ drop (position_count + n) stored_sizes)) where
    measured_front : List ℕ
    measured_front = take position_count stored_sizes ++ node_sizes arities (slice position_count (position_count + n) after)

    front_whole : length measured_front ≡ position_count + n
    unfolding measured_front
    front_whole =
        let sizes_there = node_sizes arities (slice position_count (position_count + n) after) in
        let rest = drop (position_count + n) stored_sizes in
        omega (
          arith,
          m,
          ap length e,
          length-append (take position_count stored_sizes) (sizes_there ++ rest),
          length-append (take position_count stored_sizes) sizes_there,
          length-append sizes_there rest,
          length-take-le position_count stored_sizes (omega (arith, s.sizes_length)),
          length-drop (position_count + n) stored_sizes,
          s.sizes_length,
          few,
        )

    sizes_kept : drop filling_node measured ≡ drop filling_node stored_sizes
    unfolding measured_front
    sizes_kept =
        ap (drop filling_node) (e ∙ (sym (append_assoc (take position_count stored_sizes) (node_sizes arities (slice position_count (position_count + n) after)) (drop (position_count + n) stored_sizes))
        ∙ ap (λ k. measured_front ++ drop k stored_sizes) (sym front_whole))) ∙ kept_behind measured_front stored_sizes filling_node (omega (arith, front_whole))

    filling_kept : GroundStored after measured arities filling_node (filling arities)
    filling_kept =
        let f = s.filling_stored in
        record {
          few_symbols = f.few_symbols;
          is_ground = f.is_ground;
          stored = record {
            bytes = record { rest = f.stored.bytes.rest; is = nodes_kept ∙ f.stored.bytes.is };
            sizes_there = record { rest = f.stored.sizes_there.rest; is = sizes_kept ∙ f.stored.sizes_there.is };
          };
          low = f.low;
          within = f.within;
        }

  pub result_subject : length after ≡ length nodes → (measured : List ℕ) → length measured ≡ length stored_sizes
      → measured ≡ take position_count stored_sizes ++ (node_sizes arities (slice position_count (position_count + n) after) ++ drop (position_count + n) stored_sizes)
      → SubjectIs after measured arities u
  unfolding subterms
  result_subject l measured m e = record {
    inside = omega (arith, counted, few);
    filling_stored = filling_kept measured m e;
    nodes_length = l ∙ s.nodes_length;
    sizes_length = m ∙ s.sizes_length;
    symbols = no_variable;
    stored = record {
      few_symbols = s.stored.few_symbols;
      is_ground = g;
      stored = record {
        bytes = placed_stored placed;
        sizes_there = rw (append-nil (subterms u)) at (placed_sizes arities s.stored.few_symbols (cons u nil) (ground_fits arities u g, tt) after placed_one n one_size stored_sizes measured (drop (position_count + n) stored_sizes) (omega (arith, s.sizes_length)) e);
      };
      low = omega arith;
      within = omega arith;
    };
  }
